-- One walk over tables that stand by topic gives the lines topic by topic.
use Rattle.std.proofs.Common.{◌≡◌, ◌≤◌, ◌<◌, ◌+◌, ℕ, suc, Bool, true, false, ◌&&◌, List, [], ◌∷◌}
use Rattle.std.proofs.Common.{◌++◌, map, length, get_or, Some, None, refl, ap, sym, subst, ◌∙◌}
use Rattle.std.proofs.Common.{arith, if◌then◌else◌, nat_eq, append_assoc}
use Rattle.std.proofs.lemmas.Bool.{eqb-true, eqb-false, eq-eqb, ne_eqb}
use Rattle.itf_lines.specs.declared.word.LineWord.TheVariants.{Topi, Etop}
use Rattle.itf_lines.specs.LogicalLines.{LogicalLine}
use Rattle.table_layout.specs.Layouts.{Table as LayoutTable}
use Rattle.table_layout.specs.ByTopic.{AreByTopic}
use Rattle.itf_reader.specs.Layouts.{wanted_of}
use Rattle.itf_reader.specs.Forms.{Table, Row}
use Rattle.itf_reader.specs.TransferText.{line}
use Rattle.itf_writer.specs.Canonical.{table_lines, tables_lines, is_some_row, has_rows}
use Rattle.itf_writer.specs.Canonical.{topic_lines, topics_lines}
use Rattle.itf_writer.specs.Runs.{run_lines}

-- tables of no topic before that one, and in order
abbrev InOrder : ℕ → ℕ → List Table → Type 0
InOrder low count [] = Unit {0}
InOrder low count (t ∷ ts) = (low ≤ t.topic) × (t.topic < count) × InOrder t.topic count ts

pub in_order : (low count : ℕ) (ts : List LayoutTable) → AreByTopic low count ts
    → InOrder low count (map wanted_of ts)
in_order low count [] h = tt
in_order low count (t ∷ ts) h = (h.0, h.1, in_order t.topic count ts h.2)

lower : (low k count : ℕ) (ts : List Table) → k ≤ low → InOrder low count ts → InOrder k count ts
lower low k count [] l h = tt
lower low k count (t ∷ ts) l h = let a = h.0 in (omega (arith, l, a), h.1, h.2)

-- ---- a topic that has no table
none_here : (k low count : ℕ) (ts : List Table) (transfer : List (List Row)) → k < low
    → InOrder low count ts → (tables_lines k ts transfer ≡ []) × (has_rows k ts transfer ≡ false)
none_here k low count [] transfer l h = (refl, refl)
none_here k low count (t ∷ ts) [] l h = (refl, refl)
none_here k low count (t ∷ ts) (rows ∷ others) l h =
    let a = h.0 in
    let n = ne_eqb t.topic k (λ e. absurd (omega (arith, a, l, e))) in
    let rest = none_here k t.topic count ts others (omega (arith, a, l)) h.2 in (
      ap (λ (b : Bool). (if b then table_lines t.name rows else []) ++ tables_lines k ts others) n
          ∙ rest.0,
      ap (λ (b : Bool). if b && is_some_row rows then true else has_rows k ts others) n ∙ rest.1,
    )

skipped : (k low count : ℕ) (name : List ℕ) (names : List (List ℕ)) (ts : List Table)
    (transfer : List (List Row))
    → k < low → InOrder low count ts
    → topics_lines k (name ∷ names) ts transfer ≡ topics_lines (k + 1) names ts transfer
skipped k low count name names ts transfer l h =
    ap (λ (b : Bool). (if b then line Topi 0 (name ∷ [])
    ∷ (tables_lines k ts transfer ++ line Etop 0 [] ∷ []) else [])
    ++ topics_lines (k + 1) names ts transfer) (none_here k low count ts transfer l h).1

-- ---- a table that does not count for later topics: it has no rows, or a lower topic
no_rows : (k : ℕ) (t : Table) (ts : List Table) (others : List (List Row))
    → (tables_lines k (t ∷ ts) ([] ∷ others) ≡ tables_lines k ts others)
    × (has_rows k (t ∷ ts) ([] ∷ others) ≡ has_rows k ts others)
no_rows k t ts others =
    elim (nat_eq t.topic k) as
    (λ b. ((if b then [] else []) ++ tables_lines k ts others ≡ tables_lines k ts others)
    × ((if b && false then true else has_rows k ts others) ≡ has_rows k ts others)) [
      | true ↦ (refl, refl)
      | false ↦ (refl, refl)
    ]

abbrev one_topic : ℕ → List ℕ → Bool → List LogicalLine → List LogicalLine
one_topic k name b ls = if b then line Topi 0 (name ∷ []) ∷ (ls ++ line Etop 0 [] ∷ []) else []

without_rows : (k : ℕ) (names : List (List ℕ)) (t : Table) (ts : List Table)
    (others : List (List Row))
    → topics_lines k names (t ∷ ts) ([] ∷ others) ≡ topics_lines k names ts others
without_rows k [] t ts others = refl
without_rows k (name ∷ names) t ts others =
    let n = no_rows k t ts others in
    ap (λ (b : Bool). one_topic k name b (tables_lines k (t ∷ ts) ([] ∷ others))
    ++ topics_lines (k + 1) names (t ∷ ts) ([] ∷ others)) n.1
    ∙ (ap (λ (ls : List LogicalLine). one_topic k name (has_rows k ts others) ls
    ++ topics_lines (k + 1) names (t ∷ ts) ([] ∷ others)) n.0
    ∙ ap (λ (ls : List LogicalLine). topic_lines k name ts others ++ ls)
    (without_rows (k + 1) names t ts others))

passed : (k : ℕ) (names : List (List ℕ)) (t : Table) (ts : List Table) (rows : List Row)
    (others : List (List Row))
    → t.topic < k → topics_lines k names (t ∷ ts) (rows ∷ others) ≡ topics_lines k names ts others
passed k [] t ts rows others l = refl
passed k (name ∷ names) t ts rows others l =
    let n = ne_eqb t.topic k (λ e. absurd (omega (arith, l, e))) in
    ap (λ (b : Bool). one_topic k name
    (if b && is_some_row rows then true else has_rows k ts others)
    ((if b then table_lines t.name rows else []) ++ tables_lines k ts others)
    ++ topics_lines (k + 1) names (t ∷ ts) (rows ∷ others)) n
    ∙ ap (λ (ls : List LogicalLine). topic_lines k name ts others ++ ls)
    (passed (k + 1) names t ts rows others (omega (arith, l)))

no_topics : (k : ℕ) (names : List (List ℕ)) (transfer : List (List Row))
    → topics_lines k names [] transfer ≡ []
no_topics k [] transfer = refl
no_topics k (name ∷ names) transfer = no_topics (k + 1) names transfer

no_others : (k : ℕ) (names : List (List ℕ)) (t : Table) (ts : List Table)
    → topics_lines k names (t ∷ ts) [] ≡ []
no_others k [] t ts = refl
no_others k (name ∷ names) t ts = no_others (k + 1) names t ts

-- ---- the names from a topic on
-- these are the names from that number on
abbrev NamesFrom : List (List ℕ) → ℕ → List (List ℕ) → Type 0
NamesFrom all k names = (i : ℕ) → get_or all (k + i) [] ≡ get_or names i []

names_next : (all : List (List ℕ)) (k : ℕ) (name : List ℕ) (names : List (List ℕ))
    → NamesFrom all k (name ∷ names) → NamesFrom all (k + 1) names
names_next all k name names h i =
    let e : k + 1 + i ≡ k + suc i = omega arith in ap (λ (n : ℕ). get_or all n []) e ∙ h (suc i)

-- the lines from the topic of a table with rows on, where no topic before it has rows; there are n
-- topics
record First (all : List (List ℕ)) (n : ℕ) (t : Table) (ts : List Table) (rows : List Row)
    (others : List (List Row)) (lines : List LogicalLine) : Type 0 where
  names : List (List ℕ)
  from : NamesFrom all (t.topic + 1) names
  count : n ≡ t.topic + 1 + length names
  is : lines ≡ line Topi 0 (get_or all t.topic [] ∷ [])
      ∷ (((table_lines t.name rows ++ tables_lines t.topic ts others) ++ line Etop 0 [] ∷ [])
      ++ topics_lines (t.topic + 1) names ts others)

own_topic : (all : List (List ℕ)) (n : ℕ) (name : List ℕ) (names : List (List ℕ)) (t : Table)
    (ts : List Table) (r : Row) (rows : List Row) (others : List (List Row))
    → n ≡ t.topic + suc (length names) → NamesFrom all t.topic (name ∷ names)
    → First all n t ts (r ∷ rows) others
    (topics_lines t.topic (name ∷ names) (t ∷ ts) ((r ∷ rows) ∷ others))
own_topic all n name names t ts r rows others c h =
    let same = eq-eqb t.topic t.topic refl in
    let zeroth : t.topic + 0 ≡ t.topic = omega arith in
    let named : name ≡ get_or all t.topic [] = sym (h 0) ∙ ap (λ (i : ℕ). get_or all i []) zeroth in
    let tables = (table_lines t.name (r ∷ rows) ++ tables_lines t.topic ts others) ++ line Etop 0 []
    ∷ [] in
    record {
      names = names;
      from = names_next all t.topic name names h;
      count = omega (arith, c);
      is =
          ap (λ (b : Bool). one_topic t.topic name
          (if b && true then true else has_rows t.topic ts others)
          ((if b then table_lines t.name (r ∷ rows) else []) ++ tables_lines t.topic ts others)
          ++ topics_lines (t.topic + 1) names (t ∷ ts) ((r ∷ rows) ∷ others)) same
          ∙ (ap (λ (ls : List LogicalLine). line Topi 0 (name ∷ []) ∷ (tables ++ ls))
          (passed (t.topic + 1) names t ts (r ∷ rows) others (omega arith))
          ∙ ap (λ (x : List ℕ). line Topi 0 (x ∷ [])
          ∷ (tables ++ topics_lines (t.topic + 1) names ts others)) named);
    }

first_topic : (all : List (List ℕ)) (n k : ℕ) (names : List (List ℕ)) (t : Table) (ts : List Table)
    (r : Row) (rows : List Row) (others : List (List Row))
    → k ≤ t.topic → t.topic < n → n ≡ k + length names → NamesFrom all k names
    → InOrder t.topic n (t ∷ ts)
    → First all n t ts (r ∷ rows) others (topics_lines k names (t ∷ ts) ((r ∷ rows) ∷ others))
first_topic all n k [] t ts r rows others l m c h o = absurd (omega (arith, l, m, c))
first_topic all n k (name ∷ names) t ts r rows others l m c h o =
    elim (nat_eq t.topic k) as (λ b. nat_eq t.topic k ≡ b
    → First all n t ts (r ∷ rows) others
    (topics_lines k (name ∷ names) (t ∷ ts) ((r ∷ rows) ∷ others))) [
      | true ↦ λ e. own_at (eqb-true t.topic k e) c h
      | false ↦ λ e.
          let d = beyond t.topic k (eqb-false t.topic k e) l in
          let rest = first_topic all n (k + 1) names t ts r rows others d m (omega (arith, c))
          (names_next all k name names h) o in
          record {
            names = rest.names;
            from = rest.from;
            count = rest.count;
            is = skipped k t.topic n name names (t ∷ ts) ((r ∷ rows) ∷ others) (omega (arith, d)) o
                ∙ rest.is;
          }
    ] refl
  where
    beyond : (m k : ℕ) → (m ≡ k → ⊥) → k ≤ m → k + 1 ≤ m
    beyond m k d a = omega (arith, d, a)

    own_at : t.topic ≡ k → n ≡ k + suc (length names) → NamesFrom all k (name ∷ names)
        → First all n t ts (r ∷ rows) others
        (topics_lines k (name ∷ names) (t ∷ ts) ((r ∷ rows) ∷ others))
    own_at e c h =
        subst (λ (j : ℕ). First all n t ts (r ∷ rows) others
        (topics_lines j (name ∷ names) (t ∷ ts) ((r ∷ rows) ∷ others))) e
        (own_topic all n name names t ts r rows others
        (subst (λ (j : ℕ). n ≡ j + suc (length names)) (sym e) c)
        (subst (λ (j : ℕ). NamesFrom all j (name ∷ names)) (sym e) h))

-- ---- the walk
-- the order of some tables from the first of them on
from_first : (low n : ℕ) (t : Table) (ts : List Table) → InOrder low n (t ∷ ts)
    → InOrder t.topic n (t ∷ ts)
from_first low n t ts h = (omega arith, h.1, h.2)

regrouped : (a b c d : List LogicalLine) → a ++ (b ++ (c ++ d)) ≡ ((a ++ b) ++ c) ++ d
regrouped a b c d = sym (append_assoc a b (c ++ d)) ∙ sym (append_assoc (a ++ b) c d)

run_open : (all : List (List ℕ)) (n k low : ℕ) (names : List (List ℕ)) (ts : List Table)
    (transfer : List (List Row))
    → k ≤ low → n ≡ k + 1 + length names → NamesFrom all (k + 1) names → InOrder low n ts
    → run_lines all (Some k) ts transfer
    ≡ tables_lines k ts transfer ++ line Etop 0 [] ∷ topics_lines (k + 1) names ts transfer
run_open all n k low names [] transfer l c h o =
    ap (λ (ls : List LogicalLine). line Etop 0 [] ∷ ls) (sym (no_topics (k + 1) names transfer))
run_open all n k low names (t ∷ ts) [] l c h o =
    ap (λ (ls : List LogicalLine). line Etop 0 [] ∷ ls) (sym (no_others (k + 1) names t ts))
run_open all n k low names (t ∷ ts) ([] ∷ others) l c h o =
    let a = o.0 in
    run_open all n k t.topic names ts others (omega (arith, a, l)) c h o.2
    ∙ (ap (λ (ls : List LogicalLine). ls ++ line Etop 0 [] ∷ topics_lines (k + 1) names ts others)
    (sym (no_rows k t ts others).0)
    ∙ ap (λ (ls : List LogicalLine). tables_lines k (t ∷ ts) ([] ∷ others) ++ line Etop 0 [] ∷ ls)
    (sym (without_rows (k + 1) names t ts others)))
run_open all n k low names (t ∷ ts) ((r ∷ rows) ∷ others) l c h o =
    let a = o.0 in
    let own = table_lines t.name (r ∷ rows) in
    let rest = topics_lines (k + 1) names (t ∷ ts) ((r ∷ rows) ∷ others) in
    elim (nat_eq k t.topic) as (λ b. nat_eq k t.topic ≡ b
    → ((if b then [] else line Etop 0 [] ∷ line Topi 0 (get_or all t.topic [] ∷ []) ∷ []) ++ own)
    ++ run_lines all (Some t.topic) ts others
    ≡ tables_lines k (t ∷ ts) ((r ∷ rows) ∷ others) ++ line Etop 0 [] ∷ rest) [
      | true ↦ λ e.
          let i = eqb-true k t.topic e in
          let later = run_open all n k t.topic names ts others (omega (arith, a, l)) c h o.2 in
          ap (λ (j : ℕ). own ++ run_lines all (Some j) ts others) (sym i)
          ∙ (ap (λ (ls : List LogicalLine). own ++ ls) later
          ∙ (sym (append_assoc own (tables_lines k ts others)
          (line Etop 0 [] ∷ topics_lines (k + 1) names ts others))
          ∙ (ap (λ (ls : List LogicalLine). (own ++ tables_lines k ts others) ++ line Etop 0 []
          ∷ ls) (sym (passed (k + 1) names t ts (r ∷ rows) others (omega (arith, i))))
          ∙ ap (λ (b : Bool). ((if b then own else []) ++ tables_lines k ts others)
          ++ line Etop 0 [] ∷ rest) (sym (eq-eqb t.topic k (sym i))))))
      | false ↦ λ e.
          let d = beyond k t.topic (eqb-false k t.topic e) l a in
          let first = first_topic all n (k + 1) names t ts r rows others d o.1 c h
          (from_first low n t ts o) in
          let later = run_open all n t.topic t.topic first.names ts others
          (omega arith) first.count first.from o.2 in
          let none = (none_here k t.topic n (t ∷ ts) ((r ∷ rows) ∷ others) (omega (arith, d))
          (from_first low n t ts o)).0 in
          let after = topics_lines (t.topic + 1) first.names ts others in
          ap (λ (ls : List LogicalLine). line Etop 0 [] ∷ line Topi 0 (get_or all t.topic [] ∷ [])
          ∷ (own ++ ls)) later
          ∙ (ap (λ (ls : List LogicalLine). line Etop 0 []
          ∷ line Topi 0 (get_or all t.topic [] ∷ []) ∷ ls)
          (regrouped own (tables_lines t.topic ts others) (line Etop 0 [] ∷ []) after)
          ∙ (ap (λ (ls : List LogicalLine). line Etop 0 [] ∷ ls) (sym first.is)
          ∙ ap (λ (ls : List LogicalLine). ls ++ line Etop 0 [] ∷ rest) (sym none)))
    ] refl
  where
    beyond : (k m : ℕ) → (k ≡ m → ⊥) → k ≤ low → low ≤ m → k + 1 ≤ m
    beyond k m d a b = omega (arith, d, a, b)

run_none : (all : List (List ℕ)) (n k : ℕ) (names : List (List ℕ)) (ts : List Table)
    (transfer : List (List Row))
    → n ≡ k + length names → NamesFrom all k names → InOrder k n ts
    → run_lines all None ts transfer ≡ topics_lines k names ts transfer
run_none all n k names [] transfer c h o = sym (no_topics k names transfer)
run_none all n k names (t ∷ ts) [] c h o = sym (no_others k names t ts)
run_none all n k names (t ∷ ts) ([] ∷ others) c h o =
    run_none all n k names ts others c h (lower t.topic k n ts o.0 o.2)
    ∙ sym (without_rows k names t ts others)
run_none all n k names (t ∷ ts) ((r ∷ rows) ∷ others) c h o =
    let own = table_lines t.name (r ∷ rows) in
    let first = first_topic all n k names t ts r rows others o.0 o.1 c h (from_first k n t ts o) in
    let later = run_open all n t.topic t.topic first.names ts others
    (omega arith) first.count first.from o.2 in
    let after = topics_lines (t.topic + 1) first.names ts others in
    ap (λ (ls : List LogicalLine). line Topi 0 (get_or all t.topic [] ∷ []) ∷ (own ++ ls)) later
    ∙ (ap (λ (ls : List LogicalLine). line Topi 0 (get_or all t.topic [] ∷ []) ∷ ls)
    (regrouped own (tables_lines t.topic ts others) (line Etop 0 [] ∷ []) after) ∙ sym first.is)

-- the walk over all tables gives the lines of all topics
pub run_is : (names : List (List ℕ)) (ts : List LayoutTable) (transfer : List (List Row))
    → AreByTopic 0 (length names) ts
    → run_lines names None (map wanted_of ts) transfer
    ≡ topics_lines 0 names (map wanted_of ts) transfer
run_is names ts transfer h =
    run_none names (length names) 0 names (map wanted_of ts) transfer (omega arith)
    (λ i. ap (λ (j : ℕ). get_or names j []) (zero_first i)) (in_order 0 (length names) ts h)
  where
    zero_first : (i : ℕ) → 0 + i ≡ i
    zero_first i = omega arith
