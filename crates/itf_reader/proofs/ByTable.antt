-- The rows of a text, sorted by their tables.
use Rattle.std.proofs.Common.{◌≡◌, ◌≤◌, ◌<◌, ◌+◌, ℕ, Bool, true, false, cond, ◌&&◌, List, [], ◌∷◌}
use Rattle.std.proofs.Common.{◌++◌, map, Option, Some, None, refl, ap, sym, subst, ◌∙◌, arith}
use Rattle.std.proofs.Common.{if◌then◌else◌, nat_eq}
use Rattle.std.proofs.lemmas.List.{append-nil}
use Rattle.std.proofs.lemmas.Bool.{eqb-true, eqb-false, ne_eqb, eq-eqb}
use Rattle.itf_lines.specs.LogicalLines.{LogicalLine}
use Rattle.itf_reader.specs.Forms.{Table, Form, Row, TableRows, TopicRows, names, table_named}
use Rattle.itf_reader.specs.Forms.{has_table, has_topic, rows_in, rows_from, tables_of}
use Rattle.itf_reader.specs.TransferText.{IsTables, no_table, more_tables, IsTopics, no_topic}
use Rattle.itf_reader.specs.TransferText.{more_topics, IsText, text, TransferText}
use Rattle.itf_reader.specs.ClosedRows.{closed_rows, of_table, by_table_from, by_table, all_pairs}
use Rattle.itf_reader.proofs.Counted.{table_more, topic_more}
use Rattle.itf_reader.proofs.Drive.{text_drive}
use Rattle.itf_reader.proofs.HeldRows.{closed_whole}

-- no table has that number
abbrev Without : ℕ → List TableRows → Type 0
Without i [] = Unit {0}
Without i (c ∷ cs) = (c.table ≡ i → ⊥) × Without i cs

-- no two tables have one number
abbrev Distinct : List TableRows → Type 0
Distinct [] = Unit {0}
Distinct (c ∷ cs) = Without c.table cs × Distinct cs

-- the rows of one table among the rows of all
pub own_pairs : (n i : ℕ) (rows : List Row) (rest : List (ℕ × Row)) → i ≡ n
    → of_table n (map (λ row. (i, row)) rows ++ rest) ≡ rows ++ of_table n rest
own_pairs n i [] rest e = refl
own_pairs n i (r ∷ rows) rest e =
    rw (eq-eqb i n e) (ap (λ (l : List Row). r ∷ l) (own_pairs n i rows rest e))

pub other_pairs : (n i : ℕ) (rows : List Row) (rest : List (ℕ × Row)) → (i ≡ n → ⊥)
    → of_table n (map (λ row. (i, row)) rows ++ rest) ≡ of_table n rest
other_pairs n i [] rest e = refl
other_pairs n i (r ∷ rows) rest e = rw (ne_eqb i n e) (other_pairs n i rows rest e)

no_rows : (n : ℕ) (cs : List TableRows) → Without n cs → of_table n (all_pairs cs) ≡ []
no_rows n [] h = refl
no_rows n (c ∷ cs) h = other_pairs n c.table c.rows (all_pairs cs) h.0 ∙ no_rows n cs h.1

same_rows : (n : ℕ) (cs : List TableRows) → Distinct cs → rows_in n cs ≡ of_table n (all_pairs cs)
same_rows n [] h = refl
same_rows n (c ∷ cs) h =
    elim (nat_eq c.table n) as (λ b. nat_eq c.table n ≡ b
    → (if b then c.rows else rows_in n cs) ≡ of_table n (all_pairs (c ∷ cs))) [
      | true ↦ λ e.
          let k : c.table ≡ n = eqb-true c.table n e in
          sym (own_pairs n c.table c.rows (all_pairs cs) k
          ∙ (ap (λ (l : List Row). c.rows ++ l)
          (no_rows n cs (subst (λ (m : ℕ). Without m cs) k h.0)) ∙ append-nil c.rows))
      | false ↦ λ e. same_rows n cs h.1
          ∙ sym (other_pairs n c.table c.rows (all_pairs cs) (eqb-false c.table n e))
    ] refl

sorted_rows : (n : ℕ) (ts : List Table) (cs : List TableRows) → Distinct cs
    → rows_from n ts cs ≡ by_table_from n ts (all_pairs cs)
sorted_rows n [] cs h = refl
sorted_rows n (t ∷ ts) cs h = rw (same_rows n cs h, sorted_rows (n + 1) ts cs h) refl

-- Each table comes once: a topic has each of its tables once, and a table has one topic.

-- the table of that number, the first having the number n, has that topic
abbrev Owned : ℕ → List Table → ℕ → ℕ → Type 0
Owned n [] i topic = ⊥
Owned n (t ∷ ts) i topic = (i ≡ n → t.topic ≡ topic) × (n < i → Owned (n + 1) ts i topic) × (n ≤ i)

abbrev number_in : Option (ℕ × Table) → ℕ
number_in None = 0
number_in (Some p) = p.0

abbrev found : ℕ → Table → Bool → Option (ℕ × Table) → Option (ℕ × Table)
found n t b rest = if b then Some (n, t) else rest

both_true : (a b : Bool) → (a && b) ≡ true → a ≡ true
both_true true b h = refl
both_true false b h = h

owned_from : (n : ℕ) (ts : List Table) (i topic : ℕ) → Owned n ts i topic → n ≤ i
owned_from n [] i topic h = absurd h
owned_from n (t ∷ ts) i topic h = h.2

named_owned : (n topic : ℕ) (fs : List (List ℕ)) (ts : List Table) (i : ℕ) (t : Table)
    → table_named n topic fs ts ≡ Some (i, t) → Owned n ts i topic
named_owned n topic fs [] i t h = absurd cc
named_owned n topic fs (u ∷ ts) i t h =
    elim (nat_eq u.topic topic && names fs u.name) as
    (λ b. (nat_eq u.topic topic && names fs u.name) ≡ b
    → found n u b (table_named (n + 1) topic fs ts) ≡ Some (i, t) → Owned n (u ∷ ts) i topic) [
      | true ↦ λ e k. let q : n ≡ i = ap number_in k in (
        (λ m. eqb-true u.topic topic (both_true (nat_eq u.topic topic) (names fs u.name) e)),
        (λ m. absurd (omega (arith, m, q))),
        omega (arith, q),
      )
      | false ↦ λ e k.
          let rest = named_owned (n + 1) topic fs ts i t k in
          let from = owned_from (n + 1) ts i topic rest in
          ((λ m. absurd (omega (arith, m, from))), (λ m. rest), omega (arith, from))
    ] refl h

one_owner : (n : ℕ) (ts : List Table) (i a b : ℕ) → Owned n ts i a → Owned n ts i b → a ≡ b
one_owner n [] i a b h k = absurd h
one_owner n (t ∷ ts) i a b h k = elim (nat_eq i n) as (λ c. nat_eq i n ≡ c → a ≡ b) [
  | true ↦ λ e. let m = eqb-true i n e in sym (h.0 m) ∙ k.0 m
  | false ↦ λ e. let m : n < i = above n i (eqb-false i n e) h.2 in
      one_owner (n + 1) ts i a b (h.1 m) (k.1 m)
] refl
  where
    above : (n i : ℕ) → (i ≡ n → ⊥) → n ≤ i → n < i
    above n i h k = omega (arith, h, k)

-- the tables of one topic
abbrev AllOwned : Form → ℕ → List TableRows → Type 0
AllOwned f topic [] = Unit {0}
AllOwned f topic (c ∷ cs) = Owned 0 f.tables c.table topic × AllOwned f topic cs

tables_owned : (f : Form) (topic : ℕ) (earlier ts : List TableRows) (w r : List LogicalLine)
    → IsTables f topic earlier ts w r → AllOwned f topic ts
tables_owned f topic _ _ _ _ (no_table earlier r) = tt
tables_owned f topic _ _ _ _ (more_tables earlier n m i fs gs t rows ts w u r e c h k) =
    (named_owned 0 topic fs f.tables i t e, tables_owned f topic _ ts u r k)

-- none of them has a number of those that came before
abbrev Apart : List TableRows → List TableRows → Type 0
Apart earlier [] = Unit {0}
Apart earlier (c ∷ cs) = (has_table c.table earlier ≡ false) × Apart earlier cs

cond_other : (a b : Bool) → cond a true b ≡ false → (a ≡ false) × (b ≡ false)
cond_other true b h = absurd cc
cond_other false b h = (refl, h)

apart_less : (earlier : List TableRows) (x : TableRows) (ts : List TableRows)
    → Apart (earlier ++ (x ∷ [])) ts → Apart earlier ts × Without x.table ts
apart_less earlier x [] h = (tt, tt)
apart_less earlier x (c ∷ ts) h =
    let k = cond_other (nat_eq x.table c.table) (has_table c.table earlier)
    (sym (table_more c.table earlier x) ∙ h.0) in
    let r = apart_less earlier x ts h.1 in
    ((k.1, r.0), ((λ e. eqb-false x.table c.table k.0 (sym e)), r.1))

tables_apart : (f : Form) (topic : ℕ) (earlier ts : List TableRows) (w r : List LogicalLine)
    → IsTables f topic earlier ts w r → Apart earlier ts × Distinct ts
tables_apart f topic _ _ _ _ (no_table earlier r) = (tt, tt)
tables_apart f topic _ _ _ _ (more_tables earlier n m i fs gs t rows ts w u r e c h k) =
    let rest = tables_apart f topic (earlier ++ (record { table = i; rows = rows } ∷ [])) ts u r
    k in
    let less = apart_less earlier (record { table = i; rows = rows }) ts rest.0 in
    ((c, less.0), (less.1, rest.1))

-- the tables of topics, none of which is that one
abbrev Foreign : Form → ℕ → List TopicRows → Type 0
Foreign f i [] = Unit {0}
Foreign f i (t ∷ ts) = (t.topic ≡ i → ⊥) × AllOwned f t.topic t.tables × Foreign f i ts

not_there : (f : Form) (i j n : ℕ) (cs : List TableRows) → Owned 0 f.tables n i → AllOwned f j cs
    → (j ≡ i → ⊥) → Without n cs
not_there f i j n [] h k d = tt
not_there f i j n (c ∷ cs) h k d = (
  (λ e. d (one_owner 0 f.tables n j i (subst (λ (m : ℕ). Owned 0 f.tables m j) e k.0) h)),
  not_there f i j n cs h k.1 d,
)

without-append : (n : ℕ) (a b : List TableRows) → Without n a → Without n b → Without n (a ++ b)
without-append n [] b h k = k
without-append n (c ∷ a) b h k = (h.0, without-append n a b h.1 k)

nowhere : (f : Form) (i n : ℕ) (ts : List TopicRows) → Owned 0 f.tables n i → Foreign f i ts
    → Without n (tables_of ts)
nowhere f i n [] h k = tt
nowhere f i n (t ∷ ts) h k =
    without-append n t.tables (tables_of ts) (not_there f i t.topic n t.tables h k.1 k.0)
    (nowhere f i n ts h k.2)

distinct-append : (f : Form) (i : ℕ) (cs : List TableRows) (ts : List TopicRows) → AllOwned f i cs
    → Distinct cs → Foreign f i ts → Distinct (tables_of ts) → Distinct (cs ++ tables_of ts)
distinct-append f i [] ts o d g h = h
distinct-append f i (c ∷ cs) ts o d g h = (
  without-append c.table cs (tables_of ts) d.0 (nowhere f i c.table ts o.0 g),
  distinct-append f i cs ts o.1 d.1 g h,
)

-- topics that came before are none of these
abbrev TopicsApart : Form → List TopicRows → List TopicRows → Type 0
TopicsApart f earlier [] = Unit {0}
TopicsApart f earlier (t ∷ ts) =
    (has_topic t.topic earlier ≡ false) × AllOwned f t.topic t.tables × TopicsApart f earlier ts

topics_less : (f : Form) (earlier : List TopicRows) (x : TopicRows) (ts : List TopicRows)
    → TopicsApart f (earlier ++ (x ∷ [])) ts → TopicsApart f earlier ts × Foreign f x.topic ts
topics_less f earlier x [] h = (tt, tt)
topics_less f earlier x (t ∷ ts) h =
    let k = cond_other (nat_eq x.topic t.topic) (has_topic t.topic earlier)
    (sym (topic_more t.topic earlier x) ∙ h.0) in
    let r = topics_less f earlier x ts h.2 in
    ((k.1, h.1, r.0), ((λ e. eqb-false x.topic t.topic k.0 (sym e)), h.1, r.1))

topics_apart : (f : Form) (earlier ts : List TopicRows) (w r : List LogicalLine)
    → IsTopics f earlier ts w r → TopicsApart f earlier ts × Distinct (tables_of ts)
topics_apart f _ _ _ _ (no_topic earlier r) = (tt, tt)
topics_apart f _ _ _ _ (more_topics earlier n m i fs gs tables ts w u r e c h k) =
    let rest = topics_apart f (earlier ++ (record { topic = i; tables = tables } ∷ [])) ts u r k in
    let less = topics_less f earlier (record { topic = i; tables = tables }) ts rest.0 in
    let own = tables_owned f i [] tables w _ h in (
      (c, own, less.0),
      distinct-append f i tables ts own
          (tables_apart f i [] tables w _ h).1 less.1 rest.1,
    )

text_apart : (f : Form) (ts : List TopicRows) (ls : List LogicalLine) → IsText f ts ls
    → Distinct (tables_of ts)
text_apart f _ _ (text n m i j k e fs gs hs is js ks ts w u a b h) = (topics_apart f [] ts u _ h).1

pub rows_by_table : (f : Form) (ls : List LogicalLine) (transfer : List (List Row))
    → TransferText f ls transfer → transfer ≡ by_table f (closed_rows f ls)
rows_by_table f ls transfer h =
    h.2 ∙ (sorted_rows 0 f.tables (tables_of h.0) (text_apart f h.0 ls h.1)
    ∙ ap (by_table_from 0 f.tables) (closed_whole f ls h.0 (text_drive f h.0 ls h.1)))
