-- The rows of a canonical text are those that it was made of.
use Rattle.std.proofs.Common.{◌≡◌, ◌≤◌, ◌<◌, ◌+◌, inl, inr, ℕ, suc, Bool, true, false, ◌&&◌, List}
use Rattle.std.proofs.Common.{[], ◌∷◌, ◌++◌, length, Option, Some, None, refl, ap, sym, ◌∙◌, arith}
use Rattle.std.proofs.Common.{if◌then◌else◌, nat_eq, append_assoc}
use Rattle.std.proofs.lemmas.Bool.{eqb-true, eqb-false, eq-eqb, ne_eqb}
use Rattle.std.proofs.lemmas.List.{append-nil}
use Rattle.itf_reader.specs.Forms.{Table, Form, Row, TableRows, TopicRows, names, topic_named}
use Rattle.itf_reader.specs.Forms.{has_table, rows_in, rows_from, tables_of, rows_by_form}
use Rattle.itf_writer.specs.Canonical.{is_some_row, has_rows}
use Rattle.itf_writer.specs.Same.{bare_rows, bare}
use Rattle.itf_writer.proofs.Known.{Known, AllKnown}
use Rattle.itf_writer.proofs.Built.{some_rows, kept, some_topic, kept_topics}

-- ---- rows by number
in_both : (n : ℕ) (a b : List TableRows)
    → rows_in n (a ++ b) ≡ (if has_table n a then rows_in n a else rows_in n b)
in_both n [] b = refl
in_both n (c ∷ a) b =
    elim (nat_eq c.table n) as (λ x. (if x then c.rows else rows_in n (a ++ b))
    ≡ (if (if x then true else has_table n a) then
    (if x then c.rows else rows_in n a) else rows_in n b)) [
      | true ↦ refl
      | false ↦ in_both n a b
    ]

in_second : (n : ℕ) (a b : List TableRows) → has_table n a ≡ false
    → rows_in n (a ++ b) ≡ rows_in n b
in_second n a b h = in_both n a b ∙ ap (λ (x : Bool). if x then rows_in n a else rows_in n b) h

has_both : (n : ℕ) (a b : List TableRows)
    → has_table n (a ++ b) ≡ (if has_table n a then true else has_table n b)
has_both n [] b = refl
has_both n (c ∷ a) b =
    elim (nat_eq c.table n) as (λ x. (if x then true else has_table n (a ++ b))
    ≡ (if (if x then true else has_table n a) then true else has_table n b)) [
      | true ↦ refl
      | false ↦ has_both n a b
    ]

without_number : (n : ℕ) (a : List TableRows) → has_table n a ≡ false → rows_in n a ≡ []
without_number n [] h = refl
without_number n (c ∷ a) h =
    elim (nat_eq c.table n) as (λ x. (if x then true else has_table n a) ≡ false
    → (if x then c.rows else rows_in n a) ≡ []) [
      | true ↦ λ e. absurd cc
      | false ↦ λ e. without_number n a e
    ] h

in_first : (n : ℕ) (a b : List TableRows) → has_table n b ≡ false → rows_in n (a ++ b) ≡ rows_in n a
in_first n [] b h = without_number n b h
in_first n (c ∷ a) b h =
    elim (nat_eq c.table n) as (λ x. (if x then c.rows else rows_in n (a ++ b))
    ≡ (if x then c.rows else rows_in n a)) [
      | true ↦ refl
      | false ↦ in_first n a b h
    ]

-- ---- one topic
-- the tables from a number on have no number below it
has_none : (n m : ℕ) (rows : List Row) → (n ≡ m → ⊥) → has_table m (some_rows n rows) ≡ false
has_none n m [] h = refl
has_none n m (r ∷ rows) h = rw (ne_eqb n m h) refl

has_if : (b : Bool) (n m : ℕ) (rows : List Row) → (n ≡ m → ⊥)
    → has_table m (if b then some_rows n rows else []) ≡ false
has_if true n m rows h = has_none n m rows h
has_if false n m rows h = refl

kept_below : (k n m : ℕ) (ts : List Table) (transfer : List (List Row)) → m < n
    → has_table m (kept k n ts transfer) ≡ false
kept_below k n m [] transfer h = refl
kept_below k n m (t ∷ ts) [] h = refl
kept_below k n m (t ∷ ts) (rows ∷ others) h =
    has_both m (if nat_eq t.topic k then some_rows n rows else []) (kept k (n + 1) ts others)
    ∙ (ap (λ (b : Bool). if b then true else has_table m (kept k (n + 1) ts others))
    (has_if (nat_eq t.topic k) n m rows (λ e. absurd (omega (arith, h, e))))
    ∙ kept_below k (n + 1) m ts others (omega (arith, h)))

own_rows : (n : ℕ) (rows : List Row) (rest : List TableRows) → has_table n rest ≡ false
    → rows_in n (some_rows n rows ++ rest) ≡ bare_rows rows
own_rows n [] rest h = without_number n rest h
own_rows n (r ∷ rows) rest h = rw (eq-eqb n n refl) refl

-- the rows of a table in its own topic, and none in another
kept_own : (k n : ℕ) (t : Table) (ts : List Table) (rows : List Row) (others : List (List Row))
    → t.topic ≡ k → rows_in n (kept k n (t ∷ ts) (rows ∷ others)) ≡ bare_rows rows
kept_own k n t ts rows others e =
    ap (λ (b : Bool). rows_in n ((if b then some_rows n rows else []) ++ kept k (n + 1) ts others))
    (eq-eqb t.topic k e)
    ∙ own_rows n rows (kept k (n + 1) ts others) (kept_below k (n + 1) n ts others (omega arith))

kept_foreign : (k n : ℕ) (t : Table) (ts : List Table) (rows : List Row) (others : List (List Row))
    → (t.topic ≡ k → ⊥) → has_table n (kept k n (t ∷ ts) (rows ∷ others)) ≡ false
kept_foreign k n t ts rows others e =
    ap (λ (b : Bool). has_table n ((if b then some_rows n rows else [])
    ++ kept k (n + 1) ts others)) (ne_eqb t.topic k e)
    ∙ kept_below k (n + 1) n ts others (omega arith)

-- a later table is not found among the first
kept_later : (k n m : ℕ) (t : Table) (ts : List Table) (rows : List Row) (others : List (List Row))
    → n < m
    → (has_table m (kept k n (t ∷ ts) (rows ∷ others)) ≡ has_table m (kept k (n + 1) ts others))
    × (rows_in m (kept k n (t ∷ ts) (rows ∷ others)) ≡ rows_in m (kept k (n + 1) ts others))
kept_later k n m t ts rows others l =
    let none = has_if (nat_eq t.topic k) n m rows (λ e. absurd (omega (arith, l, e))) in
    let own = if nat_eq t.topic k then some_rows n rows else [] in (
      has_both m own (kept k (n + 1) ts others)
          ∙ ap (λ (b : Bool). if b then true else has_table m (kept k (n + 1) ts others)) none,
      in_second m own (kept k (n + 1) ts others) none,
    )

in_topic : (k n : ℕ) (ts : List Table) (rows : List Row) (others : List (List Row))
    → (has_rows k ts others ≡ false → kept k (n + 1) ts others ≡ [])
    → (if true && is_some_row rows then true else has_rows k ts others) ≡ false
    → some_rows n rows ++ kept k (n + 1) ts others ≡ []
in_topic k n ts [] others rest e = rest e
in_topic k n ts (r ∷ rows) others rest e = absurd cc

-- a topic that has no rows keeps no table
none_kept : (k n : ℕ) (ts : List Table) (transfer : List (List Row))
    → has_rows k ts transfer ≡ false → kept k n ts transfer ≡ []
none_kept k n [] transfer h = refl
none_kept k n (t ∷ ts) [] h = refl
none_kept k n (t ∷ ts) (rows ∷ others) h =
    elim (nat_eq t.topic k) as (λ b. (if b && is_some_row rows then true else has_rows k ts others)
    ≡ false → (if b then some_rows n rows else []) ++ kept k (n + 1) ts others ≡ []) [
      | true ↦ λ e. in_topic k n ts rows others (none_kept k (n + 1) ts others) e
      | false ↦ λ e. none_kept k (n + 1) ts others e
    ] h

-- ---- all topics
-- the tables of topics, from a table on
abbrev whole : ℕ → List (List ℕ) → ℕ → List Table → List (List Row) → List TableRows
whole k [] n ts transfer = []
whole k (name ∷ names) n ts transfer = kept k n ts transfer ++ whole (k + 1) names n ts transfer

tables_append : (a b : List TopicRows) → tables_of (a ++ b) ≡ tables_of a ++ tables_of b
tables_append [] b = refl
tables_append (t ∷ a) b = ap (λ (l : List TableRows). t.tables ++ l) (tables_append a b)
    ∙ sym (append_assoc t.tables (tables_of a) (tables_of b))

topic_tables : (b : Bool) (k : ℕ) (cs : List TableRows) → (b ≡ false → cs ≡ [])
    → tables_of (some_topic b k cs) ≡ cs
topic_tables true k cs h = append-nil cs
topic_tables false k cs h = sym (h refl)

all_tables : (k : ℕ) (names : List (List ℕ)) (ts : List Table) (transfer : List (List Row))
    → tables_of (kept_topics k names ts transfer) ≡ whole k names 0 ts transfer
all_tables k [] ts transfer = refl
all_tables k (name ∷ names) ts transfer =
    tables_append (some_topic (has_rows k ts transfer) k (kept k 0 ts transfer))
    (kept_topics (k + 1) names ts transfer)
    ∙ (ap (λ (cs : List TableRows). cs ++ tables_of (kept_topics (k + 1) names ts transfer))
    (topic_tables (has_rows k ts transfer) k (kept k 0 ts transfer) (none_kept k 0 ts transfer))
    ∙ ap (λ (cs : List TableRows). kept k 0 ts transfer ++ cs)
    (all_tables (k + 1) names ts transfer))

-- a topic behind these has the number m
abbrev IsAmong : ℕ → List (List ℕ) → ℕ → Type 0
IsAmong k names m = (k ≤ m) × (m < k + length names)

-- none of the topics behind the table's own has it
whole_foreign : (k n : ℕ) (names : List (List ℕ)) (t : Table) (ts : List Table) (rows : List Row)
    (others : List (List Row))
    → t.topic < k → has_table n (whole k names n (t ∷ ts) (rows ∷ others)) ≡ false
whole_foreign k n [] t ts rows others h = refl
whole_foreign k n (name ∷ names) t ts rows others h =
    has_both n (kept k n (t ∷ ts) (rows ∷ others)) (whole (k + 1) names n (t ∷ ts) (rows ∷ others))
    ∙ (ap (λ (b : Bool). if b then true else has_table n
    (whole (k + 1) names n (t ∷ ts) (rows ∷ others)))
    (kept_foreign k n t ts rows others (λ e. absurd (omega (arith, h, e))))
    ∙ whole_foreign (k + 1) n names t ts rows others (omega (arith, h)))

further : (m k : ℕ) → (m ≡ k → ⊥) → k ≤ m → k + 1 ≤ m
further m k d a = omega (arith, d, a)

whole_own : (k n : ℕ) (names : List (List ℕ)) (t : Table) (ts : List Table) (rows : List Row)
    (others : List (List Row))
    → IsAmong k names t.topic
    → rows_in n (whole k names n (t ∷ ts) (rows ∷ others)) ≡ bare_rows rows
whole_own k n [] t ts rows others h = let a = h.0 in let b = h.1 in absurd (omega (arith, a, b))
whole_own k n (name ∷ names) t ts rows others h =
    elim (nat_eq t.topic k) as (λ b. nat_eq t.topic k ≡ b
    → rows_in n (kept k n (t ∷ ts) (rows ∷ others)
    ++ whole (k + 1) names n (t ∷ ts) (rows ∷ others)) ≡ bare_rows rows) [
      | true ↦ λ e.
          let i = eqb-true t.topic k e in
          in_first n (kept k n (t ∷ ts) (rows ∷ others))
          (whole (k + 1) names n (t ∷ ts) (rows ∷ others))
          (whole_foreign (k + 1) n names t ts rows others (omega (arith, i)))
          ∙ kept_own k n t ts rows others i
      | false ↦ λ e.
          let d = eqb-false t.topic k e in
          let a = h.0 in
          let b = h.1 in
          in_second n (kept k n (t ∷ ts) (rows ∷ others))
          (whole (k + 1) names n (t ∷ ts) (rows ∷ others)) (kept_foreign k n t ts rows others d)
          ∙ whole_own (k + 1) n names t ts rows others (further t.topic k d a, omega (arith, b))
    ] refl

-- a table without rows is nowhere
kept_empty : (k n : ℕ) (t : Table) (ts : List Table) (others : List (List Row))
    → has_table n (kept k n (t ∷ ts) ([] ∷ others)) ≡ false
kept_empty k n t ts others =
    elim (nat_eq t.topic k) as
    (λ b. has_table n ((if b then [] else []) ++ kept k (n + 1) ts others) ≡ false) [
      | true ↦ kept_below k (n + 1) n ts others (omega arith)
      | false ↦ kept_below k (n + 1) n ts others (omega arith)
    ]

whole_empty : (k n : ℕ) (names : List (List ℕ)) (t : Table) (ts : List Table)
    (others : List (List Row))
    → has_table n (whole k names n (t ∷ ts) ([] ∷ others)) ≡ false
whole_empty k n [] t ts others = refl
whole_empty k n (name ∷ names) t ts others =
    has_both n (kept k n (t ∷ ts) ([] ∷ others)) (whole (k + 1) names n (t ∷ ts) ([] ∷ others))
    ∙ (ap (λ (b : Bool). if b then true else has_table n
    (whole (k + 1) names n (t ∷ ts) ([] ∷ others))) (kept_empty k n t ts others)
    ∙ whole_empty (k + 1) n names t ts others)

whole_later : (k n m : ℕ) (names : List (List ℕ)) (t : Table) (ts : List Table) (rows : List Row)
    (others : List (List Row))
    → n < m
    → rows_in m (whole k names n (t ∷ ts) (rows ∷ others))
    ≡ rows_in m (whole k names (n + 1) ts others)
whole_later k n m [] t ts rows others l = refl
whole_later k n m (name ∷ names) t ts rows others l =
    let p = kept_later k n m t ts rows others l in
    let a = kept k n (t ∷ ts) (rows ∷ others) in
    let b = kept k (n + 1) ts others in
    in_both m a (whole (k + 1) names n (t ∷ ts) (rows ∷ others))
    ∙ (ap (λ (x : List Row). if has_table m a then rows_in m a else x)
    (whole_later (k + 1) n m names t ts rows others l)
    ∙ (ap (λ (x : Bool). if x then rows_in m a else rows_in m
    (whole (k + 1) names (n + 1) ts others)) p.0
    ∙ (ap (λ (x : List Row). if has_table m b then x else rows_in m
    (whole (k + 1) names (n + 1) ts others)) p.1
    ∙ sym (in_both m b (whole (k + 1) names (n + 1) ts others)))))

-- ---- the transfer
topic_within : (n : ℕ) (fs ts : List (List ℕ)) (m : ℕ) → topic_named n fs ts ≡ Some m
    → (n ≤ m) × (m < n + length ts)
topic_within n fs [] m h = absurd cc
topic_within n fs (t ∷ ts) m h =
    elim (names fs t) as (λ b. (if b then Some n else topic_named (n + 1) fs ts) ≡ Some m
    → (n ≤ m) × (m < n + suc (length ts))) [
      | true ↦ λ e. let k : n ≡ m = ap number_of e in (omega (arith, k), omega (arith, k))
      | false ↦ λ e. let k = topic_within (n + 1) fs ts m e in let a = k.0 in let b = k.1 in
          (omega (arith, a), omega (arith, b))
    ] h
  where
    number_of : Option ℕ → ℕ
    number_of None = 0
    number_of (Some i) = i

one_table : (f : Form) (n : ℕ) (t : Table) (ts : List Table) (rows : List Row)
    (others : List (List Row))
    → Known f n t rows → rows_in n (whole 0 f.topics n (t ∷ ts) (rows ∷ others)) ≡ bare_rows rows
one_table f n t ts [] others h =
    without_number n (whole 0 f.topics n (t ∷ ts) ([] ∷ others))
    (whole_empty 0 n f.topics t ts others)
one_table f n t ts (r ∷ rows) others h = elim h [
  | inl e ↦ absurd (not_none r rows e)
  | inr c ↦ whole_own 0 n f.topics t ts (r ∷ rows) others
      (topic_within 0 c.topic_fields f.topics t.topic c.topic_found)
]
  where
    not_none : (r : Row) (rows : List Row) → r ∷ rows ≡ [] → ⊥
    not_none r rows e = absurd cc

placed_from : (f : Form) (n : ℕ) (ts : List Table) (transfer : List (List Row))
    (cs : List TableRows)
    → ((m : ℕ) → n ≤ m → rows_in m cs ≡ rows_in m (whole 0 f.topics n ts transfer))
    → AllKnown f n ts transfer
    → rows_from n ts cs ≡ bare transfer
placed_from f n [] [] cs h a = refl
placed_from f n [] (rows ∷ others) cs h a = absurd a
placed_from f n (t ∷ ts) [] cs h a = absurd a
placed_from f n (t ∷ ts) (rows ∷ others) cs h a =
    let first = h n (omega arith) ∙ one_table f n t ts rows others a.0 in
    let rest = placed_from f (n + 1) ts others cs (λ m l. h m (omega (arith, l))
    ∙ whole_later 0 n m f.topics t ts rows others (omega (arith, l))) a.1 in
    ap (λ (x : List Row). x ∷ rows_from (n + 1) ts cs) first
    ∙ ap (λ (x : List (List Row)). bare_rows rows ∷ x) rest

pub placed_again : (f : Form) (transfer : List (List Row)) → AllKnown f 0 f.tables transfer
    → rows_by_form f (kept_topics 0 f.topics f.tables transfer) ≡ bare transfer
placed_again f transfer a =
    placed_from f 0 f.tables transfer (tables_of (kept_topics 0 f.topics f.tables transfer))
    (λ m l. ap (rows_in m) (all_tables 0 f.topics f.tables transfer)) a
