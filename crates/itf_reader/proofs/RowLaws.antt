-- What every row of a transfer meets.
use Rattle.std.proofs.Common.{◌≡◌, ◌≤◌, ◌<◌, ◌+◌, ◌-◌, ℕ, Bool, true, false, List, [], ◌∷◌, length}
use Rattle.std.proofs.Common.{All, Option, Some, None, refl, ap, sym, subst, arith, if◌then◌else◌}
use Rattle.std.proofs.Common.{nat_eq, ◌&&◌, replicate}
use Rattle.std.proofs.lemmas.List.{length-append, length-replicate}
use Rattle.std.proofs.lemmas.List.Elements.{All-append, All-replicate, All-nil, All-cons, All-head}
use Rattle.std.proofs.lemmas.List.Elements.{All-tail}
use Rattle.std.proofs.lemmas.Bool.{eqb-true}
use Rattle.itf_lines.specs.LogicalLines.{LogicalLine}
use Rattle.itf_reader.specs.Forms.{Table, Form, Vertex, Row, TableRows, TopicRows, names}
use Rattle.itf_reader.specs.Forms.{table_named, fill_strokes, rows_in, rows_from, tables_of}
use Rattle.itf_reader.specs.TransferText.{IsVertices, no_vertex, straight_vertex, arc_vertex}
use Rattle.itf_reader.specs.TransferText.{IsStroke, undefined_stroke, defined_stroke, IsStrokes}
use Rattle.itf_reader.specs.TransferText.{no_stroke, more_strokes, IsObjects, no_object}
use Rattle.itf_reader.specs.TransferText.{more_objects, IsTables, no_table, more_tables, IsTopics}
use Rattle.itf_reader.specs.TransferText.{no_topic, more_topics, IsText, text, TransferText}
use Rattle.itf_reader.specs.RowForms.{GoesOn, HasStrokeForm, IsCounted, HasForm, EachRow}
use Rattle.itf_reader.specs.RowForms as form

goes_on : (vs : List Vertex) (w r : List LogicalLine) → IsVertices vs w r → GoesOn vs
goes_on _ _ _ (no_vertex r) = form.at_end
goes_on _ _ _ (straight_vertex n fs vs w r h) = form.by_straight n fs vs (goes_on vs w r h)
goes_on _ _ _ (arc_vertex n m fs gs vs w r h) = form.by_arc n m fs gs vs (goes_on vs w r h)

stroke_form : (s : List Vertex) (w r : List LogicalLine) → IsStroke s w r → HasStrokeForm s
stroke_form _ _ _ (undefined_stroke n fs r) = form.undefined_stroke
stroke_form _ _ _ (defined_stroke n m fs gs vs w r h) =
    form.defined_stroke n fs vs (goes_on vs w _ h)

strokes_form : (ss : List (List Vertex)) (w r : List LogicalLine) → IsStrokes ss w r
    → All HasStrokeForm ss
strokes_form _ _ _ (no_stroke r) = All-nil HasStrokeForm
strokes_form _ _ _ (more_strokes s ss w u r h k) =
    All-cons HasStrokeForm s ss (stroke_form s w u h) (strokes_form ss u r k)

filled_form : (lines : ℕ) (ss : List (List Vertex)) → All HasStrokeForm ss
    → All HasStrokeForm (fill_strokes lines ss)
filled_form lines ss h =
    All-append HasStrokeForm ss (replicate (lines - length ss) []) h
    (All-replicate HasStrokeForm (lines - length ss) [] form.undefined_stroke)

filled_count : (lines : ℕ) (ss : List (List Vertex)) → length ss ≤ lines
    → length (fill_strokes lines ss) ≡ lines
filled_count lines ss h =
    let a = length-append ss (replicate (lines - length ss) []) in
    let r : length (replicate {A = List Vertex} (lines - length ss) [])
    ≡ lines - length ss = length-replicate (lines - length ss) [] in
    omega (arith, a, r, h)

-- what objects meet, the rows of a table that came meet
abbrev OfObjects : (ℕ → Row → Type 0) → Type 0
OfObjects P = (lines : ℕ) (rows : List Row) (w r : List LogicalLine) → IsObjects lines rows w r
    → All (P lines) rows

objects_counted : OfObjects IsCounted
objects_counted lines _ _ _ (no_object r) = All-nil (IsCounted lines)
objects_counted lines _ _ _ (more_objects n fs ss rows w u r h k l) =
    All-cons (IsCounted lines) (record {
      line = n;
      fields = fs;
      strokes = fill_strokes lines ss;
    }) rows (filled_count lines ss k)
    (objects_counted lines rows u r l)

objects_form : OfObjects HasForm
objects_form lines _ _ _ (no_object r) = All-nil (HasForm lines)
objects_form lines _ _ _ (more_objects n fs ss rows w u r h k l) =
    All-cons (HasForm lines) (record {
      line = n;
      fields = fs;
      strokes = fill_strokes lines ss;
    }) rows (filled_form lines ss (strokes_form ss w u h))
    (objects_form lines rows u r l)

-- the table of that number, the first of these having the number n, has rows that meet P
abbrev Fits : (ℕ → Row → Type 0) → ℕ → List Table → TableRows → Type 0
Fits P n [] earlier = Unit {0}
Fits P n (t ∷ ts) earlier =
    (earlier.table ≡ n → All (P t.lines) earlier.rows) × Fits P (n + 1) ts earlier

none_before : (P : ℕ → Row → Type 0) (n : ℕ) (ts : List Table) (earlier : TableRows)
    → earlier.table < n → Fits P n ts earlier
none_before P n [] earlier h = tt
none_before P n (t ∷ ts) earlier h =
    ((λ e. absurd (omega (arith, h, e))), none_before P (n + 1) ts earlier (omega (arith, h)))

abbrev number_in : Option (ℕ × Table) → ℕ
number_in None = 0
number_in (Some p) = p.0

abbrev table_in : Table → Option (ℕ × Table) → Table
table_in other None = other
table_in other (Some p) = p.1

abbrev found : ℕ → Table → Bool → Option (ℕ × Table) → Option (ℕ × Table)
found n t b rest = if b then Some (n, t) else rest

named_from : (n topic : ℕ) (fs : List (List ℕ)) (ts : List Table) (i : ℕ) (t : Table)
    → table_named n topic fs ts ≡ Some (i, t) → n ≤ i
named_from n topic fs [] i t h = absurd cc
named_from n topic fs (u ∷ ts) i t h =
    elim (nat_eq u.topic topic && names fs u.name) as
    (λ b. found n u b (table_named (n + 1) topic fs ts) ≡ Some (i, t) → n ≤ i) [
      | true ↦ λ e. let k : n ≡ i = ap number_in e in omega (arith, k)
      | false ↦ λ e. let k = named_from (n + 1) topic fs ts i t e in omega (arith, k)
    ] h

named_fits : (P : ℕ → Row → Type 0) (n topic : ℕ) (fs : List (List ℕ)) (ts : List Table) (i : ℕ)
    (t : Table) (rows : List Row)
    → table_named n topic fs ts ≡ Some (i, t) → All (P t.lines) rows
    → Fits P n ts (record { table = i; rows = rows })
named_fits P n topic fs [] i t rows h a = tt
named_fits P n topic fs (u ∷ ts) i t rows h a =
    elim (nat_eq u.topic topic && names fs u.name) as
    (λ b. found n u b (table_named (n + 1) topic fs ts) ≡ Some (i, t)
    → Fits P n (u ∷ ts) (record { table = i; rows = rows })) [
      | true ↦ λ e. let k : n ≡ i = ap number_in e in let q : t ≡ u = sym (ap (table_in u) e) in (
        (λ m. subst (λ (x : Table). All (P x.lines) rows) q a),
        none_before P (n + 1) ts (record { table = i; rows = rows }) (omega (arith, k)),
      )
      | false ↦ λ e. let k = named_from (n + 1) topic fs ts i t e in
          ((λ m. absurd (omega (arith, k, m))), named_fits P (n + 1) topic fs ts i t rows e a)
    ] h

tables_fit : (P : ℕ → Row → Type 0) → OfObjects P
    → (f : Form) (topic : ℕ) (earlier ts : List TableRows) (w r : List LogicalLine)
    → IsTables f topic earlier ts w r → All (Fits P 0 f.tables) ts
tables_fit P o f topic _ _ _ _ (no_table earlier r) = All-nil (Fits P 0 f.tables)
tables_fit P o f topic _ _ _ _ (more_tables earlier n m i fs gs t rows ts w u r e c h k) =
    All-cons (Fits P 0 f.tables) (record { table = i; rows = rows }) ts
    (named_fits P 0 topic fs f.tables i t rows e (o t.lines rows w _ h))
    (tables_fit P o f topic _ ts u r k)

topics_fit : (P : ℕ → Row → Type 0) → OfObjects P
    → (f : Form) (earlier ts : List TopicRows) (w r : List LogicalLine) → IsTopics f earlier ts w r
    → All (Fits P 0 f.tables) (tables_of ts)
topics_fit P o f _ _ _ _ (no_topic earlier r) = All-nil (Fits P 0 f.tables)
topics_fit P o f _ _ _ _ (more_topics earlier n m i fs gs tables ts w u r e c h k) =
    All-append (Fits P 0 f.tables) tables (tables_of ts) (tables_fit P o f i [] tables w _ h)
    (topics_fit P o f _ ts u r k)

text_fits : (P : ℕ → Row → Type 0) → OfObjects P
    → (f : Form) (ts : List TopicRows) (ls : List LogicalLine) → IsText f ts ls
    → All (Fits P 0 f.tables) (tables_of ts)
text_fits P o f _ _ (text n m i j k e fs gs hs is js ks ts w u a b h) = topics_fit P o f [] ts u _ h

rows_fit : (P : ℕ → Row → Type 0) (n : ℕ) (t : Table) (ts : List Table) (earlier : List TableRows)
    → All (Fits P n (t ∷ ts)) earlier → All (P t.lines) (rows_in n earlier)
rows_fit P n t ts [] h = All-nil (P t.lines)
rows_fit P n t ts (c ∷ earlier) h =
    elim (nat_eq c.table n) as (λ b. nat_eq c.table n ≡ b
    → All (P t.lines) (if b then c.rows else rows_in n earlier)) [
      | true ↦ λ e. (All-head (Fits P n (t ∷ ts)) c earlier h).0 (eqb-true c.table n e)
      | false ↦ λ e. rows_fit P n t ts earlier (All-tail (Fits P n (t ∷ ts)) c earlier h)
    ] refl

rest_fits : (P : ℕ → Row → Type 0) (n : ℕ) (t : Table) (ts : List Table) (earlier : List TableRows)
    → All (Fits P n (t ∷ ts)) earlier → All (Fits P (n + 1) ts) earlier
rest_fits P n t ts [] h = All-nil (Fits P (n + 1) ts)
rest_fits P n t ts (c ∷ earlier) h =
    All-cons (Fits P (n + 1) ts) c earlier (All-head (Fits P n (t ∷ ts)) c earlier h).1
    (rest_fits P n t ts earlier (All-tail (Fits P n (t ∷ ts)) c earlier h))

placed_fits : (P : ℕ → Row → Type 0) (n : ℕ) (ts : List Table) (earlier : List TableRows)
    → All (Fits P n ts) earlier → EachRow P ts (rows_from n ts earlier)
placed_fits P n [] earlier h = tt
placed_fits P n (t ∷ ts) earlier h =
    (rows_fit P n t ts earlier h, placed_fits P (n + 1) ts earlier (rest_fits P n t ts earlier h))

each_row : (P : ℕ → Row → Type 0) → OfObjects P
    → (f : Form) (ls : List LogicalLine) (transfer : List (List Row)) → TransferText f ls transfer
    → EachRow P f.tables transfer
each_row P o f ls transfer h =
    subst (λ (x : List (List Row)). EachRow P f.tables x) (sym h.2)
    (placed_fits P 0 f.tables (tables_of h.0) (text_fits P o f h.0 ls h.1))

pub rows_counted : (f : Form) (ls : List LogicalLine) (transfer : List (List Row))
    → TransferText f ls transfer → EachRow IsCounted f.tables transfer
rows_counted = each_row IsCounted objects_counted

pub rows_formed : (f : Form) (ls : List LogicalLine) (transfer : List (List Row))
    → TransferText f ls transfer → EachRow HasForm f.tables transfer
rows_formed = each_row HasForm objects_form
