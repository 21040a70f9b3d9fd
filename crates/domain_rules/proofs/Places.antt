-- The places of values that are not at fault.
use Rattle.std.proofs.Common.{◌≡◌, ◌⊎◌, inl, inr, ◌≤ℤ◌, ℕ, ℤ, ◌+◌, ◌<◌, Bool, true, false, cond}
use Rattle.std.proofs.Common.{not, ◌&&◌, ◌||◌, ◌==◌, List, [], ◌∷◌, ◌++◌, length, take, drop, map}
use Rattle.std.proofs.Common.{Option, Some, None, Result, Ok, Err, refl, sym, ap, ◌∙◌, arith}
use Rattle.std.specs.Prelude.{int_lt, is_none}
use Rattle.std.specs.Option.{option_map, option_to_list}
use Rattle.std.specs.List.{list_any, list_all, flat_map}
use Rattle.std.proofs.lemmas.Bool.Decides.{nat_tests}
use Rattle.std.proofs.lemmas.List.{length-take, length-drop}
use Rattle.std.proofs.lemmas.Int.{ints}
use Rattle.decimals.specs.Scaled.{scaled_of}
use Rattle.decimals.specs.declared.DecimalFault.{DecimalFault}
use Rattle.decimals.specs.declared.DecimalFault.TheVariants.{NotNumber, TooLong, MoreDecimals}
use Rattle.ili_grammar.specs.Syntax.{Codes}
use Rattle.resolver.specs.Resolved as model
use Rattle.resolver.specs.Resolved.{Limits, Form, LineForm, Window}
use Rattle.table_layout.specs.Layouts.{Role, Column, Table, Layout}
use Rattle.field_values.specs.declared.value.ValueFault.{ValueFault}
use Rattle.field_values.specs.declared.value.ValueFault.TheVariants.{Range}
use Rattle.field_values.specs.Fields.{bounds_fault, number_fault, numbers_fault, first_fault}
use Rattle.field_values.specs.Fields.{field_fault, value_fault, count_fault, axes_fault}
use Rattle.field_values.specs.Fields.{vertex_fault, line_axes, is_undefined, width}
use Rattle.field_values.specs.Places.{Place, place_named, is_same_place, is_no_arc, are_collinear}
use Rattle.field_values.specs.Places.{is_between}
use Rattle.field_values.specs.Readings.{units, value_or_zero}
use Rattle.itf_reader.specs.declared.findings.Code.{Code}
use Rattle.itf_reader.specs.Findings.{Finding, put_in, sorted, is_before, in_order}
use Rattle.itf_reader.specs.Forms.{Vertex, Row}
use Rattle.itf_reader.specs.RowFindings.{column_code, widths, is_counted, columns_findings}
use Rattle.itf_reader.specs.RowFindings.{line_findings, lines_findings, row_findings}
use Rattle.itf_reader.specs.StrokeFindings.{Seen, finding_at, code_if, code_of, first_code}
use Rattle.itf_reader.specs.StrokeFindings.{is_on_arc, vertex_code, vertex_finding, is_clean}
use Rattle.itf_reader.specs.StrokeFindings.{are_clean, all_seen, is_bad_arc, arc_findings}
use Rattle.itf_reader.specs.StrokeFindings.{short_finding, stroke_findings, place_of}
use Rattle.domain_rules.specs.CleanPlaces.{IsInside, HasPoint, HavePoints, IsSoundVertex}
use Rattle.domain_rules.specs.CleanPlaces.{AreSoundVertices, IsArc, AreArcs, AreLines, HasPlaces}
use Rattle.domain_rules.specs.CleanPlaces.{RowsHavePlaces, HavePlaces}
use Rattle.domain_rules.specs.ValueFindings.{table_findings, tables_findings, value_findings}

-- ---- lists that are empty
pub empty_both : {X : Type 0} (xs ys : List X) → xs ++ ys ≡ [] → (xs ≡ []) × (ys ≡ [])
empty_both [] ys h = (refl, h)
empty_both (x ∷ xs) ys h = cc

put_in_some : {P : Type 0} (lt : Finding → Finding → Bool) (x : Finding) (ys : List Finding)
    → put_in lt x ys ≡ [] → P
put_in_some lt x [] h = cc
put_in_some lt x (y ∷ ys) h = by (lt y x) h
  where
    by : {P : Type 0} (b : Bool) → cond b (y ∷ put_in lt x ys) (x ∷ y ∷ ys) ≡ [] → P
    by true h = cc
    by false h = cc

pub unsorted : (lt : Finding → Finding → Bool) (xs : List Finding) → sorted lt xs ≡ [] → xs ≡ []
unsorted lt [] h = refl
unsorted lt (x ∷ xs) h = put_in_some lt x (sorted lt xs) h

-- ---- numbers
not_below : (a b : ℤ) → int_lt a b ≡ false → b ≤ℤ a
not_below a b e = grind (arith, ints, e)

neither : (a b : Bool) → cond (a || b) (Some Range) None ≡ None → (a ≡ false) × (b ≡ false)
neither true b h = cc
neither false true h = cc
neither false false h = (refl, refl)

bounded : (l : Limits) (r : Result ℤ DecimalFault) → bounds_fault l r ≡ None
    → (l.low ≤ℤ value_or_zero r) × (value_or_zero r ≤ℤ l.high)
bounded l (Ok v) h =
    let i = neither (int_lt v l.low) (int_lt l.high v) h in
    (not_below v l.low i.0, not_below l.high v i.1)
bounded l (Err NotNumber) h = cc
bounded l (Err TooLong) h = cc
bounded l (Err MoreDecimals) h = cc

first_none : (a b : Option ValueFault) → first_fault a b ≡ None → (a ≡ None) × (b ≡ None)
first_none None b h = (refl, h)
first_none (Some f) b h = cc

inside : (w : Window) (x y : List ℕ) (more : List Limits) (fields : List (List ℕ))
    → numbers_fault (w.x ∷ w.y ∷ more) (x ∷ y ∷ fields) ≡ None
    → IsInside w (place_named w (x ∷ y ∷ fields))
inside w x y more fields h =
    let a = first_none (number_fault w.x x) _ h in
    let b = first_none (number_fault w.y y) _ a.1 in
    let p = bounded w.x (scaled_of x w.x.scale) a.0 in
    let q = bounded w.y (scaled_of y w.y.scale) b.0 in
    record { west = p.0; east = p.1; south = q.0; north = q.1 }

-- ---- points
told_none : (line column : ℕ) (o : Option Code) → finding_at line column o ≡ [] → o ≡ None
told_none line column None h = refl
told_none line column (Some c) h = cc

code_none : (o : Option ValueFault) → option_map code_of o ≡ None → o ≡ None
code_none None h = refl
code_none (Some f) h = cc

either_none : (b : Bool) (o : Option ValueFault) → cond b None (option_map code_of o) ≡ None
    → (b ≡ true) ⊎ (o ≡ None)
either_none true o h = inl refl
either_none false o h = inr (code_none o h)

defined : (b : Bool) (f : ValueFault) (o : Option ValueFault) → cond b (Some f) o ≡ None → o ≡ None
defined true f o h = cc
defined false f o h = h

point_in : (codes : Codes) (w : Window) (words : List (List ℕ)) → length words ≡ 2
    → field_fault (model.AreaPoint w) codes words ≡ None → IsInside w (place_named w words)
point_in codes w [] n h = absurd (omega (arith, n))
point_in codes w (x ∷ []) n h = absurd (omega (arith, n))
point_in codes w (x ∷ y ∷ ws) n h =
    inside w x y [] ws
    (defined (list_any (is_undefined codes) (x ∷ y ∷ ws)) _
    (value_fault (model.AreaPoint w) (x ∷ y ∷ ws)) h)

point : (codes : Codes) (optional : Bool) (form : Form) (words : List (List ℕ))
    → length words ≡ width form
    → ((optional && list_all (is_undefined codes) words) ≡ true)
    ⊎ (field_fault form codes words ≡ None)
    → HasPoint codes optional form words
point codes optional (model.AreaPoint w) words n h =
    elim h as (λ s. ((optional && list_all (is_undefined codes) words) ≡ true)
    ⊎ IsInside w (place_named w words)) [
      | inl u ↦ inl u
      | inr f ↦ inr (point_in codes w words n f)
    ]
point codes optional (model.Range l) words n h = tt
point codes optional (model.Dim1 l) words n h = tt
point codes optional (model.Dim2 l) words n h = tt
point codes optional (model.Radians l) words n h = tt
point codes optional (model.Grads l) words n h = tt
point codes optional (model.Degrees l) words n h = tt
point codes optional (model.Coord2 w) words n h = tt
point codes optional (model.Coord3 b) words n h = tt
point codes optional (model.Text k) words n h = tt
point codes optional model.Date words n h = tt
point codes optional (model.Enumeration k) words n h = tt
point codes optional model.HAlignment words n h = tt
point codes optional model.VAlignment words n h = tt
point codes optional (model.Reference k) words n h = tt

taken : {X : Type 0} (n m : ℕ) (xs : List X) → length xs ≡ n + m → length (take n xs) ≡ n
taken n m xs h = omega (arith, h, length-take n xs)

left : {X : Type 0} (n m : ℕ) (xs : List X) → length xs ≡ n + m → length (drop n xs) ≡ m
left n m xs h = omega (arith, h, length-drop n xs)

points : (codes : Codes) (line number : ℕ) (cs : List Column) (words : List (List ℕ))
    → length words ≡ widths cs → columns_findings codes line number cs words ≡ []
    → HavePoints codes cs words
points codes line number [] words n h = tt
points codes line number (c ∷ cs) words n h =
    let e = empty_both (finding_at line number (column_code codes c (take (width c.form) words)))
    (columns_findings codes line (number + 1) cs (drop (width c.form) words)) h in
    let own = take (width c.form) words in (
      point codes c.optional c.form own (taken (width c.form) (widths cs) words n)
          (either_none (c.optional && list_all (is_undefined codes) own)
          (field_fault c.form codes own) (told_none line number (column_code codes c own) e.0)),
      points codes line (number + 1) cs (drop (width c.form) words)
          (left (width c.form) (widths cs) words n) e.1,
    )

-- ---- lines
first_code_none : (a b : Option Code) → first_code a b ≡ None → a ≡ None
first_code_none None b h = refl
first_code_none (Some c) b h = cc

vertex_in : (l : LineForm) (v : Vertex) → vertex_code l v ≡ None → IsSoundVertex l v
vertex_in l v h =
    let f = code_none (vertex_fault l v.fields)
    (first_code_none (option_map code_of (vertex_fault l v.fields)) _ h) in
    record { sound = f; inside = by v.fields f }
  where
    by : (fields : List (List ℕ)) → vertex_fault l fields ≡ None
        → IsInside l.window (place_named l.window fields)
    by [] f = absurd (let g : count_fault (line_axes l) []
        ≡ None = (first_none (numbers_fault (line_axes l) []) (count_fault (line_axes l) []) f).1 in
        cc)
    by (x ∷ []) f =
        absurd (let g : count_fault (line_axes l) (x ∷ [])
        ≡ None = (first_none (numbers_fault (line_axes l) (x ∷ []))
        (count_fault (line_axes l) (x ∷ [])) f).1 in cc)
    by (x ∷ y ∷ ws) f =
        inside l.window x y (option_to_list l.height) ws
        (first_none (numbers_fault (line_axes l) (x ∷ y ∷ ws))
        (count_fault (line_axes l) (x ∷ y ∷ ws)) f).0

vertices_in : (l : LineForm) (column : ℕ) (vs : List Vertex)
    → flat_map (vertex_finding l column) vs ≡ [] → AreSoundVertices l vs
vertices_in l column [] h = tt
vertices_in l column (v ∷ vs) h =
    let e = empty_both (vertex_finding l column v) (flat_map (vertex_finding l column) vs) h in
    (vertex_in l v (told_none v.line column (vertex_code l v) e.0), vertices_in l column vs e.1)

both_true : (a b : Bool) → (a && b) ≡ true → (a ≡ true) × (b ≡ true)
both_true true b h = (refl, h)
both_true false b h = cc

none_by : (o : Option Code) → is_none o ≡ true → o ≡ None
none_by None h = refl
none_by (Some c) h = cc

clean_in : (l : LineForm) (vs : List Vertex) → are_clean l vs ≡ true → AreSoundVertices l vs
clean_in l [] h = tt
clean_in l (v ∷ vs) h =
    let b = both_true (is_clean l v) (are_clean l vs) h in
    (vertex_in l v (none_by (vertex_code l v) b.0), clean_in l vs b.1)

unless_told : (b : Bool) (c : Code) → code_if b c ≡ None → b ≡ false
unless_told true c h = cc
unless_told false c h = refl

no_bad : (a b : Bool) → (a && b) ≡ false → a ≡ true → b ≡ false
no_bad true b h k = h
no_bad false b h k = cc

an_arc : (s m e : Place) (a c b : Bool) → is_same_place s e ≡ a → are_collinear s m e ≡ c
    → (is_between s.x e.x m.x && is_between s.y e.y m.y) ≡ b → (a || (c && not b)) ≡ false
    → IsArc s m e
an_arc s m e true c b p q r h = cc
an_arc s m e false true false p q r h = cc
an_arc s m e false true true p q r h = record { ends = p; middle = λ k. r }
an_arc s m e false false b p q r h =
    record { ends = p; middle = λ k. not_both (are_collinear s m e) k q }
  where
    not_both : {P : Type 0} (x : Bool) → x ≡ true → x ≡ false → P
    not_both true t f = cc
    not_both false t f = cc

arcs_in : (column : ℕ) (vs : List Seen) → arc_findings column vs ≡ [] → AreArcs vs
arcs_in column [] h = tt
arcs_in column (s ∷ []) h = tt
arcs_in column (s ∷ m ∷ []) h = tt
arcs_in column (s ∷ m ∷ e ∷ vs) h =
    let p = empty_both (finding_at e.line column (code_if (is_bad_arc s m e) _))
    (arc_findings column (m ∷ e ∷ vs)) h in
    let b = unless_told (is_bad_arc s m e) _
    (told_none e.line column (code_if (is_bad_arc s m e) _) p.0) in (
      λ k. an_arc s.at m.at e.at _ _ _ refl refl refl
          (no_bad (is_on_arc m.kind) (is_no_arc s.at m.at e.at) b k),
      arcs_in column (m ∷ e ∷ vs) p.1,
    )

-- where no vertex is reported, all are clean
silent : (l : LineForm) (column : ℕ) (vs : List Vertex) → flat_map (vertex_finding l column) vs ≡ []
    → are_clean l vs ≡ true
silent l column [] h = refl
silent l column (v ∷ vs) h =
    let e = empty_both (vertex_finding l column v) (flat_map (vertex_finding l column) vs) h in
    rw (told_none v.line column (vertex_code l v) e.0) (silent l column vs e.1)

if_true : {X : Type 0} (b : Bool) (x y : X) → b ≡ true → cond b x y ≡ x
if_true true x y h = refl
if_true false x y h = cc

if_false : {X : Type 0} (b : Bool) (x y : X) → b ≡ false → cond b x y ≡ y
if_false true x y h = cc
if_false false x y h = refl

stroke_clean : (role : Role) (l : LineForm) (column : ℕ) (vs : List Vertex) (b : Bool)
    → are_clean l vs ≡ b → stroke_findings role l column vs ≡ [] → are_clean l vs ≡ true
stroke_clean role l column vs true e h = e
stroke_clean role l column vs false e h =
    silent l column vs
    (sym (if_false (are_clean l vs) (short_finding role column (all_seen l vs)
    ++ arc_findings column (all_seen l vs)) (flat_map (vertex_finding l column) vs) e) ∙ h)

stroke_in : (role : Role) (l : LineForm) (column : ℕ) (vs : List Vertex)
    → stroke_findings role l column vs ≡ [] → AreSoundVertices l vs × AreArcs (all_seen l vs)
stroke_in role l column vs h =
    let c = stroke_clean role l column vs (are_clean l vs) refl h in
    let f = sym (if_true (are_clean l vs)
    (short_finding role column (all_seen l vs) ++ arc_findings column (all_seen l vs))
    (flat_map (vertex_finding l column) vs) c) ∙ h in (
      clean_in l vs c,
      arcs_in column (all_seen l vs)
          (empty_both (short_finding role column (all_seen l vs))
          (arc_findings column (all_seen l vs)) f).1,
    )

line_in : (role : Role) (line column : ℕ) (l : LineForm) (vs : List Vertex)
    → line_findings role line column l vs ≡ [] → AreSoundVertices l vs × AreArcs (all_seen l vs)
line_in role line column l [] h = (tt, tt)
line_in role line column l (v ∷ vs) h = stroke_in role l column (v ∷ vs) h

lines_in : (role : Role) (line column : ℕ) (ls : List LineForm) (ss : List (List Vertex))
    → lines_findings role line column ls ss ≡ [] → AreLines ls ss
lines_in role line column [] ss h = tt
lines_in role line column (l ∷ ls) [] h = tt
lines_in role line column (l ∷ ls) (s ∷ ss) h =
    let e = empty_both (line_findings role line column l s)
    (lines_findings role line (column + 1) ls ss) h in
    (line_in role line column l s e.0, lines_in role line (column + 1) ls ss e.1)

-- ---- rows and tables
same_count : (n m : ℕ) → (n == m) ≡ true → n ≡ m
same_count n m h = grind (arith, nat_tests)

counted_by : (b : Bool) (xs : List Finding) (f : Finding) → cond b xs (f ∷ []) ≡ []
    → (b ≡ true) × (xs ≡ [])
counted_by true xs f h = (refl, h)
counted_by false xs f h = cc

words_left : (n : ℕ) (fields : List (List ℕ)) → length fields ≡ 1 + n → length (drop 1 fields) ≡ n
words_left n [] h = absurd (omega (arith, h))
words_left n (w ∷ ws) h = omega (arith, h)

row_in : (codes : Codes) (t : Table) (r : Row) → row_findings codes t r ≡ [] → HasPlaces codes t r
row_in codes t r h =
    let c = counted_by (is_counted t r)
    (columns_findings codes r.line 1 t.columns (drop 1 r.fields)
    ++ lines_findings t.role r.line (1 + length t.columns) t.lines r.strokes) _ h in
    let e = empty_both (columns_findings codes r.line 1 t.columns (drop 1 r.fields))
    (lines_findings t.role r.line (1 + length t.columns) t.lines r.strokes) c.1 in
    record {
      counted = c.0;
      points = points codes r.line 1 t.columns (drop 1 r.fields)
          (words_left (widths t.columns) r.fields
          (same_count (length r.fields) (1 + widths t.columns) c.0)) e.0;
      lines = lines_in t.role r.line (1 + length t.columns) t.lines r.strokes e.1;
    }

rows_in : (codes : Codes) (t : Table) (rows : List Row) → table_findings codes t rows ≡ []
    → RowsHavePlaces codes t rows
rows_in codes t [] h = tt
rows_in codes t (r ∷ rows) h =
    let e = empty_both (row_findings codes t r) (table_findings codes t rows) h in
    (row_in codes t r e.0, rows_in codes t rows e.1)

tables_in : (codes : Codes) (ts : List Table) (transfer : List (List Row))
    → tables_findings codes ts transfer ≡ [] → HavePlaces codes ts transfer
tables_in codes [] transfer h = tt
tables_in codes (t ∷ ts) [] h = tt
tables_in codes (t ∷ ts) (rows ∷ transfer) h =
    let e = empty_both (table_findings codes t rows) (tables_findings codes ts transfer) h in
    (rows_in codes t rows e.0, tables_in codes ts transfer e.1)

pub have_places : (l : Layout) (transfer : List (List Row)) → value_findings l transfer ≡ []
    → HavePlaces l.codes l.tables transfer
have_places l transfer h =
    tables_in l.codes l.tables transfer
    (unsorted is_before (tables_findings l.codes l.tables transfer) h)
