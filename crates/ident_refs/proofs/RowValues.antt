-- The value at a place of a row.
use Rattle.std.proofs.Common.{◌≡◌, ℕ, zero, suc, ◌+◌, ◌-◌, ◌<◌, ◌≤◌, List, [], ◌∷◌, ◌++◌, length}
use Rattle.std.proofs.Common.{take, drop, map, replicate, slice_index_or, None, IsTrue, refl, sym}
use Rattle.std.proofs.Common.{ap, ◌∙◌, arith, rules, length-drop}
use Rattle.std.proofs.Math.ListN.{get_or-append}
use Rattle.std.proofs.lemmas.List.{drop-drop, get_or-append_right, length-take-le}
use Rattle.ili_grammar.specs.Syntax.{Codes}
use Rattle.resolver.specs.Resolved.{LineForm}
use Rattle.resolver.specs.Values.{form_of}
use Rattle.table_layout.specs.Layouts.{Role, Table}
use Rattle.itf_reader.specs.Forms.{Vertex, Row}
use Rattle.field_values.specs.Fields.{width}
use Rattle.itf_reader.specs.RowFindings.{widths, is_counted}
use Rattle.ident_refs.specs.declared.key_reader.Span.{Span as CodeSpan}
use Rattle.ident_refs.specs.ListValues.{form_value, columns_values, lines_values, row_values}
use Rattle.ident_refs.specs.Spans.{span_view, spans_from}
use Rattle.ident_refs.proofs.SpanLaws.{IsSpan, spans_count, columns_values_length}

pub counted_fields : (t : Table) (r : Row) → IsTrue (is_counted t r)
    → length r.fields ≡ 1 + widths t.columns
counted_fields t r h = search rules

pub span_within : (codes : Codes) (t : Table) (r : Row) (p : ℕ) (s : CodeSpan)
    (fields : List (List ℕ))
    → fields ≡ r.fields → IsTrue (is_counted t r) → IsSpan codes t.columns 1 p (span_view s)
    → s.end ≤ length fields
span_within codes t r p s fields e h f =
    let k = counted_fields t r h in
    let g = ap (λ (l : List (List ℕ)). length l) e in let u = f.high in omega (arith, k, g, u)

pub words_wide : (codes : Codes) (t : Table) (r : Row) (p : ℕ) (s : CodeSpan)
    (fields : List (List ℕ)) (own : List (List ℕ))
    → fields ≡ r.fields → IsTrue (is_counted t r) → IsSpan codes t.columns 1 p (span_view s)
    → own ≡ take (s.end - s.start) (drop s.start fields) → length own ≡ width (form_of s.form.now)
words_wide codes t r p s fields own e h f o =
    let u = span_within codes t r p s fields e h f in
    let v = f.wide in
    ap (λ (l : List (List ℕ)). length l) o
    ∙ length-take-le (s.end - s.start) (drop s.start fields)
    (let d = length-drop s.start fields in omega (arith, d, u)) ∙ omega (arith, v)

pub column_got : (codes : Codes) (t : Table) (r : Row) (spans : List CodeSpan) (p : ℕ)
    (s : CodeSpan) (fields own : List (List ℕ))
    → map span_view spans ≡ spans_from 1 t.columns
    → p < length spans → IsSpan codes t.columns 1 p (span_view s) → fields ≡ r.fields
    → own ≡ take (s.end - s.start) (drop s.start fields)
    → form_value codes (form_of s.form.now) own ≡ slice_index_or (row_values codes t r) p None
column_got codes t r spans p s fields own e lt f same o =
    let low = f.low in
    let wide = f.wide in
    let w : s.end - s.start ≡ width (form_of s.form.now) = omega (arith, wide) in
    let n : s.start ≡ 1 + (s.start - 1) = omega (arith, low) in
    let value = form_value codes (form_of s.form.now) in
    let below : p < length (columns_values codes t.columns (drop 1 r.fields)) =
    let a = columns_values_length codes t.columns (drop 1 r.fields) in
    let b = spans_count t.columns spans e in omega (arith, a, b, lt) in
    ap value o
    ∙ ap (λ (l : List (List ℕ)). value (take (s.end - s.start) (drop s.start l))) same
    ∙ ap (λ (m : ℕ). value (take m (drop s.start r.fields))) w
    ∙ ap (λ (l : List (List ℕ)). value (take (width (form_of s.form.now)) l))
    (ap (λ (m : ℕ). drop m r.fields) n ∙ sym (drop-drop (s.start - 1) 1 r.fields))
    ∙ sym (f.value (drop 1 r.fields))
    ∙ sym (get_or-append (columns_values codes t.columns (drop 1 r.fields))
    (lines_values t.role t.lines r.strokes) None p below)

-- lines that are left out have no value
no_value : (role : Role) (ls : List LineForm) (i : ℕ)
    → slice_index_or (lines_values role ls []) i None ≡ None
no_value role [] i = refl
no_value role (l ∷ ls) i = refl

given_value : (role : Role) (ls : List LineForm) (ss : List (List Vertex)) (m i : ℕ)
    → slice_index_or (lines_values role ls ss) i None
    ≡ slice_index_or (lines_values role ls (ss ++ replicate m [])) i None
given_value role [] ss m i = refl
given_value role (l ∷ ls) (s ∷ ss) m zero = refl
given_value role (l ∷ ls) (s ∷ ss) m (suc i) = given_value role ls ss m i
given_value role (l ∷ ls) [] zero i = refl
given_value role (l ∷ ls) [] (suc m) zero = refl
given_value role (l ∷ ls) [] (suc m) (suc i) = sym (no_value role ls i) ∙ given_value role ls [] m i

pub line_behind : (codes : Codes) (t : Table) (r : Row) (spans : List CodeSpan) (p n left_out : ℕ)
    (strokes : List (List Vertex))
    → map span_view spans ≡ spans_from 1 t.columns
    → length spans ≤ p → n ≡ length spans → strokes ++ replicate left_out [] ≡ r.strokes
    → slice_index_or (lines_values t.role t.lines strokes) (p - n) None
    ≡ slice_index_or (row_values codes t r) p None
line_behind codes t r spans p n left_out strokes e le m same =
    let a : length (columns_values codes t.columns (drop 1 r.fields))
    ≡ n = columns_values_length codes t.columns (drop 1 r.fields)
    ∙ sym (m ∙ spans_count t.columns spans e) in
    given_value t.role t.lines strokes left_out (p - n)
    ∙ ap (λ (ss : List (List Vertex)). slice_index_or (lines_values t.role t.lines ss) (p - n) None)
    same
    ∙ sym (get_or-append_right (columns_values codes t.columns (drop 1 r.fields))
    (lines_values t.role t.lines r.strokes) n p None a (omega (arith, le, m)))
