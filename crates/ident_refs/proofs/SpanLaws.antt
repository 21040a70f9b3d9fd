-- The words at the spans of columns.
use Rattle.std.proofs.Common.{◌≡◌, ℕ, zero, suc, ◌+◌, ◌-◌, ◌<◌, ◌≤◌, List, [], ◌∷◌, ◌++◌, length}
use Rattle.std.proofs.Common.{take, drop, map, get_or, slice_get, slice_index_or, Option, Some}
use Rattle.std.proofs.Common.{None, refl, sym, ap, subst, ◌∙◌, arith, append_assoc}
use Rattle.std.specs.Bool.{⊤}
use Rattle.std.proofs.lemmas.List.{drop-drop, length-map}
use Rattle.ili_grammar.specs.Syntax.{Codes}
use Rattle.resolver.specs.Resolved as model
use Rattle.resolver.specs.Resolved.{Form}
use Rattle.resolver.specs.Values.{form_of}
use Rattle.table_layout.specs.declared.layouts.Column.{Column as CodeColumn}
use Rattle.table_layout.specs.Layouts.{Column}
use Rattle.table_layout.specs.Values.{column_view, columns_view}
use Rattle.field_values.specs.Fields.{width}
use Rattle.itf_reader.specs.RowFindings.{widths}
use Rattle.ident_refs.specs.ListValues.{form_value, columns_values}
use Rattle.ident_refs.specs.declared.key_reader.Span.{Span as CodeSpan}
use Rattle.ident_refs.specs.Spans.{Span, span_view, spans_from}
use Rattle.ident_refs.proofs.Splits.{split}

-- a span at a place among columns, the first of which begins at n
pub record IsSpan (codes : Codes) (cs : List Column) (n p : ℕ) (s : Span) : Type 0 where
  pub low : n ≤ s.start
  pub wide : s.end ≡ s.start + width s.form
  pub high : s.end ≤ n + widths cs
  pub value : (words : List (List ℕ))
      → slice_index_or (columns_values codes cs words) p None
      ≡ form_value codes s.form (take (width s.form) (drop (s.start - n) words))

abbrev pub Spanned : Codes → List Column → ℕ → ℕ → Option Span → Type 0
Spanned codes cs n p None = ⊤
Spanned codes cs n p (Some s) = IsSpan codes cs n p s

drop_more : {X : Type 0} (a b n : ℕ) (l : List X) → n ≡ b + a → drop a (drop b l) ≡ drop n l
drop_more a b n l e = drop-drop a b l ∙ ap (λ (m : ℕ). drop m l) (sym e)

under : (codes : Codes) (c : Column) (cs : List Column) (n p : ℕ) (o : Option Span)
    → Spanned codes cs (n + width c.form) p o → Spanned codes (c ∷ cs) n (suc p) o
under codes c cs n p None h = tt
under codes c cs n p (Some s) h = record {
  low = let l = h.low in omega (arith, l);
  wide = h.wide;
  high = let l = h.high in omega (arith, l);
  value = λ words. h.value (drop (width c.form) words)
      ∙ ap (λ (ws : List (List ℕ)). form_value codes s.form (take (width s.form) ws))
      (drop_more (s.start - (n + width c.form)) (width c.form) (s.start - n) words
      (let l = h.low in omega (arith, l)));
}

pub spanned : (codes : Codes) (n : ℕ) (cs : List Column) (p : ℕ)
    → Spanned codes cs n p (slice_get (spans_from n cs) p)
spanned codes n [] p = tt
spanned codes n (c ∷ cs) zero = record {
  low = omega arith;
  wide = refl;
  high = omega arith;
  value = λ words. let e : 0 ≡ n - n = omega arith in
      ap (λ (d : ℕ). form_value codes c.form (take (width c.form) (drop d words))) e;
}
spanned codes n (c ∷ cs) (suc p) =
    under codes c cs n p (slice_get (spans_from (n + width c.form) cs) p)
    (spanned codes (n + width c.form) cs p)

pub columns_values_length : (codes : Codes) (cs : List Column) (words : List (List ℕ))
    → length (columns_values codes cs words) ≡ length cs
columns_values_length codes [] words = refl
columns_values_length codes (c ∷ cs) words =
    ap suc (columns_values_length codes cs (drop (width c.form) words))

pub spans_length : (n : ℕ) (cs : List Column) → length (spans_from n cs) ≡ length cs
spans_length n [] = refl
spans_length n (c ∷ cs) = ap suc (spans_length (n + width c.form) cs)

pub got_mapped : {X Y : Type 0} (f : X → Y) (xs : List X) (p : ℕ) (x : X) → p < length xs
    → x ≡ get_or xs p x → slice_get (map f xs) p ≡ Some (f x)
got_mapped f [] p x lt at = absurd (omega arith)
got_mapped f (y ∷ xs) zero x lt at = ap (λ z. Some (f z)) (sym at)
got_mapped f (y ∷ xs) (suc p) x lt at = got_mapped f xs p x (omega arith) at

-- ---- how spans are made
pub width_most : (f : Form) → width f ≤ 3
width_most (model.Coord2 w) = omega arith
width_most (model.AreaPoint w) = omega arith
width_most (model.Coord3 b) = omega arith
width_most (model.Range l) = omega arith
width_most (model.Dim1 l) = omega arith
width_most (model.Dim2 l) = omega arith
width_most (model.Radians l) = omega arith
width_most (model.Grads l) = omega arith
width_most (model.Degrees l) = omega arith
width_most (model.Text n) = omega arith
width_most model.Date = omega arith
width_most (model.Enumeration n) = omega arith
width_most model.HAlignment = omega arith
width_most model.VAlignment = omega arith
width_most (model.Reference k) = omega arith

pub spans_step : (i : ℕ) (columns : List CodeColumn) (c : CodeColumn) (start w : ℕ)
    (spans new all : List Span)
    → i < length columns → c ≡ get_or columns i c → w ≡ width (form_of c.form)
    → new ≡ spans ++ record { form = form_of c.form; start = start; end = start + w } ∷ []
    → spans ++ spans_from start (drop i (columns_view columns)) ≡ all
    → new ++ spans_from (start + w) (drop (i + 1) (columns_view columns)) ≡ all
spans_step i columns c start w spans new all lt at v n inv =
    let s = split column_view i columns c lt at in
    let rest = drop (i + 1) (columns_view columns) in
    ap (λ (l : List Span). l ++ spans_from (start + w) rest) n
    ∙ append_assoc spans _ _
    ∙ ap (λ (u : ℕ). spans ++ record {
      form = form_of c.form;
      start = start;
      end = start + u;
    } ∷ spans_from (start + u) rest) v
    ∙ ap (λ (cs : List Column). spans ++ spans_from start cs) (sym s.0) ∙ inv

pub widths_step : (i : ℕ) (columns : List CodeColumn) (c : CodeColumn) (start w all : ℕ)
    → i < length columns → c ≡ get_or columns i c → w ≡ width (form_of c.form)
    → start + widths (drop i (columns_view columns)) ≡ all
    → (start + w) + widths (drop (i + 1) (columns_view columns)) ≡ all
widths_step i columns c start w all lt at v inv =
    let s = ap widths (split column_view i columns c lt at).0 in
    omega (arith, s, v, inv)

-- ---- values at places
-- the span of the code at a place
pub span_here : (codes : Codes) (columns : List Column) (spans : List CodeSpan) (p : ℕ)
    (s : CodeSpan)
    → map span_view spans ≡ spans_from 1 columns
    → p < length spans → s ≡ get_or spans p s → IsSpan codes columns 1 p (span_view s)
span_here codes columns spans p s e lt at =
    let got : slice_get (spans_from 1 columns) p
    ≡ Some (span_view s) = ap (λ (l : List Span). slice_get l p) (sym e)
    ∙ got_mapped span_view spans p s lt at in
    subst (Spanned codes columns 1 p) got (spanned codes 1 columns p)

pub spans_count : (columns : List Column) (spans : List CodeSpan)
    → map span_view spans ≡ spans_from 1 columns → length spans ≡ length columns
spans_count columns spans e = sym (length-map spans span_view) ∙ ap (λ (l : List Span). length l) e
    ∙ spans_length 1 columns
