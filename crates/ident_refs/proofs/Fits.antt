-- The numbers that an IDENT list compares fit their width.
use Rattle.std.proofs.Common.{ℕ, zero, suc, ℤ, pos, true, false, cond, List, [], ◌∷◌, ◌++◌, map}
use Rattle.std.proofs.Common.{take, drop, slice_index_or, Option, Some, None, Result, Ok, Err}
use Rattle.std.proofs.Common.{is_none, arith}
use Rattle.std.specs.Bool.{⊤}
use Rattle.std.specs.Int.{w64}
use Rattle.std.specs.Int.RustNames.{FitsSigned}
use Rattle.std.proofs.lemmas.Int.{ints}
use borrow.Author.Differences.{fits_in}
use Rattle.decimals.specs.Scaled.{scaled_of}
use Rattle.decimals.specs.declared.DecimalFault.{DecimalFault}
use Rattle.decimals.specs.declared.DecimalFault.TheVariants.{NotNumber, TooLong, MoreDecimals}
use Rattle.decimals.proofs.Laws.{Reads, reads, value_is_short}
use Rattle.ili_grammar.specs.Syntax.{Codes}
use Rattle.resolver.specs.Resolved as model
use Rattle.resolver.specs.Resolved.{Limits, Form, LineForm}
use Rattle.table_layout.specs.Layouts.{Role, Column, Table}
use Rattle.field_values.specs.Fields.{axes, line_axes, field_fault, width}
use Rattle.field_values.specs.Readings.{units, value_or_zero, numbers_on, value_of}
use Rattle.itf_reader.specs.Forms.{Vertex, Row}
use Rattle.itf_reader.specs.RowFindings.{is_counted}
use Rattle.itf_reader.specs.StrokeFindings.{is_sound_stroke}
use Rattle.ident_refs.specs.ListValues.{Value, Vertices, key_value, form_value, columns_values}
use Rattle.ident_refs.specs.ListValues.{key_vertex_of, line_value, lines_values, row_values}
use Rattle.ident_refs.specs.ListValues.{and_value, values_at, ident_values}
use Rattle.ident_refs.proofs.Injective.{AreFit, AreFitCorners, IsFit, AllFit}

fit_read : (bytes : List ℕ) (scale : ℕ) (r : Result ℤ DecimalFault) → Reads bytes scale r
    → FitsSigned w64 (value_or_zero r)
fit_read bytes scale (Ok v) h =
    let b = value_is_short bytes scale v h in fits_in w64 v (omega (arith, ints, b))
fit_read bytes scale (Err NotNumber) h = fits_in w64 (pos 0) (omega (arith, ints))
fit_read bytes scale (Err TooLong) h = fits_in w64 (pos 0) (omega (arith, ints))
fit_read bytes scale (Err MoreDecimals) h = fits_in w64 (pos 0) (omega (arith, ints))

units_fit : (limits : Limits) (word : List ℕ) → FitsSigned w64 (units limits word)
units_fit limits word =
    fit_read word limits.scale (scaled_of word limits.scale) (reads word limits.scale)

numbers_fit : (ls : List Limits) (ws : List (List ℕ)) → AreFit (numbers_on ls ws)
numbers_fit [] ws = tt
numbers_fit (l ∷ ls) [] = tt
numbers_fit (l ∷ ls) (w ∷ ws) = (units_fit l w, numbers_fit ls ws)

value_fit : (form : Form) (words : List (List ℕ)) → IsFit (key_value (value_of form words))
value_fit (model.Text n) words = tt
value_fit model.Date words = tt
value_fit (model.Enumeration n) words = tt
value_fit model.HAlignment words = tt
value_fit model.VAlignment words = tt
value_fit (model.Reference k) words = tt
value_fit (model.Range l) words = numbers_fit (axes (model.Range l)) words
value_fit (model.Dim1 l) words = numbers_fit (axes (model.Dim1 l)) words
value_fit (model.Dim2 l) words = numbers_fit (axes (model.Dim2 l)) words
value_fit (model.Radians l) words = numbers_fit (axes (model.Radians l)) words
value_fit (model.Grads l) words = numbers_fit (axes (model.Grads l)) words
value_fit (model.Degrees l) words = numbers_fit (axes (model.Degrees l)) words
value_fit (model.Coord2 w) words = numbers_fit (axes (model.Coord2 w)) words
value_fit (model.AreaPoint w) words = numbers_fit (axes (model.AreaPoint w)) words
value_fit (model.Coord3 b) words = numbers_fit (axes (model.Coord3 b)) words

-- ---- the values of a row
abbrev pub FitsIfAny : Option Value → Type 0
FitsIfAny None = ⊤
FitsIfAny (Some v) = IsFit v

abbrev FitIfAny : List (Option Value) → Type 0
FitIfAny [] = ⊤
FitIfAny (o ∷ os) = FitsIfAny o × FitIfAny os

abbrev pub FitsList : Option (List Value) → Type 0
FitsList None = ⊤
FitsList (Some vs) = AllFit vs

form_fit : (codes : Codes) (form : Form) (words : List (List ℕ))
    → FitsIfAny (form_value codes form words)
form_fit codes form words =
    elim (is_none (field_fault form codes words)) as
    (λ b. FitsIfAny (cond b (Some (key_value (value_of form words))) None))
    [ true ↦ value_fit form words | false ↦ tt ]

columns_fit : (codes : Codes) (cs : List Column) (words : List (List ℕ))
    → FitIfAny (columns_values codes cs words)
columns_fit codes [] words = tt
columns_fit codes (c ∷ cs) words = (
  form_fit codes c.form (take (width c.form) words),
  columns_fit codes cs (drop (width c.form) words),
)

corners_fit : (l : LineForm) (vs : List Vertex) → AreFitCorners (map (key_vertex_of l) vs)
corners_fit l [] = tt
corners_fit l (v ∷ vs) = (numbers_fit (line_axes l) v.fields, corners_fit l vs)

line_fit : (role : Role) (l : LineForm) (vs : List Vertex) → FitsIfAny (line_value role l vs)
line_fit role l [] = tt
line_fit role l (v ∷ vs) =
    elim (is_sound_stroke role l (v ∷ vs)) as
    (λ b. FitsIfAny (cond b (Some (Vertices (map (key_vertex_of l) (v ∷ vs)))) None))
    [ true ↦ corners_fit l (v ∷ vs) | false ↦ tt ]

lines_fit : (role : Role) (ls : List LineForm) (ss : List (List Vertex))
    → FitIfAny (lines_values role ls ss)
lines_fit role [] ss = tt
lines_fit role (l ∷ ls) [] = tt
lines_fit role (l ∷ ls) (s ∷ ss) = (line_fit role l s, lines_fit role ls ss)

both_fit : (os ps : List (Option Value)) → FitIfAny os → FitIfAny ps → FitIfAny (os ++ ps)
both_fit [] ps f g = g
both_fit (o ∷ os) ps f g = (f.0, both_fit os ps f.1 g)

fit_at : (os : List (Option Value)) (p : ℕ) → FitIfAny os → FitsIfAny (slice_index_or os p None)
fit_at [] p f = tt
fit_at (o ∷ os) zero f = f.0
fit_at (o ∷ os) (suc p) f = fit_at os p f.1

and_fit : (o : Option Value) (vs : Option (List Value)) → FitsIfAny o → FitsList vs
    → FitsList (and_value o vs)
and_fit None vs f g = tt
and_fit (Some v) None f g = tt
and_fit (Some v) (Some vs) f g = (f, g)

values_fit : (os : List (Option Value)) (ps : List ℕ) → FitIfAny os → FitsList (values_at os ps)
values_fit os [] f = tt
values_fit os (p ∷ ps) f =
    and_fit (slice_index_or os p None) (values_at os ps) (fit_at os p f) (values_fit os ps f)

pub demand_fit : (codes : Codes) (t : Table) (list : List ℕ) (r : Row)
    → FitsList (ident_values codes t list r)
demand_fit codes t list r =
    elim (is_counted t r) as (λ b. FitsList (cond b (values_at (row_values codes t r) list) None)) [
      | true ↦ values_fit (row_values codes t r) list
          (both_fit _ _ (columns_fit codes t.columns (drop 1 r.fields))
          (lines_fit t.role t.lines r.strokes))
      | false ↦ tt
    ]
