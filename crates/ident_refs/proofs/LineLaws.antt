-- The values of lines at a number.
use Rattle.std.proofs.Common.{◌≡◌, ℕ, zero, suc, ◌<◌, ◌≤◌, List, [], ◌∷◌, length, map, get_or}
use Rattle.std.proofs.Common.{slice_index_or, None, refl, sym, ap, ◌∙◌, arith}
use Rattle.resolver.specs.declared.models.LineForm.{LineForm as CodeForm}
use Rattle.resolver.specs.Values.{line_of}
use Rattle.table_layout.specs.Layouts.{Role}
use Rattle.itf_reader.specs.declared.transfer.Stroke.{Stroke as CodeStroke}
use Rattle.itf_reader.specs.Views.{stroke_of, strokes_of}
use Rattle.ident_refs.specs.ListValues.{line_value, lines_values}

got_here : (role : Role) (ls : List CodeForm) (ss : List CodeStroke) (i : ℕ) (l : CodeForm)
    (s : CodeStroke)
    → i < length ls → l ≡ get_or ls i l → i < length ss → s ≡ get_or ss i s
    → slice_index_or (lines_values role (map line_of ls) (strokes_of ss)) i None
    ≡ line_value role (line_of l) (stroke_of s)
got_here role [] ss i l s lt at ls_ as_ = absurd (omega arith)
got_here role (y ∷ ls) [] i l s lt at lt2 at2 = absurd (omega arith)
got_here role (y ∷ ls) (z ∷ ss) zero l s lt at lt2 at2 =
    ap (λ (x : CodeForm). line_value role (line_of x) (stroke_of z)) (sym at)
    ∙ ap (λ (x : CodeStroke). line_value role (line_of l) (stroke_of x)) (sym at2)
got_here role (y ∷ ls) (z ∷ ss) (suc i) l s lt at lt2 at2 =
    got_here role ls ss i l s (omega arith) at (omega arith) at2

none_here : (role : Role) (ls : List CodeForm) (ss : List CodeStroke) (i : ℕ) → length ls ≤ i
    → slice_index_or (lines_values role (map line_of ls) (strokes_of ss)) i None ≡ None
none_here role [] ss i le = refl
none_here role (y ∷ ls) [] i le = refl
none_here role (y ∷ ls) (z ∷ ss) zero le = absurd (omega arith)
none_here role (y ∷ ls) (z ∷ ss) (suc i) le = none_here role ls ss i (omega arith)

-- the forms as they were lent
pub line_got : (role : Role) (ls lent : List CodeForm) (ss : List CodeStroke) (i : ℕ) (l : CodeForm)
    (s : CodeStroke)
    → lent ≡ ls → i < length lent → l ≡ get_or lent i l → i < length ss → s ≡ get_or ss i s
    → slice_index_or (lines_values role (map line_of ls) (strokes_of ss)) i None
    ≡ line_value role (line_of l) (stroke_of s)
line_got role ls lent ss i l s e lt at lt2 at2 =
    let n = ap (λ (x : List CodeForm). length x) e in
    got_here role ls ss i l s (omega (arith, n, lt)) (at
    ∙ ap (λ (x : List CodeForm). get_or x i l) e) lt2 at2

pub no_form : (role : Role) (ls lent : List CodeForm) (ss : List CodeStroke) (i : ℕ) → lent ≡ ls
    → length lent ≤ i
    → slice_index_or (lines_values role (map line_of ls) (strokes_of ss)) i None ≡ None
no_form role ls lent ss i e le =
    let n = ap (λ (x : List CodeForm). length x) e in none_here role ls ss i (omega (arith, n, le))

pub no_stroke : (role : Role) (ls : List CodeForm) (ss : List CodeStroke) (i : ℕ) → length ss ≤ i
    → slice_index_or (lines_values role (map line_of ls) (strokes_of ss)) i None ≡ None
no_stroke role [] ss i le = refl
no_stroke role (y ∷ ls) [] i le = refl
no_stroke role (y ∷ ls) (z ∷ ss) zero le = absurd (omega arith)
no_stroke role (y ∷ ls) (z ∷ ss) (suc i) le = no_stroke role ls ss i (omega arith)
