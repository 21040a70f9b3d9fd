-- Lines with their strokes, one pair after the other.
use Rattle.std.proofs.Common.{◌≡◌, ◌⊎◌, inl, inr, ℕ, List, [], ◌∷◌, ◌++◌, refl, ◌∙◌, sym, ap}
use Rattle.std.proofs.Common.{append-nil}
use Rattle.resolver.specs.declared.models.LineForm.{LineForm}
use Rattle.table_layout.specs.Layouts.{Role}
use Rattle.table_layout.specs.Values.{lines_view}
use Rattle.itf_reader.specs.declared.transfer.Stroke.{Stroke}
use Rattle.itf_reader.specs.RowFindings.{lines_findings}
use Rattle.itf_reader.specs.RowReadings.{lines_vertices, lines_heights}
use Rattle.itf_reader.specs.Views.{strokes_of}

-- nothing is left
pub all_done : {X : Type 0} (done left all : List X) → left ≡ [] → done ++ left ≡ all → done ≡ all
all_done {X} done left all e h = sym (append-nil done)
    ∙ (ap (λ (s : List X). done ++ s) (sym e) ∙ h)

pub findings_end : (role : Role) (line column : ℕ) (ls : List LineForm) (ss : List Stroke)
    → (ls ≡ []) ⊎ (ss ≡ []) → lines_findings role line column (lines_view ls) (strokes_of ss) ≡ []
findings_end role line column [] ss h = refl
findings_end role line column (l ∷ ls) [] h = refl
findings_end role line column (l ∷ ls) (s ∷ ss) (inl h) = cc
findings_end role line column (l ∷ ls) (s ∷ ss) (inr h) = cc

pub vertices_end : (ls : List LineForm) (ss : List Stroke) → (ls ≡ []) ⊎ (ss ≡ [])
    → lines_vertices (lines_view ls) (strokes_of ss) ≡ []
vertices_end [] ss h = refl
vertices_end (l ∷ ls) [] h = refl
vertices_end (l ∷ ls) (s ∷ ss) (inl h) = cc
vertices_end (l ∷ ls) (s ∷ ss) (inr h) = cc

pub heights_end : (ls : List LineForm) (ss : List Stroke) → (ls ≡ []) ⊎ (ss ≡ [])
    → lines_heights (lines_view ls) (strokes_of ss) ≡ []
heights_end [] ss h = refl
heights_end (l ∷ ls) [] h = refl
heights_end (l ∷ ls) (s ∷ ss) (inl h) = cc
heights_end (l ∷ ls) (s ∷ ss) (inr h) = cc
