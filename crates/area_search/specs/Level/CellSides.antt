-- Which tubes the sides of a cell face.
use Rattle.std.specs.Prelude.{◌≡◌, ℕ, Option, Some, None, List}
use Rattle.plane.specs.Faces.Halves.{over, under}
use Rattle.plane.specs.Lists.{Has}
use Rattle.plane.specs.Runs.Gaps.{Gap}
use Rattle.tubes.specs.declared.kinds.Facing.{Facing}
use Rattle.tubes.specs.declared.kinds.Owner.{Owner}
use Rattle.area_search.specs.Settled.CaseNotes.{tag_at}

-- One more than the curve whose tube the side over an edge faces from within; 0 where it faces
-- none, and at the border.
abbrev pub tag_over : List Facing → List Owner → Option ℕ → ℕ
tag_over facings owners None = 0
tag_over facings owners (Some e) = tag_at facings owners (over e)

-- the same of the side under an edge
abbrev pub tag_under : List Facing → List Owner → Option ℕ → ℕ
tag_under facings owners None = 0
tag_under facings owners (Some e) = tag_at facings owners (under e)

-- Both sides of the cell face one tube from within, or none does.
abbrev pub IsPaired : List Facing → List Owner → Gap → Type 0
IsPaired facings owners g = tag_over facings owners g.lower ≡ tag_under facings owners g.upper

abbrev pub ArePaired : List Facing → List Owner → List Gap → Type 0
ArePaired facings owners gaps = (g : Gap) → Has g gaps → IsPaired facings owners g
