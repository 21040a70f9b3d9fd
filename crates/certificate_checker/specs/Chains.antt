-- Sides of edges that face tubes, and the first edges of chains.
use Rattle.std.specs.Prelude.{◌≡◌, ℕ, ◌<◌, Bool, length}
use Rattle.plane.specs.CurveRuns.TubedRuns.{IsOfTube}
use Rattle.plane.specs.Faces.Halves.{Half, over, under}
use Rattle.tubes.specs.declared.kinds.Facing.{Facing}
use Rattle.tubes.specs.declared.kinds.Facing.TheVariants as facing
use Rattle.certificate_checker.specs.Subjects.{Subject, first_of, owned_of}

-- the side of its edge on which a half-edge lies
abbrev pub half_side : Half → Facing
half_side (under e) = facing.Below
half_side (over e) = facing.Above

-- the edge is there, of a tube, and the first one of that chain of the curve's tube
pub record IsFirstOf (s : Subject) (inside : Bool) (curve e : ℕ) : Type 0 where
  pub there : e < length s.edges
  pub of_tube : IsOfTube (owned_of s e).part
  pub first : e ≡ first_of s inside curve
