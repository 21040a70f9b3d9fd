-- What says which side of an edge faces its tube from within, in the words of a list of edges with
-- owners.
use Rattle.std.specs.Prelude.{ℕ, ◌^◌, Bool, cond, not, List, slice_index_or}
use Rattle.plane.specs.CurveRuns.TubedRuns.{runs_on, third_is_left}
use Rattle.plane.specs.Rule.Curves.{arc}
use Rattle.plane.specs.Rule.HalfArcs.{HasCircle}
use Rattle.plane.specs.Rule.Plans.{Plan, curve}
use Rattle.plane.specs.Rule.Turns.{AreNear}
use Rattle.plane.specs.declared.kinds.Curve.{Curve}
use Rattle.plane.specs.declared.kinds.Edge.{Edge}
use Rattle.straight_predicates.specs.EdgeLists.{edge_of}
use Rattle.tubes.specs.declared.kinds.EdgeList.{EdgeList}
use Rattle.tubes.specs.declared.kinds.Facing.{Facing}
use Rattle.tubes.specs.declared.kinds.Facing.TheVariants as facing
use Rattle.tubes.specs.declared.kinds.Owner.{Owner}
use Rattle.tubes.specs.declared.kinds.Part.{Part}
use Rattle.tubes.specs.declared.kinds.Part.TheVariants as part

-- The owner of each number. Beyond the last one it is not meant.
abbrev pub no_owner : Owner
no_owner = record { curve = 0; part = part.Straight }

abbrev pub owner_at : List Owner → ℕ → Owner
owner_at owners e = slice_index_or owners e no_owner

-- An edge of an inner chain has its tube below it exactly where it runs on with the third point on
-- the left of the half arc, or back with that point on the right.
abbrev pub is_under : Curve → Edge → Bool
is_under c e = cond (third_is_left c) (runs_on c e) (not (runs_on c e))

abbrev pub side_of : Part → Curve → Edge → Facing
side_of part.Straight c e = facing.Neither
side_of part.Inner c e = cond (is_under c e) facing.Below facing.Above
side_of part.Outer c e = cond (is_under c e) facing.Above facing.Below

-- The numbers of both tests are small: the half arc has a circle, and the ends of the edge lie
-- near.
pub record IsSmall (c : Curve) (e : Edge) : Type 0 where
  pub circle : HasCircle (arc c)
  pub near : AreNear (2 ^ 29) e.low e.high

-- asked of edges of tubes alone
abbrev pub HasSmallTube : Part → Curve → Edge → Type 0
HasSmallTube part.Straight c e = Unit {0}
HasSmallTube part.Inner c e = IsSmall c e
HasSmallTube part.Outer c e = IsSmall c e

-- The sides of the edges of a list, each by its owner.
abbrev pub listed_side : Plan → EdgeList → ℕ → Facing
listed_side d list e =
    side_of (owner_at list.owners.items e).part (curve d (owner_at list.owners.items e).curve)
    (edge_of list.edges.items e)
