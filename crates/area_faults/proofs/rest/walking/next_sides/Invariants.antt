use Rattle.std.proofs.Common.{◌≡◌, ◌*◌, length}
use Rattle.plane.specs.Rule.Plans.{plan}
use Rattle.area_faults.specs.NextSides.{AreFollowedTo}
use Rattle.area_faults.proofs.rest.walking.next_sides.Given as goal

abbrev pub invariant-loop-half : goal.invariant-loop-half
invariant-loop-half l = record {
  size : length l.next.items ≡ 2 * length (plan l.drawing).curves;
  followed : AreFollowedTo (plan l.drawing) l.kept l.mesh l.half l.next.items;
}
