use Rattle.std.proofs.Common.{◌≡◌, ◌*◌, length}
use Rattle.plane.specs.Rule.Plans.{plan}
use Rattle.area_search.specs.Settled.NextSides.{AreNextSides}
use Rattle.area_search.proofs.settled.next_sides.next_sides.Given as goal

abbrev pub invariant-loop-half : goal.invariant-loop-half
invariant-loop-half l = record {
  size : length l.next.items ≡ 2 * length (plan l.settled.drawing.now).curves;
  noted : AreNextSides l.settled l.mesh l.half l.next.items;
}
