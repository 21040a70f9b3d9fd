use Rattle.std.proofs.Common.{◌≡◌, ◌↔◌, ℕ, ◌<◌, false, IsTrue, length, get_or}
use Rattle.plane.specs.Rule.Plans.{object, plan}
use Rattle.certificate.specs.declared.notes.PointPlace.TheVariants.{Cell}
use Rattle.certificate_checker.specs.Cases.{IsHeldAt}
use Rattle.certificate_checker.proofs.holding.held_points.Given as goal

abbrev pub invariant-loop-j : goal.invariant-loop-j
invariant-loop-j l = record {
  size : length l.held.items ≡ l.j;
  each : (k : ℕ) → k < l.j
      → IsTrue (get_or l.held.items k false)
      ↔ IsHeldAt (plan l.drawing) l.level (get_or l.places k (Cell 0))
      (object (plan l.drawing) k);
}
