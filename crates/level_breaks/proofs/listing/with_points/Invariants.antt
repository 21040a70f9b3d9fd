use Rattle.std.proofs.Common.{ℕ, ◌<◌}
use Rattle.plane.specs.Forms.Boxes.{InBox}
use Rattle.plane.specs.Forms.Vectors.{point}
use Rattle.near_pairs.specs.Boxes.{box_of}
use Rattle.level_breaks.specs.Groups.{Covers, nth}
use Rattle.level_breaks.proofs.listing.with_points.Given as goal

abbrev pub invariant-loop-point : goal.invariant-loop-point
invariant-loop-point l = record {
  kept : Covers (box_of l.all) (box_of l.fn.reach);
  holds : (k : ℕ) → k < l.point-index → InBox (box_of l.all) (point (nth l.points k));
}
