use Rattle.std.proofs.Common.{ℕ, ◌<◌, get_or}
use Rattle.plane.specs.declared.kinds.Point.{Point}
use Rattle.line_sweep.specs.TestEdges.{IsMiddle}
use Rattle.plane_tests.proofs.small_edges.are_middle.Given as goal

abbrev pub invariant-loop-p : goal.invariant-loop-p
invariant-loop-p l = (k : ℕ) (d : Point) → k < l.p-index → IsMiddle (get_or l.points k d)
