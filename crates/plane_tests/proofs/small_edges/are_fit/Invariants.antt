use Rattle.std.proofs.Common.{ℕ, ◌<◌, get_or}
use Rattle.plane.specs.declared.kinds.Edge.{Edge}
use Rattle.line_sweep.specs.TestEdges.{IsFit}
use Rattle.plane_tests.proofs.small_edges.are_fit.Given as goal

abbrev pub invariant-loop-e : goal.invariant-loop-e
invariant-loop-e l = (k : ℕ) (d : Edge) → k < l.e-index → IsFit (get_or l.edges k d)
