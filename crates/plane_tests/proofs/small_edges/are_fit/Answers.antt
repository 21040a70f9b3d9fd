use Rattle.std.proofs.Common.{rules, IsTrue}
use Rattle.line_sweep.specs.TestEdges.{IsFit}
use Rattle.line_sweep.proofs.CellGaps.{one_more}
use Rattle.plane_tests.proofs.small_edges.are_fit.Goals as goal

pub loop-e-preserved : goal.loop-e-preserved
loop-e-preserved c =
    let h : IsTrue c.is_fit.result = search rules in
    one_more IsFit c.args.edges.now c.loop-e.e-index _ c.loop-e-test.true c.loop-e.invariant
    (c.is_fit.ensures h)
