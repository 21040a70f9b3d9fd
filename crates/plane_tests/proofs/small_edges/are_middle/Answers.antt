use Rattle.std.proofs.Common.{rules, IsTrue}
use Rattle.line_sweep.specs.TestEdges.{IsMiddle}
use Rattle.line_sweep.proofs.CellGaps.{one_more}
use Rattle.plane_tests.proofs.small_edges.are_middle.Goals as goal

pub loop-p-preserved : goal.loop-p-preserved
loop-p-preserved c =
    let h : IsTrue c.is_middle.result = search rules in
    one_more IsMiddle c.args.points.now c.loop-p.p-index _ c.loop-p-test.true c.loop-p.invariant
    (c.is_middle.ensures h)
