use Rattle.std.proofs.Common.{◌≡◌, ◌*◌, ◌≤◌}
use Rattle.plane.specs.CurveRuns.TubedRuns.{first_edge}
use Rattle.plane.specs.Rule.Plans.{plan}
use Rattle.tubes.specs.Settled.{HaveTubes}
use Rattle.tubes.specs.TubedEdges.{drawn_bays}
use Rattle.certificate_checker.proofs.firsts.edge_total.Given as goal

abbrev pub invariant-loop-i : goal.invariant-loop-i
invariant-loop-i l = record {
  total : HaveTubes (plan l.drawing) (λ n. l.level)
      → l.total ≡ first_edge (drawn_bays (plan l.drawing) (λ n. l.level)) 0
      (plan l.drawing).curves l.i;
  few : l.total ≤ (129 * l.i);
}
