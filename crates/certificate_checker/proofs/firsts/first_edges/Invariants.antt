use Rattle.std.proofs.Common.{◌≡◌, ℕ, ◌<◌, length, get_or}
use Rattle.plane.specs.CurveRuns.TubedRuns.{first_edge}
use Rattle.plane.specs.Rule.Plans.{plan}
use Rattle.tubes.specs.TubedEdges.{drawn_bays}
use Rattle.certificate_checker.proofs.firsts.first_edges.Given as goal

abbrev pub invariant-loop-i : goal.invariant-loop-i
invariant-loop-i l = record {
  size : length l.firsts.items ≡ l.i;
  next : l.next ≡ first_edge (drawn_bays (plan l.drawing) (λ n. l.level)) 0
      (plan l.drawing).curves l.i;
  each : (k : ℕ) → k < l.i
      → get_or l.firsts.items k 0 ≡ first_edge (drawn_bays (plan l.drawing) (λ n. l.level)) 0
      (plan l.drawing).curves k;
}
