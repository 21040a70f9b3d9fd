use Rattle.std.proofs.Common.{ℕ, suc, ◌<◌, pos, ◌<ℤ◌, get_or}
use Rattle.plane.specs.Runs.Positions.{turn_at}
use Rattle.straight_predicates.specs.EdgeLists.{edge_of}
use Rattle.certificate_checker.proofs.events.turn_left.Given as goal

abbrev pub invariant-loop-i : goal.invariant-loop-i
invariant-loop-i l = (k : ℕ) → suc k < l.i
    → pos 0 <ℤ turn_at (edge_of l.edges) (get_or l.starting k 0)
    (edge_of l.edges (get_or l.starting (suc k) 0)).high
