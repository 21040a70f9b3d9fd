use Rattle.std.proofs.Common.{◌≡◌, ℕ, ◌-◌, ◌<◌, drop, get_or, take}
use Rattle.straight_predicates.specs.EdgeLists.{edge_of}
use Rattle.certificate_checker.proofs.events.all_end_at.Given as goal

abbrev pub invariant-loop-place : goal.invariant-loop-place
invariant-loop-place l = (k : ℕ) → k < l.place - l.from
    → (edge_of l.edges (get_or (take (l.upto - l.from) (drop l.from l.live.edges)) k 0)).high ≡ l.at
