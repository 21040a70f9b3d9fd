use Rattle.std.proofs.Common.{◌≡◌, take, map}
use Rattle.plane.specs.Runs.Moves.{Move}
use Rattle.area_search.proofs.settled.faced.event_places.Given as goal

abbrev pub invariant-loop-number : goal.invariant-loop-number
invariant-loop-number l = l.at.items ≡ map (λ (v : Move). v.at) (take l.number l.events)
