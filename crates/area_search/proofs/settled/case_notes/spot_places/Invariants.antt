use Rattle.std.proofs.Common.{◌≡◌, take, map}
use Rattle.area_search.specs.Settled.CaseNotes.{spot_place}
use Rattle.area_search.proofs.settled.case_notes.spot_places.Given as goal

abbrev pub invariant-loop-spot : goal.invariant-loop-spot
invariant-loop-spot l = l.places.items ≡ map spot_place (take l.spot-index l.spots)
