use Rattle.std.proofs.Common.{◌≡◌, ◌++◌, drop}
use Rattle.delivery.specs.LinkRegions.{inner_places}
use Rattle.delivery.proofs.links.regions.add_inner.Given as goal

abbrev pub invariant-loop-pair : goal.invariant-loop-pair
invariant-loop-pair l =
    l.places.items ++ inner_places l.drawing.window (drop l.pair-index l.pairs)
    ≡ l.fn.places.items ++ inner_places l.drawing.window l.pairs
