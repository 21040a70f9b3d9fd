use Rattle.std.proofs.Common.{◌≡◌, ◌++◌, drop, map}
use Rattle.delivery.specs.AskedLinks.{lines_view, pairs_in}
use Rattle.delivery.specs.LinkRegions.{results_by}
use Rattle.delivery.proofs.links.testing.results_by.Given as goal

abbrev pub invariant-loop-of_rule : goal.invariant-loop-of_rule
invariant-loop-of_rule l =
    map lines_view l.results.items
    ++ results_by l.drawing.window (pairs_in (drop l.of_rule-index l.pairs)) l.rest
    ≡ results_by l.drawing.window (pairs_in l.pairs) l.regions
