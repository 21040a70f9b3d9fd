use Rattle.std.proofs.Common.{◌≡◌, ◌++◌, drop}
use Rattle.delivery.specs.AskedLinks.{pairs_in}
use Rattle.delivery.specs.LinkRegions.{all_inner}
use Rattle.delivery.proofs.links.testing.all_inner.Given as goal

abbrev pub invariant-loop-of_rule : goal.invariant-loop-of_rule
invariant-loop-of_rule l =
    l.places.items ++ all_inner l.drawing.window (pairs_in (drop l.of_rule-index l.pairs))
    ≡ all_inner l.drawing.window (pairs_in l.pairs)
