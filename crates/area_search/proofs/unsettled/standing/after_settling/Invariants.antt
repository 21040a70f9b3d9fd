use Rattle.std.proofs.Common.{◌≡◌, ◌++◌, drop, map}
use Rattle.area_search.specs.Unsettled.Alone.{after_settling}
use Rattle.area_search.proofs.unsettled.standing.after_settling.Given as goal

abbrev pub invariant-loop-standing : goal.invariant-loop-standing
invariant-loop-standing l =
    l.next.items ++ map after_settling (drop l.standing-index l.standings)
    ≡ map after_settling l.standings
