use Rattle.std.proofs.Common.{◌≡◌, ◌++◌, drop, map}
use Rattle.area_search.specs.Unsettled.Alone.{is_alone}
use Rattle.area_search.proofs.unsettled.standing.alone_marks.Given as goal

abbrev pub invariant-loop-standing : goal.invariant-loop-standing
invariant-loop-standing l =
    l.marks.items ++ map is_alone (drop l.standing-index l.standings) ≡ map is_alone l.standings
