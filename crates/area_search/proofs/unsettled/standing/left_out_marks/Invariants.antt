use Rattle.std.proofs.Common.{◌≡◌, ◌++◌, drop, map}
use Rattle.area_search.specs.Unsettled.Alone.{is_left_out}
use Rattle.area_search.proofs.unsettled.standing.left_out_marks.Given as goal

abbrev pub invariant-loop-standing : goal.invariant-loop-standing
invariant-loop-standing l =
    l.marks.items ++ map is_left_out (drop l.standing-index l.standings)
    ≡ map is_left_out l.standings
