use Rattle.std.proofs.Common.{◌≡◌, length}
use Rattle.area_search.proofs.unsettled.aside.bare_marks.Given as goal

abbrev pub invariant-loop-number : goal.invariant-loop-number
invariant-loop-number l = length l.marks.items ≡ l.number
