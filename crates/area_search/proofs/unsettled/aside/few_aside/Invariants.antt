use Rattle.std.proofs.Common.{◌≡◌, length}
use Rattle.area_search.proofs.unsettled.aside.few_aside.Given as goal

abbrev pub invariant-loop : goal.invariant-loop
invariant-loop l = length l.marks.items ≡ length l.drawing.curves.items
