use Rattle.std.proofs.Common.{◌≡◌, length}
use Rattle.area_search.proofs.unsettled.aside.mark_near.Given as goal

abbrev pub invariant-loop-place : goal.invariant-loop-place
invariant-loop-place l = length l.marks ≡ length l.initial.marks
