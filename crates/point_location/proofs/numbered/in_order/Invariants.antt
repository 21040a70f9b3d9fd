use Rattle.std.proofs.Common.{◌≡◌, take}
use Rattle.point_location.proofs.Numbers.{numbers_from}
use Rattle.point_location.proofs.numbered.in_order.Given as goal

abbrev pub invariant-loop-number : goal.invariant-loop-number
invariant-loop-number l = l.order.items ≡ numbers_from 0 (take l.number l.points)
