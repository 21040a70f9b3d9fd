use Rattle.std.proofs.Common.{ℕ, ◌+◌, ◌*◌, ◌^◌, ◌%◌, ◌-◌, ap, arith, get_or, length}
use Rattle.area_search.proofs.unsettled.marked_points.on_of.Goals as goal

pub overflow_sub-result : goal.overflow_sub-result
overflow_sub-result c =
    let is = c.requires.code.is in
    let there = c.requires.code.sought.there in
    let after = c.requires.code.sought.sought.after in
    let few = c.requires.few in
    let n = c.len.ensures in
    omega (arith, is, there, after, few, n)

pub returns : goal.returns
returns c = λ i j small e on.
    let n = c.len.ensures in (
      omega (arith, e, small),
      ap (λ (k : ℕ). get_or c.args.numbers.now k 0) (omega (arith, e, small, n)),
    )
