use Rattle.std.proofs.Common.{get_or, ◌≡◌, ◌+◌, ◌*◌, ◌-◌, ◌^◌, min, arith, true}
use Rattle.std.specs.Char.{is_ascii_digit}
use Rattle.decimals.proofs.Counting.{counted_next}
use Rattle.decimals.proofs.read_digits.Goals as goal

pub loop-digit-preserved : goal.loop-digit-preserved
loop-digit-preserved c =
    let i = c.loop-digit.digit-index in
    let e : c.min-number.result
    ≡ min (c.loop-digit.number * 10 + (get_or c.args.digits.now i 0 - 48)) (10 ^ 18) = cc in
    let h : is_ascii_digit (get_or c.args.digits.now i 0) ≡ true = cc in
    record {
      small = omega arith;
      rest = counted_next c.loop-digit.number _ i c.args.from c.args.digits.now
          c.loop-digit-test.true h e c.loop-digit.invariant.rest;
    }
