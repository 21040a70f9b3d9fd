use Rattle.std.proofs.Common.{◌≡◌, ◌+◌, ◌*◌, ◌-◌, get_or, true, arith}
use Rattle.std.specs.Char.{is_ascii_digit}
use Rattle.decimals.proofs.PlainNumbers.{front_more, front_fits, at_most_nine}
use Rattle.decimals.proofs.plain.front_number.Goals as goal

pub overflow_mul-number : goal.overflow_mul-number
overflow_mul-number c =
    let b = front_fits c.args.from c.loop-i.i c.loop-i.number c.args.bytes.now
    (omega arith) c.requires c.loop-i.invariant in
    omega (arith, b)

pub overflow_add-number : goal.overflow_add-number
overflow_add-number c =
    let i = c.loop-i.i in
    let b = front_fits c.args.from i c.loop-i.number c.args.bytes.now
    (omega arith) c.requires c.loop-i.invariant in
    let e : c.from.result ≡ get_or c.args.bytes.now i 0 - 48 = cc in
    let h : is_ascii_digit (get_or c.args.bytes.now i 0) ≡ true = cc in
    omega (arith, b, e, at_most_nine (get_or c.args.bytes.now i 0) h)

pub loop-i-preserved : goal.loop-i-preserved
loop-i-preserved c =
    let i = c.loop-i.i in
    let e : c.loop-i.number * 10 + c.from.result
    ≡ c.loop-i.number * 10 + (get_or c.args.bytes.now i 0 - 48) = cc in
    let h : is_ascii_digit (get_or c.args.bytes.now i 0) ≡ true = cc in
    front_more c.args.from i c.loop-i.number _ c.args.bytes.now (omega arith) h e c.loop-i.invariant
