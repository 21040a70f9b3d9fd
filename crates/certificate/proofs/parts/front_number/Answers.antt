use Rattle.std.proofs.Common.{◌≡◌, get_or, true, arith}
use Rattle.std.specs.Char.{is_ascii_digit}
use Rattle.certificate.proofs.Digits.{value_more, prefix_more}
use Rattle.certificate.proofs.parts.front_number.Goals as goal

pub loop-i-preserved : goal.loop-i-preserved
loop-i-preserved c =
    let i = c.loop-i.i in
    let h : is_ascii_digit (get_or c.args.bytes.now i 0) ≡ true = cc in
    let n = value_more c.args.bytes.now i c.loop-i.value h (omega arith) c.loop-i.invariant.value in
    record {
      front = prefix_more c.args.bytes.now i h (omega arith) c.loop-i.invariant.front;
      value = cc;
    }
