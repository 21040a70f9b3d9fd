use Rattle.std.proofs.Common.{◌≡◌, length, get_or, arith, refl}
use Rattle.decimals.proofs.PlainNumbers.{whole_fits, whole_below, whole_zeros_fit, plain_whole}
use Rattle.decimals.proofs.PlainNumbers.{plain_if_some}
use Rattle.decimals.proofs.plain.read_plain.Goals as goal

pub front_number-whole-requires : goal.front_number-whole-requires
front_number-whole-requires c = whole_fits (length c.args.unsigned.now) (omega arith)

pub with_zeros-requires-clause-bound : goal.with_zeros-requires-clause-bound
with_zeros-requires-clause-bound c =
    let w = whole_below c.front_number-whole.result.1 c.front_number-whole.result.0
    c.args.unsigned.now (omega arith) c.front_number-whole.ensures.front in
    whole_zeros_fit c.front_number-whole.result.0 c.args.scale (omega arith) w

pub with_decimals-requires-clause-whole : goal.with_decimals-requires-clause-whole
with_decimals-requires-clause-whole c =
    whole_below c.front_number-whole.result.1 c.front_number-whole.result.0 c.args.unsigned.now
    (omega arith) c.front_number-whole.ensures.front

pub returns-then-count-unsigned-clause-reading : goal.returns-then-count-unsigned-clause-reading
returns-then-count-unsigned-clause-reading c =
    plain_whole c.args.scale c.front_number-whole.result.1 c.front_number-whole.result.0
    c.with_zeros.result c.args.unsigned.now c.front_number-whole.ensures.front (omega arith)
    (omega arith) c.with_zeros.ensures.value c.with_zeros.ensures.bound

pub returns-clause-reading : goal.returns-clause-reading
returns-clause-reading c =
    let n = c.front_number-whole.result.1 in
    let p : get_or c.args.unsigned.now n 0 ≡ 46 = omega arith in
    plain_if_some c.with_decimals.result c.args.scale n c.front_number-whole.result.0 _
    c.args.unsigned.now c.front_number-whole.ensures.front (omega arith)
    (omega arith) p refl c.with_decimals.ensures.magnitude c.with_decimals.ensures.bound
