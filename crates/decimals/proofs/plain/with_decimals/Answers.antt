use Rattle.std.proofs.Common.{length, arith}
use Rattle.decimals.proofs.PlainNumbers.{decimals_fit, zeros_fit}
use Rattle.decimals.proofs.plain.with_decimals.Goals as goal

pub front_number-number-requires : goal.front_number-number-requires
front_number-number-requires c =
    decimals_fit c.args.whole (length c.args.decimals.now) c.requires.whole (omega arith)

pub with_zeros-requires-clause-bound : goal.with_zeros-requires-clause-bound
with_zeros-requires-clause-bound c =
    let f = c.front_number-number.ensures.front in
    zeros_fit c.args.whole c.args.scale c.front_number-number.result.1
    c.front_number-number.result.0 f.bound (omega arith) c.requires.scale c.requires.whole
