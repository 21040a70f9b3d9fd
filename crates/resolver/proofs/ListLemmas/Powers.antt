-- Powers of ten.
use Rattle.std.proofs.Common.{ℕ, ◌<◌, ◌^◌, arith}
use Rattle.std.proofs.Math.Nat.{one-le-pow}

pub power_positive : (exponent : ℕ) → 0 < 10 ^ exponent
power_positive exponent = omega (arith, one-le-pow exponent 10 (omega arith))
