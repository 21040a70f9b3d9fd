use Rattle.std.proofs.Common.{rules, ◌≡◌, ◌%◌, ap, sym}
use Rattle.certificate_checker.specs.Chains.{half_side}
use Rattle.certificate_checker.proofs.ChainSides.{even_half, odd_half}
use Rattle.certificate_checker.proofs.chains.side_of.Goals as goal

pub returns-then-h-eq0 : goal.returns-then-h-eq0
returns-then-h-eq0 c =
    let z : c.args.h % 2 ≡ 0 = search rules in
    sym (ap half_side (even_half c.args.h z))

pub returns-else-h-eq0 : goal.returns-else-h-eq0
returns-else-h-eq0 c =
    let z : c.args.h % 2 ≡ 0 → ⊥ = search rules in
    sym (ap half_side (odd_half c.args.h z))
