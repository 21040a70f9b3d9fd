use Rattle.std.proofs.Common.{rules, ◌≡◌, ◌%◌, ap, sym}
use Rattle.plane.specs.Faces.Halves.{Half, twin}
use Rattle.certificate_checker.specs.Chains.{half_side}
use Rattle.certificate_checker.proofs.ChainSides.{even_half, odd_half}
use Rattle.certificate_checker.proofs.chains.side_across.Goals as goal

pub returns-then-h-eq0 : goal.returns-then-h-eq0
returns-then-h-eq0 c =
    let z : c.args.h % 2 ≡ 0 = search rules in
    sym (ap (λ (h : Half). half_side (twin h)) (even_half c.args.h z))

pub returns-else-h-eq0 : goal.returns-else-h-eq0
returns-else-h-eq0 c =
    let z : c.args.h % 2 ≡ 0 → ⊥ = search rules in
    sym (ap (λ (h : Half). half_side (twin h)) (odd_half c.args.h z))
