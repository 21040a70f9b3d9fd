use Rattle.std.proofs.Common.{FitsSigned, rules, arith, ap, ◌∙◌, pos, ℕ, to_z-of_z}
use Rattle.std.specs.Int.{w64}
use Rattle.straight_predicates.proofs.PackedNumbers.{packed_back}
use Rattle.straight_predicates.proofs.packing.packed.Goals as goal

pub returns-clause-end : goal.returns-clause-end
returns-clause-end c =
    let ox : FitsSigned w64 c.args.origin.x = search rules in
    let oy : FitsSigned w64 c.args.origin.y = search rules in
    let ex : FitsSigned w64 c.args.end.at.x = search rules in
    let ey : FitsSigned w64 c.args.end.at.y = search rules in
    let b = c.lifted-2.ensures.bound in
    packed_back c.args.origin c.args.end c.from-x.result c.from-y.result c.from.result
    (ap (λ (n : ℕ). pos n) c.from-x.ensures ∙ simp to_z-of_z at c.lifted.ensures.value)
    (ap (λ (n : ℕ). pos n) c.from-y.ensures ∙ simp to_z-of_z at c.lifted-2.ensures.value)
    (omega (arith, c.from-y.ensures, b)) c.requires.few (c.from.ensures ∙ c.tag.ensures)
