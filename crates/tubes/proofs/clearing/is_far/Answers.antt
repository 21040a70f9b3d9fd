use Rattle.std.proofs.Common.{◌^◌, ◌*ℤ◌, ◌-ℤ◌, FitsSigned, ap, arith, pos, rules, subst, sym, ◌∙◌}
use Rattle.std.proofs.Common.{to_z-of_z}
use Rattle.std.specs.Int.{w128}
use Rattle.plane.specs.Numbers.{IsWithin}
use Rattle.arc_predicates.proofs.Sums.{product_within}
use Rattle.tubes.proofs.ClearNumbers.{d_within, far_by, more_within}
use Rattle.tubes.proofs.clearing.is_far.Goals as goal

pub determinant-more-requires-clause-second : goal.determinant-more-requires-clause-second
determinant-more-requires-clause-second c =
    let s = c.ranges.square in
    let e = simp to_z-of_z at c.from.ensures in
    product_within (2 ^ 53) (2 ^ 59) _ _ (omega arith) (omega arith) (omega arith)
    (d_within c.args.circle.now) (subst (IsWithin (2 ^ 59)) (sym e) c.requires.square)

pub is_at_most_zero-requires-clause-bound : goal.is_at_most_zero-requires-clause-bound
is_at_most_zero-requires-clause-bound c =
    let k = c.args.circle.now in
    let s = c.ranges.square in
    let e = simp to_z-of_z at c.from.ensures in
    let d : FitsSigned w128 k.d = search rules in
    let q : FitsSigned w128 c.from.result = search rules in
    let o : FitsSigned w128 c.power_over-outside.result = search rules in
    let m : FitsSigned w128 c.determinant-more.result = search rules in
    let t = simp to_z-of_z at c.determinant-more.ensures in
    rw (to_z-of_z m)
    (subst (IsWithin (2 ^ 126)) (sym t)
    (more_within k.d c.from.result c.power_over-outside.result (d_within k)
    (subst (IsWithin (2 ^ 59)) (sym e) c.requires.square) c.power_over-outside.ensures.bound))

pub returns : goal.returns
returns c =
    let k = c.args.circle.now in
    let s = c.ranges.square in
    let e = simp to_z-of_z at c.from.ensures in
    let d : FitsSigned w128 k.d = search rules in
    let q : FitsSigned w128 c.from.result = search rules in
    let o : FitsSigned w128 c.power_over-outside.result = search rules in
    let m : FitsSigned w128 c.determinant-more.result = search rules in
    let t = simp to_z-of_z at c.determinant-more.ensures in
    far_by k c.args.p c.is_at_most_zero.result c.args.square c.power_over-outside.result
    c.determinant-more.result c.power_over-outside.ensures.value
    (t ∙ ap (λ z. (pos 4 *ℤ c.power_over-outside.result) -ℤ (k.d *ℤ z)) e)
    (simp to_z-of_z at c.is_at_most_zero.ensures)
