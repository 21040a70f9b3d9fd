use Rattle.std.proofs.Common.{◌-◌, length, arith, pos, ◌≤ℤ◌}
use Rattle.plane.specs.Tubes.Bays.{ahead_of_from, ahead_of_to}
use Rattle.arc_predicates.specs.Circles.{half_arc}
use Rattle.arc_predicates.proofs.TestParts.{both_of}
use Rattle.tubes.proofs.ClearNumbers.{first_as, last_as}
use Rattle.tubes.proofs.clearing.are_clear.Goals as goal

pub returns-then-is_clear_of_from : goal.returns-then-is_clear_of_from
returns-then-is_clear_of_from c =
    let h = half_arc c.args.circle.now in
    let vs = c.args.outer.now in
    let n = c.if-count-eq0.false in
    let f = first_as (λ o. ahead_of_from h o ≤ℤ pos 0) vs (omega (arith, n)) in
    let l = last_as (λ o. ahead_of_to h o ≤ℤ pos 0) vs (length vs - 1) (omega (arith, n)) in
    both_of _ _ _ c.is_clear_of_to.result c.is_clear_of_to.ensures
    (c.is_clear_of_from.ensures.0 c.if-is_clear_of_from.true)
    ((λ p. (f.1 p.0, l.1 p.1)), (λ p. (f.0 p.0, l.0 p.1)))
