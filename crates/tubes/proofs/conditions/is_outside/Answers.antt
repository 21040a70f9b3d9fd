use Rattle.std.proofs.Common.{◌≡◌, ◌↔◌, FitsSigned, IsTrue, rules, subst, to_z-of_z, ℤ}
use Rattle.std.specs.Int.{w64}
use Rattle.plane.specs.Tubes.Bays.{distance}
use Rattle.arc_predicates.specs.Circles.{half_arc}
use Rattle.arc_predicates.proofs.TestParts.{both_of}
use Rattle.tubes.specs.Making.{IsFar}
use Rattle.tubes.proofs.conditions.is_outside.Goals as goal

pub returns-then-is_far : goal.returns-then-is_far
returns-then-is_far c =
    let h = half_arc c.args.circle.now in
    let s : FitsSigned w64 c.distance-square.result = search rules in
    let e : c.distance-square.result ≡ distance c.args.outer
    c.args.next = c.distance-square.ensures.value in
    both_of _ _ _ c.is_far-then-is_far.result
    (subst (λ (z : ℤ). IsTrue c.is_far-then-is_far.result ↔ IsFar h c.args.next z) e
    (simp to_z-of_z at c.is_far-then-is_far.ensures))
    (subst (IsFar h c.args.outer) e ((simp to_z-of_z at c.is_far.ensures).0 c.if-is_far.true))
    ((λ p. p), (λ p. p))
