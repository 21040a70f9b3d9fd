use Rattle.std.proofs.Common.{◌≡◌, ◌-ℤ◌, ◌^◌, pos, ap, arith, rules, subst, sym, ◌∙◌, to_z-of_z}
use Rattle.std.proofs.Common.{FitsSigned}
use Rattle.std.specs.Int.{w64}
use Rattle.std.proofs.lemmas.Int.{ints}
use Rattle.plane.specs.Rule.Turns.{AreNear}
use Rattle.arc_predicates.specs.Circles.{half_arc}
use Rattle.tubes.specs.HalfArcTubes.{beside}
use Rattle.tubes.proofs.SmallNumbers.{fits}
use Rattle.tubes.proofs.CountNumbers.{inside_false, inside_true, not_inside, tested_near}
use Rattle.tubes.proofs.counting.is_inside.Goals as goal

pub place_of-requires : goal.place_of-requires
place_of-requires c =
    let s = c.args.span.now in
    let k = c.args.circle.now in
    let b = c.requires.k in
    let m = c.from.ensures in
    let f : FitsSigned w64 c.from.result = search rules in
    let g = fits (2 ^ 62) (c.from.result -ℤ pos 2) (omega arith) (omega (arith, ints, b, m)) in
    let e : c.beside-at.result ≡ beside (half_arc k) s.p s.q
    (pos c.args.k -ℤ pos 2) = (simp to_z-of_z at c.beside-at.ensures)
    ∙ ap (λ n. beside (half_arc k) s.p s.q (n -ℤ pos 2)) m in
    subst (AreNear (2 ^ 32) k.s) (sym e)
    (tested_near (half_arc k) k.s s.p s.q c.args.k c.requires.near s.near s.some c.requires.k)

pub returns-in-Inside : goal.returns-in-Inside
returns-in-Inside c =
    let s = c.args.span.now in
    let k = c.args.circle.now in
    let b = c.requires.k in
    let m = c.from.ensures in
    let f : FitsSigned w64 c.from.result = search rules in
    let g = fits (2 ^ 62) (c.from.result -ℤ pos 2) (omega arith) (omega (arith, ints, b, m)) in
    let e : c.beside-at.result ≡ beside (half_arc k) s.p s.q
    (pos c.args.k -ℤ pos 2) = (simp to_z-of_z at c.beside-at.ensures)
    ∙ ap (λ n. beside (half_arc k) s.p s.q (n -ℤ pos 2)) m in
    inside_true (half_arc k) s.p s.q c.beside-at.result c.args.k e c.in-Inside.ensures

pub returns-in_default : goal.returns-in_default
returns-in_default c =
    let s = c.args.span.now in
    let k = c.args.circle.now in
    let b = c.requires.k in
    let m = c.from.ensures in
    let f : FitsSigned w64 c.from.result = search rules in
    let g = fits (2 ^ 62) (c.from.result -ℤ pos 2) (omega arith) (omega (arith, ints, b, m)) in
    let e : c.beside-at.result ≡ beside (half_arc k) s.p s.q
    (pos c.args.k -ℤ pos 2) = (simp to_z-of_z at c.beside-at.ensures)
    ∙ ap (λ n. beside (half_arc k) s.p s.q (n -ℤ pos 2)) m in
    inside_false (half_arc k) s.p s.q c.beside-at.result c.args.k e
    (not_inside c.place_of.result _ c.place_of.ensures c.in_default.not-Inside)
