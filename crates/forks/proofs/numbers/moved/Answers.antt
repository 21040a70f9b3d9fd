use Rattle.std.proofs.Common.{◌≡◌, ℤ, pos, ◌+ℤ◌, ◌*ℤ◌, ◌-ℤ◌, ◌^◌, ◌+◌, FitsSigned, to_z-of_z, rules}
use Rattle.std.proofs.Common.{arith, ap, refl, subst, ◌∙◌}
use Rattle.std.specs.Int.{w128, w64}
use Rattle.std.proofs.lemmas.Int.{ints}
use borrow.Author.Differences.{fits_in}
use Rattle.plane.proofs.Algebra.Bounds.{within_fits, within_sum}
use Rattle.plane.specs.Forms.Bends.{IsRoundedDown}
use Rattle.forks.proofs.Rounding.{from_start, sum_of}
use Rattle.forks.proofs.numbers.moved.Goals as goal

pub product-ahead-requires-clause-a : goal.product-ahead-requires-clause-a
product-ahead-requires-clause-a c =
    let t = c.ranges.tolerance in
    let f : FitsSigned w128 c.from.result = search rules in
    let e : c.from.result ≡ c.args.tolerance = simp to_z-of_z at c.from.ensures in
    let l = c.requires.tolerance.least in
    let m = c.requires.tolerance.most in
    let g : FitsSigned w128 (pos 8 *ℤ c.from.result) = fits_in w128 _
    (omega (arith, ints, e, l, m)) in
    rw (to_z-of_z f, to_z-of_z g) (omega (arith, ints, e, l, m))

pub product-beside-requires-clause-a : goal.product-beside-requires-clause-a
product-beside-requires-clause-a c =
    let f : FitsSigned w128 c.push.result = search rules in rw (to_z-of_z f) c.push.ensures.bound

pub overflow_add-ahead : goal.overflow_add-ahead
overflow_add-ahead c =
    let f : FitsSigned w128 c.product-ahead.result = search rules in
    let g : FitsSigned w128 c.product-beside.result = search rules in
    let w = within_sum (2 ^ 64) (2 ^ 64) _ _ c.product-ahead.ensures.bound
    c.product-beside.ensures.bound in
    rw (to_z-of_z f, to_z-of_z g) (within_fits (2 ^ 64 + 2 ^ 64) _ (omega arith) w)

pub quotient-step-requires-clause-n : goal.quotient-step-requires-clause-n
quotient-step-requires-clause-n c =
    let f : FitsSigned w128 c.product-ahead.result = search rules in
    let g : FitsSigned w128 c.product-beside.result = search rules in
    let w = within_sum (2 ^ 64) (2 ^ 64) _ _ c.product-ahead.ensures.bound
    c.product-beside.ensures.bound in
    let h = within_fits (2 ^ 64 + 2 ^ 64) _ (omega arith) w in
    rw (to_z-of_z f, to_z-of_z g, to_z-of_z h) w

pub quotient-step-requires-clause-root : goal.quotient-step-requires-clause-root
quotient-step-requires-clause-root c =
    let a = c.requires.wide in
    let b = c.requires.long in rw (to_z-of_z c.ranges.root) (omega (arith, ints, a, b))

pub overflow_cast-result : goal.overflow_cast-result
overflow_cast-result c =
    let f : FitsSigned w128 c.quotient-step.result = search rules in
    let b = c.quotient-step.ensures.bound in
    rw (to_z-of_z f) (fits_in w64 _ (omega (arith, ints, b)))

pub overflow_add-result : goal.overflow_add-result
overflow_add-result c =
    let f : FitsSigned w128 c.quotient-step.result = search rules in
    let b = c.quotient-step.ensures.bound in
    let g : FitsSigned w64 c.quotient-step.result = fits_in w64 _ (omega (arith, ints, b)) in
    let s = c.requires.start in
    rw (to_z-of_z f, to_z-of_z g, to_z-of_z c.ranges.start)
    (fits_in w64 _ (omega (arith, ints, b, s)))

pub returns : goal.returns
returns c =
    let t = c.ranges.tolerance in
    let r = c.ranges.root in
    let al = c.ranges.along in
    let as_ = c.ranges.aside in
    let f1 : FitsSigned w128 c.from.result = search rules in
    let f2 : FitsSigned w128 c.push.result = search rules in
    let e1 : c.from.result ≡ c.args.tolerance = simp to_z-of_z at c.from.ensures in
    let e2 : c.push.result ≡ c.args.tolerance -ℤ pos 2 = simp to_z-of_z at c.push.ensures.value in
    let l = c.requires.tolerance.least in
    let m = c.requires.tolerance.most in
    let g1 : FitsSigned w128 (pos 8 *ℤ c.from.result) = fits_in w128 _
    (omega (arith, ints, e1, l, m)) in
    let p1 : c.product-ahead.result ≡ (pos 8 *ℤ c.from.result)
    *ℤ c.args.along = simp to_z-of_z at c.product-ahead.ensures.value in
    let p2 : c.product-beside.result ≡ c.push.result
    *ℤ c.args.aside = simp to_z-of_z at c.product-beside.ensures.value in
    let q1 = p1 ∙ ap (λ (z : ℤ). (pos 8 *ℤ z) *ℤ c.args.along) e1 in
    let q2 = p2 ∙ ap (λ (z : ℤ). z *ℤ c.args.aside) e2 in
    let fa : FitsSigned w128 c.product-ahead.result = search rules in
    let fb : FitsSigned w128 c.product-beside.result = search rules in
    let w = within_sum (2 ^ 64) (2 ^ 64) _ _ c.product-ahead.ensures.bound
    c.product-beside.ensures.bound in
    let fs : FitsSigned w128 (c.product-ahead.result +ℤ c.product-beside.result) = within_fits
    (2 ^ 64 + 2 ^ 64) _ (omega arith) w in
    let v : IsRoundedDown c.args.root (c.product-ahead.result +ℤ c.product-beside.result)
    c.quotient-step.result = simp to_z-of_z at c.quotient-step.ensures.value in
    let fq : FitsSigned w128 c.quotient-step.result = search rules in
    let b = c.quotient-step.ensures.bound in
    let st = c.requires.start in
    let gq : FitsSigned w64 c.quotient-step.result = fits_in w64 _ (omega (arith, ints, b)) in
    let gs : FitsSigned w64 (c.args.start +ℤ c.quotient-step.result) = fits_in w64 _
    (omega (arith, ints, b, st)) in
    rw (to_z-of_z fq, to_z-of_z gq, to_z-of_z c.ranges.start, to_z-of_z gs)
    (from_start c.args.start (c.args.start +ℤ c.quotient-step.result) c.args.root _
    c.quotient-step.result refl
    (subst (λ (z : ℤ). IsRoundedDown c.args.root z c.quotient-step.result)
    (sum_of _ _ _ _ q1 q2) v))
