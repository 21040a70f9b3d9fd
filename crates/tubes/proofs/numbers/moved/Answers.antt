use Rattle.std.proofs.Common.{◌^◌, ◌+ℤ◌, FitsSigned, arith, refl, rules, subst, sym, ◌∙◌, to_z-of_z}
use Rattle.std.specs.Int.{w64}
use Rattle.std.proofs.lemmas.Int.{ints}
use Rattle.plane.specs.Numbers.{IsWithin}
use Rattle.tubes.proofs.SmallNumbers.{fits, not_all_bits, some_divisor, sum_back}
use Rattle.plane.proofs.Algebra.Bounds.{within_more, within_sum}
use Rattle.tubes.proofs.Means.{moved_is, quotient_within}
use Rattle.tubes.proofs.numbers.moved.Goals as goal

pub div_euclid-requires-clause-nonzero : goal.div_euclid-requires-clause-nonzero
div_euclid-requires-clause-nonzero c =
    let l = c.args.length in
    let s = c.requires.some in
    let w = c.requires.length in
    let f = fits (2 ^ 62) (l +ℤ l) (omega arith) (omega (arith, ints, w)) in
    rw (to_z-of_z c.ranges.length, to_z-of_z f)
    (some_divisor (l +ℤ l) (omega (arith, ints, s)) (omega (arith, ints, w)))

pub div_euclid-requires-clause-no_overflow : goal.div_euclid-requires-clause-no_overflow
div_euclid-requires-clause-no_overflow c =
    let l = c.args.length in
    let s = c.requires.some in
    let w = c.requires.length in
    let f = fits (2 ^ 62) (l +ℤ l) (omega arith) (omega (arith, ints, w)) in
    rw (to_z-of_z c.ranges.length, to_z-of_z f)
    (λ e k. not_all_bits (l +ℤ l) (omega (arith, ints, s)) (omega (arith, ints, w)) e)

pub overflow_add-result : goal.overflow_add-result
overflow_add-result c =
    let l = c.args.length in
    let s = c.requires.some in
    let w = c.requires.length in
    let f = fits (2 ^ 62) (l +ℤ l) (omega arith) (omega (arith, ints, w)) in
    let o : FitsSigned w64 c.dot-over.result = search rules in
    let q : FitsSigned w64 c.div_euclid.result = search rules in
    let a = c.ranges.start in
    let b = c.ranges.length in
    let e = simp to_z-of_z at c.div_euclid.ensures in
    let b = quotient_within (2 ^ 61) c.dot-over.result (l +ℤ l) c.dot-over.ensures.bound
    (omega (arith, ints, s)) in
    rw (to_z-of_z a, to_z-of_z q)
    (fits (2 ^ 62) _ (omega arith)
    (within_sum (2 ^ 61) (2 ^ 61) _ _ c.requires.start (subst (IsWithin (2 ^ 61)) (sym e) b)))

pub returns : goal.returns
returns c =
    let l = c.args.length in
    let s = c.requires.some in
    let w = c.requires.length in
    let f = fits (2 ^ 62) (l +ℤ l) (omega arith) (omega (arith, ints, w)) in
    let m = c.requires.n in
    let n = fits (2 ^ 62) (c.args.n +ℤ c.args.n) (omega arith) (omega (arith, ints, m)) in
    let o : FitsSigned w64 c.dot-over.result = search rules in
    let q : FitsSigned w64 c.div_euclid.result = search rules in
    let v : FitsSigned w64 c.difference-way.result = search rules in
    let a = c.ranges.start in
    let g = c.ranges.end in
    let t = c.ranges.turned in
    let y = c.ranges.length in
    let z = c.ranges.n in
    let e = simp to_z-of_z at c.div_euclid.ensures in
    let b = quotient_within (2 ^ 61) c.dot-over.result (l +ℤ l) c.dot-over.ensures.bound
    (omega (arith, ints, s)) in
    sum_back c.args.start c.div_euclid.result c.args.start _
    (within_more (2 ^ 61) (2 ^ 62) _ (omega arith) c.requires.start)
    (within_more (2 ^ 61) (2 ^ 62) _ (omega arith) (subst (IsWithin (2 ^ 61)) (sym e) b)) refl e
    ∙ moved_is c.args.start c.args.end c.args.turned l c.args.n c.difference-way.result
    c.dot-over.result s (simp to_z-of_z at c.difference-way.ensures.value)
    (simp to_z-of_z at c.dot-over.ensures.value)
