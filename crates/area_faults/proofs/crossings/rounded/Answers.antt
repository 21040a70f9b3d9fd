use Rattle.std.proofs.Common.{rules, ◌≡◌, ◌^◌, ◌*ℤ◌, ◌-ℤ◌, ℤ, negsuc, FitsSigned, to_z, of_z}
use Rattle.std.proofs.Common.{to_z-of_z, ap, arith, refl, subst, sym, ◌∙◌}
use Rattle.std.proofs.lemmas.Int.{ints}
use Rattle.std.specs.Int.{int_div_euclid, w128}
use Rattle.plane.specs.Numbers.{IsWithin}
use Rattle.area_faults.proofs.Rounding.{floor_within, rounded_least, rounded_most, sum_fits}
use Rattle.area_faults.proofs.crossings.rounded.Goals as goal

pub div_euclid-quotient-requires-clause-no_overflow : goal.div_euclid-quotient-requires-clause-no_overflow
div_euclid-quotient-requires-clause-no_overflow c = λ e f.
    let t = c.ranges.turn in
    let k : c.args.turn ≡ negsuc 0 = sym (to_z-of_z t)
    ∙ ap (to_z w128) (sym (ap (of_z w128) (to_z-of_z t)) ∙ e) in
    let l = c.requires.left in
    absurd (omega (arith, ints, k, l))

pub overflow_add-result : goal.overflow_add-result
overflow_add-result c =
    let t = c.ranges.turn in
    let a = c.ranges.from in
    let s : FitsSigned w128 c.scaled-along.result = search rules in
    let r : FitsSigned w128 c.from.result = search rules in
    let u : FitsSigned w128 c.div_euclid-quotient.result = search rules in
    let from : c.from.result ≡ c.args.from = c.from.ensures ∙ to_z-of_z a in
    let quotient : c.div_euclid-quotient.result
    ≡ int_div_euclid c.scaled-along.result c.args.turn =
    simp to_z-of_z at c.div_euclid-quotient.ensures in
    let w = subst (IsWithin (2 ^ 124)) (sym quotient)
    (floor_within (2 ^ 124) c.scaled-along.result c.args.turn c.requires.left
    c.scaled-along.ensures.bound) in
    rw (to_z-of_z r, to_z-of_z u, from) (sum_fits c.args.from c.div_euclid-quotient.result a w)

pub returns : goal.returns
returns c =
    let t = c.ranges.turn in
    let a = c.ranges.from in
    let b = c.ranges.to in
    let p = c.ranges.part in
    let d : FitsSigned w128 c.difference-step.result = search rules in
    let s : FitsSigned w128 c.scaled-along.result = search rules in
    let r : FitsSigned w128 c.from.result = search rules in
    let u : FitsSigned w128 c.div_euclid-quotient.result = search rules in
    let from : c.from.result ≡ c.args.from = c.from.ensures ∙ to_z-of_z a in
    let step : c.difference-step.result
    ≡ c.args.to -ℤ c.args.from = simp to_z-of_z at c.difference-step.ensures.value in
    let along : c.scaled-along.result ≡ c.difference-step.result
    *ℤ c.args.part = simp to_z-of_z at c.scaled-along.ensures.value in
    let along_is : c.scaled-along.result ≡ (c.args.to -ℤ c.args.from) *ℤ c.args.part = along
    ∙ ap (λ (z : ℤ). z *ℤ c.args.part) step in
    let quotient : c.div_euclid-quotient.result
    ≡ int_div_euclid c.scaled-along.result c.args.turn =
    simp to_z-of_z at c.div_euclid-quotient.ensures in
    let quotient_is = quotient ∙ ap (λ (z : ℤ). int_div_euclid z c.args.turn) along_is in
    let w = subst (IsWithin (2 ^ 124)) (sym quotient)
    (floor_within (2 ^ 124) c.scaled-along.result c.args.turn c.requires.left
    c.scaled-along.ensures.bound) in
    let f = sum_fits c.args.from c.div_euclid-quotient.result a w in
    rw (to_z-of_z r, to_z-of_z u, from, to_z-of_z f) (record {
      least = rounded_least c.args.from
          ((c.args.to -ℤ c.args.from) *ℤ c.args.part) c.args.turn c.div_euclid-quotient.result _
          c.requires.left quotient_is refl;
      most = rounded_most c.args.from ((c.args.to -ℤ c.args.from) *ℤ c.args.part) c.args.turn
          c.div_euclid-quotient.result _ c.requires.left quotient_is refl;
    })
