use Rattle.std.proofs.Common.{◌≡◌, ℕ, ◌^◌, ◌<◌, ◌≤◌, ◌∙◌, ap, arith, rules, subst, FitsSigned}
use Rattle.std.proofs.Common.{to_z-of_z}
use Rattle.std.specs.Int.{w64}
use Rattle.std.specs.Prelude.{unsigned_abs}
use Rattle.std.proofs.lemmas.Int.{ints}
use Rattle.arc_predicates.specs.Circles.{half_arc}
use Rattle.tubes.specs.Counting.{Follows}
use Rattle.tubes.specs.HalfArcTubes.{whole_distance}
use Rattle.tubes.proofs.CountLaws.{window_is}
use Rattle.tubes.proofs.SpanNumbers.{whole_within}
use Rattle.tubes.proofs.counting.window.Goals as goal

pub guess-requires : goal.guess-requires
guess-requires c =
    let s = c.args.span.now in
    let l : FitsSigned w64 s.length = search rules in
    let e : c.unsigned_abs-length.result
    ≡ whole_distance s.p s.q = (simp to_z-of_z at c.unsigned_abs-length.ensures.value)
    ∙ ap unsigned_abs s.distance in
    let w = whole_within s.p s.q s.near in
    omega (arith, ints, e, w)

pub inside_to-requires-clause-length : goal.inside_to-requires-clause-length
inside_to-requires-clause-length c =
    let s = c.args.span.now in
    let l : FitsSigned w64 s.length = search rules in
    let e : c.unsigned_abs-length.result
    ≡ whole_distance s.p s.q = (simp to_z-of_z at c.unsigned_abs-length.ensures.value)
    ∙ ap unsigned_abs s.distance in
    let w = whole_within s.p s.q s.near in
    omega (arith, ints, e, w)

pub outside_from-requires-clause-length : goal.outside_from-requires-clause-length
outside_from-requires-clause-length c =
    let s = c.args.span.now in
    let l : FitsSigned w64 s.length = search rules in
    let e : c.unsigned_abs-length.result
    ≡ whole_distance s.p s.q = (simp to_z-of_z at c.unsigned_abs-length.ensures.value)
    ∙ ap unsigned_abs s.distance in
    let w = whole_within s.p s.q s.near in
    omega (arith, ints, e, w)

pub returns : goal.returns
returns c =
    let s = c.args.span.now in
    let b = c.bounds-bounds.result in
    let l : FitsSigned w64 s.length = search rules in
    let e : c.unsigned_abs-length.result
    ≡ whole_distance s.p s.q = (simp to_z-of_z at c.unsigned_abs-length.ensures.value)
    ∙ ap unsigned_abs s.distance in
    window_is (half_arc c.args.circle.now) s.p s.q b c.inside_to.result c.outside_from.result s.some
    c.requires.p_inside c.requires.q_inside
    c.bounds-bounds.ensures
    (subst (λ (l : ℕ). (j : ℕ) → 4 ≤ j → j ≤ c.inside_to.result
    → Follows l j b.low) e c.inside_to.ensures)
    (subst (λ (l : ℕ). (i : ℕ) → c.outside_from.result ≤ i → i < 2 ^ 27
    → Follows l b.high i) e c.outside_from.ensures)
