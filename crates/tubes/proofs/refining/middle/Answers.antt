use Rattle.std.proofs.Common.{◌≡◌, ◌-ℤ◌, ◌^◌, FitsSigned, Some, ap, arith, pos, rules, subst, sym}
use Rattle.std.proofs.Common.{◌∙◌, to_z-of_z}
use Rattle.std.specs.Int.{w64}
use Rattle.std.proofs.lemmas.Int.{ints}
use Rattle.arc_predicates.specs.Circles.{half_arc}
use Rattle.tubes.specs.HalfArcTubes.{beside, count}
use Rattle.tubes.specs.Making.{HasRoom}
use Rattle.tubes.proofs.CountNumbers.{has_room}
use Rattle.tubes.proofs.Rounds.{at_ends, counted, no_count, none_of, some_of}
use Rattle.tubes.proofs.SmallNumbers.{fits}
use Rattle.tubes.proofs.refining.middle.Goals as goal

pub returns-in_err-span : goal.returns-in_err-span
returns-in_err-span c = c.from_residual.ensures
    ∙ none_of (count (half_arc c.args.circle.now) c.args.p c.args.q) _
    (no_count (half_arc c.args.circle.now) c.args.p c.args.q c.in_err-span.ensures)

pub beside-requires-clause-room : goal.beside-requires-clause-room
beside-requires-clause-room c =
    subst HasRoom (sym c.in_ok-span.ensures.0)
    (has_room c.args.circle.now.s c.args.p c.requires.short c.requires.near)

pub beside-requires-clause-n : goal.beside-requires-clause-n
beside-requires-clause-n c =
    let h = half_arc c.args.circle.now in
    let k = c.in_ok-k.k in
    let e : count h c.args.p c.args.q ≡ Some k = at_ends
    (count h) c.args.p c.args.q c.in_ok-span.span.p c.in_ok-span.span.q c.in_ok-span.ensures.0
    c.in_ok-span.ensures.1 ∙ sym c.in_ok-k.ensures in
    let b = (counted h c.args.p c.args.q k e).small in
    let m = c.from.ensures in
    let f : FitsSigned w64 c.from.result = search rules in
    let g = fits (2 ^ 62) (c.from.result -ℤ pos 2) (omega arith) (omega (arith, ints, b, m)) in
    rw (to_z-of_z f, to_z-of_z g) (omega (arith, ints, b, m))

pub returns : goal.returns
returns c =
    let h = half_arc c.args.circle.now in
    let k = c.in_ok-k.k in
    let e : count h c.args.p c.args.q ≡ Some k = at_ends
    (count h) c.args.p c.args.q c.in_ok-span.span.p c.in_ok-span.span.q c.in_ok-span.ensures.0
    c.in_ok-span.ensures.1 ∙ sym c.in_ok-k.ensures in
    let b = (counted h c.args.p c.args.q k e).small in
    let m = c.from.ensures in
    let f : FitsSigned w64 c.from.result = search rules in
    let g = fits (2 ^ 62) (c.from.result -ℤ pos 2) (omega arith) (omega (arith, ints, b, m)) in
    let n = pos k -ℤ pos 2 in
    let v : c.beside.result ≡ beside h c.args.p c.args.q n = (simp to_z-of_z at c.beside.ensures)
    ∙ ap (λ n. beside h c.in_ok-span.span.p c.in_ok-span.span.q n) (ap (λ z. z -ℤ pos 2) m)
    ∙ sym (at_ends (λ p q. beside h p q n) c.args.p c.args.q c.in_ok-span.span.p c.in_ok-span.span.q
    c.in_ok-span.ensures.0 c.in_ok-span.ensures.1) in
    ap (λ v. Some v) v ∙ some_of (count h c.args.p c.args.q) _ k e
