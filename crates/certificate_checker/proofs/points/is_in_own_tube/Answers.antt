use Rattle.std.proofs.Common.{rules, arith, ◌≡◌, ◌↔◌, ◌∙◌, ℕ, IsTrue, false, add-one, get_or, subst}
use Rattle.std.proofs.Common.{sym}
use Rattle.certificate_checker.specs.Cases.{judged}
use Rattle.certificate_checker.specs.Subjects.{side_label}
use Rattle.certificate_checker.proofs.ListParts.{refused, unfit}
use Rattle.certificate_checker.proofs.OwnTubes.{held_count, held_in, held_is, own_held, own_tube}
use Rattle.certificate_checker.proofs.points.is_in_own_tube.Goals as goal

pub bounds-case-number : goal.bounds-case-number
bounds-case-number c =
    let a = held_count c.args.case.now c.requires.fit c.args.number c.requires.number in
    let l = c.requires.number in
    omega (arith, a, l)

pub is_side_labelled-requires-clause-half_arc : goal.is_side_labelled-requires-clause-half_arc
is_side_labelled-requires-clause-half_arc c =
    let h : IsTrue (get_or c.args.case.now.held.now c.args.number false) = search rules in
    let x = (held_is c.args.case.now c.requires.fit c.args.number c.requires.number false).0 h in
    (held_in c.args.case.now c.requires.fit c.args.number c.requires.number c.in-Tube.curve
    c.in-Tube.inside (sym c.place_of.ensures ∙ c.in-Tube.is) x).half_arc

pub returns-then-not-case-number : goal.returns-then-not-case-number
returns-then-not-case-number c =
    let n : get_or c.args.case.now.held.now c.args.number false ≡ false = search rules in
    let f = held_is c.args.case.now c.requires.fit c.args.number c.requires.number false in
    refused (λ y. unfit (get_or c.args.case.now.held.now c.args.number false) f n
    (own_held c.args.case.now c.requires.fit c.args.number c.requires.number y))

pub returns : goal.returns
returns c =
    let h : IsTrue (get_or c.args.case.now.held.now c.args.number false) = search rules in
    let x = (held_is c.args.case.now c.requires.fit c.args.number c.requires.number false).0 h in
    own_tube c.args.case.now c.requires.fit c.args.number c.requires.number c.in-Tube.curve
    c.in-Tube.inside (sym c.place_of.ensures ∙ c.in-Tube.is) c.is_side_labelled.result x
    (subst (λ (n : ℕ). IsTrue c.is_side_labelled.result
    ↔ (side_label (judged c.args.case.now) c.in-Tube.inside c.in-Tube.curve ≡ n))
    (add-one c.args.number) c.is_side_labelled.ensures)
