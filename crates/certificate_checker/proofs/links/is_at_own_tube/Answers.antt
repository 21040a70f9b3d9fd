use Rattle.std.proofs.Common.{rules, arith, ◌≡◌, ◌≤◌, length}
use Rattle.plane.specs.Faces.Halves.{half_of}
use Rattle.certificate_checker.specs.Cases.{judged}
use Rattle.certificate_checker.proofs.OwnTubes.{at_tube_is}
use Rattle.certificate_checker.proofs.links.is_at_own_tube.Goals as goal

pub bounds_tube-requires-clause-number : goal.bounds_tube-requires-clause-number
bounds_tube-requires-clause-number c =
    let a : c.label_at-label.result ≡ 0 → ⊥ = search rules in
    let b : c.label_at-label.result ≤ length c.args.case.now.points.now = search rules in
    omega (arith, a, b)

pub returns : goal.returns
returns c =
    let a : c.label_at-label.result ≡ 0 → ⊥ = search rules in
    let b : c.label_at-label.result ≤ length c.args.case.now.points.now = search rules in
    at_tube_is (judged c.args.case.now)
    (half_of c.args.h) _ c.label_at-label.result c.bounds_tube.result c.label_at-label.ensures
    (omega (arith, a)) (omega (arith, a, b)) c.bounds_tube.ensures
