use Rattle.std.proofs.Common.{rules, ◌≡◌, false, IsTrue, subst}
use Rattle.plane.specs.Rule.Curves.{arc}
use Rattle.tubes.specs.Making.{IsTubeAt}
use Rattle.certificate_checker.proofs.HeldPoints.{has_side, holds_in, in_holds, inner_close}
use Rattle.certificate_checker.proofs.HeldPoints.{outer_close}
use Rattle.certificate_checker.proofs.ListParts.{refused, unfit}
use Rattle.certificate_checker.proofs.holding.is_in_tube.Goals as goal

pub holds-requires-clause-inner : goal.holds-requires-clause-inner
holds-requires-clause-inner c =
    let m = subst (IsTubeAt (arc c.args.curve.now) c.args.level) c.in-Some.is
    c.in_ok-tube.ensures in
    inner_close c.args.window.now c.args.curve.now c.args.at c.requires.drawn c.requires.within
    c.args.level c.in-Some.tube m

pub holds-requires-clause-outer : goal.holds-requires-clause-outer
holds-requires-clause-outer c =
    let m = subst (IsTubeAt (arc c.args.curve.now) c.args.level) c.in-Some.is
    c.in_ok-tube.ensures in
    outer_close c.args.window.now c.args.curve.now c.args.at c.requires.drawn c.requires.within
    c.args.level c.in-Some.tube m

pub returns-then-not-holds : goal.returns-then-not-holds
returns-then-not-holds c =
    let m = subst (IsTubeAt (arc c.args.curve.now) c.args.level) c.in-Some.is
    c.in_ok-tube.ensures in
    let n : c.holds.result ≡ false = search rules in
    refused (λ x. unfit c.holds.result c.holds.ensures n
    (in_holds c.args.window.now c.args.curve.now c.args.at c.requires.drawn c.requires.within
    c.args.level c.in-Some.tube m x.0))

pub is_on_side-requires : goal.is_on_side-requires
is_on_side-requires c =
    let m = subst (IsTubeAt (arc c.args.curve.now) c.args.level) c.in-Some.is
    c.in_ok-tube.ensures in
    let t : IsTrue c.holds.result = search rules in
    has_side c.args.window.now c.args.curve.now c.args.at c.requires.drawn c.requires.within
    c.args.level c.in-Some.tube m (c.holds.ensures.0 t)

pub returns : goal.returns
returns c =
    let m = subst (IsTubeAt (arc c.args.curve.now) c.args.level) c.in-Some.is
    c.in_ok-tube.ensures in
    let h : IsTrue c.holds.result = search rules in (
      (λ t. (
        holds_in c.args.window.now c.args.curve.now c.args.at c.requires.drawn
            c.requires.within c.args.level c.in-Some.tube m (c.holds.ensures.0 h),
        c.is_on_side.ensures.0 t,
      )),
      (λ x. c.is_on_side.ensures.1 x.1),
    )
