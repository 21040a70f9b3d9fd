use Rattle.std.proofs.Common.{rules, ◌≡◌, false, refl, subst}
use Rattle.plane.specs.Rule.Plans.{curve, plan}
use Rattle.plane.specs.Rule.Curves.{arc}
use Rattle.tubes.specs.TubedEdges.{IsListAt, IsUsable}
use Rattle.certificate_checker.specs.Verdicts.{sizes}
use Rattle.certificate_checker.proofs.HeldPoints.{no_tube}
use Rattle.certificate_checker.proofs.ListParts.{unfit}
use Rattle.certificate_checker.proofs.checking.judge_drawing.Goals as goal

pub judge_list-requires : goal.judge_list-requires
judge_list-requires c =
    let d = plan c.args.drawing.now in
    record {
      low = search rules;
      few = c.requires;
      list = subst (IsListAt d (λ n. c.args.certificate.now.level)) c.in-Some.is
          c.in_ok-edge_list.ensures.list;
      usable = subst (IsUsable d) c.in-Some.is c.in_ok-edge_list.ensures.usable;
    }

pub returns-in-None : goal.returns-in-None
returns-in-None c =
    let d = plan c.args.drawing.now in
    let x = subst (IsListAt d (λ n. c.args.certificate.now.level)) c.in-None.is
    c.in_ok-edge_list.ensures.list in
    sizes refl refl
    (λ h k. no_tube (arc (curve d x.0)) c.args.certificate.now.level (h.tubes x.0 x.1) x.2)

pub returns-then-not-has_sizes : goal.returns-then-not-has_sizes
returns-then-not-has_sizes c =
    let n : c.has_sizes.result ≡ false = search rules in
    sizes refl refl (λ h. unfit c.has_sizes.result (c.has_sizes.ensures h) n)
