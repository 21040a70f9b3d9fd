use Rattle.std.proofs.Common.{refl, arith}
use Rattle.std.proofs.lemmas.List.{length-map}
use Rattle.certificate.specs.Spelling.{views}
use Rattle.plane.specs.Rule.Plans.{plan}
use Rattle.table_layout.specs.Values.{area_view, layout_view}
use Rattle.reports.specs.AreaKinds.{plans}
use Rattle.reports.specs.VerificationViews.{verification_of}
use Rattle.delivery.specs.Verifying.{misnamed}
use Rattle.commands.proofs.Results.{if_ok}
use Rattle.delivery.proofs.VerifyingLemmas.{checked_list}
use Rattle.delivery.proofs.verifying.verify_list.Goals as goal

pub returns-in-Some : goal.returns-in-Some
returns-in-Some c =
    λ text s. misnamed (views c.args.certificates.now) c.in-Some.area s c.in-Some.ensures refl

pub returns-in-None : goal.returns-in-None
returns-in-None c =
    let e = c.requires.drawn in
    let d = length-map c.args.drawings.now plan in
    let a = length-map c.args.layout.now.areas.items area_view in
    if_ok _ _ c.check_all.result
    (λ v h. checked_list (layout_view c.args.layout.now) (plans c.args.drawings.now)
    (views c.args.certificates.now) (verification_of v)
    (omega (arith, e, d, a)) c.in-None.ensures h) c.check_all.ensures
