use Rattle.std.proofs.Common.{◌≡◌, true, List, subst, sym}
use Rattle.certificate.specs.Spelling.{views}
use Rattle.commands.specs.CommandViews.{target_of}
use Rattle.commands.proofs.Results.{if_ok}
use Rattle.delivery.proofs.WrittenAreas.{all_fine, judged_bounded}
use Rattle.polygons.specs.Text.{views as polygons_in}
use Rattle.reports.specs.AreaKinds.{plans}
use Rattle.reports.specs.Kinds.{are_fine}
use Rattle.reports.specs.OutcomeViews.{outcome_of}
use Rattle.reports.specs.declared.lines.AreaAnswer.{AreaAnswer}
use Rattle.table_layout.specs.Values.{areas_view, layout_view}
use Rattle.delivery.proofs.rows.bound_areas.Goals as goal

pub polygons_if_fine-requires-clause-fine : goal.polygons_if_fine-requires-clause-fine
polygons_if_fine-requires-clause-fine c = λ f.
    all_fine c.one_right_ground.ensures.straights (layout_view c.args.layout.now)
    (areas_view c.args.layout.now.areas.items)
    (plans c.args.drawings.now) c.args.answers.areas.items
    (views c.args.answers.certificates.items)
    c.requires.answered
    (subst (λ (xs : List AreaAnswer). are_fine xs ≡ true) c.deref.ensures.value f)

pub returns : goal.returns
returns c rows n told h =
    let l = layout_view c.args.layout.now in
    let ps = polygons_in c.in_ok-polygons.polygons.items in
    if_ok _ _ c.areas_outcome.result
    (λ o e.
    judged_bounded (target_of c.args.target.now) l rows
    (outcome_of o) c.args.count c.args.surfaces.now
    (plans c.args.drawings.now) c.args.answers.areas.items
    (views c.args.answers.certificates.items) ps
    n told h c.requires.answered c.requires.spelt _ c.requires.filed e
    (λ f. c.in_ok-polygons.ensures
    (subst (λ (xs : List AreaAnswer). are_fine xs ≡ true) (sym c.deref.ensures.value) f)))
    c.areas_outcome.ensures
