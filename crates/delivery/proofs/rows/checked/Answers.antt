use Rattle.std.proofs.Common.{List, ap, ◌∙◌, sym, subst, length}
use Rattle.std.specs.List.{All, AllZip}
use Rattle.plane.specs.declared.drawing.Drawing.{Drawing}
use Rattle.table_layout.specs.Values.{layout_view}
use Rattle.reports.specs.AreaKinds.{plans}
use Rattle.reports.specs.OutcomeViews.{outcome_of}
use Rattle.commands.specs.CommandViews.{target_of}
use Rattle.area_drawings.specs.AreaLimits.{IsSmallPlan}
use Rattle.area_drawings.specs.Drawings.{AreDrawings}
use Rattle.area_drawings.specs.KeptViews.{HasTolerance}
use Rattle.area_drawings.proofs.FewCurves.{few_curves}
use Rattle.area_drawings.proofs.Zips.{drawn_count}
use Rattle.delivery.specs.Judging.{sound, AreJudged}
use Rattle.delivery.specs.Pieces.{IsSound}
use Rattle.delivery.specs.Surfaces.{AreSurfaceAnswers}
use Rattle.reports.specs.Surfaces.{surfaces}
use Rattle.delivery.specs.declared.judging.closing.Wanted.TheVariants.{Everything}
use Rattle.delivery.specs.declared.rows.Sound.{Sound}
use Rattle.commands.proofs.Results.{if_ok}
use Rattle.delivery.proofs.Steps.{ended_for}
use Rattle.delivery.proofs.rows.checked.Goals as goal

pub check_areas-requires-clause-drawn : goal.check_areas-requires-clause-drawn
check_areas-requires-clause-drawn c =
    let l = layout_view c.args.layout.now in
    let text = c.requires.text.0 in
    let j = subst (λ (x : Sound). IsSound l text x) c.in-Drawn.is
    (c.in_ok-count.ensures Everything l text c.requires.text.1) in
    ap length c.deref-in-Drawn.ensures.value
    ∙ drawn_count l j.0 c.args.layout.now.areas.items c.in-Drawn.drawings.items j.5

pub check_areas-requires-clause-few : goal.check_areas-requires-clause-few
check_areas-requires-clause-few c =
    let l = layout_view c.args.layout.now in
    let text = c.requires.text.0 in
    let j = subst (λ (x : Sound). IsSound l text x) c.in-Drawn.is
    (c.in_ok-count.ensures Everything l text c.requires.text.1) in
    subst (λ (ds : List Drawing). All IsSmallPlan (plans ds)) (sym c.deref-in-Drawn.ensures.value)
    (few_curves l j.0 (plans c.in-Drawn.drawings.items) j.3 j.5)

pub check_areas-requires-clause-tolerances : goal.check_areas-requires-clause-tolerances
check_areas-requires-clause-tolerances c =
    let l = layout_view c.args.layout.now in
    let text = c.requires.text.0 in
    let j =
    subst (λ (x : Sound). IsSound l text x) c.in-Drawn.is
    (c.in_ok-count.ensures Everything l text c.requires.text.1) in
    subst (λ (ds : List Drawing). AllZip (HasTolerance l) l.areas ds)
    (sym c.deref-in-Drawn.ensures.value) j.6

pub returns-in-Drawn : goal.returns-in-Drawn
returns-in-Drawn c text h =
    let l = layout_view c.args.layout.now in
    let j = subst (λ (x : Sound). IsSound l text x) c.in-Drawn.is
    (c.in_ok-count.ensures Everything l text h) in
    if_ok _ _ c.check_areas.result (λ o e. sound (j.0, j.1, j.2, j.3, e))
    (c.check_areas.ensures j.0 j.4
    (subst (AreSurfaceAnswers l j.0 (surfaces l)) (sym c.deref.ensures.value) j.7)
    (subst (λ (ds : List Drawing). AreDrawings l j.0 (plans ds))
    (sym c.deref-in-Drawn.ensures.value) j.5))

pub returns-in-Ended : goal.returns-in-Ended
returns-in-Ended c text h =
    let l = layout_view c.args.layout.now in
    ended_for l text (AreJudged (target_of c.args.target.now) l) (outcome_of c.in-Ended.outcome)
    (subst (λ (x : Sound). IsSound l text x) c.in-Ended.is
    (c.in_ok-count.ensures Everything l text h))
