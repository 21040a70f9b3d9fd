use Rattle.std.proofs.Common.{List, ap, ◌∙◌, sym, subst, length}
use Rattle.std.specs.List.{All, AllZip}
use Rattle.plane.specs.declared.drawing.Drawing.{Drawing}
use Rattle.table_layout.specs.Values.{layout_view}
use Rattle.reports.specs.AreaKinds.{plans}
use Rattle.reports.specs.OutcomeViews.{outcome_of}
use Rattle.area_drawings.specs.AreaLimits.{IsSmallPlan}
use Rattle.area_drawings.specs.Drawings.{AreDrawings}
use Rattle.area_drawings.specs.KeptViews.{HasTolerance}
use Rattle.area_drawings.proofs.FewCurves.{few_curves}
use Rattle.area_drawings.proofs.Zips.{drawn_count}
use Rattle.delivery.specs.FiledTexts.{AreVerified}
use Rattle.delivery.specs.Judging.{sound}
use Rattle.delivery.specs.Pieces.{IsSoundFor}
use Rattle.delivery.specs.declared.judging.closing.Wanted.TheVariants.{AreasAlone}
use Rattle.delivery.specs.declared.rows.Sound.{Sound}
use Rattle.commands.proofs.Results.{if_ok}
use Rattle.delivery.proofs.Steps.{ended_for}
use Rattle.delivery.proofs.rows.verified_by.Goals as goal

pub verify_drawn-requires-clause-drawn : goal.verify_drawn-requires-clause-drawn
verify_drawn-requires-clause-drawn c =
    let l = layout_view c.args.layout.now in
    let text = c.requires.text.0 in
    let j = subst (λ (x : Sound). IsSoundFor AreasAlone l text x) c.in-Drawn.is
    (c.in_ok-count.ensures AreasAlone l text c.requires.text.1) in
    ap length c.deref.ensures.value
    ∙ drawn_count l j.0 c.args.layout.now.areas.items c.in-Drawn.drawings.items j.5

pub verify_drawn-requires-clause-small : goal.verify_drawn-requires-clause-small
verify_drawn-requires-clause-small c =
    let l = layout_view c.args.layout.now in
    let text = c.requires.text.0 in
    let j =
    subst (λ (x : Sound). IsSoundFor AreasAlone l text x) c.in-Drawn.is
    (c.in_ok-count.ensures AreasAlone l text c.requires.text.1) in
    subst (λ (ds : List Drawing). All IsSmallPlan (plans ds)) (sym c.deref.ensures.value)
    (few_curves l j.0 (plans c.in-Drawn.drawings.items) j.3 j.5)

pub verify_drawn-requires-clause-tolerances : goal.verify_drawn-requires-clause-tolerances
verify_drawn-requires-clause-tolerances c =
    let l = layout_view c.args.layout.now in
    let text = c.requires.text.0 in
    let j =
    subst (λ (x : Sound). IsSoundFor AreasAlone l text x) c.in-Drawn.is
    (c.in_ok-count.ensures AreasAlone l text c.requires.text.1) in
    subst (λ (ds : List Drawing). AllZip (HasTolerance l) l.areas ds)
    (sym c.deref.ensures.value) j.6

pub returns-in-Drawn : goal.returns-in-Drawn
returns-in-Drawn c text spelling h r =
    let l = layout_view c.args.layout.now in
    let j = subst (λ (x : Sound). IsSoundFor AreasAlone l text x) c.in-Drawn.is
    (c.in_ok-count.ensures AreasAlone l text h) in
    if_ok _ _ c.verify_drawn.result (λ o e. sound (j.0, j.1, j.2, j.3, e))
    (c.verify_drawn.ensures spelling j.0 r j.4
    (subst (λ (ds : List Drawing). AreDrawings l j.0 (plans ds))
    (sym c.deref.ensures.value) j.5))

pub returns-in-Ended : goal.returns-in-Ended
returns-in-Ended c text spelling h r =
    let l = layout_view c.args.layout.now in
    ended_for l text (AreVerified l spelling) (outcome_of c.in-Ended.outcome)
    (subst (λ (x : Sound). IsSoundFor AreasAlone l text x) c.in-Ended.is
    (c.in_ok-count.ensures AreasAlone l text h))
