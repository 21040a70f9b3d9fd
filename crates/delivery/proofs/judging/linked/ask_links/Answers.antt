use Rattle.std.proofs.Common.{List, sym, subst}
use Rattle.std.specs.List.{All, AllZip}
use Rattle.table_layout.specs.Values.{layout_view}
use Rattle.area_links.specs.Views.{rules_view}
use Rattle.area_links.specs.declared.kinds.LinkRule.{LinkRule}
use Rattle.reports.specs.AreaKinds.{plans}
use Rattle.area_drawings.specs.KeptDrawings.{CanBeDrawn, IsDrawnFrom}
use Rattle.area_drawings.specs.KeptRows.{Kept}
use Rattle.delivery.specs.AskedLinks.{AreAsked}
use Rattle.delivery.specs.KeptRows.{transfer_so_far}
use Rattle.delivery.specs.LinkRows.{IsGoodRule}
use Rattle.delivery.proofs.GoodRules.{good_rules}
use Rattle.delivery.proofs.KeptPlaces.{all_can_be_drawn, all_drawings}
use Rattle.delivery.proofs.judging.linked.ask_links.Goals as goal

pub asked_areas-requires-clause-good : goal.asked_areas-requires-clause-good
asked_areas-requires-clause-good c =
    let l = layout_view c.args.layout.now in
    subst (λ (rs : List LinkRule). All (IsGoodRule l) (rules_view rs)) (sym c.deref.ensures.value)
    (good_rules l c.requires.rules.0 (rules_view c.args.rules.items) c.requires.rules.1)

pub asked_areas-requires-clause-rows : goal.asked_areas-requires-clause-rows
asked_areas-requires-clause-rows c = (c.requires.rows.0, c.requires.rows.1)

pub surface_answers-requires-clause-rows : goal.surface_answers-requires-clause-rows
surface_answers-requires-clause-rows c = (c.requires.rows.0, c.requires.rows.1.kept)

pub drawings_from-requires : goal.drawings_from-requires
drawings_from-requires c =
    let l = layout_view c.args.layout.now in
    let k = c.requires.rows.1.kept in
    subst (λ (ks : List Kept). All (CanBeDrawn l ks) l.areas) (sym k.kept)
    (all_can_be_drawn l (transfer_so_far l c.requires.rows.0) c.requires.valid k.clean k.counted
    c.requires.rows.2)

pub returns : goal.returns
returns c text links rows has_rows k few count rules =
    let l = layout_view c.args.layout.now in
    let t = transfer_so_far l rows in
    let ds = plans c.in_ok-drawings.drawings.items in (
      t,
      has_rows,
      k.kept.clean,
      few,
      record {
        few = few;
        count = count;
        drawn = all_drawings l t c.requires.valid k.kept.clean k.kept.counted ds
            (subst (λ (ks : List Kept). AllZip (IsDrawnFrom l ks) l.areas ds) k.kept.kept
            c.in_ok-drawings.ensures.drawn);
        tolerances = c.in_ok-drawings.ensures.tolerances;
        surfaces_answered = c.in_ok-surfaces.ensures rows k.kept;
        rules_are = rules;
        asked = subst (λ (rs : List LinkRule). AreAsked l t (rules_view rs)
            c.in_ok-asked.asked.items) c.deref.ensures.value (c.in_ok-asked.ensures rows k);
      },
    )
