use Rattle.std.proofs.Common.{refl, subst}
use Rattle.table_layout.specs.Values.{layout_view}
use Rattle.reports.specs.OutcomeViews.{outcome_of}
use Rattle.delivery.specs.Pieces.{IsSound}
use Rattle.delivery.specs.declared.judging.closing.Wanted.TheVariants.{Everything}
use Rattle.delivery.specs.declared.rows.Sound.{Sound}
use Rattle.delivery.proofs.EarlyEnds.{judged_early}
use Rattle.delivery.proofs.drawn.from_judged.Goals as goal

pub returns-in-Drawn : goal.returns-in-Drawn
returns-in-Drawn c text h =
    let l = layout_view c.args.layout in
    record {
      layout = refl;
      judged = subst (λ (x : Sound). IsSound l text x) c.in-Drawn.is
          (c.in_ok-objects.ensures Everything l text h);
    }

pub returns-in-Ended : goal.returns-in-Ended
returns-in-Ended c text h =
    let l = layout_view c.args.layout in
    let j = subst (λ (x : Sound). IsSound l text x) c.in-Ended.is
    (c.in_ok-objects.ensures Everything l text h) in
    (j, judged_early l text (outcome_of c.in-Ended.outcome) j)
