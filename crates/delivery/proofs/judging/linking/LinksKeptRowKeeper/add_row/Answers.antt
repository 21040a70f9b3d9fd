use Rattle.std.proofs.Common.{ap, ◌∙◌}
use Rattle.std.proofs.lemmas.List.{with_items_is}
use Rattle.delivery.specs.LinkRows.{points_in}
use Rattle.delivery.proofs.KeptSteps.{on_ok}
use Rattle.delivery.proofs.LinkColumns.{both_ok}
use Rattle.delivery.proofs.judging.linking.LinksKeptRowKeeper.add_row.Goals as goal

pub returns : goal.returns
returns c =
    let old = c.args.self.now in
    on_ok c.take_row.result
    (λ k rows h. record {
      judged = k.0 rows h.judged;
      points =
          ap points_in (with_items_is old.points c.take_row.new.points
          (c.take_row.auto.points ∙ c.deref_mut.ensures.len))
          ∙ k.1 rows h.judged (ap points_in c.deref_mut.ensures.value ∙ h.points);
    })
    (both_ok _ _ c.take_row.result c.take_row.ensures.judged c.take_row.ensures.points)
