use Rattle.std.proofs.Common.{refl, inl, inr, subst}
use Rattle.table_layout.specs.Values.{layout_view}
use Rattle.commands.specs.Gathering.{refused}
use Rattle.commands.specs.RefusalViews.{refusal_of, IsModelReading}
use Rattle.commands.proofs.ReadingSteps.{reads_none}
use Rattle.commands.proofs.Results.{if_ok}
use Rattle.delivery.proofs.deciding.from_model_text.Goals as goal

pub returns-in-Laid-clause-outcome : goal.returns-in-Laid-clause-outcome
returns-in-Laid-clause-outcome g c =
    let laid = subst (IsModelReading c.args.text.now) c.in-Laid.is c.in_ok-layout.ensures.reads in
    if_ok _ _ c.by_task.result
    (λ o h. record {
      gathered = h.gathered;
      compiles = inr (layout_view c.in-Laid.layout, laid, h.reads);
      amounts = h.amounts;
    })
    c.by_task.ensures.outcome

pub returns-in-Refused-clause-outcome : goal.returns-in-Refused-clause-outcome
returns-in-Refused-clause-outcome g c =
    let refusal = refusal_of c.in-Refused.refusal in
    let is_refused = subst (IsModelReading c.args.text.now) c.in-Refused.is
    c.in_ok-layout.ensures.reads in
    if_ok _ _ c.refused.result
    (λ o e. record {
      gathered = refused refusal;
      compiles = inl (refusal, is_refused, refl);
      amounts = e;
    })
    c.refused.ensures

pub returns-in-Refused-clause-reads : goal.returns-in-Refused-clause-reads
returns-in-Refused-clause-reads g c = reads_none
