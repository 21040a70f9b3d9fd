use Rattle.std.proofs.Common.{ℕ, List, subst}
use Rattle.ports.specs.Faults.{ReadRose}
use Rattle.table_layout.specs.Values.{layout_view}
use Rattle.commands.specs.RefusalViews.{refusal_of, IsModelReading, IsValidReading}
use Rattle.reports.specs.OutcomeViews.{outcome_of}
use Rattle.commands.proofs.ReadingSteps.{reads_none}
use Rattle.commands.proofs.Results.{if_ok}
use Rattle.delivery.proofs.EarlyEnds.{drawn_model, refused_early, refused_model}
use Rattle.delivery.proofs.EarlyEnds.{refused_passes}
use Rattle.delivery.proofs.drawn.from_model.Goals as goal

pub returns-in-Laid-clause-delivered : goal.returns-in-Laid-clause-delivered
returns-in-Laid-clause-delivered g c =
    let held = g.S.Shelf.held c.args.shelf.now in
    let counted : List ℕ
    → Type 0 = ReadRose (g.S.Shelf.read_faults c.args.shelf.now)
    (g.S.Shelf.read_faults c.from_transfer.new.shelf) in
    let l = layout_view c.in-Laid.layout in
    let laid = subst (IsModelReading c.args.text.now) c.in-Laid.is c.in_ok-layout.ensures.reads in
    let valid = subst IsValidReading c.in-Laid.is c.in_ok-layout.ensures.valid in
    if_ok _ _ c.from_transfer.result
    (λ d h. drawn_model held counted l c.args.text.now c.args.transfer.now d laid valid h)
    c.from_transfer.ensures.delivered

pub returns-in_ok-refused-in-Refused-clause-delivered : goal.returns-in_ok-refused-in-Refused-clause-delivered
returns-in_ok-refused-in-Refused-clause-delivered g c =
    let held = g.S.Shelf.held c.args.shelf.now in
    let counted : List ℕ
    → Type 0 = ReadRose (g.S.Shelf.read_faults c.args.shelf.now)
    (g.S.Shelf.read_faults c.args.shelf.now) in
    let r = refusal_of c.in-Refused.refusal in
    let o = outcome_of c.in_ok-refused-in-Refused.field-0 in
    let is_refused = subst (IsModelReading c.args.text.now) c.in-Refused.is
    c.in_ok-layout.ensures.reads in (
      refused_model held counted c.args.text.now c.args.transfer.now r o is_refused
          c.in_ok-refused-in-Refused.ensures,
      refused_early r o c.in_ok-refused-in-Refused.ensures,
      λ q. absurd (refused_passes r o c.in_ok-refused-in-Refused.ensures q),
    )

pub returns-in_ok-refused-in-Refused-clause-reads : goal.returns-in_ok-refused-in-Refused-clause-reads
returns-in_ok-refused-in-Refused-clause-reads g c = reads_none
