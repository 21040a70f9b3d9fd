use Rattle.std.proofs.Common.{ℕ, List, subst}
use Rattle.ports.specs.Faults.{ReadRose}
use Rattle.table_layout.specs.Values.{layout_view}
use Rattle.commands.specs.declared.files.File.TheVariants.{Transfer}
use Rattle.reports.specs.OutcomeViews.{outcome_of}
use Rattle.commands.proofs.Results.{if_ok}
use Rattle.delivery.specs.Pieces.{IsTransfer}
use Rattle.delivery.specs.declared.transfers.TransferReading.{TransferReading}
use Rattle.delivery.proofs.EarlyEnds.{drawn_file, not_read_early, not_read_passes}
use Rattle.delivery.proofs.EarlyEnds.{unread_check}
use Rattle.delivery.proofs.drawn.from_transfer.Goals as goal

pub returns-in-Judged-clause-delivered : goal.returns-in-Judged-clause-delivered
returns-in-Judged-clause-delivered g c =
    let held = g.S.Shelf.held c.args.shelf.now in
    let counted : List ℕ
    → Type 0 = ReadRose (g.S.Shelf.read_faults c.args.shelf.now)
    (g.S.Shelf.read_faults c.read_transfer.new.shelf) in
    let l = layout_view c.args.layout in
    let t = subst
    (λ (r : TransferReading). IsTransfer held c.args.transfer.now l
    (counted c.args.transfer.now) r) c.in-Judged.is c.in_ok-judged.ensures.transfer in
    if_ok _ _ c.from_judged.result
    (λ d h. drawn_file held counted l c.args.transfer.now t.0 d t.1 h)
    (c.from_judged.ensures t.0 t.2)

pub returns-clause-delivered : goal.returns-clause-delivered
returns-clause-delivered g c =
    let held = g.S.Shelf.held c.args.shelf.now in
    let counted : List ℕ
    → Type 0 = ReadRose (g.S.Shelf.read_faults c.args.shelf.now)
    (g.S.Shelf.read_faults c.read_transfer.new.shelf) in
    let l = layout_view c.args.layout in
    let t = subst
    (λ (r : TransferReading). IsTransfer held c.args.transfer.now l
    (counted c.args.transfer.now) r) c.in-Unread.is c.in_ok-judged.ensures.transfer in
    let o = outcome_of c.in_ok-not_read-in-Unread.field-0 in (
      unread_check held counted l c.args.transfer.now c.in-Unread.refusal o t
          c.in_ok-not_read-in-Unread.ensures,
      not_read_early Transfer c.in-Unread.refusal o c.in_ok-not_read-in-Unread.ensures,
      λ r. absurd (not_read_passes Transfer c.in-Unread.refusal o c.in_ok-not_read-in-Unread.ensures
          r),
    )
