use Rattle.std.proofs.Common.{ℕ, List, sym, subst}
use Rattle.ports.specs.Faults.{ReadRose}
use Rattle.table_layout.specs.Values.{layout_view}
use Rattle.commands.specs.CommandViews.{transfer_of, IsSmallSource}
use Rattle.commands.specs.TrialFiles.{transfer_text}
use Rattle.commands.specs.declared.task.TransferSource.{TransferSource}
use Rattle.commands.proofs.ReadingSteps.{reads_by}
use Rattle.commands.proofs.Results.{if_ok}
use Rattle.delivery.specs.Pieces.{IsSourceJudgedFor}
use Rattle.delivery.specs.Served.{IsReadable}
use Rattle.delivery.specs.declared.transfers.TransferReading.TheVariants.{Judged}
use Rattle.delivery.proofs.Steps.{judged_for}
use Rattle.delivery.proofs.deciding.judge_source.Goals as goal

pub returns-in-File-clause-judged : goal.returns-in-File-clause-judged
returns-in-File-clause-judged g c =
    let held = g.S.Shelf.held c.args.shelf.now in
    let counted : List ℕ
    → Type 0 = ReadRose (g.S.Shelf.read_faults c.args.shelf.now)
    (g.S.Shelf.read_faults c.read_transfer.new.shelf) in
    let l = layout_view c.args.layout.now in
    if_ok _ _ c.read_transfer.result
    (λ r h. subst
    (λ (s : TransferSource). IsSourceJudgedFor c.args.wanted held counted l (transfer_of s) r)
    (sym c.in-File.is) h)
    c.read_transfer.ensures.transfer

pub returns-in-File-clause-reads : goal.returns-in-File-clause-reads
returns-in-File-clause-reads g c =
    reads_by (λ r. subst
    (λ (s : TransferSource). IsReadable (g.S.Shelf.readable c.args.shelf.now) (transfer_of s))
    c.in-File.is r) c.read_transfer.ensures.reads

pub judge_grid-requires-clause-size : goal.judge_grid-requires-clause-size
judge_grid-requires-clause-size g c = subst IsSmallSource c.in-Grid.is c.requires.small

pub returns-in_ok-judge_grid-in-Grid-clause-judged : goal.returns-in_ok-judge_grid-in-Grid-clause-judged
returns-in_ok-judge_grid-in-Grid-clause-judged g c =
    let held = g.S.Shelf.held c.args.shelf.now in
    let counted : List ℕ
    → Type 0 = ReadRose (g.S.Shelf.read_faults c.args.shelf.now)
    (g.S.Shelf.read_faults c.args.shelf.now) in
    let l = layout_view c.args.layout.now in
    subst (λ (s : TransferSource). IsSourceJudgedFor c.args.wanted held counted l (transfer_of s)
    (Judged c.in_ok-judge_grid-in-Grid.field-0))
    (sym c.in-Grid.is)
    (judged_for c.args.wanted l (transfer_text c.in-Grid.size) c.in_ok-judge_grid-in-Grid.field-0
    c.in_ok-judge_grid-in-Grid.ensures)
