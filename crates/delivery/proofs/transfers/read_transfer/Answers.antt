use Rattle.std.proofs.Common.{subst}
use Rattle.ports.specs.Faults.{Rose}
use Rattle.table_layout.specs.Values.{layout_view}
use Rattle.delivery.specs.KeptViews.{HasTaken}
use Rattle.delivery.specs.Pieces.{AreFileRows}
use Rattle.delivery.specs.declared.judging.rows.TransferKept.{TransferKept}
use Rattle.delivery.specs.declared.transfers.RowsReading.{RowsReading}
use Rattle.delivery.proofs.Steps.{rows_unread}
use Rattle.delivery.proofs.transfers.read_transfer.Goals as goal

pub returns-in-Unread-clause-transfer : goal.returns-in-Unread-clause-transfer
returns-in-Unread-clause-transfer g c =
    let held = g.S.Shelf.held c.args.shelf.now in
    let name = c.args.name.now in
    let l = layout_view c.args.layout.now in
    let old = g.S.Shelf.read_faults c.args.shelf.now in
    let new = g.S.Shelf.read_faults c.read_for.new.shelf in
    let rose = Rose (old name) (new name) in
    rows_unread c.args.wanted TransferKept HasTaken held name l rose c.in-Unread.refusal
    (subst (λ (r : RowsReading TransferKept). AreFileRows HasTaken held name l rose r)
    c.in-Unread.is c.in_ok-refusal.ensures.rows)

pub returns-in-Malformed-clause-transfer : goal.returns-in-Malformed-clause-transfer
returns-in-Malformed-clause-transfer g c =
    let held = g.S.Shelf.held c.args.shelf.now in
    let name = c.args.name.now in
    let l = layout_view c.args.layout.now in
    let old = g.S.Shelf.read_faults c.args.shelf.now in
    let new = g.S.Shelf.read_faults c.read_for.new.shelf in
    subst (λ (r : RowsReading TransferKept).
    AreFileRows HasTaken held name l (Rose (old name) (new name)) r)
    c.in-Malformed.is c.in_ok-refusal.ensures.rows

pub judge_rows-requires-clause-text : goal.judge_rows-requires-clause-text
judge_rows-requires-clause-text g c =
    let held = g.S.Shelf.held c.args.shelf.now in
    let name = c.args.name.now in
    let l = layout_view c.args.layout.now in
    let old = g.S.Shelf.read_faults c.args.shelf.now in
    let new = g.S.Shelf.read_faults c.read_for.new.shelf in
    let r = subst (λ (r : RowsReading TransferKept).
    AreFileRows HasTaken held name l (Rose (old name) (new name)) r)
    c.in-Rows.is c.in_ok-refusal.ensures.rows in
    (r.0, r.2)

pub returns-in_ok-judge_rows-in-Rows-clause-transfer : goal.returns-in_ok-judge_rows-in-Rows-clause-transfer
returns-in_ok-judge_rows-in-Rows-clause-transfer g c =
    let held = g.S.Shelf.held c.args.shelf.now in
    let name = c.args.name.now in
    let l = layout_view c.args.layout.now in
    let old = g.S.Shelf.read_faults c.args.shelf.now in
    let new = g.S.Shelf.read_faults c.read_for.new.shelf in
    let r = subst (λ (r : RowsReading TransferKept).
    AreFileRows HasTaken held name l (Rose (old name) (new name)) r)
    c.in-Rows.is c.in_ok-refusal.ensures.rows in
    (r.0, r.1, c.in_ok-judge_rows-in-Rows.ensures r.0 r.2)
