use Rattle.table_layout.specs.Values.{layout_view}
use Rattle.ports.specs.Faults.{Rose}
use Rattle.commands.proofs.Results.{if_ok}
use Rattle.delivery.proofs.PieceSteps.{whole_text, unread_rows, ended_rows}
use Rattle.delivery.proofs.transfers.read_rows.Goals as goal

pub end-requires-clause-text : goal.end-requires-clause-text
end-requires-clause-text g c =
    let w = c.in-Ok.ensures.whole in
    let t = whole_text _ g.K.RowKeeper.has_rows
    (g.S.Shelf.held c.args.shelf.now) c.args.name.now w.0 c.limit.result
    (layout_view c.args.layout.now) c.new.result c.read_pieces-read.new.taker.judge
    c.limit.ensures.limit w.1 c.new.ensures w.2.takes in
    (w.0, t.1)

pub returns-in-Ok-clause-rows : goal.returns-in-Ok-clause-rows
returns-in-Ok-clause-rows g c =
    let held = g.S.Shelf.held c.args.shelf.now in
    let name = c.args.name.now in
    let old = g.S.Shelf.read_faults c.args.shelf.now in
    let new = g.S.Shelf.read_faults c.read_pieces-read.new.shelf in
    let l = layout_view c.args.layout.now in
    let w = c.in-Ok.ensures.whole in
    let t = whole_text _ g.K.RowKeeper.has_rows held name w.0 c.limit.result l c.new.result
    c.read_pieces-read.new.taker.judge c.limit.ensures.limit w.1 c.new.ensures w.2.takes in
    if_ok _ _ c.ended.result
    (λ x h. ended_rows _ g.K.RowKeeper.has_rows held name w.0 l
    (Rose (old name) (new name)) c.end.result x t.0 (c.end.ensures w.0 t.1) h)
    c.ended.ensures

pub returns-in-Err-clause-rows : goal.returns-in-Err-clause-rows
returns-in-Err-clause-rows g c =
    let name = c.args.name.now in
    let old = g.S.Shelf.read_faults c.args.shelf.now in
    let new = g.S.Shelf.read_faults c.read_pieces-read.new.shelf in
    if_ok _ _ c.unread.result
    (λ x h. unread_rows _ g.K.RowKeeper.has_rows _
    (g.S.Shelf.held c.args.shelf.now) name c.limit.result (layout_view c.args.layout.now)
    (Rose (old name) (new name)) c.in-Err.refusal x c.limit.ensures.limit c.in-Err.ensures.cause
    c.in-Err.ensures.long h)
    c.unread.ensures
