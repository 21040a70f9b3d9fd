use Rattle.std.proofs.Common.{rules, ◌≡◌, Err, sym, ap}
use Rattle.table_layout.specs.Values.{layout_view}
use Rattle.itf_reader.specs.ReadRows.{read_rows}
use Rattle.itf_reader.specs.Layouts.{form_of}
use Rattle.itf_reader.specs.Reads.{TransferState}
use Rattle.itf_reader.specs.Views.{transfer_of}
use Rattle.itf_reader.proofs.Openings.{finish_err, finish_ok}
use Rattle.itf_reader.proofs.transfer_feed.TransferFeed.finish.Goals as goal

pub returns-in_err-finish-clause-gives : goal.returns-in_err-finish-clause-gives
returns-in_err-finish-clause-gives c sound =
    let e : c.from_residual.result ≡ Err c.in_err-finish.field-0.0 = search rules in
    rw e (finish_err (form_of (layout_view c.args.layout.now)) c.args.self c.self.inside.feed
    c.args.end c.in_err-finish.field-0.0
    (ap (λ (s : TransferState). s.at) (sym c.self.view_is)) c.in_err-finish.ensures.sound
    c.in_err-finish.ensures.failed)

pub returns-clause-gives : goal.returns-clause-gives
returns-clause-gives c sound =
    finish_ok (form_of (layout_view c.args.layout.now)) c.args.self c.self.inside.feed c.args.end
    (read_rows c.self.inside.tables) (transfer_of c.in_ok-transfer_by_layout.field-0)
    c.in_ok-finish.field-0
    (ap (λ (s : TransferState). s.at) (sym c.self.view_is))
    (ap (λ (s : TransferState). s.rows) (sym c.self.view_is)) c.in_ok-finish.ensures.sound
    c.in_ok-finish.ensures.failed c.in_ok-transfer_by_layout.ensures
