use Rattle.std.proofs.Common.{ap}
use Rattle.table_layout.specs.Values.{layout_view}
use Rattle.itf_lines.specs.Views.{lines_view}
use Rattle.itf_reader.specs.ReadRows.{read_rows}
use Rattle.itf_reader.specs.Layouts.{form_of}
use Rattle.itf_reader.specs.Names.{form_in}
use Rattle.itf_reader.specs.Reads.{TransferState}
use Rattle.itf_reader.proofs.FeedLaws.{at_by, rows_by}
use Rattle.itf_reader.proofs.transfer_feed.TransferFeed.take_all.Goals as goal

pub returns-clause-at : goal.returns-clause-at
returns-clause-at c =
    at_by c.take_lines.result (form_of (layout_view c.args.layout.now))
    (form_in c.in_ok-names.names) c.take_lines.new.self.at c.args.self.now.at
    c.self.inside.feed.at (lines_view c.args.lines.now)
    c.in_ok-names.ensures (ap (λ (s : TransferState). s.at) c.self.view_is) c.take_lines.ensures.at

pub returns-clause-rows : goal.returns-clause-rows
returns-clause-rows c =
    rows_by c.take_lines.result (form_of (layout_view c.args.layout.now))
    (form_in c.in_ok-names.names) c.take_lines.new.self.rows c.args.self.now.rows
    (read_rows c.self.inside.tables)
    c.args.self.now.at c.self.inside.feed.at (lines_view c.args.lines.now)
    c.in_ok-names.ensures (ap (λ (s : TransferState). s.at) c.self.view_is)
    (ap (λ (s : TransferState). s.rows) c.self.view_is) c.take_lines.ensures.rows
