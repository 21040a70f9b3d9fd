use Rattle.std.proofs.Common.{◌≡◌, ◌++◌, take, true}
use Rattle.itf_lines.specs.Views.{lines_view}
use Rattle.itf_reader.specs.Names.{form_in}
use Rattle.itf_reader.specs.RowFeeds.{after_lines, shown_rows}
use Rattle.itf_reader.proofs.transfer_feed.TransferFeed.take_lines.Given as goal

-- the lines so far were taken
abbrev pub invariant-loop-line : goal.invariant-loop-line
invariant-loop-line l = record {
  at : l.self.at ≡ after_lines (form_in l.names) l.fn.self.at
      (lines_view (take l.line-index l.lines));
  rows : l.self.rows ≡ l.fn.self.rows
      ++ shown_rows (form_in l.names) l.fn.self.at (lines_view (take l.line-index l.lines));
  failed : l.self.failed ≡ true;
}
