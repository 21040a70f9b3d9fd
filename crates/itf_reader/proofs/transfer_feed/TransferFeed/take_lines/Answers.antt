use Rattle.std.proofs.Common.{rules, ◌≡◌, ◌∙◌, get_or}
use Rattle.itf_reader.specs.Names.{form_in}
use Rattle.itf_reader.proofs.FeedLaws.{at_more, rows_more}
use Rattle.itf_reader.proofs.transfer_feed.TransferFeed.take_lines.Goals as goal

pub loop-line-preserved : goal.loop-line-preserved
loop-line-preserved c =
    let f = form_in c.args.names.now in
    let i = c.loop-line.line-index in
    let e : c.line-item.result ≡ get_or c.args.lines.now i c.line-item.result = search rules in
    record {
      at = at_more f c.args.self.now.at c.loop-line.self.at c.take_line.new.self.at c.args.lines.now
          i c.line-item.result c.loop-line-test.true e c.loop-line.invariant.at
          c.in_ok-take_line.ensures.at;
      rows = rows_more f c.args.self.now.at c.loop-line.self.at c.args.self.now.rows
          c.loop-line.self.rows c.take_line.new.self.rows c.args.lines.now i c.line-item.result
          c.loop-line-test.true e c.loop-line.invariant.at c.loop-line.invariant.rows
          c.in_ok-take_line.ensures.rows;
      failed = c.take_line.ensures.failed ∙ c.loop-line.invariant.failed;
    }
