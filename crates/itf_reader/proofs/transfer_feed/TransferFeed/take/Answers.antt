use Rattle.std.proofs.Common.{refl, ap}
use Rattle.table_layout.specs.Values.{layout_view}
use Rattle.itf_lines.specs.Views.{lines_view}
use Rattle.itf_reader.specs.Layouts.{form_of}
use Rattle.itf_reader.proofs.FeedLaws.{both, took}
use Rattle.itf_reader.proofs.transfer_feed.TransferFeed.take.Goals as goal

pub returns-clause-lines : goal.returns-clause-lines
returns-clause-lines c =
    let f = form_of (layout_view c.args.layout.now) in
    both c.take_all.result
    (λ a r. took f f c.args.self.now c.take_all.new.self c.args.self.now.rows c.args.self.now.at
    (lines_view c.args.lines.items) (lines_view c.deref.result.now) refl refl refl
    (ap lines_view c.deref.ensures.value) a r)
    c.take_all.ensures.at c.take_all.ensures.rows
