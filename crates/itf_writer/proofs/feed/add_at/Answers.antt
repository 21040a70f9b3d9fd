use Rattle.std.proofs.Common.{rules}
use Rattle.itf_reader.specs.Views.{row_of}
use Rattle.itf_writer.proofs.FeedSteps.{on_ok, row_held, row_beyond}
use Rattle.itf_writer.proofs.feed.add_at.Goals as goal

pub returns-then-tables-place : goal.returns-then-tables-place
returns-then-tables-place c transfer h =
    row_beyond c.args.code (row_of c.args.row.now) c.args.tables.now transfer c.args.place
    (search rules) h

pub returns : goal.returns
returns c =
    on_ok c.add_row.result
    (λ k transfer h. row_held c.args.code
    (row_of c.args.row.now) c.args.tables.now transfer c.args.place c.index-tables-place.result
    c.add_row.new.self (search rules) k h)
    c.add_row.ensures
