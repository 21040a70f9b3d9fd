use Rattle.itf_reader.specs.Views.{row_of}
use Rattle.ident_refs.proofs.FeedSteps.{row_set, row_beyond}
use Rattle.ident_refs.proofs.feed.add_at.Goals as goal

pub returns-in_ok-add_row : goal.returns-in_ok-add_row
returns-in_ok-add_row c =
    row_set c.args.tables.now c.args.place c.index-tables-place.result c.add_row.new.self
    (row_of c.args.row.now) c.if-place-tables.true c.in_ok-add_row.ensures

pub returns-else-place-tables : goal.returns-else-place-tables
returns-else-place-tables c =
    row_beyond c.args.tables.now c.args.place (row_of c.args.row.now) c.if-place-tables.false
