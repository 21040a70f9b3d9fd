use Rattle.std.proofs.Common.{◌∙◌}
use Rattle.ident_refs.proofs.KeptTables.{lines_there}
use Rattle.ident_refs.proofs.feed.lines_at.Goals as goal

pub returns-in-Some : goal.returns-in-Some
returns-in-Some c = c.deref.ensures.value
    ∙ lines_there c.args.tables.now c.args.place c.in-Some.table.now c.in-Some.ensures.lookup.3.0
    c.in-Some.ensures.lookup.1
