use Rattle.std.proofs.Common.{◌∙◌, ap}
use Rattle.ident_refs.specs.KeptViews.{refs_view}
use Rattle.ident_refs.proofs.KeptTables.{refs_there}
use Rattle.ident_refs.proofs.asked.refs_at.Goals as goal

pub returns-in-Some : goal.returns-in-Some
returns-in-Some c = ap refs_view c.deref.ensures.value
    ∙ refs_there c.args.tables.now c.args.place c.in-Some.table.now c.in-Some.ensures.lookup.3.0
    c.in-Some.ensures.lookup.1
