use Rattle.ident_refs.specs.KeptViews.{all_kept_view}
use Rattle.ident_refs.proofs.KeptTables.{rows_lined}
use Rattle.ident_refs.proofs.sorted.Keys.row_lines.Goals as goal

pub returns : goal.returns
returns c l rows h =
    rows_lined l rows c.args.table.0 (all_kept_view c.args.self.now.tables.now)
    c.lines_at.result.now h c.lines_at.ensures
