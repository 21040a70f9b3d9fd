use Rattle.std.proofs.Common.{List, ap, ◌∙◌}
use Rattle.std.specs.Prelude.{[], slice_index_or}
use Rattle.ident_refs.specs.declared.table_keys.TableKeys.{TableKeys}
use Rattle.ident_refs.specs.KeptRows.{all_lines}
use Rattle.ident_refs.specs.KeptViews.{all_kept_view}
use Rattle.ident_refs.proofs.KeptTables.{rows_counted}
use Rattle.ident_refs.proofs.feed.KeyFeed.row_count.Goals as goal

pub returns : goal.returns
returns c l rows h =
    rows_counted l rows c.args.table.0
    (all_kept_view c.args.self.now.tables.items) c.lines_at.result.now h
    (c.lines_at.ensures
    ∙ ap (λ (ts : List TableKeys). slice_index_or
    (all_lines (all_kept_view ts)) c.args.table.0 []) c.deref.ensures.value)
