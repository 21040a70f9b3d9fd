use Rattle.std.proofs.Common.{List, map, ap, ◌∙◌}
use Rattle.ili_grammar.specs.Values.{codes_of}
use Rattle.table_layout.specs.declared.layouts.Table.{Table as CodeTable}
use Rattle.table_layout.specs.Values.{tables_view}
use Rattle.ident_refs.specs.KeptRows.{no_rows}
use Rattle.ident_refs.proofs.KeptTables.{none_from}
use Rattle.ident_refs.proofs.feed.KeyFeed.new.Goals as goal

pub returns : goal.returns
returns c =
    let codes = codes_of c.args.layout.now.codes in
    c.in_ok-tables.ensures
    ∙ ap (λ (ts : List CodeTable). map (no_rows codes) (tables_view ts)) c.deref.ensures.value
    ∙ none_from codes 0 (tables_view c.args.layout.now.tables.items)
