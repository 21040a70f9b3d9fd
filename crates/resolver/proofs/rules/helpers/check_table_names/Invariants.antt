use Rattle.std.proofs.Common.{◌++◌, List, [], drop}
use Rattle.std.specs.List.{flat_map}
use Rattle.indexmap.specs.IndexSet.{keys}
use Rattle.ili_grammar.specs.Values.{tables_of}
use Rattle.resolver.specs.FaultViews.{Leaves}
use Rattle.resolver.specs.ScopeViews.{scope_of}
use Rattle.resolver.specs.Rules.{Entry, twice, table_entries}
use Rattle.resolver.proofs.rules.helpers.check_table_names.Given as goal

abbrev pub invariant-loop-table : goal.invariant-loop-table
invariant-loop-table l = (rest : List Entry) →
    Leaves l.fn.earliest l.earliest
    (twice [] (flat_map (table_entries (scope_of l.scope)) (tables_of l.tables) ++ rest))
    (twice (keys l.names)
    (flat_map (table_entries (scope_of l.scope)) (tables_of (drop l.table-index l.tables))
    ++ rest))
