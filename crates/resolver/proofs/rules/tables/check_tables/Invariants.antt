use Rattle.std.proofs.Common.{drop}
use Rattle.std.specs.List.{flat_map}
use Rattle.ili_grammar.specs.Values.{tables_of}
use Rattle.resolver.specs.FaultViews.{Leaves}
use Rattle.resolver.specs.ScopeViews.{scope_of}
use Rattle.resolver.specs.Rules.{table_faults, tables_faults}
use Rattle.resolver.proofs.rules.tables.check_tables.Given as goal

abbrev pub invariant-loop-table : goal.invariant-loop-table
invariant-loop-table l =
    Leaves l.fn.earliest l.earliest (tables_faults (scope_of l.scope) (tables_of l.tables))
    (flat_map (table_faults (scope_of l.scope)) (tables_of (drop l.table-index l.tables)))
