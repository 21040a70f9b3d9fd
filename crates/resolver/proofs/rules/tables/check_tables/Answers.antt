use Rattle.std.proofs.Common.{List, ◌∙◌, refl}
use Rattle.std.specs.List.{flat_map}
use Rattle.ili_grammar.specs.declared.syntax.TableSyntax as table
use Rattle.ili_grammar.specs.Values.{table_of, tables_of}
use Rattle.resolver.specs.ScopeViews.{scope_of}
use Rattle.resolver.specs.Limits.{IsBoundedTable}
use Rattle.resolver.specs.Rules.{table_faults}
use Rattle.resolver.proofs.ListLemmas.Folds.{told_over}
use Rattle.resolver.proofs.ListLemmas.Viewed.{of_item}
use Rattle.resolver.proofs.rules.tables.check_tables.Goals as goal

pub check_table-requires-clause-table : goal.check_table-requires-clause-table
check_table-requires-clause-table c =
    of_item table_of IsBoundedTable c.args.tables.now c.loop-table.table-index c.table-item.result
    c.requires.tables c.loop-table-test.true c.table-item.is

pub loop-table-preserved : goal.loop-table-preserved
loop-table-preserved c =
    told_over (λ (l : List table.TableSyntax). flat_map (table_faults (scope_of c.args.scope.now))
    (tables_of l)) _ _ _ _ _ _ _ (λ rest. refl) refl c.loop-table-test.true c.table-item.is
    c.in_ok-check_table.ensures
    ∙ c.loop-table.invariant
