use Rattle.std.proofs.Common.{◌≡◌, ◌+◌, ◌++◌, List, [], drop, refl, ap, sym, ◌∙◌, arith}
use Rattle.std.proofs.lemmas.List.{append-nil, drop_all}
use Rattle.std.specs.List.{flat_map}
use Rattle.indexmap.specs.IndexSet.{keys}
use Rattle.ili_grammar.specs.declared.syntax.TableSyntax as table
use Rattle.ili_grammar.specs.Values.{table_of, tables_of}
use Rattle.resolver.specs.Faults.{first_from}
use Rattle.resolver.specs.FaultViews.{fault_in}
use Rattle.resolver.specs.ScopeViews.{scope_of}
use Rattle.resolver.specs.Rules.{Entry, twice, table_entries}
use Rattle.resolver.proofs.ListLemmas.Folds.{list_from}
use Rattle.resolver.proofs.ListLemmas.Keys.{entries_told}
use Rattle.resolver.proofs.rules.helpers.check_table_names.Goals as goal

pub loop-table-preserved : goal.loop-table-preserved
loop-table-preserved c = λ rest.
    entries_told (table_entries (scope_of c.args.scope.now) (table_of c.table-item.result))
    (flat_map (table_entries (scope_of c.args.scope.now))
    (tables_of (drop (c.loop-table.table-index + 1) c.args.tables.now))) rest
    (keys c.check_table_name.new.names) (keys c.loop-table.names) (fault_in c.loop-table.earliest)
    (fault_in c.check_table_name.new.earliest) c.in_ok-check_table_name.ensures
    ∙ ap (λ (l : List table.TableSyntax). first_from (fault_in c.loop-table.earliest)
    (twice (keys c.loop-table.names)
    (flat_map (table_entries (scope_of c.args.scope.now)) (tables_of l) ++ rest)))
    (sym (list_from c.loop-table.table-index c.args.tables.now c.args.tables.now c.table-item.result
    refl c.loop-table-test.true c.table-item.is))
    ∙ c.loop-table.invariant rest

pub returns : goal.returns
returns c =
    let all : drop c.loop-table.table-index c.args.tables.now
    ≡ [] = drop_all c.loop-table.table-index c.args.tables.now (omega arith) in
    ap (λ (l : List table.TableSyntax). first_from (fault_in c.loop-table.earliest)
    (twice (keys c.loop-table.names)
    (flat_map (table_entries (scope_of c.args.scope.now)) (tables_of l) ++ []))) (sym all)
    ∙ c.loop-table.invariant []
    ∙ ap (λ (es : List Entry). first_from (fault_in c.args.earliest.now) (twice [] es))
    (append-nil (flat_map (table_entries (scope_of c.args.scope.now))
    (tables_of c.args.tables.now)))
