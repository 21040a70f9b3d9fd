use Rattle.std.proofs.Common.{List, map, refl, ◌∙◌}
use Rattle.ili_grammar.specs.declared.syntax.TableSyntax as written
use Rattle.resolver.specs.Limits.{IsBoundedTable}
use Rattle.ili_grammar.specs.Values.{table_of, tables_of}
use Rattle.resolver.specs.ScopeViews.{scope_of}
use Rattle.resolver.specs.Models.{table}
use Rattle.resolver.specs.Values.{table_of as built_table}
use Rattle.resolver.proofs.ListLemmas.Folds.{next_viewed, all_pushed}
use Rattle.resolver.proofs.ListLemmas.Viewed.{of_item}
use Rattle.resolver.proofs.build.topics.tables.Goals as goal

pub table-requires-clause-written : goal.table-requires-clause-written
table-requires-clause-written c =
    of_item table_of IsBoundedTable c.args.written.now c.loop-each.each-index c.each-item.result
    c.requires.written c.loop-each-test.true c.each-item.is

pub loop-each-preserved : goal.loop-each-preserved
loop-each-preserved c =
    next_viewed (λ (l : List written.TableSyntax). map (table (scope_of c.args.scope.now))
    (tables_of l)) built_table _ _ _ _ _ _ _ _
    (λ rest. refl) refl c.loop-each-test.true c.each-item.is c.in_ok-push.ensures.items
    c.in_ok-table.ensures
    ∙ c.loop-each.invariant

pub returns : goal.returns
returns c = all_pushed
    (λ (l : List written.TableSyntax). map (table (scope_of c.args.scope.now)) (tables_of l))
    c.loop-each.each-index c.args.written.now
    (map built_table c.loop-each.done.items) refl c.loop-each-test.false c.loop-each.invariant
