use Rattle.std.proofs.Common.{◌≡◌, ◌++◌, drop, map}
use Rattle.ili_grammar.specs.Values.{tables_of}
use Rattle.resolver.specs.ScopeViews.{scope_of}
use Rattle.resolver.specs.Models.{table}
use Rattle.resolver.specs.Values.{tables_of as built_tables}
use Rattle.resolver.proofs.build.topics.tables.Given as goal

abbrev pub invariant-loop-each : goal.invariant-loop-each
invariant-loop-each l =
    built_tables l.done.items ++ map (table (scope_of l.scope))
    (tables_of (drop l.each-index l.written)) ≡ map (table (scope_of l.scope)) (tables_of l.written)
