use Rattle.std.proofs.Common.{◌++◌, List, drop}
use Rattle.indexmap.specs.IndexSet.{keys}
use Rattle.ili_grammar.specs.Values.{attributes_of}
use Rattle.resolver.specs.FaultViews.{Leaves}
use Rattle.resolver.specs.ScopeViews.{scope_of}
use Rattle.resolver.specs.Rules.{Entry, twice, helpers}
use Rattle.resolver.proofs.rules.helpers.check_helpers.Given as goal

abbrev pub invariant-loop-attribute : goal.invariant-loop-attribute
invariant-loop-attribute l = (rest : List Entry) →
    Leaves l.fn.earliest l.earliest
    (twice (keys l.fn.names)
    (helpers (scope_of l.scope) l.table.name.text (attributes_of l.table.attributes.items)
    ++ rest)) (twice (keys l.names)
    (helpers (scope_of l.scope) l.table.name.text
    (attributes_of (drop l.attribute-index l.table.attributes.items)) ++ rest))
