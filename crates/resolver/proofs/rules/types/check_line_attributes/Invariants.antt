use Rattle.std.proofs.Common.{drop}
use Rattle.ili_grammar.specs.Values.{attributes_of}
use Rattle.resolver.specs.FaultViews.{Leaves}
use Rattle.resolver.specs.ScopeViews.{scope_of}
use Rattle.resolver.specs.Rules.{line_attribute_faults}
use Rattle.resolver.proofs.rules.types.check_line_attributes.Given as goal

abbrev pub invariant-loop-attribute : goal.invariant-loop-attribute
invariant-loop-attribute l =
    Leaves l.fn.earliest l.earliest
    (line_attribute_faults (scope_of l.scope) (attributes_of l.attributes))
    (line_attribute_faults (scope_of l.scope)
    (attributes_of (drop l.attribute-index l.attributes)))
