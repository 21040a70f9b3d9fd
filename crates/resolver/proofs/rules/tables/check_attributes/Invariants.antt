use Rattle.std.proofs.Common.{drop}
use Rattle.ili_grammar.specs.Values.{attributes_of}
use Rattle.resolver.specs.FaultViews.{Leaves}
use Rattle.resolver.specs.ScopeViews.{scope_of}
use Rattle.ili_grammar.specs.Limits.{AreSmallAttributes}
use Rattle.resolver.specs.Rules.{attributes_faults}
use Rattle.resolver.proofs.rules.tables.check_attributes.Given as goal

abbrev pub invariant-loop-attribute : goal.invariant-loop-attribute
invariant-loop-attribute l = record {
  reported : Leaves l.fn.earliest l.earliest
      (attributes_faults (scope_of l.scope) (attributes_of l.attributes))
      (attributes_faults (scope_of l.scope) (attributes_of (drop l.attribute-index l.attributes)));
  short : AreSmallAttributes (attributes_of (drop l.attribute-index l.attributes));
}
