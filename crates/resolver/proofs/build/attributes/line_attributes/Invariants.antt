use Rattle.std.proofs.Common.{◌≡◌, ◌++◌, drop, map}
use Rattle.ili_grammar.specs.Values.{attributes_of}
use Rattle.resolver.specs.Limits.{AreBounded}
use Rattle.resolver.specs.ScopeViews.{scope_of}
use Rattle.resolver.specs.Models.{line_attributes}
use Rattle.resolver.specs.Sound.{listed}
use Rattle.resolver.specs.Values.{attribute_of as resolved_attribute}
use Rattle.resolver.proofs.build.attributes.line_attributes.Given as goal

abbrev pub invariant-loop-attribute : goal.invariant-loop-attribute
invariant-loop-attribute l = record {
  resolved : map resolved_attribute l.done.items
      ++ listed (line_attributes (scope_of l.scope)
      (attributes_of (drop l.attribute-index l.attributes)))
      ≡ listed (line_attributes (scope_of l.scope) (attributes_of l.attributes));
  bounded : AreBounded (attributes_of (drop l.attribute-index l.attributes));
}
