use Rattle.std.proofs.Common.{◌≡◌, ◌++◌, drop, map}
use Rattle.ili_grammar.specs.Values.{attributes_of}
use Rattle.resolver.specs.Limits.{AreBounded}
use Rattle.resolver.specs.ScopeViews.{scope_of}
use Rattle.resolver.specs.Models.{attributes}
use Rattle.resolver.specs.Sound.{listed}
use Rattle.resolver.specs.Values.{attribute_of as resolved_attribute}
use Rattle.resolver.proofs.build.attributes.attributes.Given as goal

abbrev pub invariant-loop-each : goal.invariant-loop-each
invariant-loop-each l = record {
  resolved : map resolved_attribute l.done.items
      ++ listed (attributes (scope_of l.scope) (attributes_of (drop l.each-index l.written)))
      ≡ listed (attributes (scope_of l.scope) (attributes_of l.written));
  bounded : AreBounded (attributes_of (drop l.each-index l.written));
}
