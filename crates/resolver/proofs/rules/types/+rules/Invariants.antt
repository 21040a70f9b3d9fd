use Rattle.std.proofs.Common.{drop}
use Rattle.ili_grammar.specs.declared.syntax.Content.TheViews.{out-LineSyntax}
use Rattle.ili_grammar.specs.Values.{ident_of, line_of, attributes_of}
use Rattle.resolver.specs.FaultViews.{Leaves}
use Rattle.resolver.specs.ScopeViews.{scope_of}
use Rattle.ili_grammar.specs.Limits.{AreSmallAttributes}
use Rattle.resolver.specs.Rules.{attributes_faults, line_faults}
use Rattle.resolver.proofs.rules.types.+rules.Given as goal

abbrev pub invariant-check_line-loop-attribute : goal.invariant-check_line-loop-attribute
invariant-check_line-loop-attribute l = record {
  reported : Leaves l.fn.earliest l.earliest
      (line_faults (scope_of l.scope) (ident_of l.owner) l.fn.shape (line_of l.line))
      (attributes_faults (scope_of l.scope)
      (attributes_of (drop l.attribute-index (out-LineSyntax l.line).attributes.items)));
  short : AreSmallAttributes (attributes_of (drop l.attribute-index l.attribute-items));
}
