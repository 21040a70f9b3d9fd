use Rattle.std.proofs.Common.{List, ◌∙◌, refl}
use Rattle.ili_grammar.specs.declared.syntax.AttributeSyntax as attribute
use Rattle.ili_grammar.specs.Values.{attributes_of}
use Rattle.resolver.specs.ScopeViews.{scope_of}
use Rattle.resolver.specs.Rules.{attributes_faults}
use Rattle.resolver.proofs.ListLemmas.Folds.{told_over}
use Rattle.resolver.proofs.BuildLemmas.Types.{short_behind}
use Rattle.resolver.proofs.rules.tables.check_attributes.Goals as goal

pub loop-attribute-preserved : goal.loop-attribute-preserved
loop-attribute-preserved c = record {
  reported =
      told_over (λ (l : List attribute.AttributeSyntax). attributes_faults
      (scope_of c.args.scope.now) (attributes_of l)) _ _ _ _ _ _ _
      (λ rest. refl) refl c.loop-attribute-test.true c.attribute-item.is
      c.in_ok-check_attribute.ensures
      ∙ c.loop-attribute.invariant.reported;
  short = (short_behind c.loop-attribute.attribute-index c.args.attributes.now c.args.attributes.now
      c.attribute-item.result
      refl c.loop-attribute-test.true c.attribute-item.is c.loop-attribute.invariant.short).1;
}
