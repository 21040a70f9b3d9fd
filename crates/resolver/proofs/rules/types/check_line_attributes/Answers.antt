use Rattle.std.proofs.Common.{List, ◌∙◌, refl}
use Rattle.ili_grammar.specs.declared.syntax.AttributeSyntax as attribute
use Rattle.ili_grammar.specs.Values.{attributes_of}
use Rattle.resolver.specs.ScopeViews.{scope_of}
use Rattle.resolver.specs.Rules.{line_attribute_faults}
use Rattle.resolver.proofs.ListLemmas.Folds.{told_over}
use Rattle.resolver.proofs.rules.types.check_line_attributes.Goals as goal

pub loop-attribute-preserved : goal.loop-attribute-preserved
loop-attribute-preserved c =
    told_over (λ (l : List attribute.AttributeSyntax). line_attribute_faults
    (scope_of c.args.scope.now) (attributes_of l)) _ _ _ _ _ _ _
    (λ rest. refl) refl c.loop-attribute-test.true c.attribute-item.is
    c.check_line_attribute.ensures
    ∙ c.loop-attribute.invariant
