use Rattle.std.proofs.Common.{◌∙◌, refl}
use Rattle.resolver.specs.ScopeViews.{scope_of}
use Rattle.resolver.specs.Models.{line_attribute, line_attributes}
use Rattle.resolver.proofs.BuildLemmas.Bounded.{bounded_behind}
use Rattle.resolver.proofs.BuildLemmas.Pushed.{next_resolved, all_resolved}
use Rattle.resolver.proofs.build.attributes.line_attributes.Goals as goal

pub line_attribute-requires-clause-attribute : goal.line_attribute-requires-clause-attribute
line_attribute-requires-clause-attribute c =
    (bounded_behind c.loop-attribute.attribute-index c.args.attributes.now c.attribute-item.result
    c.loop-attribute-test.true c.attribute-item.is c.loop-attribute.invariant.bounded).0

pub loop-attribute-preserved : goal.loop-attribute-preserved
loop-attribute-preserved c = record {
  resolved =
      next_resolved (line_attribute (scope_of c.args.scope.now))
      (line_attributes (scope_of c.args.scope.now)) _ _ _ _ _ _
      (λ t rest. refl) c.loop-attribute-test.true c.attribute-item.is c.in_ok-push.ensures.items
      c.in_ok-line_attribute.ensures
      ∙ c.loop-attribute.invariant.resolved;
  bounded = (bounded_behind c.loop-attribute.attribute-index c.args.attributes.now
      c.attribute-item.result c.loop-attribute-test.true c.attribute-item.is
      c.loop-attribute.invariant.bounded).1;
}

pub returns : goal.returns
returns c = all_resolved (line_attributes (scope_of c.args.scope.now))
    c.loop-attribute.attribute-index c.args.attributes.now c.loop-attribute.done.items refl
    c.loop-attribute-test.false c.loop-attribute.invariant.resolved
