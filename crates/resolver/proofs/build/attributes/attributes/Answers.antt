use Rattle.std.proofs.Common.{◌∙◌, refl}
use Rattle.resolver.specs.ScopeViews.{scope_of}
use Rattle.resolver.specs.Models.{attribute, attributes}
use Rattle.resolver.proofs.BuildLemmas.Bounded.{bounded_behind}
use Rattle.resolver.proofs.BuildLemmas.Pushed.{next_resolved, all_resolved}
use Rattle.resolver.proofs.build.attributes.attributes.Goals as goal

pub attribute-requires-clause-written : goal.attribute-requires-clause-written
attribute-requires-clause-written c =
    (bounded_behind c.loop-each.each-index c.args.written.now c.each-item.result
    c.loop-each-test.true c.each-item.is c.loop-each.invariant.bounded).0

pub loop-each-preserved : goal.loop-each-preserved
loop-each-preserved c = record {
  resolved =
      next_resolved (attribute (scope_of c.args.scope.now))
      (attributes (scope_of c.args.scope.now)) _ _ _ _ _ _
      (λ t rest. refl) c.loop-each-test.true c.each-item.is c.in_ok-push.ensures.items
      c.in_ok-attribute.ensures
      ∙ c.loop-each.invariant.resolved;
  bounded = (bounded_behind c.loop-each.each-index c.args.written.now c.each-item.result
      c.loop-each-test.true c.each-item.is c.loop-each.invariant.bounded).1;
}

pub returns : goal.returns
returns c = all_resolved (attributes (scope_of c.args.scope.now)) c.loop-each.each-index
    c.args.written.now c.loop-each.done.items refl c.loop-each-test.false
    c.loop-each.invariant.resolved
