use Rattle.resolver.specs.ScopeViews.{scope_of}
use Rattle.resolver.proofs.BuildLemmas.Bounded.{type_bounded, value_bounded}
use Rattle.resolver.proofs.build.attributes.content_form.Goals as goal

pub type_form-requires-clause-kind : goal.type_form-requires-clause-kind
type_form-requires-clause-kind c =
    type_bounded (scope_of c.args.scope.now) _ c.in-Some.meaning c.in-Some.ensures c.requires.scope
    (value_bounded c.args.content.now c.in-Value.kind c.in-Value.is c.requires.content)
