use Rattle.resolver.specs.ScopeViews.{scope_of}
use Rattle.resolver.proofs.BuildLemmas.Bounded.{type_bounded, value_bounded}
use Rattle.resolver.proofs.build.values.value.Goals as goal

pub form-requires-clause-numbers : goal.form-requires-clause-numbers
form-requires-clause-numbers c =
    (type_bounded (scope_of c.args.scope.now) _ c.in-Some.meaning c.in-Some.ensures c.requires.scope
    (value_bounded c.args.content.now c.in-Value.kind c.in-Value.is c.requires.content)).numbers

pub form-requires-clause-names : goal.form-requires-clause-names
form-requires-clause-names c =
    (type_bounded (scope_of c.args.scope.now) _ c.in-Some.meaning c.in-Some.ensures c.requires.scope
    (value_bounded c.args.content.now c.in-Value.kind c.in-Value.is c.requires.content)).names
