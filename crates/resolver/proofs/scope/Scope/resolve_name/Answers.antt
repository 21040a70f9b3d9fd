use Rattle.std.proofs.Common.{Some, None, ap, ◌∙◌}
use Rattle.std.specs.Option.{option_map}
use Rattle.ili_grammar.specs.Values.{type_of}
use Rattle.resolver.specs.Scopes.{meaning_outside}
use Rattle.resolver.specs.DomainScopes.{domains_above}
use Rattle.resolver.specs.ScopeViews.{meaning_of, scope_of}
use Rattle.resolver.proofs.ScopeLemmas.Meanings.{followed_is, meaning_here}
use Rattle.resolver.proofs.scope.Scope.resolve_name.Goals as goal

pub returns : goal.returns
returns c =
    let above = domains_above c.args.self.now.above in
    meaning_here (scope_of c.args.self.now) c.args.name.now c.is_above.result _ c.is_above.ensures
    c.if-is_above.false
    (c.resolve_end.ensures
    ∙ followed_is above c.args.self.now.own.now (meaning_outside above)
    (scope_of c.args.self.now) c.args.name.now
    (Some (type_of c.in_ok-target.target.kind.now)) c.args.self.now.inner
    c.in_ok-target.ensures)

pub returns-in_err-target : goal.returns-in_err-target
returns-in_err-target c =
    let above = domains_above c.args.self.now.above in
    meaning_here (scope_of c.args.self.now) c.args.name.now c.is_above.result _ c.is_above.ensures
    c.if-is_above.false
    (ap (option_map meaning_of) c.from_residual.ensures
    ∙ followed_is above c.args.self.now.own.now (meaning_outside above)
    (scope_of c.args.self.now) c.args.name.now None c.args.self.now.inner
    c.in_err-target.ensures)
