use Rattle.std.proofs.Common.{[], Some, None, ap, ◌∙◌}
use Rattle.std.specs.Option.{option_map}
use Rattle.ili_grammar.specs.Values.{type_of}
use Rattle.resolver.specs.Scopes.{outside}
use Rattle.resolver.specs.DomainScopes.{domains_in}
use Rattle.resolver.specs.ScopeViews.{meaning_of}
use Rattle.resolver.proofs.ScopeLemmas.Meanings.{followed_is}
use Rattle.resolver.proofs.scope.Scope.resolve_outside.Goals as goal

pub returns : goal.returns
returns c =
    c.resolve_type_outside.ensures
    ∙ followed_is [] c.args.domains.now (λ _. None)
    (outside (domains_in c.args.domains.now)) c.args.name.now
    (Some (type_of c.in_ok-target.target.kind.now)) c.requires c.in_ok-target.ensures

pub returns-in_err-target : goal.returns-in_err-target
returns-in_err-target c = ap (option_map meaning_of) c.from_residual.ensures
    ∙ followed_is [] c.args.domains.now (λ _. None)
    (outside (domains_in c.args.domains.now)) c.args.name.now None c.requires
    c.in_err-target.ensures
