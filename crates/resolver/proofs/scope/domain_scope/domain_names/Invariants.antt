use Rattle.std.proofs.Common.{◌≡◌, ◌++◌, drop}
use Rattle.resolver.specs.Scopes.{domain_names}
use Rattle.resolver.specs.Indexed.{idents}
use Rattle.resolver.specs.Steps.{domains_at}
use Rattle.resolver.proofs.scope.domain_scope.domain_names.Given as goal

abbrev pub invariant-loop-domain : goal.invariant-loop-domain
invariant-loop-domain l =
    idents l.names.items ++ domain_names (domains_at (drop l.domain-index l.domains))
    ≡ domain_names (domains_at l.domains)
