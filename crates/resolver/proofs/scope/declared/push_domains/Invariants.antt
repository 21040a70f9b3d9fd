use Rattle.std.proofs.Common.{◌≡◌, ◌++◌, drop}
use Rattle.ili_grammar.specs.Values.{domains_of}
use Rattle.resolver.specs.Steps.{domains_at}
use Rattle.resolver.proofs.scope.declared.push_domains.Given as goal

abbrev pub invariant-loop-domain : goal.invariant-loop-domain
invariant-loop-domain l =
    domains_at l.all.items ++ domains_of (drop l.domain-index l.domains)
    ≡ domains_at l.fn.all.items ++ domains_of l.domains
