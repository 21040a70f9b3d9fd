use Rattle.std.proofs.Common.{drop}
use Rattle.std.specs.List.{flat_map}
use Rattle.resolver.specs.FaultViews.{Leaves}
use Rattle.resolver.specs.ScopeViews.{scope_of}
use Rattle.resolver.specs.Steps.{domains_at}
use Rattle.resolver.specs.Rules.{domain_faults}
use Rattle.resolver.proofs.rules.domains.check_types.Given as goal

abbrev pub invariant-loop-domain : goal.invariant-loop-domain
invariant-loop-domain l =
    Leaves l.fn.earliest l.earliest
    (flat_map (domain_faults (scope_of l.scope)) (domains_at l.domains))
    (flat_map (domain_faults (scope_of l.scope)) (domains_at (drop l.domain-index l.domains)))
