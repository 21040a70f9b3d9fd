use Rattle.std.proofs.Common.{◌≡◌, drop}
use Rattle.resolver.specs.Faults.{first_from}
use Rattle.resolver.specs.FaultViews.{fault_in}
use Rattle.resolver.specs.Aliases.{step_in}
use Rattle.resolver.specs.Steps.{domains_at}
use Rattle.resolver.specs.DomainScopes.{domains_in}
use Rattle.resolver.specs.Rules.{cycle_faults}
use Rattle.resolver.proofs.scope.domain_scope.DomainScope.check_cycles.Given as goal

abbrev pub invariant-loop-place : goal.invariant-loop-place
invariant-loop-place l =
    first_from (fault_in l.earliest)
    (cycle_faults (step_in l.self.steps.items) l.place
    (domains_at (drop l.place l.self.domains.items)))
    ≡ first_from (fault_in l.fn.earliest)
    (cycle_faults (step_in l.self.steps.items) 0 (domains_in l.self))
