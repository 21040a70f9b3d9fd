use Rattle.resolver.specs.FaultViews.{fault_in}
use Rattle.resolver.specs.NameIndexes.{names_in, names_if}
use Rattle.resolver.specs.Steps.{domains_at}
use Rattle.resolver.proofs.ScopeLemmas.DomainRules.{domains_told}
use Rattle.resolver.proofs.rules.domains.check_domains.Goals as goal

pub returns : goal.returns
returns c =
    domains_told c.args.scope.now (names_in c.names.result.now) (names_if c.names_above.result)
    (domains_at c.domains.result.now)
    (fault_in c.args.earliest.now) (fault_in c.check_unique.new.earliest)
    (fault_in c.check_cycles.new.earliest) (fault_in c.check_types.new.earliest)
    c.names.ensures c.names_above.ensures c.domains.ensures c.check_unique.ensures
    c.in_ok-check_cycles.ensures c.in_ok-check_types.ensures
