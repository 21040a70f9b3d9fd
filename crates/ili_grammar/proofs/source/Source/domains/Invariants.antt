use Rattle.ili_grammar.specs.Machine.{items}
use Rattle.std.proofs.Common.{[], ◌∷◌, ◌-◌, ◌≤◌, length}
use Rattle.ili_grammar.specs.Steps.{rest, Goes}
use Rattle.ili_grammar.specs.Values.{domains_of}
use Rattle.ili_grammar.proofs.ModelsRead.{DomainsFrom}
use Rattle.ili_grammar.proofs.source.Source.domains.Given as goal

abbrev pub invariant-domains : goal.invariant-domains
invariant-domains l = record {
  further : l.fn.at ≤ l.first;
  within : l.first ≤ length l.self.tokens.now;
  reads : DomainsFrom (domains_of l.domains.items) (rest l.self l.fn.at) (rest l.self l.first);
  runs : Goes (rest l.self l.fn.at) (items 32 ∷ []) (rest l.self l.first) (items 32 ∷ []);
}

abbrev pub decreases-domains : goal.decreases-domains
decreases-domains l = length l.self.tokens.now - l.first
