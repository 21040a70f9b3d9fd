use Rattle.ili_grammar.specs.Machine.{body}
use Rattle.std.proofs.Common.{[], ◌∷◌, ◌-◌, ◌≤◌, length}
use Rattle.ili_grammar.specs.Values.{domains_of, tables_of}
use Rattle.ili_grammar.specs.Steps.{rest, Goes}
use Rattle.ili_grammar.proofs.ModelsRead.{BodyFrom}
use Rattle.ili_grammar.proofs.source.Source.body.Given as goal

abbrev pub invariant-body : goal.invariant-body
invariant-body l = record {
  further : l.fn.at ≤ l.first;
  within : l.first ≤ length l.self.tokens.now;
  reads : BodyFrom (domains_of l.domains.items) (tables_of l.tables.items) (rest l.self l.fn.at)
      (rest l.self l.first);
  runs : Goes (rest l.self l.fn.at) (body 32 ∷ []) (rest l.self l.first) (body 32 ∷ []);
}

abbrev pub decreases-body : goal.decreases-body
decreases-body l = length l.self.tokens.now - l.first
