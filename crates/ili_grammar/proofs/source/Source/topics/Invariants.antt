use Rattle.ili_grammar.specs.Machine.{topics}
use Rattle.std.proofs.Common.{[], ◌∷◌, ◌-◌, ◌≤◌, length}
use Rattle.ili_grammar.specs.Steps.{rest, Goes}
use Rattle.ili_grammar.specs.Values.{topics_of}
use Rattle.ili_grammar.proofs.ModelsRead.{TopicsFrom}
use Rattle.ili_grammar.proofs.source.Source.topics.Given as goal

abbrev pub invariant-topics : goal.invariant-topics
invariant-topics l = record {
  further : l.fn.at ≤ l.first;
  within : l.first ≤ length l.self.tokens.now;
  reads : TopicsFrom (topics_of l.topics.items) (rest l.self l.fn.at) (rest l.self l.first);
  runs : Goes (rest l.self l.fn.at) (topics 32 ∷ []) (rest l.self l.first) (topics 32 ∷ []);
}

abbrev pub decreases-topics : goal.decreases-topics
decreases-topics l = length l.self.tokens.now - l.first
