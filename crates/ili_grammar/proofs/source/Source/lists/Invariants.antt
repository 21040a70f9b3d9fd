use Rattle.ili_grammar.specs.Machine.{lists, name_list, want}
use Rattle.ili_grammar.specs.Tokens.{semicolon}
use Rattle.std.proofs.Common.{[], ◌∷◌, ◌-◌, ◌<◌, ◌≤◌, length}
use Rattle.ili_grammar.specs.Steps.{rest, Goes}
use Rattle.ili_grammar.specs.Values.{lists_of}
use Rattle.ili_grammar.proofs.RulesRead.{ListsFrom}
use Rattle.ili_grammar.proofs.source.Source.lists.Given as goal

abbrev pub invariant-lists : goal.invariant-lists
invariant-lists l = record {
  further : l.fn.at < l.first;
  within : l.first ≤ length l.self.tokens.now;
  reads : ListsFrom (lists_of l.lists.items) (rest l.self l.fn.at) (rest l.self l.first);
  runs : Goes (rest l.self l.fn.at) (name_list ∷ want semicolon ∷ lists ∷ []) (rest l.self l.first)
      (lists ∷ []);
}

abbrev pub decreases-lists : goal.decreases-lists
decreases-lists l = length l.self.tokens.now - l.first
