use Rattle.std.proofs.Common.{[], ◌∷◌, ◌-◌, ◌≤◌, length, map}
use Rattle.ili_grammar.specs.Steps.{rest, Goes}
use Rattle.ili_grammar.specs.Machine.{name_list}
use Rattle.ili_grammar.specs.Values.{ident_of}
use Rattle.ili_grammar.proofs.RulesRead.{NamesFrom}
use Rattle.ili_grammar.proofs.source.Source.name_list.Given as goal

abbrev pub invariant-names : goal.invariant-names
invariant-names l = record {
  further : l.fn.at ≤ l.first;
  within : l.first ≤ length l.self.tokens.now;
  reads : NamesFrom (map ident_of l.names.items) (rest l.self l.fn.at) (rest l.self l.first);
  runs : Goes (rest l.self l.fn.at) (name_list ∷ []) (rest l.self l.first) (name_list ∷ []);
}

abbrev pub decreases-names : goal.decreases-names
decreases-names l = length l.self.tokens.now - l.first
