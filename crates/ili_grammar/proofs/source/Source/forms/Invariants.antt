use Rattle.ili_grammar.specs.Machine.{forms}
use Rattle.std.proofs.Common.{[], ◌∷◌, ◌-◌, ◌≤◌, length}
use Rattle.ili_grammar.specs.Steps.{rest, Goes}
use Rattle.ili_grammar.proofs.RulesRead.{FormsFrom}
use Rattle.ili_grammar.proofs.source.Source.forms.Given as goal

abbrev pub invariant-forms : goal.invariant-forms
invariant-forms l = record {
  further : l.fn.at ≤ l.first;
  within : l.first ≤ length l.self.tokens.now;
  reads : FormsFrom l.straights l.arcs (rest l.self l.fn.at) (rest l.self l.first);
  runs : Goes (rest l.self l.fn.at) (forms ∷ []) (rest l.self l.first) (forms ∷ []);
}

abbrev pub decreases-forms : goal.decreases-forms
decreases-forms l = length l.self.tokens.now - l.first
