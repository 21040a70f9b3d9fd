use Rattle.ili_grammar.specs.Machine.{elements}
use Rattle.std.proofs.Common.{[], ◌∷◌, ◌+◌, ◌-◌, ◌*◌, ◌≤◌, map, length}
use Rattle.ili_grammar.specs.Values.{element_of}
use Rattle.ili_grammar.specs.Steps.{rest, Goes}
use Rattle.ili_grammar.proofs.Lists.{ElementsFrom}
use Rattle.ili_grammar.proofs.source.Source.+elements.Given as goal

abbrev pub decreases-elements : goal.decreases-elements
decreases-elements l = 3 * l.depth + 2

abbrev pub decreases-element : goal.decreases-element
decreases-element l = 3 * l.depth + 1

abbrev pub decreases-parts : goal.decreases-parts
decreases-parts l = 3 * l.depth

abbrev pub invariant-elements-loop-elements : goal.invariant-elements-loop-elements
invariant-elements-loop-elements l = record {
  further : l.fn.at ≤ l.first;
  within : l.first ≤ length l.self.tokens.now;
  reads : ElementsFrom l.depth (map element_of l.elements.items) (rest l.self l.fn.at)
      (rest l.self l.first);
  runs : Goes (rest l.self l.fn.at) (elements l.depth ∷ []) (rest l.self l.first)
      (elements l.depth ∷ []);
}

abbrev pub decreases-elements-loop-elements : goal.decreases-elements-loop-elements
decreases-elements-loop-elements l = length l.self.tokens.now - l.first
