use Rattle.ili_grammar.specs.Machine.{attributes}
use Rattle.std.proofs.Common.{[], ◌∷◌, ◌+◌, ◌-◌, ◌*◌, ◌≤◌, length, map}
use Rattle.ili_grammar.specs.Steps.{rest, Goes}
use Rattle.ili_grammar.specs.Values.{attribute_of}
use Rattle.ili_grammar.proofs.RulesRead.{AttributesFrom}
use Rattle.ili_grammar.proofs.source.Source.+types.Given as goal

abbrev pub decreases-attributes : goal.decreases-attributes
decreases-attributes l = 6 * l.depth + 5

abbrev pub decreases-attribute : goal.decreases-attribute
decreases-attribute l = 6 * l.depth + 4

abbrev pub decreases-content : goal.decreases-content
decreases-content l = 6 * l.depth + 3

abbrev pub decreases-type_syntax : goal.decreases-type_syntax
decreases-type_syntax l = 6 * l.depth + 2

abbrev pub decreases-keyword_type : goal.decreases-keyword_type
decreases-keyword_type l = 6 * l.depth + 1

abbrev pub decreases-attributed_line : goal.decreases-attributed_line
decreases-attributed_line l = 6 * l.depth

abbrev pub invariant-attributes-attributes : goal.invariant-attributes-attributes
invariant-attributes-attributes l = record {
  further : l.fn.at ≤ l.first;
  within : l.first ≤ length l.self.tokens.now;
  reads : AttributesFrom l.depth (map attribute_of l.attributes.items) (rest l.self l.fn.at)
      (rest l.self l.first);
  runs : Goes (rest l.self l.fn.at) (attributes l.depth ∷ []) (rest l.self l.first)
      (attributes l.depth ∷ []);
}

abbrev pub decreases-attributes-attributes : goal.decreases-attributes-attributes
decreases-attributes-attributes l = length l.self.tokens.now - l.first
