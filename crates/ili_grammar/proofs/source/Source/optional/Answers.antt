use Rattle.ili_grammar.specs.Steps.{rest}
use Rattle.ili_grammar.proofs.Follow.{by_token}
use Rattle.ili_grammar.proofs.Symbols.{not_optional, not_past, past_it}
use Rattle.std.proofs.Common.{[], refl, ◌∷◌}
use Rattle.ili_grammar.specs.Tokens.{OPTIONAL, word}
use Rattle.ili_grammar.specs.Machine.{content, first_content}
use Rattle.ili_grammar.proofs.source.Source.optional.Goals as goal

pub returns-then-is_keyword-clause-past : goal.returns-then-is_keyword-clause-past
returns-then-is_keyword-clause-past c = past_it (word OPTIONAL) _ _ c.if-is_keyword.ensures.here

pub returns-clause-past : goal.returns-clause-past
returns-clause-past c =
    not_past (word OPTIONAL) (rest c.args.self.now c.args.at) c.if-is_keyword.ensures.here

pub returns-then-is_keyword-clause-content : goal.returns-then-is_keyword-clause-content
returns-then-is_keyword-clause-content c d =
    by_token (first_content d) (word OPTIONAL) (content d ∷ []) _ _
    (λ i. refl) c.if-is_keyword.ensures.here

pub returns-clause-content : goal.returns-clause-content
returns-clause-content c d =
    not_optional d (rest c.args.self.now c.args.at) c.if-is_keyword.ensures.here
