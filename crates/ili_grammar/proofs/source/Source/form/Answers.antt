use Rattle.ili_grammar.proofs.Follow.{by_token}
use Rattle.ili_grammar.specs.Machine.{forms, more_forms}
use Rattle.ili_grammar.proofs.Stuck.{stuck_form}
use Rattle.std.proofs.Common.{[], refl, ◌∷◌}
use Rattle.ili_grammar.specs.Steps.{all, rest}
use Rattle.ili_grammar.specs.Tokens.{ARCS, STRAIGHTS, word}
use Rattle.ili_grammar.proofs.source.Source.form.Goals as goal

pub returns-then-is_keyword-clause-runs : goal.returns-then-is_keyword-clause-runs
returns-then-is_keyword-clause-runs c =
    by_token forms (word STRAIGHTS) (more_forms ∷ []) _ _ (λ i. refl) c.if-is_keyword.ensures.here

pub returns-then-is_keyword-2-clause-runs : goal.returns-then-is_keyword-2-clause-runs
returns-then-is_keyword-2-clause-runs c =
    by_token forms (word ARCS) (more_forms ∷ []) _ _ (λ i. refl) c.if-is_keyword-2.ensures.here

pub returns-clause-stops : goal.returns-clause-stops
returns-clause-stops c =
    stuck_form (all c.args.self.now) (rest c.args.self.now c.args.at) _ c.if-is_keyword.ensures.here
    c.if-is_keyword-2.ensures.here c.fault.ensures
