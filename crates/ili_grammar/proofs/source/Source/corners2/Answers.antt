use Rattle.ili_grammar.proofs.Follow.{after, and, first, handed}
use Rattle.ili_grammar.proofs.source.Source.corners2.Goals as goal

pub returns-in_err-least-clause-stops : goal.returns-in_err-least-clause-stops
returns-in_err-least-clause-stops c =
    handed _ _ _ c.from_residual.ensures.1 (first _ c.in_err-least.ensures.stops)

pub returns-in_err-greatest-clause-stops : goal.returns-in_err-greatest-clause-stops
returns-in_err-greatest-clause-stops c =
    handed _ _ _ c.from_residual-in_err-greatest.ensures.1
    (after c.in_ok-least.ensures.runs (c.in_err-greatest.ensures.stops))

pub returns-clause-runs : goal.returns-clause-runs
returns-clause-runs c = and c.in_ok-least.ensures.runs (c.in_ok-greatest.ensures.runs)
