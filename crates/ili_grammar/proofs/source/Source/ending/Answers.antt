use Rattle.ili_grammar.proofs.Follow.{after, and, first, handed}
use Rattle.ili_grammar.proofs.source.Source.ending.Goals as goal

pub returns-in_err-next-clause-stops : goal.returns-in_err-next-clause-stops
returns-in_err-next-clause-stops c =
    handed _ _ _ c.from_residual.ensures.1 (first _ c.in_err-next.ensures.stops)

pub returns-in_err-next-2-clause-stops : goal.returns-in_err-next-2-clause-stops
returns-in_err-next-2-clause-stops c =
    handed _ _ _ c.from_residual-in_err-next-2.ensures.1
    (after c.in_ok-next.ensures.runs (first _ c.in_err-next-2.ensures.stops))

pub returns-in_err-next-3-clause-stops : goal.returns-in_err-next-3-clause-stops
returns-in_err-next-3-clause-stops c =
    handed _ _ _ c.from_residual-in_err-next-3.ensures.1
    (after c.in_ok-next.ensures.runs
    (after c.in_ok-next-2.ensures.runs (c.in_err-next-3.ensures.stops)))

pub returns-clause-runs : goal.returns-clause-runs
returns-clause-runs c =
    and c.in_ok-next.ensures.runs (and c.in_ok-next-2.ensures.runs (c.in_ok-next-3.ensures.runs))
