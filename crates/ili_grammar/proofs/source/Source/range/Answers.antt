use Rattle.ili_grammar.proofs.Follow.{after, and, first, handed}
use Rattle.ili_grammar.proofs.source.Source.range.Goals as goal

pub returns-in_err-low-clause-stops : goal.returns-in_err-low-clause-stops
returns-in_err-low-clause-stops c =
    handed _ _ _ c.from_residual.ensures.1 (first _ c.in_err-low.ensures.stops)

pub returns-in_err-next-clause-stops : goal.returns-in_err-next-clause-stops
returns-in_err-next-clause-stops c =
    handed _ _ _ c.from_residual-in_err-next.ensures.1
    (after c.in_ok-low.ensures.runs (first _ c.in_err-next.ensures.stops))

pub returns-in_err-high-clause-stops : goal.returns-in_err-high-clause-stops
returns-in_err-high-clause-stops c =
    handed _ _ _ c.from_residual-in_err-high.ensures.1
    (after c.in_ok-low.ensures.runs
    (after c.in_ok-next.ensures.runs (first _ c.in_err-high.ensures.stops)))

pub returns-in_err-next-2-clause-stops : goal.returns-in_err-next-2-clause-stops
returns-in_err-next-2-clause-stops c =
    handed _ _ _ c.from_residual-in_err-next-2.ensures.1
    (after c.in_ok-low.ensures.runs
    (after c.in_ok-next.ensures.runs
    (after c.in_ok-high.ensures.runs (c.in_err-next-2.ensures.stops))))

pub returns-clause-runs : goal.returns-clause-runs
returns-clause-runs c =
    and c.in_ok-low.ensures.runs
    (and c.in_ok-next.ensures.runs (and c.in_ok-high.ensures.runs (c.in_ok-next-2.ensures.runs)))
