use Rattle.ili_grammar.proofs.Follow.{after, and, first, handed}
use Rattle.ili_grammar.proofs.source.Source.ended_list.Goals as goal

pub returns-in_err-list-clause-stops : goal.returns-in_err-list-clause-stops
returns-in_err-list-clause-stops c =
    handed _ _ _ c.from_residual.ensures.1 (first _ c.in_err-list.ensures.stops)

pub returns-in_err-next-clause-stops : goal.returns-in_err-next-clause-stops
returns-in_err-next-clause-stops c =
    handed _ _ _ c.from_residual-in_err-next.ensures.1
    (after c.in_ok-list.ensures.runs (c.in_err-next.ensures.stops))

pub returns-clause-runs : goal.returns-clause-runs
returns-clause-runs c = and c.in_ok-list.ensures.runs (c.in_ok-next.ensures.runs)
