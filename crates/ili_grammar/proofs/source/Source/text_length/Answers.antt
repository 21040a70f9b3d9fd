use Rattle.ili_grammar.proofs.Follow.{after, and, first, handed}
use Rattle.ili_grammar.proofs.source.Source.text_length.Goals as goal

pub returns-in_err-next-clause-stops : goal.returns-in_err-next-clause-stops
returns-in_err-next-clause-stops c =
    handed _ _ _ c.from_residual.ensures.1 (first _ c.in_err-next.ensures.stops)

pub returns-in_err-length-clause-stops : goal.returns-in_err-length-clause-stops
returns-in_err-length-clause-stops c =
    handed _ _ _ c.from_residual-in_err-length.ensures.1
    (after c.in_ok-next.ensures.runs (c.in_err-length.ensures.stops))

pub returns-clause-runs : goal.returns-clause-runs
returns-clause-runs c = and c.in_ok-next.ensures.runs (c.in_ok-length.ensures.runs)
