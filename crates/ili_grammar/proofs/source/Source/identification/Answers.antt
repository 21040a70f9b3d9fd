use Rattle.ili_grammar.proofs.Follow.{after, first, handed}
use Rattle.ili_grammar.proofs.source.Source.identification.Goals as goal

pub returns-in_err-next-clause-stops : goal.returns-in_err-next-clause-stops
returns-in_err-next-clause-stops c =
    handed _ _ _ c.from_residual.ensures.1 (first _ c.in_err-next.ensures.stops)

pub returns-in_err-next-2-clause-stops : goal.returns-in_err-next-2-clause-stops
returns-in_err-next-2-clause-stops c =
    handed _ _ _ c.from_residual-in_err-next-2.ensures.1
    (after c.in_ok-next.ensures.runs (first _ c.in_err-next-2.ensures.stops))

pub returns-in_err-next-3-clause-stops : goal.returns-in_err-next-3-clause-stops
returns-in_err-next-3-clause-stops c =
    handed _ _ _ c.from_residual-in_err-next-3.ensures.1
    (after c.in_ok-next.ensures.runs
    (after c.in_ok-next-2.ensures.runs (first _ c.in_err-next-3.ensures.stops)))

pub returns-in_err-next-4-clause-stops : goal.returns-in_err-next-4-clause-stops
returns-in_err-next-4-clause-stops c =
    handed _ _ _ c.from_residual-in_err-next-4.ensures.1
    (after c.in_ok-next.ensures.runs
    (after c.in_ok-next-2.ensures.runs
    (after c.in_ok-next-3.ensures.runs (first _ c.in_err-next-4.ensures.stops))))

pub returns-in_err-next-5-clause-stops : goal.returns-in_err-next-5-clause-stops
returns-in_err-next-5-clause-stops c =
    handed _ _ _ c.from_residual-in_err-next-5.ensures.1
    (after c.in_ok-next.ensures.runs
    (after c.in_ok-next-2.ensures.runs
    (after c.in_ok-next-3.ensures.runs
    (after c.in_ok-next-4.ensures.runs (first _ c.in_err-next-5.ensures.stops)))))

pub returns-in_err-next-6-clause-stops : goal.returns-in_err-next-6-clause-stops
returns-in_err-next-6-clause-stops c =
    handed _ _ _ c.from_residual-in_err-next-6.ensures.1
    (after c.in_ok-next.ensures.runs
    (after c.in_ok-next-2.ensures.runs
    (after c.in_ok-next-3.ensures.runs
    (after c.in_ok-next-4.ensures.runs
    (after c.in_ok-next-5.ensures.runs (first _ c.in_err-next-6.ensures.stops))))))

pub returns-in_err-next-7-clause-stops : goal.returns-in_err-next-7-clause-stops
returns-in_err-next-7-clause-stops c =
    handed _ _ _ c.from_residual-in_err-next-7.ensures.1
    (after c.in_ok-next.ensures.runs
    (after c.in_ok-next-2.ensures.runs
    (after c.in_ok-next-3.ensures.runs
    (after c.in_ok-next-4.ensures.runs
    (after c.in_ok-next-5.ensures.runs
    (after c.in_ok-next-6.ensures.runs (c.in_err-next-7.ensures.stops)))))))
