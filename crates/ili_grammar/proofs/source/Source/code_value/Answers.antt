use Rattle.ili_grammar.proofs.Stuck.{no_value}
use Rattle.ili_grammar.proofs.Follow.{after, and, first, handed}
use Rattle.ili_grammar.specs.Steps.{all}
use Rattle.ili_grammar.proofs.source.Source.code_value.Goals as goal

pub returns-in_err-next-clause-stops : goal.returns-in_err-next-clause-stops
returns-in_err-next-clause-stops c =
    handed _ _ _ c.from_residual.ensures.1 (λ used x v. first _ c.in_err-next.ensures.stops)

pub returns-in_err-next-2-clause-stops : goal.returns-in_err-next-2-clause-stops
returns-in_err-next-2-clause-stops c =
    handed _ _ _ c.from_residual-in_err-next-2.ensures.1
    (λ used x v. after c.in_ok-next.ensures.runs (first _ c.in_err-next-2.ensures.stops))

pub returns-in-None-clause-stops : goal.returns-in-None-clause-stops
returns-in-None-clause-stops c used x v =
    after c.in_ok-next.ensures.runs
    (after c.in_ok-next-2.ensures.runs
    (no_value (all c.args.self.now) _ c.args.default used x _ v c.in-None.ensures.value
    c.fault.ensures))

pub returns-in-Some-clause-runs : goal.returns-in-Some-clause-runs
returns-in-Some-clause-runs c = and c.in_ok-next.ensures.runs c.in_ok-next-2.ensures.runs

pub returns-in-Some-clause-value : goal.returns-in-Some-clause-value
returns-in-Some-clause-value c = c.in-Some.ensures.reads
