use Rattle.ili_grammar.proofs.Follow.{after, first, handed}
use Rattle.ili_grammar.specs.Steps.{rest}
use Rattle.ili_grammar.specs.Values.{codes_of}
use Rattle.ili_grammar.proofs.ModelsRead.{format_read}
use Rattle.ili_grammar.proofs.source.Source.format.Goals as goal

pub returns-clause-reads : goal.returns-clause-reads
returns-clause-reads c =
    let r = rest c.args.self.now in
    format_read (codes_of c.in_ok-codes.codes) (r c.args.at) (r c.in_ok-next.next)
    (r c.in_ok-next-2.next) (r c.in_ok-next-3.next) (r c.in_ok-next-4.next)
    (r c.in_ok-next-5.next) (r c.in_ok-codes.next)
    c.in_ok-next.ensures.reads c.in_ok-next-2.ensures.reads c.in_ok-next-3.ensures.reads
    c.in_ok-next-4.ensures.reads c.in_ok-next-5.ensures.reads c.in_ok-codes.ensures.reads

pub returns-in_err-next-clause-stops : goal.returns-in_err-next-clause-stops
returns-in_err-next-clause-stops c =
    handed _ _ _ c.from_residual.ensures.1 (first _ c.in_err-next.ensures.stops)

pub returns-in_err-next-2-clause-stops : goal.returns-in_err-next-2-clause-stops
returns-in_err-next-2-clause-stops c =
    handed _ _ _ c.from_residual-in_err-next-2.ensures.1
    (after c.in_ok-next.ensures.runs (first _ c.in_err-next-2.ensures.stops))

pub returns-in_err-next-3-clause-stops : goal.returns-in_err-next-3-clause-stops
returns-in_err-next-3-clause-stops c =
    handed _ _ _ c.from_residual-in_err-next-3.ensures.1
    (after c.in_ok-next.ensures.runs
    (after c.in_ok-next-2.ensures.runs (first _ c.in_err-next-3.ensures.stops)))

pub returns-in_err-next-4-clause-stops : goal.returns-in_err-next-4-clause-stops
returns-in_err-next-4-clause-stops c =
    handed _ _ _ c.from_residual-in_err-next-4.ensures.1
    (after c.in_ok-next.ensures.runs
    (after c.in_ok-next-2.ensures.runs
    (after c.in_ok-next-3.ensures.runs (first _ c.in_err-next-4.ensures.stops))))

pub returns-in_err-next-5-clause-stops : goal.returns-in_err-next-5-clause-stops
returns-in_err-next-5-clause-stops c =
    handed _ _ _ c.from_residual-in_err-next-5.ensures.1
    (after c.in_ok-next.ensures.runs
    (after c.in_ok-next-2.ensures.runs
    (after c.in_ok-next-3.ensures.runs
    (after c.in_ok-next-4.ensures.runs (first _ c.in_err-next-5.ensures.stops)))))

pub returns-in_err-codes-clause-stops : goal.returns-in_err-codes-clause-stops
returns-in_err-codes-clause-stops c =
    handed _ _ _ c.from_residual-in_err-codes.ensures.1
    (after c.in_ok-next.ensures.runs
    (after c.in_ok-next-2.ensures.runs
    (after c.in_ok-next-3.ensures.runs
    (after c.in_ok-next-4.ensures.runs
    (after c.in_ok-next-5.ensures.runs c.in_err-codes.ensures.stops)))))
