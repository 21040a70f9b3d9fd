use Rattle.ili_grammar.proofs.Follow.{after, and, first, handed}
use Rattle.ili_grammar.specs.Steps.{rest}
use Rattle.ili_grammar.specs.Values.{ident_of, type_of}
use Rattle.ili_grammar.proofs.ModelsRead.{domain_read}
use Rattle.ili_grammar.proofs.source.Source.domain.Goals as goal

pub returns-clause-reads : goal.returns-clause-reads
returns-clause-reads c =
    let r = rest c.args.self.now in
    domain_read (ident_of c.in_ok-name.name) (type_of c.in_ok-kind.kind) (r c.args.at)
    (r c.in_ok-name.next) (r c.in_ok-next.next) (r c.in_ok-kind.next)
    (r c.explanation-next.result) (r c.in_ok-next-2.next)
    c.in_ok-name.ensures.reads c.in_ok-next.ensures.reads c.in_ok-kind.ensures.reads
    c.explanation-next.ensures.reads c.in_ok-next-2.ensures.reads

pub returns-in_err-name-clause-stops : goal.returns-in_err-name-clause-stops
returns-in_err-name-clause-stops c =
    handed _ _ _ c.from_residual.ensures.1 (first _ c.in_err-name.ensures.stops)

pub returns-in_err-next-clause-stops : goal.returns-in_err-next-clause-stops
returns-in_err-next-clause-stops c =
    handed _ _ _ c.from_residual-in_err-next.ensures.1
    (after c.in_ok-name.ensures.runs (first _ c.in_err-next.ensures.stops))

pub returns-in_err-kind-clause-stops : goal.returns-in_err-kind-clause-stops
returns-in_err-kind-clause-stops c =
    handed _ _ _ c.from_residual-in_err-kind.ensures.1
    (after c.in_ok-name.ensures.runs
    (after c.in_ok-next.ensures.runs (first _ c.in_err-kind.ensures.stops)))

pub returns-in_err-next-2-clause-stops : goal.returns-in_err-next-2-clause-stops
returns-in_err-next-2-clause-stops c =
    handed _ _ _ c.from_residual-in_err-next-2.ensures.1
    (after c.in_ok-name.ensures.runs
    (after c.in_ok-next.ensures.runs
    (after c.in_ok-kind.ensures.runs
    (after c.explanation-next.ensures.runs (c.in_err-next-2.ensures.stops)))))

pub returns-clause-runs : goal.returns-clause-runs
returns-clause-runs c =
    and c.in_ok-name.ensures.runs
    (and c.in_ok-next.ensures.runs
    (and c.in_ok-kind.ensures.runs
    (and c.explanation-next.ensures.runs (c.in_ok-next-2.ensures.runs))))
