use Rattle.ili_grammar.proofs.Symbols.{open_transfer}
use Rattle.ili_grammar.proofs.Follow.{after, first, handed, within}
use Rattle.ili_grammar.specs.Steps.{rest}
use Rattle.ili_grammar.specs.Values.{ident_of, domains_of, topics_of, codes_of}
use Rattle.ili_grammar.proofs.ModelsRead.{transfer_read}
use Rattle.ili_grammar.proofs.source.Source.transfer.Goals as goal

pub returns-clause-reads : goal.returns-clause-reads
returns-clause-reads c =
    let r = rest c.args.self.now in
    transfer_read (ident_of c.in_ok-transfer.transfer) (ident_of c.in_ok-model.model)
    (domains_of c.in_ok-outer.outer.items) (domains_of c.in_ok-model.domains.items)
    (topics_of c.in_ok-model.topics.items) (codes_of c.in_ok-codes.codes)
    (r c.args.at) (r c.in_ok-next.next) (r c.in_ok-transfer.next) (r c.in_ok-next-2.next)
    (r c.in_ok-outer.next) (r c.in_ok-model.next) (r c.in_ok-codes.next)
    c.in_ok-next.ensures.reads c.in_ok-transfer.ensures.reads c.in_ok-next-2.ensures.reads
    c.in_ok-outer.ensures.reads c.in_ok-model.ensures.reads c.in_ok-codes.ensures.reads

pub returns-in_err-next-clause-stops : goal.returns-in_err-next-clause-stops
returns-in_err-next-clause-stops c =
    handed _ _ _ c.from_residual.ensures.1
    (within _ (open_transfer 32 (rest c.args.self.now c.args.at))
    (first _ c.in_err-next.ensures.stops))

pub returns-in_err-transfer-clause-stops : goal.returns-in_err-transfer-clause-stops
returns-in_err-transfer-clause-stops c =
    handed _ _ _ c.from_residual-in_err-transfer.ensures.1
    (within _ (open_transfer 32 (rest c.args.self.now c.args.at))
    (after c.in_ok-next.ensures.runs (first _ c.in_err-transfer.ensures.stops)))

pub returns-in_err-next-2-clause-stops : goal.returns-in_err-next-2-clause-stops
returns-in_err-next-2-clause-stops c =
    handed _ _ _ c.from_residual-in_err-next-2.ensures.1
    (within _ (open_transfer 32 (rest c.args.self.now c.args.at))
    (after c.in_ok-next.ensures.runs
    (after c.in_ok-transfer.ensures.runs (first _ c.in_err-next-2.ensures.stops))))

pub returns-in_err-outer-clause-stops : goal.returns-in_err-outer-clause-stops
returns-in_err-outer-clause-stops c =
    handed _ _ _ c.from_residual-in_err-outer.ensures.1
    (within _ (open_transfer 32 (rest c.args.self.now c.args.at))
    (after c.in_ok-next.ensures.runs
    (after c.in_ok-transfer.ensures.runs
    (after c.in_ok-next-2.ensures.runs (first _ c.in_err-outer.ensures.stops)))))

pub returns-in_err-model-clause-stops : goal.returns-in_err-model-clause-stops
returns-in_err-model-clause-stops c =
    handed _ _ _ c.from_residual-in_err-model.ensures.1
    (within _ (open_transfer 32 (rest c.args.self.now c.args.at))
    (after c.in_ok-next.ensures.runs
    (after c.in_ok-transfer.ensures.runs
    (after c.in_ok-next-2.ensures.runs
    (after c.in_ok-outer.ensures.runs (first _ c.in_err-model.ensures.stops))))))

pub returns-in_err-codes-clause-stops : goal.returns-in_err-codes-clause-stops
returns-in_err-codes-clause-stops c =
    handed _ _ _ c.from_residual-in_err-codes.ensures.1
    (within _ (open_transfer 32 (rest c.args.self.now c.args.at))
    (after c.in_ok-next.ensures.runs
    (after c.in_ok-transfer.ensures.runs
    (after c.in_ok-next-2.ensures.runs
    (after c.in_ok-outer.ensures.runs
    (after c.in_ok-model.ensures.runs c.in_err-codes.ensures.stops))))))
