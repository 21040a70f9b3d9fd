use Rattle.std.proofs.Common.{refl}
use Rattle.ili_grammar.proofs.Symbols.{model_second, open_model}
use Rattle.ili_grammar.proofs.Follow.{after, and, by_way, first, handed, within}
use Rattle.ili_grammar.specs.Steps.{rest}
use Rattle.ili_grammar.specs.Values.{ident_of, domains_of, topics_of}
use Rattle.ili_grammar.proofs.ModelsRead.{model_read}
use Rattle.ili_grammar.proofs.source.Source.model.Goals as goal

pub returns-clause-reads : goal.returns-clause-reads
returns-clause-reads c =
    let r = rest c.args.self.now in
    model_read (ident_of c.in_ok-model.model) (domains_of c.in_ok-domains.domains.items)
    (topics_of c.in_ok-topics.topics.items) (r c.args.at) (r c.in_ok-next.next)
    (r c.in_ok-model.next) (r c.in_ok-domains.next) (r c.in_ok-topics.next)
    (r c.in_ok-next-2.next)
    c.in_ok-next.ensures.reads c.in_ok-model.ensures.reads c.in_ok-domains.ensures.reads
    c.in_ok-topics.ensures.reads c.in_ok-next-2.ensures.reads

pub returns-in_err-next-clause-stops : goal.returns-in_err-next-clause-stops
returns-in_err-next-clause-stops c =
    handed _ _ _ c.from_residual.ensures.1
    (within _ (open_model 32 (rest c.args.self.now c.args.at) _ refl)
    (first _ c.in_err-next.ensures.stops))

pub returns-in_err-model-clause-stops : goal.returns-in_err-model-clause-stops
returns-in_err-model-clause-stops c =
    handed _ _ _ c.from_residual-in_err-model.ensures.1
    (within _ (open_model 32 (rest c.args.self.now c.args.at) _ refl)
    (after c.in_ok-next.ensures.runs (first _ c.in_err-model.ensures.stops)))

pub returns-in_err-domains-clause-stops : goal.returns-in_err-domains-clause-stops
returns-in_err-domains-clause-stops c =
    handed _ _ _ c.from_residual-in_err-domains.ensures.1
    (within _ (open_model 32 (rest c.args.self.now c.args.at) _
    (model_second _ _ _ _ c.in_ok-next.ensures.reads c.in_ok-model.ensures.reads))
    (after c.in_ok-next.ensures.runs
    (after c.in_ok-model.ensures.runs (first _ c.in_err-domains.ensures.stops))))

pub returns-in_err-topics-clause-stops : goal.returns-in_err-topics-clause-stops
returns-in_err-topics-clause-stops c =
    handed _ _ _ c.from_residual-in_err-topics.ensures.1
    (within _ (open_model 32 (rest c.args.self.now c.args.at) _
    (model_second _ _ _ _ c.in_ok-next.ensures.reads c.in_ok-model.ensures.reads))
    (after c.in_ok-next.ensures.runs
    (after c.in_ok-model.ensures.runs
    (after c.in_ok-domains.ensures.runs (first _ c.in_err-topics.ensures.stops)))))

pub returns-in_err-next-2-clause-stops : goal.returns-in_err-next-2-clause-stops
returns-in_err-next-2-clause-stops c =
    handed _ _ _ c.from_residual-in_err-next-2.ensures.1
    (within _ (open_model 32 (rest c.args.self.now c.args.at) _
    (model_second _ _ _ _ c.in_ok-next.ensures.reads c.in_ok-model.ensures.reads))
    (after c.in_ok-next.ensures.runs
    (after c.in_ok-model.ensures.runs
    (after c.in_ok-domains.ensures.runs
    (after c.in_ok-topics.ensures.runs (c.in_err-next-2.ensures.stops))))))

pub returns-clause-runs : goal.returns-clause-runs
returns-clause-runs c =
    by_way _ (open_model 32 (rest c.args.self.now c.args.at) _
    (model_second _ _ _ _ c.in_ok-next.ensures.reads c.in_ok-model.ensures.reads))
    (and c.in_ok-next.ensures.runs
    (and c.in_ok-model.ensures.runs
    (and c.in_ok-domains.ensures.runs
    (and c.in_ok-topics.ensures.runs (c.in_ok-next-2.ensures.runs)))))
