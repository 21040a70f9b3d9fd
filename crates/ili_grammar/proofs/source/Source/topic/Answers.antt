use Rattle.ili_grammar.specs.Machine.{the_topic}
use Rattle.ili_grammar.specs.Tokens.{Tok}
use Rattle.ili_grammar.proofs.Symbols.{heading_second, open_topic}
use Rattle.std.proofs.Common.{List, [], refl, subst, ◌∷◌}
use Rattle.ili_grammar.proofs.Follow.{after, and, by_way, first, handed, within}
use Rattle.ili_grammar.specs.Steps.{rest, Goes, Refuses, all}
use Rattle.ili_grammar.specs.Values.{ident_of, domains_of, tables_of}
use Rattle.ili_grammar.proofs.RulesRead.{optional_at}
use Rattle.ili_grammar.proofs.ModelsRead.{topic_read}
use Rattle.ili_grammar.proofs.source.Source.topic.Goals as goal

pub returns-clause-reads : goal.returns-clause-reads
returns-clause-reads c =
    let r = rest c.args.self.now in
    topic_read c.optional-next.result.0 (ident_of c.in_ok-name.name)
    (domains_of c.in_ok-domains.domains.items) (tables_of c.in_ok-domains.tables.items)
    (r c.args.at) (r c.optional-next.result.1) (r c.in_ok-name.next) (r c.in_ok-domains.next)
    (r c.in_ok-next.next)
    (optional_at c.args.self.now c.optional-next.result.0 c.args.at c.optional-next.result.1
    c.optional-next.ensures.here) c.in_ok-name.ensures.reads c.in_ok-domains.ensures.reads
    c.in_ok-next.ensures.reads

pub returns-in_err-name-clause-stops : goal.returns-in_err-name-clause-stops
returns-in_err-name-clause-stops c =
    handed _ _ _ c.from_residual.ensures.1
    (subst (λ (w : List Tok). Refuses (all c.args.self.now) w
    (the_topic 32 ∷ []) c.in_err-name.field-0.0) c.optional-next.ensures.past
    (within _ (open_topic 32 _ _ refl) (first _ c.in_err-name.ensures.stops)))

pub returns-in_err-domains-clause-stops : goal.returns-in_err-domains-clause-stops
returns-in_err-domains-clause-stops c =
    handed _ _ _ c.from_residual-in_err-domains.ensures.1
    (subst (λ (w : List Tok). Refuses (all c.args.self.now) w
    (the_topic 32 ∷ []) c.in_err-domains.field-0.0) c.optional-next.ensures.past
    (within _ (open_topic 32 _ _ (heading_second _ _ _ _ c.in_ok-name.ensures.reads))
    (after c.in_ok-name.ensures.runs (first _ c.in_err-domains.ensures.stops))))

pub returns-in_err-next-clause-stops : goal.returns-in_err-next-clause-stops
returns-in_err-next-clause-stops c =
    handed _ _ _ c.from_residual-in_err-next.ensures.1
    (subst (λ (w : List Tok). Refuses (all c.args.self.now) w
    (the_topic 32 ∷ []) c.in_err-next.field-0.0) c.optional-next.ensures.past
    (within _ (open_topic 32 _ _ (heading_second _ _ _ _ c.in_ok-name.ensures.reads))
    (after c.in_ok-name.ensures.runs
    (after c.in_ok-domains.ensures.runs (c.in_err-next.ensures.stops)))))

pub returns-clause-runs : goal.returns-clause-runs
returns-clause-runs c =
    subst (λ (w : List Tok). Goes w (the_topic 32 ∷ []) (rest c.args.self.now c.in_ok-next.next) [])
    c.optional-next.ensures.past
    (by_way _ (open_topic 32 _ _ (heading_second _ _ _ _ c.in_ok-name.ensures.reads))
    (and c.in_ok-name.ensures.runs (and c.in_ok-domains.ensures.runs (c.in_ok-next.ensures.runs))))
