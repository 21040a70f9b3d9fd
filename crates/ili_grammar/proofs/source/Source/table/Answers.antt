use Rattle.ili_grammar.specs.Machine.{the_table}
use Rattle.ili_grammar.proofs.Symbols.{heading_second, open_table}
use Rattle.ili_grammar.specs.Tokens.{Tok}
use Rattle.std.proofs.Common.{List, [], refl, subst, ◌∷◌}
use Rattle.ili_grammar.proofs.Follow.{after, and, by_way, first, handed, within}
use Rattle.ili_grammar.specs.Steps.{rest, Goes, Refuses, all}
use Rattle.ili_grammar.specs.Values.{ident_of, attributes_of, lists_of}
use Rattle.ili_grammar.proofs.RulesRead.{optional_at}
use Rattle.ili_grammar.proofs.ModelsRead.{table_read}
use Rattle.ili_grammar.proofs.source.Source.table.Goals as goal

pub returns-clause-reads : goal.returns-clause-reads
returns-clause-reads c =
    let r = rest c.args.self.now in
    table_read c.optional-optional.result.0 (ident_of c.in_ok-name.name)
    (attributes_of c.in_ok-attributes.attributes.items) (lists_of c.in_ok-idents.idents.items)
    (r c.args.at) (r c.optional-optional.result.1) (r c.in_ok-name.next) (r c.in_ok-attributes.next)
    (r c.in_ok-idents.next) (r c.in_ok-next.next)
    (optional_at c.args.self.now c.optional-optional.result.0 c.args.at c.optional-optional.result.1
    c.optional-optional.ensures.here) c.in_ok-name.ensures.reads
    c.in_ok-attributes.ensures.reads c.in_ok-idents.ensures.reads c.in_ok-next.ensures.reads

pub returns-in_err-name-clause-stops : goal.returns-in_err-name-clause-stops
returns-in_err-name-clause-stops c =
    handed _ _ _ c.from_residual.ensures.1
    (subst (λ (w : List Tok). Refuses (all c.args.self.now) w
    (the_table 32 ∷ []) c.in_err-name.field-0.0) c.optional-optional.ensures.past
    (within _ (open_table 32 _ _ refl) (first _ c.in_err-name.ensures.stops)))

pub returns-in_err-attributes-clause-stops : goal.returns-in_err-attributes-clause-stops
returns-in_err-attributes-clause-stops c =
    handed _ _ _ c.from_residual-in_err-attributes.ensures.1
    (subst (λ (w : List Tok). Refuses (all c.args.self.now) w
    (the_table 32 ∷ []) c.in_err-attributes.field-0.0) c.optional-optional.ensures.past
    (within _ (open_table 32 _ _ (heading_second _ _ _ _ c.in_ok-name.ensures.reads))
    (after c.in_ok-name.ensures.runs (first _ c.in_err-attributes.ensures.stops))))

pub returns-in_err-idents-clause-stops : goal.returns-in_err-idents-clause-stops
returns-in_err-idents-clause-stops c =
    handed _ _ _ c.from_residual-in_err-idents.ensures.1
    (subst (λ (w : List Tok). Refuses (all c.args.self.now) w
    (the_table 32 ∷ []) c.in_err-idents.field-0.0) c.optional-optional.ensures.past
    (within _ (open_table 32 _ _ (heading_second _ _ _ _ c.in_ok-name.ensures.reads))
    (after c.in_ok-name.ensures.runs
    (after c.in_ok-attributes.ensures.runs (first _ c.in_err-idents.ensures.stops)))))

pub returns-in_err-next-clause-stops : goal.returns-in_err-next-clause-stops
returns-in_err-next-clause-stops c =
    handed _ _ _ c.from_residual-in_err-next.ensures.1
    (subst (λ (w : List Tok). Refuses (all c.args.self.now) w
    (the_table 32 ∷ []) c.in_err-next.field-0.0) c.optional-optional.ensures.past
    (within _ (open_table 32 _ _ (heading_second _ _ _ _ c.in_ok-name.ensures.reads))
    (after c.in_ok-name.ensures.runs
    (after c.in_ok-attributes.ensures.runs
    (after c.in_ok-idents.ensures.runs (c.in_err-next.ensures.stops))))))

pub returns-clause-runs : goal.returns-clause-runs
returns-clause-runs c =
    subst (λ (w : List Tok). Goes w (the_table 32 ∷ []) (rest c.args.self.now c.in_ok-next.next) [])
    c.optional-optional.ensures.past
    (by_way _ (open_table 32 _ _ (heading_second _ _ _ _ c.in_ok-name.ensures.reads))
    (and c.in_ok-name.ensures.runs
    (and c.in_ok-attributes.ensures.runs
    (and c.in_ok-idents.ensures.runs (c.in_ok-next.ensures.runs)))))
