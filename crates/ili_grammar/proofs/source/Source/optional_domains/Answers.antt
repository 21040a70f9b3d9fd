use Rattle.ili_grammar.proofs.Follow.{by_token, by_way, handed, within}
use Rattle.ili_grammar.specs.Machine.{items, maybe_domains}
use Rattle.ili_grammar.proofs.Symbols.{no_domains}
use Rattle.ili_grammar.specs.Tokens.{DOMAIN, word}
use Rattle.std.proofs.Common.{List, ◌+◌, sym, subst, [], refl, ◌∷◌}
use Rattle.ili_grammar.specs.Steps.{rest}
use Rattle.ili_grammar.specs.Values.{domains_of}
use Rattle.ili_grammar.specs.declared.syntax.DomainSyntax.{DomainSyntax}
use Rattle.ili_grammar.specs.Models.{IsMaybeDomains, without_domains}
use Rattle.ili_grammar.proofs.ModelsRead.{with_domains_read}
use Rattle.ili_grammar.proofs.source.Source.optional_domains.Goals as goal

pub returns-then-not-is_keyword-clause-reads : goal.returns-then-not-is_keyword-clause-reads
returns-then-not-is_keyword-clause-reads c =
    let r = rest c.args.self.now in
    subst (λ (ds : List DomainSyntax). IsMaybeDomains 32 (domains_of ds) (r c.args.at)
    (r c.args.at)) (sym c.new.ensures.items) (without_domains (r c.args.at))

pub returns-clause-reads : goal.returns-clause-reads
returns-clause-reads c =
    let r = rest c.args.self.now in
    with_domains_read (domains_of c.in_ok-domains.domains.items) (r c.args.at) (r (c.args.at + 1))
    (r c.in_ok-domains.next) c.if-not-is_keyword.ensures.here c.in_ok-domains.ensures.reads

pub returns-then-not-is_keyword-clause-runs : goal.returns-then-not-is_keyword-clause-runs
returns-then-not-is_keyword-clause-runs c =
    no_domains 32 (rest c.args.self.now c.args.at) c.if-not-is_keyword.ensures.here

pub returns-in_err-domains-clause-stops : goal.returns-in_err-domains-clause-stops
returns-in_err-domains-clause-stops c =
    handed _ _ _ c.from_residual.ensures.1
    (within _ (by_token (maybe_domains 32) (word DOMAIN) (items 32 ∷ []) _ _
    (λ i. refl) c.if-not-is_keyword.ensures.here) c.in_err-domains.ensures.stops)

pub returns-clause-runs : goal.returns-clause-runs
returns-clause-runs c =
    by_way _ (by_token (maybe_domains 32) (word DOMAIN) (items 32 ∷ []) _ _
    (λ i. refl) c.if-not-is_keyword.ensures.here) c.in_ok-domains.ensures.runs
