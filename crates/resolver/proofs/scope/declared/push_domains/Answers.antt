use Rattle.std.proofs.Common.{refl, ◌∙◌}
use Rattle.std.specs.Borrow.{Bor}
use Rattle.ili_grammar.specs.declared.syntax.DomainSyntax as domain
use Rattle.ili_grammar.specs.Values.{domain_of, domains_of}
use Rattle.resolver.proofs.ListLemmas.Folds.{next_viewed}
use Rattle.resolver.proofs.scope.declared.push_domains.Goals as goal

pub loop-domain-preserved : goal.loop-domain-preserved
loop-domain-preserved c =
    next_viewed domains_of (λ (d : Bor domain.DomainSyntax). domain_of d.now) _ _ _ _ _ _ _ _
    (λ rest. refl) refl c.loop-domain-test.true c.domain-item.is c.in_ok-push.ensures.items refl
    ∙ c.loop-domain.invariant
