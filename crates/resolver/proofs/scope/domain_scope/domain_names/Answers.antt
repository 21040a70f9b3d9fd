use Rattle.std.proofs.Common.{List, refl, ◌∙◌}
use Rattle.std.specs.Borrow.{Bor}
use Rattle.ili_grammar.specs.declared.syntax.DomainSyntax as domain
use Rattle.ili_grammar.specs.declared.syntax.Ident as ident
use Rattle.ili_grammar.specs.Values.{ident_of}
use Rattle.resolver.specs.Scopes.{domain_names}
use Rattle.resolver.specs.Steps.{domains_at}
use Rattle.resolver.proofs.ListLemmas.Folds.{next_viewed}
use Rattle.resolver.proofs.scope.domain_scope.domain_names.Goals as goal

pub loop-domain-preserved : goal.loop-domain-preserved
loop-domain-preserved c =
    next_viewed (λ (l : List (Bor domain.DomainSyntax)). domain_names (domains_at l))
    (λ (n : Bor ident.Ident). ident_of n.now) _ _ _ _ _ _ _ _
    (λ rest. refl) refl c.loop-domain-test.true c.domain-item.is c.in_ok-push.ensures.items refl
    ∙ c.loop-domain.invariant
