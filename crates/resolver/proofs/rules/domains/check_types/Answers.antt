use Rattle.std.proofs.Common.{List, ◌∙◌, refl}
use Rattle.std.specs.Borrow.{Bor}
use Rattle.std.specs.List.{flat_map}
use Rattle.ili_grammar.specs.declared.syntax.DomainSyntax as domain
use Rattle.ili_grammar.specs.Syntax.{DomainSyntax}
use Rattle.resolver.specs.Limits.{IsBounded}
use Rattle.ili_grammar.specs.Values.{domain_of}
use Rattle.resolver.specs.ScopeViews.{scope_of}
use Rattle.resolver.specs.Steps.{domains_at}
use Rattle.resolver.specs.Rules.{domain_faults}
use Rattle.resolver.proofs.ListLemmas.Folds.{told_over}
use Rattle.resolver.proofs.ListLemmas.Viewed.{of_item}
use Rattle.resolver.proofs.rules.domains.check_types.Goals as goal

pub check_type-requires-clause-kind : goal.check_type-requires-clause-kind
check_type-requires-clause-kind c =
    (of_item (λ (d : Bor domain.DomainSyntax). domain_of d.now)
    (λ (d : DomainSyntax). IsBounded d.kind) c.args.domains.now c.loop-domain.domain-index
    c.domain-item.result c.requires.domains c.loop-domain-test.true c.domain-item.is).numbers

pub loop-domain-preserved : goal.loop-domain-preserved
loop-domain-preserved c =
    told_over (λ (l : List (Bor domain.DomainSyntax)). flat_map
    (domain_faults (scope_of c.args.scope.now)) (domains_at l)) _ _ _ _ _ _ _
    (λ rest. refl) refl c.loop-domain-test.true c.domain-item.is c.in_ok-check_type.ensures
    ∙ c.loop-domain.invariant
