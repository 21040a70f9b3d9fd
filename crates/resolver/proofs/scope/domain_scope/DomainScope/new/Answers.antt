use Rattle.std.proofs.Common.{List, length, map, refl, ◌∙◌, ap, sym}
use Rattle.std.specs.Borrow.{Bor}
use Rattle.ili_grammar.specs.declared.syntax.DomainSyntax as domain
use Rattle.ili_grammar.specs.Values.{type_of}
use Rattle.resolver.specs.Numbers.{counted_leaves}
use Rattle.resolver.specs.Scopes.{texts, domain_names}
use Rattle.resolver.specs.NameIndexes.{names_if}
use Rattle.resolver.specs.Steps.{domains_at, steps_of}
use Rattle.resolver.proofs.ScopeLemmas.Levels.{within_some}
use Rattle.resolver.proofs.scope.domain_scope.DomainScope.new.Goals as goal

pub aliases-requires : goal.aliases-requires
aliases-requires c = c.in_ok-names.ensures
    ∙ ap (λ (l : List (Bor domain.DomainSyntax)). domain_names (domains_at l))
    (c.deref.ensures.value ∙ sym c.deref-3.ensures.value)

pub returns-clause-steps : goal.returns-clause-steps
returns-clause-steps c = c.in_ok-steps.ensures.steps
    ∙ ap (λ (l : List (Bor domain.DomainSyntax)). steps_of (texts (names_if c.args.above))
    (domains_at l)) c.deref-3.ensures.value

pub invariant_of-result-clause-long : goal.invariant_of-result-clause-long
invariant_of-result-clause-long c =
    c.in_ok-steps.ensures.long
    ∙ ap (λ (l : List (Bor domain.DomainSyntax)). length l) c.deref-3.ensures.value

pub invariant_of-result-clause-within : goal.invariant_of-result-clause-within
invariant_of-result-clause-within c =
    λ i k e. within_some c.in_ok-steps.steps.items c.in_ok-steps.steps.items i k refl
    c.in_ok-steps.ensures.within e

pub invariant_of-result-clause-counted : goal.invariant_of-result-clause-counted
invariant_of-result-clause-counted c =
    c.in_ok-leaves.ensures
    ∙ ap (λ (l : List (Bor domain.DomainSyntax)). map (λ d. counted_leaves (type_of d.now.kind)) l)
    c.deref-2.ensures.value
