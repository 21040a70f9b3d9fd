-- The domains that are declared outside the topics, or in one topic, as the code keeps them.
use Rattle.std.specs.Prelude.{◌≡◌, ℕ, List, [], slice_get, Option, Some, None}
use Rattle.std.specs.Borrow.{Bor}
use Rattle.std.specs.Option.{option_map}
use Rattle.ili_grammar.specs.Syntax.{DomainSyntax, TypeSyntax}
use Rattle.resolver.specs.declared.scope.domain_scope.DomainScope.{DomainScope}
use Rattle.resolver.specs.Scopes.{reached, longest}
use Rattle.resolver.specs.Aliases.{step_in}
use Rattle.resolver.specs.Steps.{domains_at, steps_of}

abbrev pub domains_in : DomainScope → List DomainSyntax
domains_in l = domains_at l.domains.items

-- those further out, none where nothing is declared there
abbrev pub domains_above : Option (Bor DomainScope) → List DomainSyntax
domains_above None = []
domains_above (Some l) = domains_in l.now

-- their steps
abbrev pub steps_above : Option (Bor DomainScope) → List (Option ℕ)
steps_above None = []
steps_above (Some l) = l.now.steps.items

-- the steps go by these names further out
abbrev pub StepsFrom : List (List ℕ) → DomainScope → Type 0
StepsFrom above l = l.steps.items ≡ steps_of above (domains_in l)

-- the type at the end of the chain from a domain
abbrev pub target_in : DomainScope → ℕ → Option TypeSyntax
target_in l i =
    option_map (λ d. d.kind) (slice_get (domains_in l) (reached (step_in l.steps.items) longest i))
