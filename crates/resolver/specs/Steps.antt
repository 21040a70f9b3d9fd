-- The step from each domain to the one to which it leads.
use Rattle.std.specs.Prelude.{ℕ, List, map, Option}
use Rattle.std.specs.Borrow.{Bor}
use Rattle.std.specs.Option.{option_and_then}
use Rattle.ili_grammar.specs.declared.syntax.DomainSyntax as domain
use Rattle.ili_grammar.specs.Syntax.{DomainSyntax}
use Rattle.ili_grammar.specs.Values.{domain_of}
use Rattle.resolver.specs.Scopes.{names_of, declared_in, name_alone}

abbrev pub domains_at : List (Bor domain.DomainSyntax) → List DomainSyntax
domains_at ds = map (λ d. domain_of d.now) ds

-- the step from a domain, by the names further out and those beside it
abbrev pub step_of : List (List ℕ) → List (List ℕ) → DomainSyntax → Option ℕ
step_of above own d = option_and_then (declared_in above own) (name_alone d.kind)

abbrev pub steps_of : List (List ℕ) → List DomainSyntax → List (Option ℕ)
steps_of above ds = map (step_of above (names_of ds)) ds
