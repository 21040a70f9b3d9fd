-- The domains of a scope, judged by one rule after the other.
use Rattle.std.proofs.Common.{◌≡◌, ℕ, List, ◌++◌, map, Option, ap, sym, ◌∙◌}
use Rattle.std.specs.List.{flat_map}
use Rattle.ili_grammar.specs.Syntax.{Ident, DomainSyntax}
use Rattle.resolver.specs.declared.scope.Scope as code
use Rattle.resolver.specs.Faults.{Fault, first_from}
use Rattle.resolver.specs.Scopes.{texts, domain_names, leads}
use Rattle.resolver.specs.ScopeViews.{scope_of}
use Rattle.resolver.specs.Aliases.{step_in}
use Rattle.resolver.specs.DomainScopes.{domains_in, domains_above}
use Rattle.resolver.specs.Rules.{twice, entry, cycle_faults, domain_faults, domains_faults}
use Rattle.resolver.proofs.ListLemmas.Folds.{first_append}
use Rattle.resolver.proofs.ScopeLemmas.Meanings.{scope_leads}

pub domains_told : (s : code.Scope) (own above : List Ident) (read : List DomainSyntax)
    (before doubles cycles types : Option Fault)
    → own ≡ domain_names (domains_in s.own.now) → above ≡ domain_names (domains_above s.above)
    → read ≡ domains_in s.own.now
    → doubles ≡ first_from before (twice (texts above) (map entry own))
    → cycles ≡ first_from doubles
    (cycle_faults (step_in s.own.now.steps.items) 0 (domains_in s.own.now))
    → types ≡ first_from cycles (flat_map (domain_faults (scope_of s)) read)
    → types ≡ first_from before (domains_faults (scope_of s))
domains_told s own above read before doubles cycles types o a r d c t =
    let ts : List Fault = twice (texts (domain_names (domains_above s.above)))
    (map entry (domain_names (domains_in s.own.now))) in
    let cs : List Fault = cycle_faults (leads (scope_of s)) 0 (domains_in s.own.now) in
    let fs : List Fault = flat_map (domain_faults (scope_of s)) (domains_in s.own.now) in
    t ∙ ap (λ (l : List DomainSyntax). first_from cycles (flat_map (domain_faults (scope_of s)) l))
    r
    ∙ ap (λ (b : Option Fault). first_from b fs) (c
    ∙ ap (λ (g : ℕ → Option ℕ). first_from doubles (cycle_faults g 0 (domains_in s.own.now)))
    (sym (scope_leads s)))
    ∙ sym (first_append doubles cs fs)
    ∙ ap (λ (b : Option Fault). first_from b (cs ++ fs)) (d
    ∙ ap (λ (l : List Ident). first_from before (twice (texts l) (map entry own))) a
    ∙ ap (λ (l : List Ident). first_from before
    (twice (texts (domain_names (domains_above s.above))) (map entry l))) o)
    ∙ sym (first_append before ts (cs ++ fs))
