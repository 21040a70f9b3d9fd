-- The types at which ways end, as a level keeps them.
use Rattle.std.proofs.Common.{◌≡◌, ℕ, Bool, false, cond, List, [], slice_get, Option, Some, None}
use Rattle.std.proofs.Common.{refl, ap, sym, ◌∙◌}
use Rattle.std.proofs.lemmas.Option.{slice_get-map}
use Rattle.std.specs.Option.{option_map, option_and_then, unwrap_or}
use Rattle.ili_grammar.specs.Syntax.{DomainSyntax, TypeSyntax}
use Rattle.resolver.specs.declared.scope.domain_scope.DomainScope.{DomainScope}
use Rattle.resolver.specs.declared.scope.Scope as code
use Rattle.resolver.specs.ScopeViews.{scope_of}
use Rattle.resolver.specs.Scopes.{Scope, Meaning, names_of, leads, reached, longest, last_type}
use Rattle.resolver.specs.Scopes.{place, written, followed, meaning, meaning_outside, is_among}
use Rattle.resolver.specs.Aliases.{step_in}
use Rattle.resolver.specs.Steps.{steps_of, step_of}
use Rattle.resolver.specs.DomainScopes.{domains_in, StepsFrom, target_in}

pub option-join : {X Y : Type 0} (f : X → Option Y) (o : Option X)
    → unwrap_or (option_map f o) None ≡ option_and_then f o
option-join f None = refl
option-join f (Some x) = refl

pub leads_is : (s : Scope) (steps : List (Option ℕ)) → steps ≡ steps_of (names_of s.above) s.own
    → step_in steps ≡ leads s
leads_is s steps e =
    let at : (i : ℕ) → step_in steps i ≡ leads s i = λ i.
    ap (λ (l : List (Option ℕ)). step_in l i) e
    ∙ ap (λ (o : Option (Option ℕ)). unwrap_or o None)
    (slice_get-map (step_of (names_of s.above) (names_of s.own)) s.own i)
    ∙ option-join (step_of (names_of s.above) (names_of s.own)) (slice_get s.own i) in
    λ z i. at i z

abbrev pub level_scope : List DomainSyntax → DomainScope → Scope
level_scope above l = record { above = above; own = domains_in l; tables = [] }

pub target_in_is : (above : List DomainSyntax) (l : DomainScope) → StepsFrom (names_of above) l
    → target_in l ≡ last_type (level_scope above l)
target_in_is above l e =
    let steps : step_in l.steps.items ≡ leads (level_scope above l) = leads_is
    (level_scope above l) l.steps.items e in
    λ z i. option_map (λ d. d.kind) (slice_get (domains_in l) (reached (steps z) longest i))

-- what is found at the end of a way
pub followed_is : (above : List DomainSyntax) (l : DomainScope) (look : List ℕ → Option Meaning)
    (s : Scope) (name : List ℕ) (o : Option TypeSyntax)
    → StepsFrom (names_of above) l
    → o ≡ option_and_then (target_in l) (place name (names_of (domains_in l)))
    → option_and_then (written look s) o
    ≡ option_and_then (written look s)
    (option_and_then (last_type (level_scope above l)) (place name (names_of (domains_in l))))
followed_is above l look s name o e f =
    ap (option_and_then (written look s)) (f
    ∙ ap (λ (g : ℕ → Option TypeSyntax). option_and_then g (place name (names_of (domains_in l))))
    (target_in_is above l e))

-- a name that is not declared further out is looked up here
pub meaning_here : (s : Scope) (name : List ℕ) (there : Bool) (m : Option Meaning)
    → there ≡ is_among name (names_of s.above) → there ≡ false
    → m ≡ followed (meaning_outside s.above) s name → m ≡ meaning s name
meaning_here s name there m e f h =
    h ∙ ap (λ (b : Bool). cond b (meaning_outside s.above name)
    (followed (meaning_outside s.above) s name)) (sym f ∙ e)

-- the steps of a scope's own domains
pub scope_leads : (s : code.Scope) → leads (scope_of s) ≡ step_in s.own.now.steps.items
scope_leads s = sym (leads_is (scope_of s) s.own.now.steps.items s.inner)
