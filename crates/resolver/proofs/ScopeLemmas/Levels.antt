-- Lists of domains, as the code goes over them.
use Rattle.std.proofs.Common.{◌≡◌, ℕ, ◌+◌, ◌<◌, Bool, true, false, cond, List, [], ◌∷◌, map, length}
use Rattle.std.proofs.Common.{drop, get_or, slice_get, Option, Some, None, refl, ap, sym, subst}
use Rattle.std.proofs.Common.{◌∙◌, arith}
use Rattle.std.proofs.lemmas.List.{length-map, get_or_default}
use Rattle.std.proofs.lemmas.Option.{slice_get-map}
use Rattle.std.specs.Borrow.{Bor}
use Rattle.std.specs.List.{position_from}
use Rattle.std.specs.Option.{option_map, option_and_then, unwrap_or, IfSome}
use Rattle.ili_grammar.specs.declared.syntax.DomainSyntax as domain
use Rattle.ili_grammar.specs.Syntax.{Ident, TypeSyntax, DomainSyntax}
use Rattle.ili_grammar.specs.Values.{ident_of, type_of, domain_of}
use Rattle.resolver.specs.declared.scope.domain_scope.DomainScope.{DomainScope}
use Rattle.resolver.specs.Scopes.{texts, same, place, is_among, names_of, domain_names, declared_in}
use Rattle.resolver.specs.Scopes.{name_alone, reached, comes_to, longest}
use Rattle.resolver.specs.declared.faults.ModelCode.TheVariants as code
use Rattle.resolver.specs.Faults.{Fault, first_from, fault_if}
use Rattle.resolver.specs.Rules.{cycle_faults}
use Rattle.resolver.proofs.ListLemmas.Folds.{first_append, list_from}
use Rattle.resolver.specs.Aliases.{step_in, StepsWithin, AreCyclic}
use Rattle.resolver.specs.Steps.{domains_at, step_of, steps_of}
use Rattle.resolver.specs.NameIndexes.{names_in}
use Rattle.resolver.specs.DomainScopes.{domains_in, target_in}

pub steps_map : (above own : List (List ℕ)) (ds : List (Bor domain.DomainSyntax))
    → map (step_of above own) (domains_at ds)
    ≡ map (λ d. option_and_then (declared_in above own) (name_alone (type_of d.now.kind))) ds
steps_map above own [] = refl
steps_map above own (d ∷ ds) =
    ap (λ (os : List (Option ℕ)). option_and_then (declared_in above own)
    (name_alone (type_of d.now.kind)) ∷ os) (steps_map above own ds)

-- a place is one of the list
pub place_within : (test : List ℕ → Bool) (j : ℕ) (ns : List (List ℕ))
    → IfSome (position_from test j ns) (λ p. p < j + length ns)
place_within test j [] = tt
place_within test j (n ∷ ns) =
    elim (test n) as
    (λ b. IfSome (cond b (Some j) (position_from test (j + 1) ns)) (λ p. p < j + length (n ∷ ns))) [
      | true ↦ omega arith
      | false ↦ later (position_from test (j + 1) ns) (place_within test (j + 1) ns)
    ]
  where
    later : (o : Option ℕ) → IfSome o (λ p. p < j + 1 + length ns)
        → IfSome o (λ p. p < j + length (n ∷ ns))
    later None h = tt
    later (Some p) h = omega (arith, h)

pub place_below : (name : List ℕ) (ns : List (List ℕ)) (p : ℕ) → Some p ≡ place name ns
    → p < length ns
place_below name ns p e =
    let w : IfSome (place name ns) (λ q. q < 0 + length ns) = place_within (same name) 0 ns in
    let h : p < 0 + length ns = subst (λ (o : Option ℕ). IfSome o (λ q. q < 0 + length ns))
    (sym e) w in
    omega (arith, h)

pub step_below : (above own : List (List ℕ)) (n : ℕ) (kind : Option Ident) → length own ≡ n
    → IfSome (option_and_then (declared_in above own) kind) (λ k. k < n)
step_below above own n None e = tt
step_below above own n (Some m) e =
    elim (is_among m.text above) as (λ b. IfSome (cond b None (place m.text own)) (λ k. k < n))
    [ true ↦ tt | false ↦ later (place m.text own) (place_within (same m.text) 0 own) ]
  where
    later : (o : Option ℕ) → IfSome o (λ p. p < 0 + length own) → IfSome o (λ k. k < n)
    later None h = tt
    later (Some p) h = omega (arith, h, e)

-- each step leads to one of the domains
pub steps_within : (above own : List (List ℕ)) (ds : List (Bor domain.DomainSyntax))
    (steps : List (Option ℕ))
    → length own ≡ length ds
    → steps ≡ map (λ d. option_and_then (declared_in above own) (name_alone (type_of d.now.kind)))
    ds → StepsWithin steps
steps_within above own ds steps long e i =
    let F : Bor domain.DomainSyntax
    → Option ℕ =
    λ d. option_and_then (declared_in above own) (name_alone (type_of d.now.kind)) in
    let n : length steps ≡ length ds = ap (λ (l : List (Option ℕ)). length l) e ∙ length-map ds F in
    let at : step_in steps i ≡ unwrap_or (option_map F (slice_get ds i)) None = ap
    (λ (l : List (Option ℕ)). step_in l i) e
    ∙ ap (λ (o : Option (Option ℕ)). unwrap_or o None) (slice_get-map F ds i) in
    subst (λ (o : Option ℕ). IfSome o (λ k. k < length steps)) (sym at)
    (below F (length steps) (long ∙ sym n) (slice_get ds i))
  where
    below : (F : Bor domain.DomainSyntax → Option ℕ) (m : ℕ) → length own ≡ m
        → (o : Option (Bor domain.DomainSyntax))
        → IfSome (unwrap_or
        (option_map (λ d. option_and_then (declared_in above own)
        (name_alone (type_of d.now.kind))) o) None) (λ k. k < m)
    below F m l None = tt
    below F m l (Some d) = step_below above own m (name_alone (type_of d.now.kind)) l

pub names_long : (ns : List Ident) (ds : List (Bor domain.DomainSyntax))
    → ns ≡ domain_names (domains_at ds) → length (texts ns) ≡ length ds
names_long ns ds e = ap (λ (l : List Ident). length (texts l)) e
    ∙ length-map (domain_names (domains_at ds)) (λ (n : Ident). n.text)
    ∙ length-map (domains_at ds) (λ (d : DomainSyntax). d.name)
    ∙ length-map ds (λ (d : Bor domain.DomainSyntax). domain_of d.now)

pub steps_made : (above : List (List ℕ)) (names : List Ident)
    (read ds : List (Bor domain.DomainSyntax)) (steps : List (Option ℕ))
    → read ≡ ds → names ≡ domain_names (domains_at ds)
    → steps ≡ map
    (λ d. option_and_then (declared_in above (texts names)) (name_alone (type_of d.now.kind)))
    read → steps ≡ steps_of above (domains_at ds)
steps_made above names read ds steps r e s =
    s ∙ ap (λ (l : List (Bor domain.DomainSyntax)). map
    (λ d. option_and_then (declared_in above (texts names)) (name_alone (type_of d.now.kind)))
    l) r
    ∙ sym (steps_map above (texts names) ds)
    ∙ ap (λ (l : List Ident). map (step_of above (texts l)) (domains_at ds)) e

-- a name's place has a step
pub level_place : (l : DomainScope) (name : List ℕ) (p : ℕ)
    → Some p ≡ place name (texts (names_in l.names)) → p < length l.steps.items
level_place l name p e =
    let below : p < length (texts (names_in l.names)) = place_below name
    (texts (names_in l.names)) p e in
    omega (arith, below, names_long (names_in l.names) l.domains.items l.named, l.long)

pub last_is : (l : DomainScope) (name : List ℕ) (p : ℕ) (read : List (Bor domain.DomainSyntax))
    (ends : List ℕ) (t : TypeSyntax)
    → read ≡ l.domains.items → ends ≡ l.targets.items
    → Some p ≡ place name (texts (names_in l.names))
    → option_map (λ d. d.kind) (slice_get (domains_at read) (get_or ends p 0)) ≡ Some t
    → Some t ≡ option_and_then (target_in l) (place name (names_of (domains_in l)))
last_is l name p read ends t r f e k =
    let found : Some p ≡ place name (names_of (domains_in l)) = e
    ∙ ap (λ (ns : List Ident). place name (texts ns)) l.named in
    let far : get_or ends p 0 ≡ reached (step_in l.steps.items) longest p = ap
    (λ (es : List ℕ). get_or es p 0) f ∙ l.landed.lands p (level_place l name p e) in
    sym k ∙ ap (λ (ds : List (Bor domain.DomainSyntax)). option_map (λ d. d.kind)
    (slice_get (domains_at ds) (get_or ends p 0))) r
    ∙ ap (λ (i : ℕ). option_map (λ d. d.kind) (slice_get (domains_in l) i)) far
    ∙ ap (λ (o : Option ℕ). option_and_then (target_in l) o) found

pub within_some : (steps read : List (Option ℕ)) (i k : ℕ) → read ≡ steps → StepsWithin read
    → step_in steps i ≡ Some k → k < length steps
within_some steps read i k r w e =
    let h : StepsWithin steps = subst (λ (l : List (Option ℕ)). StepsWithin l) r w in
    subst (λ (o : Option ℕ). IfSome o (λ q. q < length steps)) e (h i)

pub some_within : (steps read : List (Option ℕ)) → read ≡ steps
    → ((i k : ℕ) → step_in steps i ≡ Some k → k < length steps) → StepsWithin read
some_within steps read r h =
    let all : StepsWithin steps = λ i. at i (step_in steps i) refl in
    subst (λ (l : List (Option ℕ)). StepsWithin l) (sym r) all
  where
    at : (i : ℕ) (o : Option ℕ) → step_in steps i ≡ o → IfSome o (λ q. q < length steps)
    at i None e = tt
    at i (Some k) e = h i k e

-- one more domain was judged
pub cycles_step : (step : ℕ → Option ℕ) (i : ℕ) (ds read : List (Bor domain.DomainSyntax))
    (d : Bor domain.DomainSyntax) (round : Bool) (best after : Option Fault)
    → read ≡ ds → i < length read → d ≡ get_or read i d → round ≡ comes_to step i longest i
    → after ≡ first_from best (fault_if round code.Cycle (ident_of d.now.name))
    → first_from after (cycle_faults step (i + 1) (domains_at (drop (i + 1) ds)))
    ≡ first_from best (cycle_faults step i (domains_at (drop i ds)))
cycles_step step i ds read d round best after r lt at m e =
    let rest : List Fault = cycle_faults step (i + 1) (domains_at (drop (i + 1) ds)) in
    ap (λ (o : Option Fault). first_from o rest) (e
    ∙ ap (λ (b : Bool). first_from best (fault_if b code.Cycle (ident_of d.now.name))) m)
    ∙ sym (first_append best (fault_if (comes_to step i longest i) code.Cycle (ident_of d.now.name))
    rest)
    ∙ ap (λ (l : List (Bor domain.DomainSyntax)). first_from best
    (cycle_faults step i (domains_at l))) (sym (list_from i ds read d r lt at))

-- what the marks say
pub marked : (steps read : List (Option ℕ)) (marks : List Bool) (i : ℕ) (b : Bool) → read ≡ steps
    → AreCyclic read marks → i < length steps → b ≡ get_or marks i b
    → b ≡ comes_to (step_in steps) i longest i
marked steps read marks i b r a lt at =
    let here : i < length read = subst (λ (l : List (Option ℕ)). i < length l) (sym r) lt in
    at ∙ get_or_default marks i b false (omega (arith, here, a.long)) ∙ a.found i here
    ∙ ap (λ (l : List (Option ℕ)). comes_to (step_in l) i longest i) r
