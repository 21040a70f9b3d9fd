-- Where no rule is broken, the way from each name ends at a type.
use Rattle.std.proofs.Common.{◌≡◌, ℕ, zero, suc, ◌+◌, ◌<◌, ◌≤◌, Bool, true, false, cond, ◌||◌, List}
use Rattle.std.proofs.Common.{[], ◌∷◌, map, length, slice_get, Option, Some, None, refl, ap, sym}
use Rattle.std.proofs.Common.{◌∙◌, subst, arith, true≢false}
use Rattle.std.proofs.lemmas.List.{length-map}
use Rattle.std.proofs.lemmas.Option.{slice_get-map, slice_get_within}
use Rattle.std.specs.Option.{is_some, option_map, option_map_or, option_and_then, unwrap_or, IfSome}
use Rattle.ili_grammar.specs.Syntax.{Ident, TypeSyntax, DomainSyntax}
use Rattle.resolver.specs.declared.faults.ModelCode.TheVariants as code
use Rattle.resolver.specs.Faults.{fault_if}
use Rattle.resolver.specs.Limits.{AreFew}
use Rattle.resolver.specs.Rules.{cycle_faults}
use Rattle.resolver.specs.Scopes.{Scope, Meaning, is_among, is_visible, place, names_of}
use Rattle.resolver.specs.Scopes.{domain_names, declared_in, leads, reached, comes_to, longest}
use Rattle.resolver.specs.Scopes.{last_type, name_alone, outside, written, followed}
use Rattle.resolver.specs.Scopes.{meaning_outside, meaning, meant}
use Rattle.resolver.specs.Standing.{StandsFor, as_written, as_outside, as_declared}
use Rattle.resolver.specs.Steps.{step_of, steps_of}
use Rattle.resolver.specs.Aliases.{step_in, StepsWithin}
use Rattle.resolver.proofs.ScopeLemmas.Circles.{end_is_round, reached_within}
use Rattle.resolver.proofs.ScopeLemmas.Levels.{place_below, step_below}
use Rattle.resolver.proofs.ScopeLemmas.Meanings.{leads_is}
use Rattle.resolver.proofs.SoundLemmas.NoFault.{none_before, none_behind, not_broken}
use Rattle.resolver.proofs.ScopeLemmas.PlacedNames.{stands_at}

-- what the rules say of the domains of a scope
pub record AreEnding (s : Scope) : Type 0 where
  pub visible : (i : ℕ) (d : DomainSyntax) (n : Ident) → slice_get s.own i ≡ Some d
      → name_alone d.kind ≡ Some n → is_visible s n.text ≡ true
  pub no_cycle : (i : ℕ) → i < length s.own → comes_to (leads s) i longest i ≡ false
  pub few : AreFew s.own

pub no_cycles : (step : ℕ → Option ℕ) (from i : ℕ) (ds : List DomainSyntax)
    → cycle_faults step from ds ≡ [] → i < length ds
    → comes_to step (from + i) longest (from + i) ≡ false
no_cycles step from i [] e lt = absurd (omega (arith, lt))
no_cycles step from zero (d ∷ ds) e lt =
    let same : from + 0 ≡ from = omega arith in
    ap (λ (k : ℕ). comes_to step k longest k) same
    ∙ not_broken (comes_to step from longest from) code.Cycle d.name
    (none_before (fault_if (comes_to step from longest from) code.Cycle d.name)
    (cycle_faults step (from + 1) ds) e)
no_cycles step from (suc i) (d ∷ ds) e lt =
    let same : from + suc i ≡ from + 1 + i = omega arith in
    ap (λ (k : ℕ). comes_to step k longest k) same
    ∙ no_cycles step (from + 1) i ds
    (none_behind (fault_if (comes_to step from longest from) code.Cycle d.name)
    (cycle_faults step (from + 1) ds) e) (omega (arith, lt))

longest_long : 4194304 ≤ longest
unfolding longest
longest_long = omega arith

element : {X : Type 0} (xs : List X) (i : ℕ) → i < length xs → (x : X) × (slice_get xs i ≡ Some x)
element [] i lt = absurd (omega (arith, lt))
element (x ∷ xs) zero lt = (x, refl)
element (x ∷ xs) (suc i) lt = element xs i (omega (arith, lt))

same_some : {X : Type 0} (x y : X) → Some x ≡ Some y → x ≡ y
same_some {X} x y e = ap (λ (o : Option X). unwrap_or o x) e

names_long : (ds : List DomainSyntax) → length (names_of ds) ≡ length ds
names_long ds = length-map (domain_names ds) (λ (n : Ident). n.text)
    ∙ length-map ds (λ (d : DomainSyntax). d.name)

-- ---- steps
steps_long : (s : Scope) → length (steps_of (names_of s.above) s.own) ≡ length s.own
steps_long s = length-map s.own (step_of (names_of s.above) (names_of s.own))

steps_stay : (s : Scope) → StepsWithin (steps_of (names_of s.above) s.own)
steps_stay s i =
    let F : DomainSyntax → Option ℕ = step_of (names_of s.above) (names_of s.own) in
    let n : ℕ = length (map F s.own) in
    subst (λ (o : Option ℕ). IfSome o (λ k. k < n))
    (sym (ap (λ (o : Option (Option ℕ)). unwrap_or o None) (slice_get-map F s.own i)))
    (below n (names_long s.own ∙ sym (steps_long s)) (slice_get s.own i))
  where
    below : (n : ℕ) → length (names_of s.own) ≡ n → (o : Option DomainSyntax)
        → IfSome (unwrap_or (option_map (step_of (names_of s.above) (names_of s.own)) o) None)
        (λ k. k < n)
    below n e None = tt
    below n e (Some d) = step_below (names_of s.above) (names_of s.own) n (name_alone d.kind) e

-- a step to a domain is by its name
step_back : (s : Scope) (i j : ℕ) (d : DomainSyntax) → slice_get s.own i ≡ Some d
    → leads s i ≡ Some j
    → (n : Ident) × (name_alone d.kind ≡ Some n) × (is_among n.text (names_of s.above) ≡ false)
    × (place n.text (names_of s.own) ≡ Some j)
step_back s i j d at e =
    by_name (name_alone d.kind) refl
    (ap (λ (o : Option DomainSyntax). option_and_then
    (λ x. option_and_then (declared_in (names_of s.above) (names_of s.own)) (name_alone x.kind)) o)
    (sym at) ∙ e)
  where
    by_place : (n : Ident) (b : Bool) → is_among n.text (names_of s.above) ≡ b
        → name_alone d.kind ≡ Some n → cond b None (place n.text (names_of s.own)) ≡ Some j
        → (k : Ident) × (name_alone d.kind ≡ Some k) × (is_among k.text (names_of s.above) ≡ false)
        × (place k.text (names_of s.own) ≡ Some j)
    by_place n true q k h = absurd (true≢false (sym (ap is_some h)))
    by_place n false q k h = (n, k, q, h)

    by_name : (o : Option Ident) → name_alone d.kind ≡ o
        → option_and_then (declared_in (names_of s.above) (names_of s.own)) o ≡ Some j
        → (k : Ident) × (name_alone d.kind ≡ Some k) × (is_among k.text (names_of s.above) ≡ false)
        × (place k.text (names_of s.own) ≡ Some j)
    by_name None q h = absurd (true≢false (sym (ap is_some h)))
    by_name (Some n) q h = by_place n (is_among n.text (names_of s.above)) refl q h

declared : (s : Scope) (name : List ℕ) (j : ℕ) → place name (names_of s.own) ≡ Some j
    → (d : DomainSyntax) × (slice_get s.own j ≡ Some d)
declared s name j e =
    element s.own j (omega (arith, place_below name (names_of s.own) j (sym e), names_long s.own))

-- what the end of a way stands for, the domain where it begins stands for
chain : (m : Meaning) (s : Scope) (k i : ℕ) (d e : DomainSyntax) → slice_get s.own i ≡ Some d
    → slice_get s.own (reached (leads s) k i) ≡ Some e → StandsFor m s e.kind → StandsFor m s d.kind
unfolding reached
chain m s zero i d e at end h =
    subst (λ (x : DomainSyntax). StandsFor m s x.kind) (same_some e d (sym end ∙ at)) h
chain m s (suc k) i d e at end h = by_step (λ j x a b. chain m s k j x e a b h) (leads s i) refl
  where
    by_step : ((j : ℕ) (x : DomainSyntax) → slice_get s.own j ≡ Some x
        → slice_get s.own (reached (leads s) k j) ≡ Some e → StandsFor m s x.kind)
        → (o : Option ℕ) → leads s i ≡ o → StandsFor m s d.kind
    by_step again None q =
        again i d at
        (ap (λ (o : Option ℕ). slice_get s.own (reached (leads s) k (unwrap_or o i))) (sym q) ∙ end)
    by_step again (Some j) q =
        let w = step_back s i j d at q in
        let p = declared s w.0.text j w.3 in
        as_declared s d.kind w.0 j p.0 w.1 w.2 w.3 p.1
        (again j p.0 p.1
        (ap (λ (o : Option ℕ). slice_get s.own (reached (leads s) k (unwrap_or o i))) (sym q)
        ∙ end))

-- the domain at the end of a way is of a type that is no name, or of a name that is declared
-- further out
record IsEnd (s : Scope) (e : DomainSyntax) : Type 0 where
  leaves : (n : Ident) → name_alone e.kind ≡ Some n → is_among n.text (names_of s.above) ≡ true

end_leaves : (s : Scope) (i : ℕ) (e : DomainSyntax) → AreEnding s → i < length s.own
    → slice_get s.own (reached (leads s) longest i) ≡ Some e → IsEnd s e
end_leaves s i e a lt at =
    record { leaves = λ n q. by_place n q (is_among n.text (names_of s.above)) refl }
  where
    by_place : (n : Ident) → name_alone e.kind ≡ Some n → (b : Bool)
        → is_among n.text (names_of s.above) ≡ b → is_among n.text (names_of s.above) ≡ true
    by_place n q true h = h
    by_place n q false h =
        let steps : List (Option ℕ) = steps_of (names_of s.above) s.own in
        let same : step_in steps ≡ leads s = leads_is s steps refl in
        let k : ℕ = reached (leads s) longest i in
        let own : is_among n.text (names_of s.own)
        ≡ true = sym (ap (λ (b : Bool). b || is_among n.text (names_of s.own)) h)
        ∙ a.visible k e n at q in
        let p = stands_at n.text (names_of s.own) own in
        let goes : leads s k ≡ Some p.0 =
        ap (λ (o : Option DomainSyntax). option_and_then
        (λ x. option_and_then (declared_in (names_of s.above) (names_of s.own))
        (name_alone x.kind)) o) at
        ∙ ap (λ (o : Option Ident). option_and_then
        (declared_in (names_of s.above) (names_of s.own)) o) q
        ∙ ap (λ (b : Bool). cond b None (place n.text (names_of s.own))) h ∙ p.1 in
        let round : comes_to (step_in steps) k longest k ≡ true =
        end_is_round steps longest k i (steps_stay s)
        (omega (arith, steps_long s, a.few, longest_long)) (omega (arith, lt, steps_long s))
        (ap (λ (f : ℕ → Option ℕ). reached f longest i) same)
        (ap (λ (f : ℕ → Option ℕ). is_some (f k)) same ∙ ap is_some goes) in
        absurd (true≢false (sym round ∙ ap (λ (f : ℕ → Option ℕ). comes_to f k longest k) same
        ∙ a.no_cycle k (slice_get_within s.own k e at)))

end_there : (s : Scope) (i : ℕ) → i < length s.own
    → (e : DomainSyntax) × (slice_get s.own (reached (leads s) longest i) ≡ Some e)
end_there s i lt =
    let steps : List (Option ℕ) = steps_of (names_of s.above) s.own in
    let same : step_in steps ≡ leads s = leads_is s steps refl in
    let within : reached (step_in steps) longest i < length steps = reached_within steps longest i
    (steps_stay s) (omega (arith, lt, steps_long s)) in
    let below : reached (leads s) longest i < length steps = subst
    (λ (f : ℕ → Option ℕ). reached f longest i < length steps) same within in
    element s.own (reached (leads s) longest i) (omega (arith, below, steps_long s))

-- ---- names
-- a name stands for what is found
abbrev pub NameStands : Scope → Ident → Option Meaning → Type 0
NameStands s n o =
    (m : Meaning) × (o ≡ Some m) × ((t : TypeSyntax) → name_alone t ≡ Some n → StandsFor m s t)

-- a type stands for what is found
abbrev pub TypeStands : Scope → TypeSyntax → Option Meaning → Type 0
TypeStands s t o = (m : Meaning) × (o ≡ Some m) × StandsFor m s t

written_stands : (look : List ℕ → Option Meaning) (s : Scope) (t : TypeSyntax)
    → ((n : Ident) → name_alone t ≡ Some n → NameStands s n (look n.text))
    → TypeStands s t (written look s t)
written_stands look s t h = by_name (name_alone t) refl
  where
    by_name : (o : Option Ident) → name_alone t ≡ o
        → TypeStands s t
        (option_map_or (λ n. look n.text) o (Some (record { scope = s; kind = t })))
    by_name None q = (record { scope = s; kind = t }, refl, as_written s t q refl)
    by_name (Some n) q = let w = h n q in (w.0, w.1, w.2 t q)

further_stands : (s : Scope) (n : Ident) (o : Option Meaning)
    → is_among n.text (names_of s.above) ≡ true → NameStands (outside s.above) n o
    → NameStands s n o
further_stands s n o a w = (w.0, w.1, λ t q. as_outside s t n q a (w.2 t q))

followed_stands : (look : List ℕ → Option Meaning) (s : Scope) (n : Ident) → AreEnding s
    → ((k : Ident) → is_among k.text (names_of s.above) ≡ true
    → NameStands (outside s.above) k (look k.text))
    → is_among n.text (names_of s.above) ≡ false → is_among n.text (names_of s.own) ≡ true
    → NameStands s n (followed look s n.text)
followed_stands look s n a further out own =
    let p = stands_at n.text (names_of s.own) own in
    let i : ℕ = p.0 in
    let lt : i < length s.own = omega (arith, p.2, names_long s.own) in
    let d = element s.own i lt in
    let e = end_there s i lt in
    let leaves : IsEnd s e.0 = end_leaves s i e.0 a lt e.1 in
    let w = written_stands look s e.0.kind
    (λ k q. further_stands s k (look k.text) (leaves.leaves k q)
    (further k (leaves.leaves k q))) in
    let found : followed look s n.text ≡ written look s e.0.kind =
    ap (λ (o : Option ℕ). option_and_then (written look s) (option_and_then (last_type s) o)) p.1
    ∙ ap (λ (o : Option DomainSyntax). option_and_then (written look s)
    (option_map (λ x. x.kind) o)) e.1 in (
      w.0,
      found ∙ w.1,
      λ t q. as_declared s t n i d.0 q out p.1 d.1
          (chain w.0 s longest i d.0 e.0 d.1 e.1 w.2),
    )

pub outside_stands : (ds : List DomainSyntax) (n : Ident) → AreEnding (outside ds)
    → is_among n.text (names_of ds) ≡ true → NameStands (outside ds) n (meaning_outside ds n.text)
outside_stands ds n a own =
    followed_stands (λ _. None) (outside ds) n a (λ k h. absurd (true≢false (sym h))) refl own

pub meaning_stands : (s : Scope) (n : Ident) → AreEnding (outside s.above) → AreEnding s
    → is_visible s n.text ≡ true → NameStands s n (meaning s n.text)
meaning_stands s n above own v = by_place (is_among n.text (names_of s.above)) refl v
  where
    by_place : (b : Bool) → is_among n.text (names_of s.above) ≡ b
        → (b || is_among n.text (names_of s.own)) ≡ true
        → NameStands s n
        (cond b (meaning_outside s.above n.text) (followed (meaning_outside s.above) s n.text))
    by_place true q h =
        further_stands s n (meaning_outside s.above n.text) q (outside_stands s.above n above q)
    by_place false q h =
        followed_stands (meaning_outside s.above) s n own
        (λ k g. outside_stands s.above k above g) q h

pub meant_stands : (s : Scope) (t : TypeSyntax) → AreEnding (outside s.above) → AreEnding s
    → ((n : Ident) → name_alone t ≡ Some n → is_visible s n.text ≡ true)
    → TypeStands s t (meant s t)
meant_stands s t above own v =
    written_stands (meaning s) s t (λ n q. meaning_stands s n above own (v n q))
