-- What holds of the types of all visible domains holds of what a name or a type stands for.
use Rattle.std.proofs.Common.{ℕ, suc, zero, Bool, true, false, cond, List, [], ◌∷◌, slice_get}
use Rattle.std.proofs.Common.{Option, Some, None, arith}
use Rattle.std.specs.List.{All}
use Rattle.std.specs.Option.{IfSome, option_map, option_map_or, option_and_then}
use Rattle.ili_grammar.specs.Syntax.{Ident, TypeSyntax, DomainSyntax}
use Rattle.resolver.specs.Scopes.{Scope, Meaning, place, is_among, names_of, name_alone, last_type}
use Rattle.resolver.specs.Scopes.{outside, written, followed, meaning_outside, meaning, meant}
use Rattle.resolver.specs.Scopes.{reached, leads, longest}

abbrev Kept : (TypeSyntax → Type 0) → Option Meaning → Type 0
Kept P o = IfSome o (λ m. P m.kind)

at_place : (P : TypeSyntax → Type 0) (ds : List DomainSyntax) (i : ℕ) → All (λ d. P d.kind) ds
    → IfSome (option_map (λ (d : DomainSyntax). d.kind) (slice_get ds i)) P
at_place P [] i h = tt
at_place P (d ∷ ds) zero h = h 0 d (omega arith)
at_place P (d ∷ ds) (suc i) h = at_place P ds i (λ k x lt. h (suc k) x (omega (arith, lt)))

written_kept : (P : TypeSyntax → Type 0) (look : List ℕ → Option Meaning) (s : Scope)
    (t : TypeSyntax)
    → ((name : List ℕ) → Kept P (look name)) → P t → Kept P (written look s t)
written_kept P look s t k p = by_name (name_alone t)
  where
    by_name : (o : Option Ident)
        → Kept P (option_map_or (λ n. look n.text) o (Some (record { scope = s; kind = t })))
    by_name None = p
    by_name (Some n) = k n.text

followed_kept : (P : TypeSyntax → Type 0) (look : List ℕ → Option Meaning) (s : Scope)
    (name : List ℕ)
    → All (λ d. P d.kind) s.own → ((other : List ℕ) → Kept P (look other))
    → Kept P (followed look s name)
followed_kept P look s name h k = by_place (place name (names_of s.own))
  where
    by_type : (o : Option TypeSyntax) → IfSome o P → Kept P (option_and_then (written look s) o)
    by_type None p = tt
    by_type (Some t) p = written_kept P look s t k p

    by_place : (o : Option ℕ)
        → Kept P (option_and_then (written look s) (option_and_then (last_type s) o))
    by_place None = tt
    by_place (Some i) = by_type (last_type s i) (at_place P s.own (reached (leads s) longest i) h)

outside_kept : (P : TypeSyntax → Type 0) (ds : List DomainSyntax) (name : List ℕ)
    → All (λ d. P d.kind) ds → Kept P (meaning_outside ds name)
outside_kept P ds name h = followed_kept P (λ _. None) (outside ds) name h (λ _. tt)

pub meaning_kept : (P : TypeSyntax → Type 0) (s : Scope) (name : List ℕ)
    → All (λ d. P d.kind) s.above → All (λ d. P d.kind) s.own → Kept P (meaning s name)
meaning_kept P s name a o = by_test (is_among name (names_of s.above))
  where
    by_test : (b : Bool)
        → Kept P (cond b (meaning_outside s.above name) (followed (meaning_outside s.above) s name))
    by_test true = outside_kept P s.above name a
    by_test false =
        followed_kept P (meaning_outside s.above) s name o (λ other. outside_kept P s.above other a)

pub meant_kept : (P : TypeSyntax → Type 0) (s : Scope) (t : TypeSyntax)
    → All (λ d. P d.kind) s.above → All (λ d. P d.kind) s.own → P t → Kept P (meant s t)
meant_kept P s t a o p = written_kept P (meaning s) s t (λ name. meaning_kept P s name a o) p

-- what holds of a scope and of the one outside it holds of the scope of each meaning

abbrev Scoped : (Scope → Type 0) → Option Meaning → Type 0
Scoped Q o = IfSome o (λ m. Q m.scope)

written_scoped : (Q : Scope → Type 0) (look : List ℕ → Option Meaning) (s : Scope) (t : TypeSyntax)
    → ((name : List ℕ) → Scoped Q (look name)) → Q s → Scoped Q (written look s t)
written_scoped Q look s t k q = by_name (name_alone t)
  where
    by_name : (o : Option Ident)
        → Scoped Q (option_map_or (λ n. look n.text) o (Some (record { scope = s; kind = t })))
    by_name None = q
    by_name (Some n) = k n.text

followed_scoped : (Q : Scope → Type 0) (look : List ℕ → Option Meaning) (s : Scope) (name : List ℕ)
    → Q s → ((other : List ℕ) → Scoped Q (look other)) → Scoped Q (followed look s name)
followed_scoped Q look s name q k =
    by_type (option_and_then (last_type s) (place name (names_of s.own)))
  where
    by_type : (o : Option TypeSyntax) → Scoped Q (option_and_then (written look s) o)
    by_type None = tt
    by_type (Some t) = written_scoped Q look s t k q

outside_scoped : (Q : Scope → Type 0) (ds : List DomainSyntax) (name : List ℕ) → Q (outside ds)
    → Scoped Q (meaning_outside ds name)
outside_scoped Q ds name q = followed_scoped Q (λ _. None) (outside ds) name q (λ _. tt)

meaning_scoped : (Q : Scope → Type 0) (s : Scope) (name : List ℕ) → Q (outside s.above) → Q s
    → Scoped Q (meaning s name)
meaning_scoped Q s name a q = by_test (is_among name (names_of s.above))
  where
    by_test : (b : Bool)
        → Scoped Q (cond b (meaning_outside s.above name)
        (followed (meaning_outside s.above) s name))
    by_test true = outside_scoped Q s.above name a
    by_test false =
        followed_scoped Q (meaning_outside s.above) s name q
        (λ other. outside_scoped Q s.above other a)

pub meant_scoped : (Q : Scope → Type 0) (s : Scope) (t : TypeSyntax) → Q (outside s.above) → Q s
    → Scoped Q (meant s t)
meant_scoped Q s t a q = written_scoped Q (meaning s) s t (λ name. meaning_scoped Q s name a q) q
