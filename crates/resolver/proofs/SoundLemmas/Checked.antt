-- What a name stands for was checked where it is written.
use Rattle.std.proofs.Common.{◌≡◌, ℕ, zero, suc, ◌≤◌, true, false, cond, List, [], ◌∷◌, length}
use Rattle.std.proofs.Common.{slice_get, Option, Some, None, arith}
use Rattle.std.specs.List.{All}
use Rattle.std.specs.Option.{option_map, option_map_or, option_and_then, IfSome}
use Rattle.ili_grammar.specs.Syntax.{Ident, TypeSyntax, DomainSyntax}
use Rattle.ili_grammar.specs.Limits.{type_names}
use Rattle.resolver.specs.Rules.{type_faults}
use Rattle.resolver.specs.Scopes.{Scope, Meaning, names_of, is_among, place, outside, reached}
use Rattle.resolver.specs.Scopes.{leads, longest, last_type, name_alone, written, followed}
use Rattle.resolver.specs.Scopes.{meaning_outside, meaning, meant}

-- a type that breaks no rule where it is written, and has few names
pub record IsChecked (s : Scope) (t : TypeSyntax) : Type 0 where
  pub owner : Ident
  pub clean : type_faults s owner t ≡ []
  pub few : type_names t ≤ 4194304

-- each type that is declared in a scope
abbrev pub AreChecked : Scope → Type 0
AreChecked s = All (λ d. IsChecked s d.kind) s.own

-- what stands for a type that is used where there are so many tables
pub record IsFound (tables : ℕ) (m : Meaning) : Type 0 where
  pub checked : IsChecked m.scope m.kind
  pub few : length m.scope.tables ≤ tables

kind_at : (P : TypeSyntax → Type 0) (ds : List DomainSyntax) (i : ℕ) → All (λ d. P d.kind) ds
    → IfSome (option_map (λ d. d.kind) (slice_get ds i)) P
kind_at P [] i h = tt
kind_at P (d ∷ ds) zero h = h 0 d (omega arith)
kind_at P (d ∷ ds) (suc i) h = kind_at P ds i (λ k x lt. h (suc k) x (omega (arith, lt)))

pub written_found : (tables : ℕ) (look : List ℕ → Option Meaning) (s : Scope) (t : TypeSyntax)
    → ((name : List ℕ) → IfSome (look name) (IsFound tables)) → length s.tables ≤ tables
    → IsChecked s t
    → IfSome (written look s t) (IsFound tables)
written_found tables look s t h le c = by_name (name_alone t)
  where
    by_name : (o : Option Ident)
        → IfSome (option_map_or (λ n. look n.text) o (Some (record { scope = s; kind = t })))
        (IsFound tables)
    by_name None = record { checked = c; few = le }
    by_name (Some n) = h n.text

followed_found : (tables : ℕ) (look : List ℕ → Option Meaning) (s : Scope) (name : List ℕ)
    → ((k : List ℕ) → IfSome (look k) (IsFound tables)) → length s.tables ≤ tables → AreChecked s
    → IfSome (followed look s name) (IsFound tables)
followed_found tables look s name h le c = by_place (place name (names_of s.own))
  where
    by_type : (o : Option TypeSyntax) → IfSome o (IsChecked s)
        → IfSome (option_and_then (written look s) o) (IsFound tables)
    by_type None k = tt
    by_type (Some t) k = written_found tables look s t h le k

    by_place : (o : Option ℕ)
        → IfSome (option_and_then (written look s) (option_and_then (last_type s) o))
        (IsFound tables)
    by_place None = tt
    by_place (Some i) =
        by_type (last_type s i) (kind_at (IsChecked s) s.own (reached (leads s) longest i) c)

pub outside_found : (tables : ℕ) (ds : List DomainSyntax) (name : List ℕ) → AreChecked (outside ds)
    → IfSome (meaning_outside ds name) (IsFound tables)
outside_found tables ds name c =
    followed_found tables (λ _. None) (outside ds) name (λ k. tt) (omega arith) c

pub meaning_found : (tables : ℕ) (s : Scope) (name : List ℕ) → length s.tables ≤ tables
    → AreChecked (outside s.above) → AreChecked s → IfSome (meaning s name) (IsFound tables)
meaning_found tables s name le above own =
    elim (is_among name (names_of s.above)) as
    (λ b. IfSome (cond b (meaning_outside s.above name) (followed (meaning_outside s.above) s name))
    (IsFound tables)) [
      | true ↦ outside_found tables s.above name above
      | false ↦ followed_found tables (meaning_outside s.above) s name
          (λ k. outside_found tables s.above k above) le own
    ]

pub meant_found : (tables : ℕ) (s : Scope) (t : TypeSyntax) → length s.tables ≤ tables
    → AreChecked (outside s.above) → AreChecked s → IsChecked s t
    → IfSome (meant s t) (IsFound tables)
meant_found tables s t le above own c =
    written_found tables (meaning s) s t (λ k. meaning_found tables s k le above own) le c
