-- Where a name is visible, and what it stands for.
use Rattle.std.specs.Prelude.{ℕ, zero, suc, Bool, false, cond, ◌||◌, ◌==◌, List, [], ◌++◌, map}
use Rattle.std.specs.Prelude.{nat_eq, slice_get, Option, Some, None}
use Rattle.std.specs.List.{list_any, position_from}
use Rattle.std.specs.Option.{unwrap_or, option_map, option_map_or, option_and_then}
use Rattle.std.specs.Cmp.Lexicographic.{pointwise}
use Rattle.ili_grammar.specs.Syntax.{Ident, TypeSyntax, Named, Content, Value, Reference}
use Rattle.ili_grammar.specs.Syntax.{DomainSyntax, TableSyntax, TopicSyntax, ModelSyntax}

-- the same bytes
abbrev pub same : List ℕ → List ℕ → Bool
same = pointwise nat_eq

-- a name stands among some
abbrev pub is_among : List ℕ → List (List ℕ) → Bool
is_among name names = list_any (same name) names

-- the place of the first that has the name, from 0
abbrev pub place : List ℕ → List (List ℕ) → Option ℕ
place name names = position_from (same name) 0 names

-- the domains that are declared further out, those that are declared here, and the tables that a
-- reference may name
pub record Scope : Type 0 where
  pub above : List DomainSyntax
  pub own : List DomainSyntax
  pub tables : List (List ℕ)

-- the names of domains
abbrev pub domain_names : List DomainSyntax → List Ident
domain_names ds = map (λ d. d.name) ds

-- the names of tables
abbrev pub table_names : List TableSyntax → List Ident
table_names ts = map (λ t. t.name) ts

-- the bytes of names
abbrev pub texts : List Ident → List (List ℕ)
texts names = map (λ n. n.text) names

-- the bytes of the names of domains
abbrev pub names_of : List DomainSyntax → List (List ℕ)
names_of ds = texts (domain_names ds)

abbrev pub is_visible : Scope → List ℕ → Bool
is_visible s name = is_among name (names_of s.above) || is_among name (names_of s.own)

-- what is visible everywhere
abbrev pub everywhere : ModelSyntax → List DomainSyntax
everywhere m = m.outer ++ m.domains

-- what is visible outside of the topics: these domains
abbrev pub outside : List DomainSyntax → Scope
outside ds = record { above = []; own = ds; tables = [] }

-- what is visible in a topic: these domains, its own, and its tables
abbrev pub inside : List DomainSyntax → TopicSyntax → Scope
inside ds t = record { above = ds; own = t.domains; tables = texts (table_names t.tables) }

-- Chains of domains, each of which has the name of the next as its type.

-- the name, where a type is a name alone
abbrev pub name_alone : TypeSyntax → Option Ident
name_alone (Named n) = Some n
name_alone _ = None

-- the domain of that name among some; a name that is declared further out leads out of the scope
abbrev pub declared_in : List (List ℕ) → List (List ℕ) → Ident → Option ℕ
declared_in above own n = cond (is_among n.text above) None (place n.text own)

-- the domain to which a domain leads, where its type is a name alone
abbrev pub leads : Scope → ℕ → Option ℕ
leads s i =
    option_and_then
    (λ d. option_and_then (declared_in (names_of s.above) (names_of s.own)) (name_alone d.kind))
    (slice_get s.own i)

-- the domain to which so many steps lead, or at which the chain ends before
unfoldable pub reached : (ℕ → Option ℕ) → ℕ → ℕ → ℕ
reached step zero i = i
reached step (suc steps) i = reached step steps (unwrap_or (step i) i)

-- one of the next so many steps from a domain leads to the domain i; a domain leads back to itself
-- where one of its own steps does
unfoldable pub comes_to : (ℕ → Option ℕ) → ℕ → ℕ → ℕ → Bool
comes_to step i zero from = false
comes_to step i (suc steps) from =
    option_map_or (λ next. (next == i) || comes_to step i steps next) (step from) false

-- no model has more names: a chain of so many steps passes a domain twice, and never ends
unfoldable pub longest : ℕ
longest = 4194304

-- the type at which the chain from a domain ends within its scope; a name alone where it leads out,
-- to no domain, or does not end
abbrev pub last_type : Scope → ℕ → Option TypeSyntax
last_type s i = option_map (λ d. d.kind) (slice_get s.own (reached (leads s) longest i))

-- What a name stands for: a type that is no name alone, and the scope in which it is written.
pub record Meaning : Type 0 where
  pub scope : Scope
  pub kind : TypeSyntax

-- a type as it is written, if it is no name alone, and else what the name stands for
abbrev pub written : (List ℕ → Option Meaning) → Scope → TypeSyntax → Option Meaning
written look s t =
    option_map_or (λ n. look n.text) (name_alone t) (Some (record { scope = s; kind = t }))

-- the end of the chain from the domain that has the name in this scope; one that leads out goes on
-- by `look`
abbrev pub followed : (List ℕ → Option Meaning) → Scope → List ℕ → Option Meaning
followed look s name =
    option_and_then (written look s) (option_and_then (last_type s) (place name (names_of s.own)))

-- what a name stands for outside the topics
abbrev pub meaning_outside : List DomainSyntax → List ℕ → Option Meaning
meaning_outside ds name = followed (λ _. None) (outside ds) name

-- what a name stands for
abbrev pub meaning : Scope → List ℕ → Option Meaning
meaning s name =
    cond (is_among name (names_of s.above)) (meaning_outside s.above name)
    (followed (meaning_outside s.above) s name)

-- what a type stands for
abbrev pub meant : Scope → TypeSyntax → Option Meaning
meant s t = written (meaning s) s t

-- what the content of an attribute stands for, where it is a value
abbrev pub value_meant : Scope → Content → Option Meaning
value_meant s (Value t) = meant s t
value_meant s (Reference n) = None
