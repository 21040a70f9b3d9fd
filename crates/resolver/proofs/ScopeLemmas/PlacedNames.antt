-- Names that have a place, and their numbers.
use Rattle.std.proofs.Common.{◌≡◌, ℕ, ◌+◌, ◌<◌, true, List, [], length, get_or, Option, Some, None}
use Rattle.std.proofs.Common.{refl, arith, sym, ◌∙◌, subst, true≢false}
use Rattle.std.proofs.lemmas.List.{length-map}
use Rattle.std.proofs.lemmas.List.Elements.{All-map}
use Rattle.std.specs.List.{All, flat_map}
use Rattle.std.specs.Option.{is_some, unwrap_or, IfSome}
use Rattle.ili_grammar.specs.Syntax.{Ident, Attributes}
use Rattle.resolver.specs.declared.faults.ModelCode.TheVariants as code
use Rattle.resolver.specs.Scopes.{is_among, place, same, texts}
use Rattle.resolver.specs.Rules.{attribute_names, no_attribute, list_faults, lists_faults}
use Rattle.resolver.specs.Rules.{names_faults, twice_in}
use Rattle.resolver.specs.Models.{numbers, places}
use Rattle.resolver.specs.Sound.{ArePlaces}
use Rattle.resolver.proofs.ListLemmas.Indexes.{among_place}
use Rattle.resolver.proofs.ScopeLemmas.Levels.{place_within}
use Rattle.resolver.proofs.SoundLemmas.NoFault.{none_behind, none_in_each, holds}

-- a name that is among some stands at one of their places
pub stands_at : (name : List ℕ) (ns : List (List ℕ)) → is_among name ns ≡ true
    → (k : ℕ) × (place name ns ≡ Some k) × (k < length ns)
stands_at name ns e =
    at (place name ns) refl (place_within (same name) 0 ns) (sym (among_place (same name) 0 ns) ∙ e)
  where
    at : (o : Option ℕ) → place name ns ≡ o → IfSome o (λ p. p < 0 + length ns) → is_some o ≡ true
        → (k : ℕ) × (place name ns ≡ Some k) × (k < length ns)
    at None q h s = absurd (true≢false (sym s))
    at (Some k) q h s = (k, q, omega (arith, h))

pub place_is_below : (name : List ℕ) (ns : List (List ℕ)) → is_among name ns ≡ true
    → unwrap_or (place name ns) 0 < length ns
place_is_below name ns e =
    let w = stands_at name ns e in subst (λ (o : Option ℕ). unwrap_or o 0 < length ns) (sym w.1) w.2

pub texts_long : (ns : List Ident) → length (texts ns) ≡ length ns
texts_long ns = length-map ns (λ (n : Ident). n.text)

-- the names of IDENT lists that break no rule
pub lists_placed : (as_ : Attributes) (lists : List (List Ident)) → names_faults as_ lists ≡ []
    → ArePlaces (length (attribute_names as_)) (places as_ lists)
lists_placed as_ lists e =
    let names : List (List ℕ) = texts (attribute_names as_) in
    let n : ℕ = length (attribute_names as_) in
    let each : All (λ l. list_faults names l ≡ []) lists = none_in_each (list_faults names) lists
    (none_behind (twice_in (attribute_names as_)) (lists_faults names lists) e) in
    All-map (All (λ i. i < n)) (numbers names) lists
    (λ i d lt. placed (get_or lists i d) (each i d lt))
  where
    placed : (l : List Ident) → list_faults (texts (attribute_names as_)) l ≡ []
        → All (λ i. i < length (attribute_names as_)) (numbers (texts (attribute_names as_)) l)
    placed l h =
        let names : List (List ℕ) = texts (attribute_names as_) in
        let each : All (λ m. no_attribute names m ≡ []) l = none_in_each (no_attribute names) l
        (none_behind (twice_in l) (flat_map (no_attribute names) l) h) in
        All-map (λ i. i < length (attribute_names as_)) (λ m. unwrap_or (place m.text names) 0) l
        (λ i d lt. subst (λ (q : ℕ). unwrap_or (place (get_or l i d).text names) 0 < q)
        (texts_long (attribute_names as_))
        (place_is_below (get_or l i d).text names
        (holds (is_among (get_or l i d).text names) code.IdentUnknown (get_or l i d)
        (each i d lt))))
