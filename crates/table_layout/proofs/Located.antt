-- The places in IDENT lists are below the number of columns and lines.
use Rattle.std.proofs.Common.{◌<◌, ◌≤◌, ◌+◌, ℕ, zero, suc, List, [], ◌∷◌, Option, Some, None}
use Rattle.std.proofs.Common.{length, get_or, arith}
use Rattle.std.specs.Option.{option_map, option_to_list}
use Rattle.std.specs.Prelude.{option_and_then}
use Rattle.std.specs.List.{All, flat_map}
use Rattle.std.proofs.lemmas.List.Elements.{All-nil, All-cons, All-head, All-tail, All-append}
use Rattle.resolver.specs.Resolved.{Attribute, an_attribute, Value, Polyline, Surface, Area}
use Rattle.table_layout.specs.Attributes.{columns_of, lines_of, places_from, list_at, lists_at}
use Rattle.table_layout.specs.Attributes.{idents_of}

-- a place, if there is one, and a list of places, if there is one
abbrev pub Below : ℕ → Option ℕ → Type 0
Below b None = Unit {0}
Below b (Some p) = p < b

abbrev pub AllBelow : ℕ → Option (List ℕ) → Type 0
AllBelow b None = Unit {0}
AllBelow b (Some ps) = All (λ p. p < b) ps

places_below : (b all c l : ℕ) (as_ : List Attribute)
    → c + length (flat_map (columns_of []) as_) ≤ all → all + l + length (flat_map lines_of as_) ≤ b
    → All (Below b) (places_from all c l as_)
places_below b all c l [] h k = All-nil (Below b)
places_below b all c l (an_attribute n o (Value f) ∷ as_) h k =
    All-cons (Below b) (Some c) (places_from all (c + 1) (l + 0) as_) (omega arith)
    (places_below b all (c + 1) (l + 0) as_ (omega arith) (omega arith))
places_below b all c l (an_attribute n o (Area m p) ∷ as_) h k =
    All-cons (Below b) (Some c) (places_from all (c + 1) (l + 0) as_) (omega arith)
    (places_below b all (c + 1) (l + 0) as_ (omega arith) (omega arith))
places_below b all c l (an_attribute n o (Polyline m) ∷ as_) h k =
    All-cons (Below b) (Some (all + l)) (places_from all (c + 0) (l + 1) as_) (omega arith)
    (places_below b all (c + 0) (l + 1) as_ (omega arith) (omega arith))
places_below b all c l (an_attribute n o (Surface m p) ∷ as_) h k =
    All-cons (Below b) None (places_from all (c + 0) (l + 0) as_) tt
    (places_below b all (c + 0) (l + 0) as_ (omega arith) (omega arith))

below_at : (b : ℕ) (places : List (Option ℕ)) (i : ℕ) → All (Below b) places
    → Below b (get_or places i None)
below_at b [] i h = tt
below_at b (p ∷ ps) zero h = All-head (Below b) p ps h
below_at b (p ∷ ps) (suc i) h = below_at b ps i (All-tail (Below b) p ps h)

joined : (b : ℕ) (o : Option ℕ) (r : Option (List ℕ)) → Below b o → AllBelow b r
    → AllBelow b (option_and_then (λ p. option_map (λ ps. p ∷ ps) r) o)
joined b None r h k = tt
joined b (Some p) None h k = tt
joined b (Some p) (Some ps) h k = All-cons (λ q. q < b) p ps h k

list_below : (b : ℕ) (places : List (Option ℕ)) (is : List ℕ) → All (Below b) places
    → AllBelow b (list_at places is)
list_below b places [] h = All-nil (λ q. q < b)
list_below b places (i ∷ is) h =
    joined b (get_or places i None) (list_at places is) (below_at b places i h)
    (list_below b places is h)

kept : (b : ℕ) (o : Option (List ℕ)) → AllBelow b o → All (All (λ p. p < b)) (option_to_list o)
kept b None h = All-nil (All (λ p. p < b))
kept b (Some ps) h = All-cons (All (λ p. p < b)) ps [] h (All-nil (All (λ p. p < b)))

lists_below : (b : ℕ) (places : List (Option ℕ)) (lists : List (List ℕ)) → All (Below b) places
    → All (All (λ p. p < b)) (lists_at places lists)
lists_below b places [] h = All-nil (All (λ p. p < b))
lists_below b places (is ∷ lists) h =
    All-append (All (λ p. p < b)) (option_to_list (list_at places is)) (lists_at places lists)
    (kept b (list_at places is) (list_below b places is h)) (lists_below b places lists h)

pub idents_below : (b first : ℕ) (own : List Attribute) (lists : List (List ℕ))
    → first + length (flat_map (columns_of []) own) + length (flat_map lines_of own) ≤ b
    → All (All (λ p. p < b)) (idents_of first own lists)
idents_below b first own lists h =
    let all : ℕ = first + length (flat_map (columns_of []) own) in
    lists_below b (places_from all first 0 own) lists
    (places_below b all first 0 own (omega arith) (omega arith))
