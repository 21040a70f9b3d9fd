-- Keys of a column in order.
use Rattle.std.specs.Prelude.{◌≡◌, ℕ, Bool, false, nat_eq, List, [], ◌∷◌, length, drop, get_or, min}
use Rattle.std.specs.Prelude.{Option, Some, None}
use Rattle.std.specs.List.{All, Contains}
use Rattle.std.specs.List.Sorted.{IsSortedBy}
use Rattle.std.specs.Cmp.Lexicographic.{pointwise, slice_cmp}
use Rattle.std.specs.Int.{w64, from_be_bytes}
use Rattle.std.specs.Ordering.{nat_cmp, on, then_cmp, is_lt}
use Rattle.std.specs.declared.cmp.Ordering.{Ordering}
use Rattle.ports.specs.declared.sorted_keys.Ranked.{Ranked}
use Rattle.ports.specs.declared.sorted_keys.SortedKeys.{SortedKeys}

-- the number of a length and of the first seven bytes of a rest, those after its end being 0
abbrev pub rank_of : ℕ → List ℕ → ℕ
rank_of len rest =
    from_be_bytes w64 (min len 255 ∷ get_or rest 0 0 ∷ get_or rest 1 0 ∷ get_or rest 2 0
    ∷ get_or rest 3 0 ∷ get_or rest 4 0 ∷ get_or rest 5 0 ∷ get_or rest 6 0 ∷ [])

-- the rank of a key, where so many bytes are passed over
abbrev pub rank : ℕ → List ℕ → ℕ
rank skip key = rank_of (length key) (drop skip key)

-- an element has that key
abbrev pub is_key : List ℕ → Option (List ℕ) → Bool
is_key key None = false
is_key key (Some other) = pointwise nat_eq key other

-- the key at a place of a column, no bytes where there is none
abbrev pub bytes_of : Option (List ℕ) → List ℕ
bytes_of None = []
bytes_of (Some key) = key

abbrev pub key_at : List (Option (List ℕ)) → ℕ → List ℕ
key_at keys place = bytes_of (get_or keys place None)

-- ---- the order
-- keys with their ranks: by the ranks, those of one rank by the bytes
abbrev pub key_cmp : (ℕ × List ℕ) → (ℕ × List ℕ) → Ordering
key_cmp = then_cmp (on (λ k. k.0) nat_cmp) (on (λ k. k.1) (slice_cmp nat_cmp))

abbrev pub key_of : List (Option (List ℕ)) → Ranked → ℕ × List ℕ
key_of keys r = (r.rank, key_at keys r.place)

-- places of a column with the ranks of their keys: by the keys, and those of one key by the place
abbrev pub ranked_cmp : List (Option (List ℕ)) → Ranked → Ranked → Ordering
ranked_cmp keys = then_cmp (on (key_of keys) key_cmp) (on (λ r. r.place) nat_cmp)

abbrev pub is_before : List (Option (List ℕ)) → Ranked → Ranked → Bool
is_before keys a b = is_lt (ranked_cmp keys a b)

-- the key at a place is less than one with its rank
abbrev pub is_below : List (Option (List ℕ)) → ℕ → List ℕ → Ranked → Bool
is_below keys r key ranked = is_lt (key_cmp (key_of keys ranked) (r, key))

-- ---- the column
-- the places of all keys with their ranks, in any order
pub record IsListed (keys : List (Option (List ℕ))) (skip : ℕ) (ranked : List Ranked) : Type 0 where
  pub told : All
      (λ r. (r.rank ≡ rank skip (key_at keys r.place))
      × (get_or keys r.place None ≡ Some (key_at keys r.place)))
      ranked
  pub whole : (place : ℕ) (key : List ℕ) → get_or keys place None ≡ Some key
      → Contains ranked (record { rank = rank skip key; place = place })

-- and in order
pub record AreSorted (keys : List (Option (List ℕ))) (sorted : SortedKeys) : Type 0 where
  pub listed : IsListed keys sorted.skip sorted.ranked.items
  pub ascending : IsSortedBy (is_before keys) sorted.ranked.items

-- the same as a fact that a struct can keep
abbrev pub IsSortedKeys : List (Option (List ℕ)) → SortedKeys → Type 0
IsSortedKeys keys sorted = ∥ AreSorted keys sorted ∥₁
