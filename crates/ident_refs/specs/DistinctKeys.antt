-- Keys that come once.
use Rattle.std.specs.Prelude.{◌≡◌, ℕ, ◌<◌, List, get_or, Option, Some, None}
use Rattle.ports.specs.SortedKeys.{key_at}
use Rattle.ports.specs.declared.sorted_keys.Ranked.{Ranked}

-- No two rows have one key.
abbrev pub AreDistinct : List (Option (List ℕ)) → Type 0
AreDistinct keys =
    (p q : ℕ) (key : List ℕ) → p < q → get_or keys p None ≡ Some key → get_or keys q None ≡ Some key
    → ⊥

-- Two places of rows have one rank and one key.
abbrev pub HaveOneKey : List (Option (List ℕ)) → Ranked → Ranked → Type 0
HaveOneKey keys a b = (a.rank ≡ b.rank) × (key_at keys a.place ≡ key_at keys b.place)
