-- The open cells under keys.
use Rattle.std.specs.Prelude.{◌≡◌, ℕ, ◌+◌, Option, Some, None, List, [], ◌∷◌, ◌++◌, filter}
use Rattle.std.specs.Prelude.{length, map}
use Rattle.plane.specs.Lists.{Has, Once}
use Rattle.plane.specs.Runs.Gaps.{Gap, is_real, no_gap}
use Rattle.slab.specs.Slab.{Slab, ContainsKey, Updates, get, slab_len}
use Rattle.line_sweep.specs.declared.kinds.Cell.{Cell}
use Rattle.line_sweep.specs.Kinds.{gap_of}

abbrev pub gap_in : Option Cell → Gap
gap_in None = no_gap
gap_in (Some c) = gap_of c

-- The gaps of the cells under these keys.
abbrev pub gaps_held : Slab Cell → List ℕ → List Gap
gaps_held slab keys = map (λ (k : ℕ). gap_in (get slab k)) keys

-- Each key has a cell, no key stands twice, the cells have these gaps, and the slab has no other.
pub record IsHeld (slab : Slab Cell) (keys : List ℕ) (listed : List Gap) : Type 0 where
  pub gaps : gaps_held slab keys ≡ listed
  pub once : Once keys
  pub all : (k : ℕ) → Has k keys → ContainsKey slab k
  pub count : slab_len slab ≡ length keys

-- The cells of these keys were taken out, and those with an edge were written.
pub record AreClosed (old new : Slab Cell) (keys : List ℕ) (before after : List Gap) : Type 0 where
  pub closed : after ≡ before ++ filter is_real (gaps_held old keys)
  pub others : (k : ℕ) → (Has k keys → ⊥) → get new k ≡ get old k
  pub count : slab_len new + length keys ≡ slab_len old

-- Cells were put under these new keys.
pub record ArePut (old new : Slab Cell) (keys : List ℕ) : Type 0 where
  pub once : Once keys
  pub fresh : (k : ℕ) → Has k keys → get old k ≡ None
  pub all : (k : ℕ) → Has k keys → ContainsKey new k
  pub others : (k : ℕ) → ContainsKey old k → get new k ≡ get old k
  pub count : slab_len new ≡ slab_len old + length keys

-- The cell was put under a new key, which follows the others.
pub record IsPut (old new : Slab Cell) (c : Cell) (before after : List ℕ) : Type 0 where
  pub key : ℕ
  pub vacant : get old key ≡ None
  pub updates : Updates old new key (Some c)
  pub count : slab_len new ≡ slab_len old + 1
  pub keys : after ≡ before ++ key ∷ []
