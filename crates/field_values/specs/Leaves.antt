-- How a leaf of an enumeration is written.
use Rattle.std.specs.Prelude.{◌≡◌, ◌<◌, ℕ, List}
use Rattle.std.specs.Fmt.{decimal}

-- the word is the decimal spelling of the number of a leaf, counted from 0
pub record IsLeaf (leaves : ℕ) (word : List ℕ) : Type 0 where
  pub leaf : ℕ
  pub below : leaf < leaves
  pub spelled : word ≡ decimal leaf
