-- Boxes in the order in which they begin along x.
use Rattle.std.specs.Prelude.{ℕ, ◌<◌, ◌≤ℤ◌, List, length, slice_index_or}
use Rattle.std.specs.List.{All, Contains}
use Rattle.near_pairs.specs.Boxes.{reach_of}
use Rattle.near_pairs.specs.declared.column.Item.{Item}
use Rattle.near_pairs.specs.declared.reaches.Reach.{Reach}

-- The item of a box and its number.
abbrev pub item_of : ℕ → Reach → Item
item_of number r = record { low_x = r.low.x; low_y = r.low.y; high_y = r.high.y; number = number }

-- The box and that of the item share a y.
pub record AreLevel (r : Reach) (item : Item) : Type 0 where
  pub under : r.low.y ≤ℤ item.high_y
  pub over : item.low_y ≤ℤ r.high.y

-- The item's box begins within the box along x.
pub record BeginsWithin (r : Reach) (item : Item) : Type 0 where
  pub after : r.low.x ≤ℤ item.low_x
  pub before : item.low_x ≤ℤ r.high.x

-- No item begins before one that stands ahead of it.
abbrev pub IsRising : List Item → Type 0
IsRising column =
    (i j : ℕ) (d : Item) → i < j → j < length column
    → (slice_index_or column i d).low_x ≤ℤ (slice_index_or column j d).low_x

-- All boxes, each with its number.
pub record IsColumn (boxes : List Reach) (column : List Item) : Type 0 where
  pub rising : IsRising column
  pub known : All (λ item. item.number < length boxes) column
  pub whole : (i : ℕ) → i < length boxes → Contains column (item_of i (reach_of boxes i))
