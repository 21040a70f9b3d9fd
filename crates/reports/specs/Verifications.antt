-- What filed certificates prove of the areas of a layout, as a report says it.
use Rattle.std.specs.Prelude.{ℕ, List}

-- all is proved, by certificates of these levels; or an area, the rule that is broken there and its
-- place
pub data Verification : Type 0 where
  proved : List ℕ → Verification
  not_proved : ℕ → ℕ → ℕ → Verification
