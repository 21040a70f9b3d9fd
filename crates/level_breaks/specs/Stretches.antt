-- Parts of two curves by their numbers, of which pairs are sought.
use Rattle.std.specs.Prelude.{◌≡◌, ℕ, ◌<◌, ◌≤◌}
use Rattle.plane.specs.Forms.Boxes.{Box}
use Rattle.near_pairs.specs.Boxes.{box_of}
use Rattle.level_breaks.specs.declared.halves.Stretch.{Stretch}

-- What is said of a number holds from the one to before the other.
abbrev pub IsPlaced : (ℕ → Type 0) → ℕ → ℕ → Type 0
IsPlaced P from to = (i : ℕ) → from ≤ i → i < to → P i

-- It holds of one of them.
abbrev pub SomeOf : (ℕ → Type 0) → ℕ → ℕ → Type 0
SomeOf P from to = (i : ℕ) × (from ≤ i) × (i < to) × P i

-- The stretch is one of so many parts, each of which is in its box.
pub record IsStretch (holds : Box → ℕ → Type 0) (count : ℕ) (s : Stretch) : Type 0 where
  pub order : s.from ≤ s.to
  pub there : s.to ≤ count
  pub placed : IsPlaced (holds (box_of s.reach)) s.from s.to

-- Some part of the first stretch and some part of the second are sought.
abbrev pub SomePair : (ℕ → ℕ → Type 0) → Stretch → Stretch → Type 0
SomePair sought s t = SomeOf (λ i. SomeOf (sought i) t.from t.to) s.from s.to

-- The two follow one another, and neither is empty; together they have the parts of the first.
pub record AreHalves (s early late : Stretch) : Type 0 where
  pub start : early.from ≡ s.from
  pub middle : late.from ≡ early.to
  pub end : late.to ≡ s.to
  pub early_some : early.from < early.to
  pub late_some : late.from < late.to
