-- What the tests of single points say of the other points beside a span.
use Rattle.std.specs.Prelude.{◌≡◌, ℕ, ◌+◌, ◌*◌, ◌^◌, ◌<◌, ◌≤◌, true, false}
use Rattle.plane.specs.declared.kinds.Point.{Point}
use Rattle.plane.specs.Rule.HalfArcs.{HalfArc}
use Rattle.tubes.specs.HalfArcTubes.{is_inside}
use Rattle.tubes.specs.declared.bounds.Bounds.{Bounds}
use Rattle.tubes.specs.declared.bounds.Window.{Window}

-- Over two points of the disk, l their distance rounded down, the point of j is inside where that
-- of i is: 3 (2 i - 1) is at most (2 (i - j) - 3) l.
pub record Follows (l j i : ℕ) : Type 0 where
  pub least : 4 ≤ j
  pub less : j < i
  pub far : (6 * i + (2 * j + 3) * l) ≤ (2 * (i * l) + 3)

-- The point of `low` is inside, and that of `high` is not, where it is a number that a count can
-- have.
pub record AreBounds (h : HalfArc) (p q : Point) (b : Bounds) : Type 0 where
  pub low_small : b.low < 2 ^ 27
  pub high_least : 4 ≤ b.high
  pub high_most : b.high ≤ 2 ^ 27
  pub inside : is_inside h p q b.low ≡ true
  pub outside : b.high < 2 ^ 27 → is_inside h p q b.high ≡ false

-- The bounds are right, and so is what follows from them.
pub record IsWindow (h : HalfArc) (p q : Point) (w : Window) : Type 0 where
  pub bounds : AreBounds h p q w.bounds
  pub inside : (j : ℕ) → 4 ≤ j → j ≤ w.inside_to → is_inside h p q j ≡ true
  pub outside : (i : ℕ) → w.outside_from ≤ i → i < 2 ^ 27 → is_inside h p q i ≡ false
