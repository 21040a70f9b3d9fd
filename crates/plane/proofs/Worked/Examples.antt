-- Small drawings: the definition of a partition holds of the blank one and fails for two straights
-- that cross.
use Rattle.std.proofs.Common.{◌≡◌, ℕ, ◌<◌, ℤ, pos, ◌-ℤ◌, inl, inr, [], ◌∷◌, refl, arith}
use Rattle.std.proofs.lemmas.Int.{ints}
use Rattle.plane.specs.declared.kinds.Point.{Point}
use Rattle.plane.specs.declared.kinds.Curve.{Curve}
use Rattle.plane.specs.declared.window.Window2.{Window2}
use Rattle.plane.specs.Rule.Places.{Vector, Place}
use Rattle.plane.specs.Rule.Plans.{Plan, blank, straight, with_straight}
use Rattle.plane.specs.Rule.Partition.{IsOuter, IsPartition}
use Rattle.plane.specs.Rule.BadPairs.{StraightsMeet}
use Rattle.plane.specs.Rule.Curves.{IsControl}
use Rattle.plane.proofs.Covers.SamePlace.{same_refl}
use Rattle.plane.proofs.Covers.NotApart.{bad_not_apart}
use Rattle.plane.specs.Rule.BadPairs.{straights_meet}

none_below : (P : Type 0) (i : ℕ) → i < 0 → P
none_below P i h = absurd (omega (arith, h))

-- with nothing drawn each place is outer: one step leads as far to the left as wanted
blank_outer : (w : Window2) (z : Vector) → Place z → IsOuter (blank w) z
blank_outer w z Z b =
    let q : Vector = record { x = b -ℤ pos 1; y = pos 0; n = pos 1 } in
    let Q : Place q = omega (arith, ints) in (
      q,
      Q,
      record {
        first = z;
        rest = q ∷ [];
        begins = same_refl z;
        ends = same_refl q;
        places = ((Z, λ i h. none_below _ i h), ((Q, λ i h. none_below _ i h), tt));
        clear = ((λ i h. none_below _ i h), (tt, tt));
      },
      omega (arith, ints),
    )

pub blank_is_partition : (w : Window2) → IsPartition (blank w)
blank_is_partition w = record {
  apart = λ i j h. none_below _ i h;
  off = λ j h. none_below _ j h;
  bounded = λ j h. none_below _ j h;
  alone = λ i j h. none_below _ i h;
  filled = λ z Z off. inl (blank_outer w z Z);
}

-- ---- two straights that cross in (1, 1)
abbrev corner : ℤ → ℤ → Point
corner x y = record { x = x; y = y }

abbrev pub rising : Curve
rising = straight (corner (pos 0) (pos 0)) (corner (pos 2) (pos 2)) 1

abbrev pub falling : Curve
falling = straight (corner (pos 0) (pos 2)) (corner (pos 2) (pos 0)) 2

cross : StraightsMeet rising falling
cross = record {
  first = refl;
  second = refl;
  z = record { x = pos 1; y = pos 1; n = pos 1 };
  place = omega (arith, ints);
  on_first = record { line = refl; between = omega (arith, ints) };
  on_second = record { line = refl; between = omega (arith, ints) };
  no_control = λ both. inner both.0;
}
  where
    inner : IsControl rising (record { x = pos 1; y = pos 1; n = pos 1 }) → ⊥
    inner (inl h) = let x = h.x in omega (arith, ints, x)
    inner (inr h) = let x = h.x in omega (arith, ints, x)

abbrev pub crossing : Window2 → Plan
crossing w =
    with_straight (with_straight (blank w) (corner (pos 0) (pos 0)) (corner (pos 2) (pos 2)) 1)
    (corner (pos 0) (pos 2)) (corner (pos 2) (pos 0)) 2

pub crossing_is_none : (w : Window2) → IsPartition (crossing w) → ⊥
crossing_is_none w h =
    bad_not_apart rising falling (straights_meet cross)
    (h.apart 0 1 (omega arith) (omega arith) other)
  where
    other : ◌≡◌ {A = ℕ} 0 1 → ⊥
    other e = omega (arith, e)
