-- The quarter of a circle from (5, 0) to (0, 5): places on it and off it, and a straight that
-- crosses it on trial.
use Rattle.std.proofs.Common.{◌≡◌, ℤ, pos, negsuc, ◌<ℤ◌, inl, inr, refl, arith, sym, ◌∙◌, ap}
use Rattle.std.proofs.lemmas.Int.{ints}
use Rattle.plane.specs.declared.kinds.Point.{Point}
use Rattle.plane.specs.declared.kinds.Curve.{Curve}
use Rattle.plane.specs.Rule.Places.{point}
use Rattle.plane.specs.Rule.HalfArcs.{bend, circle_x, circle_y, power, bow, IsOnHalfArc, HasCircle}
use Rattle.plane.specs.Rule.HalfArcs.{HasSide}
use Rattle.plane.specs.Rule.Plans.{straight, half_arc}
use Rattle.plane.specs.Rule.Curves.{arc}
use Rattle.plane.specs.Rule.BadPairs.{sixteenth, HaveNoCommonEnd, IsTrialCrossing, AreBad, crossed}

abbrev at_point : ℤ → ℤ → Point
at_point x y = record { x = x; y = y }

abbrev pub quarter : Curve
quarter = half_arc (at_point (pos 5) (pos 0)) (at_point (pos 0) (pos 5))
    (at_point (negsuc 4) (pos 0)) 1

-- (3, 4) is on it
pub middle_on : IsOnHalfArc (arc quarter) (point (at_point (pos 3) (pos 4)))
unfolding power bow bend circle_x circle_y
middle_on = record { circle = refl; away = omega (arith, ints) }

-- (-3, 4) is on the circle, but on the third point's side
pub other_side : (power (arc quarter) (point (at_point (negsuc 2) (pos 4))) ≡ pos 0)
    × (bow (arc quarter) (point (at_point (negsuc 2) (pos 4))) <ℤ pos 0)
unfolding power bow bend circle_x circle_y
other_side = (refl, omega (arith, ints))

-- (3, 3) is inside the circle and (4, 4) outside
pub inside_outside : (power (arc quarter) (point (at_point (pos 3) (pos 3))) <ℤ pos 0)
    × (pos 0 <ℤ power (arc quarter) (point (at_point (pos 4) (pos 4))))
unfolding power bend circle_x circle_y
inside_outside = (omega (arith, ints), omega (arith, ints))

-- ---- the straight from (0, 0) to (8, 8)
abbrev pub diagonal : Curve
diagonal = straight (at_point (pos 0) (pos 0)) (at_point (pos 8) (pos 8)) 2

can_be_judged : HasCircle (arc quarter)
unfolding bend
can_be_judged = record {
  bent = λ e. not_zero e;
  ends = record {
    x = record { above = omega (arith, ints); below = omega (arith, ints) };
    y = record { above = omega (arith, ints); below = omega (arith, ints) };
  };
  first = record {
    x = record { above = omega (arith, ints); below = omega (arith, ints) };
    y = record { above = omega (arith, ints); below = omega (arith, ints) };
  };
  second = record {
    x = record { above = omega (arith, ints); below = omega (arith, ints) };
    y = record { above = omega (arith, ints); below = omega (arith, ints) };
  };
}
  where
    not_zero : pos 50 ≡ pos 0 → ⊥
    not_zero e = omega (arith, ints, e)

before_side : HasSide (arc quarter) (sixteenth diagonal 7)
before_side = record {
  circle = can_be_judged;
  right = omega (arith, ints);
  left = omega (arith, ints);
  above = omega (arith, ints);
  below = omega (arith, ints);
}

after_side : HasSide (arc quarter) (sixteenth diagonal 8)
after_side = record {
  circle = can_be_judged;
  right = omega (arith, ints);
  left = omega (arith, ints);
  above = omega (arith, ints);
  below = omega (arith, ints);
}

seventh : IsTrialCrossing (arc quarter) (sixteenth diagonal 7) (sixteenth diagonal 8)
unfolding power bow bend circle_x circle_y
seventh = record {
  first_side = before_side;
  second_side = after_side;
  first_away = omega (arith, ints);
  second_away = omega (arith, ints);
  changes = inl (omega (arith, ints), omega (arith, ints));
}

x_of : (a b : Point) → a ≡ b → a.x ≡ b.x
x_of a b e = ap (λ (p : Point). p.x) e

no_common : HaveNoCommonEnd diagonal quarter
no_common p (inl e) (inl f) = let g = x_of _ _ (e ∙ sym f) in omega (arith, ints, g)
no_common p (inl e) (inr f) = let g = ap (λ (p : Point). p.y) (e ∙ sym f) in omega (arith, ints, g)
no_common p (inr e) (inl f) = let g = x_of _ _ (e ∙ sym f) in omega (arith, ints, g)
no_common p (inr e) (inr f) = let g = x_of _ _ (e ∙ sym f) in omega (arith, ints, g)

pub diagonal_is_bad : AreBad diagonal quarter
diagonal_is_bad =
    crossed (inl (record {
      straight = refl;
      half_arc = refl;
      no_common = no_common;
      k = 7;
      within = omega arith;
      crossing = seventh;
    }))
