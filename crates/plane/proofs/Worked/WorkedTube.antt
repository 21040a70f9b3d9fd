-- The worked tube of a quarter of a circle at level 0 meets the conditions, so the laws speak of
-- something.
use Rattle.std.proofs.Common.{List, [], ◌∷◌, pos, inl, inr, refl, arith}
use Rattle.std.proofs.lemmas.Int.{ints}
use Rattle.plane.specs.Forms.Arcs.{HalfArc, bend, circle_x, circle_y, facing, power, along}
use Rattle.plane.specs.Tubes.Bays.{Bay, bays, IsTube, outward, distance, ahead_of_from, ahead_of_to}

abbrev pub quarter : HalfArc
quarter = record {
  from = record { x = pos 510000; y = pos 500000 };
  to = record { x = pos 500000; y = pos 510000 };
  third = record { x = pos 490000; y = pos 500000 };
}

abbrev pub quarter_bays : List Bay
quarter_bays =
    bays (record { x = pos 507071; y = pos 507071 } ∷ record {
      x = pos 500000;
      y = pos 510000;
    } ∷ []) (record { x = pos 510301; y = pos 504266 } ∷ record {
      x = pos 504266;
      y = pos 510301;
    } ∷ [])

pub quarter_tube : IsTube quarter quarter_bays
unfolding bend circle_x circle_y facing power along outward distance ahead_of_from ahead_of_to
quarter_tube = record {
  circle = omega (arith, ints);
  facing = omega (arith, ints);
  are_bays = (
    record {
      up = omega (arith, ints);
      on = omega (arith, ints);
      over = omega (arith, ints);
    },
    (
      record {
        up = omega (arith, ints);
        on = omega (arith, ints);
        over = omega (arith, ints);
      },
      tt,
    ),
  );
  are_next = (
    record {
      under = omega (arith, ints);
      first_far = omega (arith, ints);
      second_far = omega (arith, ints);
    },
    (tt, tt),
  );
  ends = refl;
  inside = (inl (omega (arith, ints)), (inr refl, tt));
  first_clear = omega (arith, ints);
  last_clear = omega (arith, ints);
  some = tt;
}
