-- The circle with an object's point in its middle, drawn as four half arcs: its tubes, its run and
-- its labels meet the premises of the laws on tubes.
use Rattle.std.proofs.Common.{◌≡◌, ℕ, zero, suc, ◌<◌, List, [], ◌∷◌, ℤ, get_or, inl, inr, refl}
use Rattle.std.proofs.Common.{arith}
use Rattle.std.proofs.lemmas.Int.{ints}
use Rattle.plane.specs.declared.window.Window2.{Window2}
use Rattle.plane.specs.declared.kinds.CurveKind.TheVariants as kind
use Rattle.plane.specs.Forms.Arcs.{HalfArc, bend, circle_x, circle_y, facing, power, along}
use Rattle.plane.specs.Rule.Curves.{arc}
use Rattle.plane.specs.Rule.Plans.{Plan, curve, half_arc}
use Rattle.plane.specs.Runs.Steps.{WeighedRun}
use Rattle.plane.specs.Faces.Replays.{replay}
use Rattle.plane.specs.Faces.Halves.{Half, under, over}
use Rattle.plane.specs.Faces.Labels.{Labels}
use Rattle.plane.specs.Faces.Parity.{same_point}
use Rattle.plane.specs.Tubes.Bays.{Bay, IsTube, outward, distance, ahead_of_from, ahead_of_to}
use Rattle.plane.specs.CurveRuns.Extended.{AreTubes}
use Rattle.plane.specs.CurveRuns.TubedRuns.{IsTubedRun, AreTubeLabels, tubes, MeetsArc}
use Rattle.plane.proofs.Worked.TubeTests.{tubed_by_test, labels_by_test}
use Rattle.plane.proofs.TubedRuns.RunTubes.{are_tubes}
use Rattle.plane.proofs.Worked.CircleRun.{at_point, edge, steps, circle_runs}

abbrev first : HalfArc
first = record {
  from = at_point 510000 500000;
  to = at_point 500000 510000;
  third = at_point 490000 500000;
}

abbrev first_bays : List Bay
first_bays = record {
  outer = at_point 510301 504266;
  inner = at_point 507071 507071;
} ∷ record {
  outer = at_point 504266 510301;
  inner = at_point 500000 510000;
} ∷ []

first_tube : IsTube first first_bays
unfolding bend circle_x circle_y facing power along outward distance ahead_of_from ahead_of_to
first_tube = record {
  circle = omega (arith, ints);
  facing = omega (arith, ints);
  are_bays = (
    record {
      up = omega (arith, ints);
      on = omega (arith, ints);
      over = omega (arith, ints);
    },
    (
      record {
        up = omega (arith, ints);
        on = omega (arith, ints);
        over = omega (arith, ints);
      },
      tt,
    ),
  );
  are_next = (
    record {
      under = omega (arith, ints);
      first_far = omega (arith, ints);
      second_far = omega (arith, ints);
    },
    (tt, tt),
  );
  ends = refl;
  inside = (inl (omega (arith, ints)), (inr refl, tt));
  first_clear = omega (arith, ints);
  last_clear = omega (arith, ints);
  some = tt;
}

abbrev second : HalfArc
second = record {
  from = at_point 500000 510000;
  to = at_point 490000 500000;
  third = at_point 510000 500000;
}

abbrev second_bays : List Bay
second_bays = record {
  outer = at_point 495731 510303;
  inner = at_point 492929 507070;
} ∷ record {
  outer = at_point 489698 504266;
  inner = at_point 490000 500000;
} ∷ []

second_tube : IsTube second second_bays
unfolding bend circle_x circle_y facing power along outward distance ahead_of_from ahead_of_to
second_tube = record {
  circle = omega (arith, ints);
  facing = omega (arith, ints);
  are_bays = (
    record {
      up = omega (arith, ints);
      on = omega (arith, ints);
      over = omega (arith, ints);
    },
    (
      record {
        up = omega (arith, ints);
        on = omega (arith, ints);
        over = omega (arith, ints);
      },
      tt,
    ),
  );
  are_next = (
    record {
      under = omega (arith, ints);
      first_far = omega (arith, ints);
      second_far = omega (arith, ints);
    },
    (tt, tt),
  );
  ends = refl;
  inside = (inl (omega (arith, ints)), (inr refl, tt));
  first_clear = omega (arith, ints);
  last_clear = omega (arith, ints);
  some = tt;
}

abbrev third : HalfArc
third = record {
  from = at_point 490000 500000;
  to = at_point 500000 490000;
  third = at_point 510000 500000;
}

abbrev third_bays : List Bay
third_bays = record {
  outer = at_point 489700 495733;
  inner = at_point 492929 492929;
} ∷ record {
  outer = at_point 495733 489700;
  inner = at_point 500000 490000;
} ∷ []

third_tube : IsTube third third_bays
unfolding bend circle_x circle_y facing power along outward distance ahead_of_from ahead_of_to
third_tube = record {
  circle = omega (arith, ints);
  facing = omega (arith, ints);
  are_bays = (
    record {
      up = omega (arith, ints);
      on = omega (arith, ints);
      over = omega (arith, ints);
    },
    (
      record {
        up = omega (arith, ints);
        on = omega (arith, ints);
        over = omega (arith, ints);
      },
      tt,
    ),
  );
  are_next = (
    record {
      under = omega (arith, ints);
      first_far = omega (arith, ints);
      second_far = omega (arith, ints);
    },
    (tt, tt),
  );
  ends = refl;
  inside = (inl (omega (arith, ints)), (inr refl, tt));
  first_clear = omega (arith, ints);
  last_clear = omega (arith, ints);
  some = tt;
}

abbrev fourth : HalfArc
fourth = record {
  from = at_point 500000 490000;
  to = at_point 510000 500000;
  third = at_point 490000 500000;
}

abbrev fourth_bays : List Bay
fourth_bays = record {
  outer = at_point 504266 489698;
  inner = at_point 507070 492929;
} ∷ record {
  outer = at_point 510303 495731;
  inner = at_point 510000 500000;
} ∷ []

fourth_tube : IsTube fourth fourth_bays
unfolding bend circle_x circle_y facing power along outward distance ahead_of_from ahead_of_to
fourth_tube = record {
  circle = omega (arith, ints);
  facing = omega (arith, ints);
  are_bays = (
    record {
      up = omega (arith, ints);
      on = omega (arith, ints);
      over = omega (arith, ints);
    },
    (
      record {
        up = omega (arith, ints);
        on = omega (arith, ints);
        over = omega (arith, ints);
      },
      tt,
    ),
  );
  are_next = (
    record {
      under = omega (arith, ints);
      first_far = omega (arith, ints);
      second_far = omega (arith, ints);
    },
    (tt, tt),
  );
  ends = refl;
  inside = (inl (omega (arith, ints)), (inr refl, tt));
  first_clear = omega (arith, ints);
  last_clear = omega (arith, ints);
  some = tt;
}

abbrev pub bays : ℕ → List Bay
bays i = get_or (first_bays ∷ second_bays ∷ third_bays ∷ fourth_bays ∷ []) i []

-- outside is the label 0, in the circle 1, in the tubes 2 to 5
abbrev pub labels : Labels
labels = record {
  below = λ e. get_or (1 ∷ 1 ∷ 0 ∷ 2 ∷ 2 ∷ 1 ∷ 1 ∷ 3 ∷ 3 ∷ 0 ∷ 4 ∷ 4 ∷ 4 ∷ 0 ∷ 0 ∷ 5 ∷ 5 ∷ 0 ∷ 0 ∷ 5
      ∷ []) e 0;
  above = λ e. get_or (2 ∷ 2 ∷ 2 ∷ 0 ∷ 0 ∷ 3 ∷ 3 ∷ 0 ∷ 0 ∷ 3 ∷ 1 ∷ 1 ∷ 0 ∷ 4 ∷ 4 ∷ 1 ∷ 1 ∷ 5 ∷ 5 ∷ 0
      ∷ []) e 0;
}

-- the half-edges that face their tubes from within
abbrev pub within : ℕ → Half
within e = get_or (over 0 ∷ over 1 ∷ over 2 ∷ under 3 ∷ under 4 ∷ over 5 ∷ over 6 ∷ under 7
    ∷ under 8 ∷ over 9 ∷ under 10 ∷ under 11 ∷ under 12 ∷ over 13 ∷ over 14 ∷ under 15 ∷ under 16
    ∷ over 17 ∷ over 18 ∷ under 19 ∷ []) e (under 0)

abbrev pub inside : ℕ → ℕ
inside i = 1

abbrev pub outside : ℕ → ℕ
outside i = 0

module _ (w : Window2) where
  abbrev pub circle : Plan
  circle = record {
    window = w;
    curves =
        half_arc (at_point 510000 500000) (at_point 500000 510000) (at_point 490000 500000) 9
        ∷ half_arc (at_point 500000 510000) (at_point 490000 500000) (at_point 510000 500000) 10
        ∷ half_arc (at_point 490000 500000) (at_point 500000 490000) (at_point 510000 500000) 11
        ∷ half_arc (at_point 500000 490000) (at_point 510000 500000) (at_point 490000 500000) 12
        ∷ [];
    points = record { at = at_point 500000 500000; line = 14 } ∷ [];
  }

  have_tubes : (i : ℕ) → i < 4 → (curve circle i).kind ≡ kind.HalfArc
      → IsTube (arc (curve circle i)) (bays i)
  have_tubes zero l e = first_tube
  have_tubes (suc zero) l e = second_tube
  have_tubes (suc (suc zero)) l e = third_tube
  have_tubes (suc (suc (suc zero))) l e = fourth_tube
  have_tubes (suc (suc (suc (suc i)))) l e = absurd (omega (arith, l))

  pub circle_run : IsTubedRun circle bays 20 edge steps
  unfolding same_point
  circle_run = tubed_by_test circle bays 20 edge steps have_tubes refl circle_runs refl refl

  pub circle_labels : (u : ℤ)
      → AreTubeLabels circle bays (replay u 20 edge steps) labels within inside outside
  unfolding same_point bend
  circle_labels u =
      labels_by_test circle bays (replay u 20 edge steps) labels within inside outside refl refl

  -- so its tubes are tubes of the run
  pub circle_tubes : (u : ℤ) → WeighedRun u 20 edge steps
      → AreTubes (replay u 20 edge steps) labels (tubes circle bays within inside outside)
      (MeetsArc circle)
  circle_tubes u s =
      are_tubes u circle bays 20 edge steps labels within inside outside s circle_run
      (circle_labels u)
