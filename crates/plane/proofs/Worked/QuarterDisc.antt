-- A quarter of a disc, by two straights and a half arc with its third point on the right: its tube,
-- its run and its labels meet the
-- premises of the laws on tubes, beside those of straights.
use Rattle.std.proofs.Common.{◌≡◌, ℕ, zero, suc, ◌<◌, List, [], ◌∷◌, ℤ, get_or, inl, inr, refl}
use Rattle.std.proofs.Common.{arith}
use Rattle.std.proofs.lemmas.Int.{ints}
use Rattle.plane.specs.declared.window.Window2.{Window2}
use Rattle.plane.specs.declared.kinds.CurveKind.TheVariants as kind
use Rattle.plane.specs.Forms.Vectors.{Edge}
use Rattle.plane.specs.Forms.Arcs.{HalfArc, bend, circle_x, circle_y, facing, power, along}
use Rattle.plane.specs.Rule.Curves.{arc}
use Rattle.plane.specs.Rule.Plans.{Plan, curve, straight, half_arc}
use Rattle.plane.specs.Runs.Steps.{Step, Run, WeighedRun}
use Rattle.plane.specs.Faces.Replays.{replay}
use Rattle.plane.specs.Faces.Halves.{Half, under, over}
use Rattle.plane.specs.Faces.Labels.{Labels}
use Rattle.plane.specs.Faces.Parity.{same_point}
use Rattle.plane.specs.Tubes.Bays.{Bay, IsTube, outward, distance, ahead_of_from, ahead_of_to}
use Rattle.plane.specs.CurveRuns.Extended.{AreTubes}
use Rattle.plane.specs.CurveRuns.TubedRuns.{IsTubedRun, AreTubeLabels, tubes, MeetsArc}
use Rattle.plane.proofs.Worked.RunTests.{run_by_test}
use Rattle.plane.proofs.Worked.TubeTests.{tubed_by_test, labels_by_test}
use Rattle.plane.proofs.TubedRuns.RunTubes.{are_tubes}
use Rattle.plane.proofs.Worked.CircleRun.{at_point, from_to}
use Rattle.plane.proofs.Covers.CurvePlaces.{no_kind}

abbrev rim : HalfArc
rim = record {
  from = at_point 500000 510000;
  to = at_point 510000 500000;
  third = at_point 490000 500000;
}

abbrev rim_bays : List Bay
rim_bays = record {
  outer = at_point 504266 510301;
  inner = at_point 507071 507071;
} ∷ record {
  outer = at_point 510301 504266;
  inner = at_point 510000 500000;
} ∷ []

rim_tube : IsTube rim rim_bays
unfolding bend circle_x circle_y facing power along outward distance ahead_of_from ahead_of_to
rim_tube = record {
  circle = omega (arith, ints);
  facing = omega (arith, ints);
  are_bays = (
    record {
      up = omega (arith, ints);
      on = omega (arith, ints);
      over = omega (arith, ints);
    },
    (
      record {
        up = omega (arith, ints);
        on = omega (arith, ints);
        over = omega (arith, ints);
      },
      tt,
    ),
  );
  are_next = (
    record {
      under = omega (arith, ints);
      first_far = omega (arith, ints);
      second_far = omega (arith, ints);
    },
    (tt, tt),
  );
  ends = refl;
  inside = (inl (omega (arith, ints)), (inr refl, tt));
  first_clear = omega (arith, ints);
  last_clear = omega (arith, ints);
  some = tt;
}

-- the straight at the bottom, two inner and three outer edges, and the straight at the left
abbrev edges : List Edge
edges =
    from_to 500000 500000 510000 500000
    ∷ from_to 500000 510000 507071 507071
    ∷ from_to 507071 507071 510000 500000
    ∷ from_to 500000 510000 504266 510301
    ∷ from_to 504266 510301 510301 504266
    ∷ from_to 510000 500000 510301 504266
    ∷ from_to 500000 500000 500000 510000
    ∷ []

abbrev pub edge : ℕ → Edge
edge e = get_or edges e (from_to 0 0 1 0)

abbrev pub steps : List Step
steps =
    record {
      at = at_point 500000 500000;
      below = [];
      ending = [];
      starting = 0 ∷ 6 ∷ [];
      above = [];
    }
    ∷ record {
      at = at_point 500000 510000;
      below = 0 ∷ [];
      ending = 6 ∷ [];
      starting = 1 ∷ 3 ∷ [];
      above = [];
    }
    ∷ record {
      at = at_point 504266 510301;
      below = 0 ∷ 1 ∷ [];
      ending = 3 ∷ [];
      starting = 4 ∷ [];
      above = [];
    }
    ∷ record {
      at = at_point 507071 507071;
      below = 0 ∷ [];
      ending = 1 ∷ [];
      starting = 2 ∷ [];
      above = 4 ∷ [];
    }
    ∷ record {
      at = at_point 510000 500000;
      below = [];
      ending = 0 ∷ 2 ∷ [];
      starting = 5 ∷ [];
      above = 4 ∷ [];
    }
    ∷ record {
      at = at_point 510301 504266;
      below = [];
      ending = 5 ∷ 4 ∷ [];
      starting = [];
      above = [];
    }
    ∷ []

quarter_runs : Run 7 edge steps
unfolding same_point
quarter_runs = run_by_test 7 edge steps refl

abbrev pub bays : ℕ → List Bay
bays i = get_or ([] ∷ rim_bays ∷ []) i []

-- outside is the label 0, in the quarter 1, in the tube of curve 1 the label 3
abbrev pub labels : Labels
labels = record {
  below = λ e. get_or (0 ∷ 1 ∷ 1 ∷ 3 ∷ 3 ∷ 0 ∷ 1 ∷ []) e 0;
  above = λ e. get_or (1 ∷ 3 ∷ 3 ∷ 0 ∷ 0 ∷ 3 ∷ 0 ∷ []) e 0;
}

abbrev pub within : ℕ → Half
within e = get_or (over 0 ∷ over 1 ∷ over 2 ∷ under 3 ∷ under 4 ∷ over 5 ∷ over 6 ∷ []) e (under 0)

abbrev pub inside : ℕ → ℕ
inside i = 1

abbrev pub outside : ℕ → ℕ
outside i = 0

straight_or_bent : kind.Straight ≡ kind.HalfArc → ⊥
straight_or_bent e = no_kind kind.Straight refl e

module _ (w : Window2) where
  abbrev pub quarter : Plan
  quarter = record {
    window = w;
    curves =
        straight (at_point 500000 500000) (at_point 510000 500000) 1
        ∷ half_arc (at_point 500000 510000) (at_point 510000 500000) (at_point 490000 500000) 2
        ∷ straight (at_point 500000 510000) (at_point 500000 500000) 3
        ∷ [];
    points = record { at = at_point 503000 503000; line = 4 } ∷ [];
  }

  has_tube : (i : ℕ) → i < 3 → (curve quarter i).kind ≡ kind.HalfArc
      → IsTube (arc (curve quarter i)) (bays i)
  has_tube zero l e = absurd (straight_or_bent e)
  has_tube (suc zero) l e = rim_tube
  has_tube (suc (suc zero)) l e = absurd (straight_or_bent e)
  has_tube (suc (suc (suc i))) l e = absurd (omega (arith, l))

  pub quarter_run : IsTubedRun quarter bays 7 edge steps
  unfolding same_point
  quarter_run = tubed_by_test quarter bays 7 edge steps has_tube refl quarter_runs refl refl

  pub quarter_labels : (u : ℤ)
      → AreTubeLabels quarter bays (replay u 7 edge steps) labels within inside outside
  unfolding same_point bend
  quarter_labels u =
      labels_by_test quarter bays (replay u 7 edge steps) labels within inside outside refl refl

  -- so its tube is one of the run
  pub quarter_tubes : (u : ℤ) → WeighedRun u 7 edge steps
      → AreTubes (replay u 7 edge steps) labels (tubes quarter bays within inside outside)
      (MeetsArc quarter)
  quarter_tubes u s =
      are_tubes u quarter bays 7 edge steps labels within inside outside s quarter_run
      (quarter_labels u)
