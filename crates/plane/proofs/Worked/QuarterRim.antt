-- The quarter of a disc with its point in the tube of the half arc, inside the circle: a
-- certificate whose point is placed by tube and side.
use Rattle.std.proofs.Common.{◌≡◌, ℕ, zero, suc, [], ◌∷◌, pos, get_or, inl, inr, refl, arith}
use Rattle.std.proofs.lemmas.Int.{ints}
use Rattle.plane.specs.declared.window.Window2.{Window2}
use Rattle.plane.specs.Forms.Vectors.{point}
use Rattle.plane.specs.Rule.HalfArcs.{bend, circle_x, circle_y, power}
use Rattle.plane.specs.Rule.Plans.{Plan, object}
use Rattle.plane.specs.Rule.Partition.{IsOuter, IsPartition}
use Rattle.plane.specs.Faces.Replays.{Replay, replay}
use Rattle.plane.specs.Faces.Cells.{Sector, IsSector, IsBorder}
use Rattle.plane.specs.Faces.Halves.{Half, under, over, mark, Beside}
use Rattle.plane.specs.Faces.Classes.{Lead, root, across, AreLeads}
use Rattle.plane.specs.Faces.Parity.{same_point}
use Rattle.plane.specs.CurveRuns.TubedRuns.{IsTubedRun, AreTubeLabels}
use Rattle.plane.specs.CurveRuns.CertifiedCurves.{IsInTube, ArePlaced, BoundsSide, IsCurveRoot}
use Rattle.plane.specs.CurveRuns.CertifiedCurves.{CertifiedCurves}
use Rattle.plane.proofs.Worked.TubeTests.{labels_by_test}
use Rattle.plane.proofs.CurveAreas.TubedFaces.{run_without}
use Rattle.plane.proofs.CurveAreas.TubedPartition.{tubed_partition}
use Rattle.plane.proofs.Worked.CircleRun.{at_point}
use Rattle.plane.proofs.Worked.QuarterDisc.{edge, steps, bays, labels, within, inside, outside}
use Rattle.plane.proofs.Worked.QuarterDisc.{quarter, quarter_run}

abbrev r : Replay
r = replay (pos 0) 7 edge steps

abbrev at_cell : ℕ → ℕ → Sector
at_cell k i = record { strip = k; index = i }

-- the straights' half-edges in the quarter lead to the inner chain
abbrev rank : Half → ℕ
rank (under e) = get_or (0 ∷ 0 ∷ 0 ∷ 0 ∷ 0 ∷ 0 ∷ 2 ∷ []) e 0
rank (over e) = get_or (1 ∷ []) e 0

abbrev link : Half → Lead
link (under e) = get_or (root ∷ root ∷ root ∷ root ∷ root ∷ root ∷ across (over 0) ∷ []) e root
link (over e) = get_or (across (under 1) ∷ []) e root

module _ (w : Window2) where
  abbrev pub rim : Plan
  rim = record (quarter w) { points = record { at = at_point 509000 503700; line = 4 } ∷ [] }

  rim_run : IsTubedRun rim bays 7 edge steps
  rim_run = run_without (quarter w) (record {
    at = at_point 509000 503700;
    line = 4;
  } ∷ []) bays 7 edge steps (quarter_run w)

  rim_labels : AreTubeLabels rim bays r labels within inside outside
  unfolding same_point bend
  rim_labels = labels_by_test rim bays r labels within inside outside refl refl

  -- the point is a mean of three corners, and strictly inside the circle
  in_tube : IsInTube rim bays inside outside (object rim 0) 1
  unfolding bend circle_x circle_y power
  in_tube = record {
    number = 1;
    fits = omega arith;
    bent = refl;
    holds = inl (inr
        (inl (record {
          i = pos 1075940;
          j = pos 1095497;
          k = pos 753260;
          i_least = omega (arith, ints);
          j_least = omega (arith, ints);
          k_least = omega (arith, ints);
          some = omega (arith, ints);
          is = record { x = refl; y = refl };
        })));
    side = inl (omega (arith, ints), refl);
  }

  placed : ArePlaced rim bays r labels inside outside
  placed zero l = inr in_tube
  placed (suc j) l = absurd (omega (arith, l))

  -- ---- roots
  abbrev Root : Half → Type 0
  Root = IsCurveRoot rim bays r labels within inside outside

  border : (h : Half) (c : Sector) → mark labels h ≡ 0 → IsSector r c → Beside r h c → IsBorder r c
      → Root h
  border h c e C b t = inr (inl (e, (c, C, b, t)))

  beyond : (e : ℕ) → BoundsSide rim bays r within inside outside (under e) 0
      → mark labels (under e) ≡ 1 → Root (under e)
  beyond e b m = inr (inr (0, omega arith, m, inr b))

  side_one : BoundsSide rim bays r within inside outside (under 1) 0
  unfolding in_tube bend circle_x circle_y power
  side_one = record {
    place = in_tube;
    edge = 1;
    fits = omega arith;
    of_curve = refl;
    side = inl (refl, omega (arith, ints));
    is = refl;
  }

  side_two : BoundsSide rim bays r within inside outside (under 2) 0
  unfolding in_tube bend circle_x circle_y power
  side_two = record {
    place = in_tube;
    edge = 2;
    fits = omega arith;
    of_curve = refl;
    side = inl (refl, omega (arith, ints));
    is = refl;
  }

  links : AreLeads r (mark labels) rank link Root
  links (under zero) l =
      border (under 0) (at_cell 1 0) refl (record { strip = omega arith; index = omega arith }) refl
      (inl refl)
  links (under (suc zero)) l = beyond 1 side_one refl
  links (under (suc (suc zero))) l = beyond 2 side_two refl
  links (under (suc (suc (suc zero)))) l = inl (3, l, tt, refl)
  links (under (suc (suc (suc (suc zero))))) l = inl (4, l, tt, refl)
  links (under (suc (suc (suc (suc (suc zero)))))) l =
      border (under 5) (at_cell 5 0) refl (record { strip = omega arith; index = omega arith }) refl
      (inl refl)
  links (under (suc (suc (suc (suc (suc (suc zero))))))) l = (
    (at_cell 1 1, record { strip = omega arith; index = omega arith }, refl, refl),
    record { fits = omega arith; kept = refl; less = omega arith },
  )
  links (under (suc (suc (suc (suc (suc (suc (suc e)))))))) l = absurd (omega (arith, l))
  links (over zero) l = (
    (at_cell 2 1, record { strip = omega arith; index = omega arith }, refl, refl),
    record { fits = omega arith; kept = refl; less = omega arith },
  )
  links (over (suc zero)) l = inl (1, l, tt, refl)
  links (over (suc (suc zero))) l = inl (2, l, tt, refl)
  links (over (suc (suc (suc zero)))) l =
      border (over 3) (at_cell 2 3) refl (record { strip = omega arith; index = omega arith }) refl
      (inr refl)
  links (over (suc (suc (suc (suc zero))))) l =
      border (over 4) (at_cell 3 3) refl (record { strip = omega arith; index = omega arith }) refl
      (inr refl)
  links (over (suc (suc (suc (suc (suc zero)))))) l = inl (5, l, tt, refl)
  links (over (suc (suc (suc (suc (suc (suc zero))))))) l =
      border (over 6) (at_cell 1 2) refl (record { strip = omega arith; index = omega arith }) refl
      (inr refl)
  links (over (suc (suc (suc (suc (suc (suc (suc e)))))))) l = absurd (omega (arith, l))

  certificate : CertifiedCurves rim bays r labels within inside outside rank link
  certificate = record { labels = rim_labels; placed = placed; links = links }

  pub rim_holds : IsPartition rim
  rim_holds = tubed_partition (pos 0) rim bays 7 edge steps labels within inside outside rank link
      rim_run certificate

  -- what the laws say of it: the point is not outer
  pub rim_inside : IsOuter rim (point (object rim 0)) → ⊥
  rim_inside = rim_holds.bounded 0 (omega arith)
