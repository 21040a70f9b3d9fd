-- The quarter of a disc is settled; points of it by their cells and by their least edges.
use Rattle.std.proofs.Common.{◌≡◌, ℕ, zero, suc, ◌<◌, ◌≤◌, [], pos, ◌<ℤ◌, inl, refl, arith, sym}
use Rattle.std.proofs.Common.{subst}
use Rattle.std.proofs.lemmas.Int.{ints}
use Rattle.plane.specs.declared.window.Window2.{Window2}
use Rattle.plane.specs.declared.kinds.CurveKind.TheVariants as kind
use Rattle.plane.specs.Forms.Vectors.{point, side, Before}
use Rattle.plane.specs.Forms.Arcs.{along}
use Rattle.plane.specs.Rule.HalfArcs.{bend, circle_x, circle_y, power}
use Rattle.plane.specs.Rule.Curves.{arc}
use Rattle.plane.specs.Rule.Plans.{curve}
use Rattle.plane.specs.Faces.Replays.{Replay, replay}
use Rattle.plane.specs.Faces.Halves.{under, over, At, AtBefore}
use Rattle.plane.specs.Faces.PlacedPoints.{IsLocated}
use Rattle.plane.specs.CurveRuns.Levels.{AreWide, IsSettledRun}
use Rattle.plane.specs.CurveRuns.FacedTubes.{faced, IsFirstOn, LiesInTube}
use Rattle.plane.proofs.Runs.RunWeights.{run_weight}
use Rattle.plane.proofs.Settling.LabelsSettle.{labels_settle}
use Rattle.plane.proofs.TubedRuns.SettledPoints.{in_cell}
use Rattle.plane.proofs.Worked.CircleRun.{at_point}
use Rattle.plane.proofs.Worked.QuarterDisc.{edge, steps, bays, labels, within, inside, outside}
use Rattle.plane.proofs.Worked.QuarterDisc.{quarter, quarter_run, quarter_labels}
use Rattle.plane.proofs.Covers.CurvePlaces.{no_kind}

abbrev r : Replay
r = replay (pos 0) 7 edge steps

module _ (w : Window2) where
  wide : AreWide (quarter w) bays
  wide zero l e = absurd (no_kind kind.Straight refl e)
  wide (suc zero) l e = tt
  wide (suc (suc zero)) l e = absurd (no_kind kind.Straight refl e)
  wide (suc (suc (suc i))) l e = absurd (omega (arith, l))

  settled : IsSettledRun (quarter w) bays 7 edge
  settled =
      let u = run_weight 7 edge steps [] (quarter_run w).run in
      labels_settle (quarter w) bays 7 edge steps
      (quarter_run w) wide u.weight u.swept labels within inside outside
      (quarter_labels w u.weight)

  -- the half-edges over the inner edges and under the first two outer ones face the tube of curve 1
  over_inner : faced (quarter w) bays edge (over 1) ≡ 2
  unfolding bend along
  over_inner = refl

  under_outer : faced (quarter w) bays edge (under 4) ≡ 2
  unfolding bend along
  under_outer = refl

  under_inner : faced (quarter w) bays edge (under 1) ≡ 0
  unfolding bend along
  under_inner = refl

  over_straight : faced (quarter w) bays edge (over 6) ≡ 0
  over_straight = refl

  -- (506000, 508000) is in the third live list over edge 1 and under edge 4, so in the tube
  located : IsLocated r (at_point 506000 508000) 3 2
  unfolding side
  located = record {
    fits = omega arith;
    index = omega arith;
    passed = passed;
    coming = coming;
    above = above;
    below = below;
  }
    where
      passed : (j : ℕ) → j < 3 → Before (r.step j).at (at_point 506000 508000)
      passed zero l = inl (omega (arith, ints))
      passed (suc zero) l = inl (omega (arith, ints))
      passed (suc (suc zero)) l = inl (omega (arith, ints))
      passed (suc (suc (suc j))) l = absurd (omega (arith, l))

      coming : (j : ℕ) → 3 ≤ j → j < 6 → Before (at_point 506000 508000) (r.step j).at
      coming zero k l = absurd (omega (arith, k))
      coming (suc zero) k l = absurd (omega (arith, k))
      coming (suc (suc zero)) k l = absurd (omega (arith, k))
      coming (suc (suc (suc zero))) k l = inl (omega (arith, ints))
      coming (suc (suc (suc (suc zero)))) k l = inl (omega (arith, ints))
      coming (suc (suc (suc (suc (suc zero))))) k l = inl (omega (arith, ints))
      coming (suc (suc (suc (suc (suc (suc j)))))) k l = absurd (omega (arith, l))

      above : (e : ℕ) → AtBefore (r.list 3) 2 e
          → pos 0 <ℤ side (r.edge e) (point (at_point 506000 508000))
      above e b = subst (λ (x : ℕ). pos 0 <ℤ side (r.edge x) (point (at_point 506000 508000)))
          (sym b) (omega (arith, ints))

      below : (e : ℕ) → At (r.list 3) 2 e
          → side (r.edge e) (point (at_point 506000 508000)) <ℤ pos 0
      below e b = subst (λ (x : ℕ). side (r.edge x) (point (at_point 506000 508000)) <ℤ pos 0)
          (sym b) (omega (arith, ints))

  lies : LiesInTube (quarter w) bays 1 (at_point 506000 508000)
  lies = in_cell (quarter w) bays 7 edge steps (quarter_run w) wide settled (at_point 506000 508000)
      (pos 0) 3 2 located 1 1 refl over_inner

  -- and on the half arc
  on_circle : power (arc (curve (quarter w) 1)) (point (at_point 506000 508000)) ≡ pos 0
  unfolding power bend circle_x circle_y
  on_circle = omega (arith, ints)

  on_arc : IsFirstOn (quarter w) 1 (point (at_point 506000 508000))
  on_arc = lies.on on_circle
