-- Objects' points of a drawing with half arcs that are placed with their labels: on no curve, not
-- outer, and no two joined.
use Rattle.std.proofs.Common.{◌≡◌, ◌⊎◌, ℕ, suc, ◌<◌, List, length, ℤ, inl, inr, arith, ◌∙◌}
use Rattle.plane.specs.declared.kinds.Point.{Point}
use Rattle.plane.specs.Lists.{Each, Has}
use Rattle.plane.specs.Forms.Vectors.{Vector, point, Edge}
use Rattle.plane.specs.Forms.Weights.{Weight}
use Rattle.plane.specs.Rule.Plans.{Plan, object}
use Rattle.plane.specs.Rule.Partition.{IsOff, Joined, IsOuter}
use Rattle.plane.specs.Runs.Steps.{Step, WeighedRun}
use Rattle.plane.specs.Faces.Replays.{Replay, replay}
use Rattle.plane.specs.Faces.Halves.{Half}
use Rattle.plane.specs.Faces.Labels.{Labels}
use Rattle.plane.specs.Tubes.Bays.{Bay}
use Rattle.plane.specs.CurveRuns.Extended.{Tubes, AreTubes, HasLabel}
use Rattle.plane.specs.CurveRuns.TubedRuns.{IsTubedRun, AreTubeLabels, tubes, MeetsArc}
use Rattle.plane.specs.CurveRuns.CertifiedCurves.{IsInCell, IsInTube, ArePlaced}
use Rattle.plane.proofs.ListLemmas.Lists.{each_has}
use Rattle.plane.proofs.Runs.Numbered.{has_nth}
use Rattle.plane.proofs.Linear.EdgePlaces.{place_point}
use Rattle.plane.proofs.FaceLemmas.PlacedPoints.{located}
use Rattle.plane.specs.CurveRuns.RegionPoints.{HasRegion}
use Rattle.plane.proofs.CurveAreas.RegionPoints.{region_label}
use Rattle.plane.proofs.FaceLemmas.FaceNumbers.{label_before}
use Rattle.plane.proofs.Windings.Whole.{IsWhole, swept_whole}
use Rattle.plane.proofs.TubedRuns.RunTubes.{are_tubes}
use Rattle.plane.proofs.TubedRuns.TubedLabels.{joined_label, outer_label}
use Rattle.plane.proofs.TubedRuns.TubedOff.{label_off}

-- The weight is one of the events and of the points.
module _ (w : ℤ) (pts : List Point) (d : Plan) (bays : ℕ → List Bay) (m : ℕ) (E : ℕ → Edge)
    (steps : List Step) (lab : Labels) (within : ℕ → Half) (inside outside : ℕ → ℕ)
    (heavy : Weight w pts) (events : Each (λ s. Has s.at pts) steps) (known : (j : ℕ)
    → j < length d.points → Has (object d j) pts)
    (swept : WeighedRun w m E steps) (is : IsTubedRun d bays m E steps)
    (L : AreTubeLabels d bays (replay w m E steps) lab within inside outside)
    (placed : ArePlaced d bays (replay w m E steps) lab inside outside) where
  abbrev r : Replay
  r = replay w m E steps

  abbrev T : Tubes
  T = tubes d bays within inside outside

  whole : IsWhole r
  whole = swept_whole w m E steps swept

  all : AreTubes r lab T (MeetsArc d)
  all = are_tubes w d bays m E steps lab within inside outside swept is L

  abbrev spot : ℕ → Vector
  spot j = point (object d j)

  -- what a certificate says of a point tells its region
  region_of : (j : ℕ) → j < length d.points
      → IsInCell r lab (object d j) (suc j) ⊎ IsInTube d bays inside outside (object d j) (suc j)
      → HasRegion d bays r lab inside outside (object d j) (suc j)
  region_of j l (inl c) = inl (record {
    strip = c.strip;
    index = c.index;
    located = located r (object d j) c.strip c.index c.placed;
    label = label_before lab 0 c.index (r.list c.strip) c.placed.lower c.placed.is_lower
        ∙ c.lower_label;
    region = omega (arith, l);
  })
  region_of j l (inr c) = inr c

  pub point_label : (j : ℕ) → j < length d.points → HasLabel r lab T (spot j) (suc j)
  point_label j l =
      region_label w d bays m E steps lab within inside outside swept is L pts (object d j)
      (suc j) heavy (known j l)
      (λ k n. each_has (λ s. Has s.at pts) steps (r.step k) events (has_nth steps k n))
      (region_of j l (placed j l))

  pub off : (j : ℕ) → j < length d.points → IsOff d (spot j)
  off j l = label_off w d bays m E steps lab within inside outside swept is L (spot j)
      (place_point (object d j)) (suc j) (point_label j l)

  pub bounded : (j : ℕ) → j < length d.points → IsOuter d (spot j) → ⊥
  bounded j l o =
      let e = outer_label w d bays m E steps lab within inside outside swept is L (spot j) (suc j)
      (place_point (object d j)) o (point_label j l) in
      omega (arith, e)

  pub alone : (i j : ℕ) → i < length d.points → j < length d.points → (i ≡ j → ⊥)
      → Joined d (spot i) (spot j) → ⊥
  alone i j li lj n path =
      let e = joined_label w d bays m E steps lab within inside outside swept is L (spot i) (spot j)
      (suc i) (suc j) (place_point (object d i)) (place_point (object d j)) path
      (point_label i li) (point_label j lj) in
      n (omega (arith, e))
