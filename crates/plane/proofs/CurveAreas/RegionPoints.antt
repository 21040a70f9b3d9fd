-- Points of a drawing with half arcs, by their labels: joined where the labels are equal, outer
-- where the label is 0; and places that
-- belong to no point.
use Rattle.std.proofs.Common.{◌≡◌, ◌↔◌, ℕ, suc, ◌+◌, ◌<◌, ◌≤◌, length, List, [], ◌∷◌, ℤ, pos, ◌<ℤ◌}
use Rattle.std.proofs.Common.{inl, inr, refl, arith, ap, sym, ◌∙◌, subst}
use Rattle.plane.specs.declared.kinds.Point.{Point}
use Rattle.plane.specs.declared.kinds.Placed.{Placed}
use Rattle.plane.specs.Lists.{Has}
use Rattle.plane.specs.Forms.Vectors.{Vector, Place, point, Edge}
use Rattle.plane.specs.Rule.HalfArcs.{power}
use Rattle.plane.specs.Rule.Curves.{arc}
use Rattle.plane.specs.Rule.Plans.{Plan, curve, object}
use Rattle.plane.specs.Rule.Partition.{IsOff, Joined, IsOuter}
use Rattle.plane.specs.Rule.CrossedCurves.{IsLost}
use Rattle.plane.specs.Forms.Weights.{Weight}
use Rattle.plane.specs.Runs.Steps.{Step, WeighedRun}
use Rattle.plane.specs.Faces.Replays.{Replay, replay}
use Rattle.plane.specs.Faces.Cells.{sector, label_of}
use Rattle.plane.specs.Faces.Labels.{Labels}
use Rattle.plane.specs.Faces.Halves.{Half, edge_of, mark}
use Rattle.plane.specs.Faces.Classes.{IsFaces}
use Rattle.plane.specs.Tubes.Bays.{Bay}
use Rattle.plane.specs.Tubes.Bays as one
use Rattle.plane.specs.CurveRuns.Extended.{Tubes, AreTubes, HasLabel}
use Rattle.plane.proofs.TubePaths.PieceWords.{AreSides}
use Rattle.plane.specs.CurveRuns.TubedRuns.{IsTubedRun, AreTubeLabels, arc_at, tubes, MeetsArc}
use Rattle.plane.specs.CurveRuns.CertifiedCurves.{IsInTube}
use Rattle.plane.specs.CurveRuns.RegionPoints.{IsInRegion, HasRegion}
use Rattle.plane.proofs.Linear.EdgePlaces.{place_point}
use Rattle.plane.proofs.FaceLemmas.PlacedPoints.{located_point}
use Rattle.plane.proofs.Turning.AnyWeight.{located_to, faces_to}
use Rattle.plane.proofs.Runs.RunWeights.{RunWeight, run_weight, event_known}
use Rattle.plane.proofs.Windings.Whole.{IsWhole, swept_whole}
use Rattle.plane.proofs.TubedRuns.RunTubes.{are_tubes, tube_places}
use Rattle.plane.proofs.TubedRuns.TubedCurves.{tube_of}
use Rattle.plane.proofs.TubedRuns.TubedWeights.{labels_to}
use Rattle.plane.proofs.TubePaths.TubedSides.{are_sides}
use Rattle.plane.proofs.TubedRuns.TubedOff.{label_off}
use Rattle.plane.proofs.CurveAreas.TubedFaces.{joined_is_label, outer_is_label, joined_with}
use Rattle.plane.proofs.CurveAreas.TubedFaces.{joined_without, outer_with, outer_without}
use Rattle.plane.proofs.TubePaths.WaysOut.{tube_label_of}

-- ---- with a weight of the events and of the point
module _ (w : ℤ) (d : Plan) (bays : ℕ → List Bay) (m : ℕ) (E : ℕ → Edge) (steps : List Step)
    (lab : Labels) (within : ℕ → Half) (inside outside : ℕ → ℕ)
    (swept : WeighedRun w m E steps) (is : IsTubedRun d bays m E steps)
    (L : AreTubeLabels d bays (replay w m E steps) lab within inside outside) where
  abbrev r : Replay
  r = replay w m E steps

  abbrev T : Tubes
  T = tubes d bays within inside outside

  whole : IsWhole r
  whole = swept_whole w m E steps swept

  all : AreTubes r lab T (MeetsArc d)
  all = are_tubes w d bays m E steps lab within inside outside swept is L

  sides : AreSides r lab T (MeetsArc d)
  sides = are_sides w d bays m E steps lab within inside outside swept is L

  too_great : (n i l : ℕ) → suc (n + i) ≡ l → l ≤ n → ⊥
  too_great n i l e k = omega (arith, e, k)

  of_region : (pts : List Point) (v : Point) (l : ℕ) → Weight w pts → Has v pts
      → ((j : ℕ) → j < r.steps → Has (r.step j).at pts) → IsInRegion d r lab v l
      → HasLabel r lab T (point v) l
  of_region pts v l heavy known events p =
      let q = located_point r whole.run whole.law pts v p.strip p.index heavy known events
      p.located in
      let e : label_of lab r (sector r (point v)) ≡ l = ap (label_of lab r) q.1 ∙ p.label in
      inr (
        (λ c lc i. too_great (length d.points) (arc_at d c) l
            (sym (tube_label_of r whole lab L.matched T (MeetsArc d) all sides c lc (point v)
            (place_point v) q.0 i) ∙ e) p.region),
        q.0,
        sym e,
      )

  of_tube : (v : Point) (l : ℕ) → IsInTube d bays inside outside v l → HasLabel r lab T (point v) l
  of_tube v l p =
      let c = tube_of w d bays m E steps lab within inside outside swept is L p.number p.fits
      p.bent in
      let there = (tube_places w d bays m E steps lab within inside outside swept is L c.0 c.1
      (point v)).1
      (subst (λ (n : ℕ). one.InTube (curve d n).from (bays n) (point v)) (sym c.2) p.holds) in
      inl (
        c.0,
        c.1,
        there,
        elim p.side [
          | inl k ↦ inl (
            subst (λ (n : ℕ). power (arc (curve d n)) (point v) <ℤ pos 0) (sym c.2) k.0,
            sym k.1
                ∙ ap inside (sym c.2),
          )
          | inr k ↦ inr (
            subst (λ (n : ℕ). pos 0 <ℤ power (arc (curve d n)) (point v)) (sym c.2) k.0,
            sym k.1
                ∙ ap outside (sym c.2),
          )
        ],
      )

  pub region_label : (pts : List Point) (v : Point) (l : ℕ) → Weight w pts → Has v pts
      → ((j : ℕ) → j < r.steps → Has (r.step j).at pts) → HasRegion d bays r lab inside outside v l
      → HasLabel r lab T (point v) l
  region_label pts v l heavy known events (inl p) = of_region pts v l heavy known events p
  region_label pts v l heavy known events (inr p) = of_tube v l p

-- ---- with any weight in the replay
module _ (v : ℤ) (d : Plan) (bays : ℕ → List Bay) (m : ℕ) (E : ℕ → Edge) (steps : List Step)
    (lab : Labels) (within : ℕ → Half) (inside outside : ℕ → ℕ)
    (is : IsTubedRun d bays m E steps)
    (L : AreTubeLabels d bays (replay v m E steps) lab within inside outside) (face : Half → ℕ)
    (faces : IsFaces (replay v m E steps) face)
    (fine : (g h : Half) → edge_of g < m → edge_of h < m → mark lab g ≡ mark lab h
    → face g ≡ face h) (none : (h : Half) → edge_of h < m → mark lab h ≡ 0 → face h ≡ 0) where
  region_to : (w : ℤ) (p : Point) (l : ℕ)
      → HasRegion d bays (replay v m E steps) lab inside outside p l
      → HasRegion d bays (replay w m E steps) lab inside outside p l
  region_to w p l (inl c) =
      inl (record {
        strip = c.strip;
        index = c.index;
        located = located_to v w m E steps p c.strip c.index c.located;
        label = c.label;
        region = c.region;
      })
  region_to w p l (inr c) = inr c

  module _ (more : List Point) where
    pub u : RunWeight m E steps more
    u = run_weight m E steps more is.run

    pub here : AreTubeLabels d bays (replay u.weight m E steps) lab within inside outside
    here = labels_to v u.weight d bays m E steps lab within inside outside L

    pub there : IsFaces (replay u.weight m E steps) face
    there = faces_to v u.weight m E steps face faces

    pub label : (p : Point) (l : ℕ) → Has p more
        → HasRegion d bays (replay v m E steps) lab inside outside p l
        → HasLabel (replay u.weight m E steps) lab (tubes d bays within inside outside) (point p) l
    label p l k h =
        region_label u.weight d bays m E steps lab within inside outside u.swept is here u.points p
        l u.heavy (u.known p k) (event_known m E steps more u) (region_to u.weight p l h)

    off : (p : Point) (l : ℕ) → Has p more
        → HasRegion d bays (replay v m E steps) lab inside outside p l → IsOff d (point p)
    off p l k h =
        label_off u.weight d bays m E steps lab within inside outside u.swept is here (point p)
        (place_point p) l (label p l k h)

    joined_by : (p q : Point) (l k : ℕ) → Has p more → Has q more
        → HasRegion d bays (replay v m E steps) lab inside outside p l
        → HasRegion d bays (replay v m E steps) lab inside outside q k
        → Joined d (point p) (point q) ↔ (l ≡ k)
    joined_by p q l k hp hq a b =
        joined_is_label u.weight d bays m E steps lab within inside outside u.swept is here face
        there fine none (point p) (point q) l k (place_point p) (place_point q) (off p l hp a)
        (label p l hp a) (label q k hq b)

    outer_by : (p : Point) (l : ℕ) → Has p more
        → HasRegion d bays (replay v m E steps) lab inside outside p l
        → IsOuter d (point p) ↔ (l ≡ 0)
    outer_by p l hp a =
        outer_is_label u.weight d bays m E steps lab within inside outside u.swept is here face
        there fine none u.positive (point p) l (place_point p) (off p l hp a) (label p l hp a)

  pub point_off : (p : Point) (l : ℕ) → HasRegion d bays (replay v m E steps) lab inside outside p l
      → IsOff d (point p)
  point_off p l a = off (p ∷ []) p l (inl refl) a

  pub points_joined : (p q : Point) (l k : ℕ)
      → HasRegion d bays (replay v m E steps) lab inside outside p l
      → HasRegion d bays (replay v m E steps) lab inside outside q k
      → Joined d (point p) (point q) ↔ (l ≡ k)
  points_joined p q l k a b = joined_by (p ∷ q ∷ []) p q l k (inl refl) (inr (inl refl)) a b

  pub point_outer : (p : Point) (l : ℕ)
      → HasRegion d bays (replay v m E steps) lab inside outside p l → IsOuter d (point p) ↔ (l ≡ 0)
  point_outer p l a = outer_by (p ∷ []) p l (inl refl) a

-- ---- places that belong to no point, with labels numbered as if the drawing had the points ps
module _ (w : ℤ) (d : Plan) (ps : List Placed) (bays : ℕ → List Bay) (m : ℕ) (E : ℕ → Edge)
    (steps : List Step) (lab : Labels) (within : ℕ → Half) (inside outside : ℕ → ℕ)
    (swept : WeighedRun w m E steps) (is : IsTubedRun (record d { points = ps }) bays m E steps)
    (L : AreTubeLabels (record d { points = ps }) bays
    (replay w m E steps) lab within inside outside) (face : Half → ℕ)
    (faces : IsFaces (replay w m E steps) face)
    (fine : (g h : Half) → edge_of g < m → edge_of h < m → mark lab g ≡ mark lab h
    → face g ≡ face h) (none : (h : Half) → edge_of h < m → mark lab h ≡ 0 → face h ≡ 0) where
  abbrev wide : Plan
  wide = record d { points = ps }

  abbrev Label : Vector → ℕ → Type 0
  Label z l = HasLabel (replay w m E steps) lab (tubes wide bays within inside outside) z l

  pub lost_is : pos 0 <ℤ w → (z : Vector) (l : ℕ) (k : ℕ → ℕ) → Place z → IsOff d z → Label z l
      → ((j : ℕ) → j < length d.points → Label (point (object d j)) (k j))
      → IsLost d z ↔ ((l ≡ 0 → ⊥) × ((j : ℕ) → j < length d.points → l ≡ k j → ⊥))
  lost_is heavy z l k Z free h points = (
    (λ lost. (
      (λ e. lost.inner
          (outer_with d ps z
          ((outer_is_label w wide bays m E steps lab within inside outside swept is L face faces
          fine none heavy z l Z free h).1 e))),
      (λ j n e. lost.alone j n
          (joined_with d ps z (point (object d j))
          ((joined_is_label w wide bays m E steps lab within inside outside swept is L face faces
          fine none z (point (object d j)) l (k j) Z (place_point (object d j)) free h
          (points j n)).1 e))),
    )),
    (λ c. record {
      inner = λ o. c.0
          ((outer_is_label w wide bays m E steps lab within inside outside swept is L face faces
          fine none heavy z l Z free h).0 (outer_without d ps z o));
      alone = λ j n path. c.1 j n
          ((joined_is_label w wide bays m E steps lab within inside outside swept is L face faces
          fine none z (point (object d j)) l (k j) Z (place_point (object d j)) free h
          (points j n)).0 (joined_without d ps z (point (object d j)) path));
    }),
  )
