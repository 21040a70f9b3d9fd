-- In a drawing with half arcs and a run over its edge list, a place with a label is on no curve.
use Rattle.std.proofs.Common.{◌≡◌, ℕ, ◌<◌, List, [], ◌∷◌, length, ℤ, pos, ◌+ℤ◌, ◌*ℤ◌, ◌<ℤ◌, ◌⊎◌}
use Rattle.std.proofs.Common.{inl, inr, refl, arith, ap, sym, ◌∙◌, subst}
use Rattle.std.proofs.lemmas.Int.{ints}
use Rattle.plane.specs.declared.kinds.CurveKind.{CurveKind}
use Rattle.plane.specs.declared.kinds.CurveKind.TheVariants as kind
use Rattle.plane.specs.Forms.Vectors.{Vector, Place, Same, point, Edge}
use Rattle.plane.specs.Rule.HalfArcs.{HalfArc, power, HitsHalfArc}
use Rattle.plane.specs.Rule.Curves.{arc, IsOn, IsOnKind, IsControl}
use Rattle.plane.specs.Rule.Plans.{Plan, curve}
use Rattle.plane.specs.Rule.Partition.{IsOff}
use Rattle.plane.specs.Runs.Steps.{Step, WeighedRun}
use Rattle.plane.specs.Faces.Replays.{Replay, replay}
use Rattle.plane.specs.Faces.Halves.{Half}
use Rattle.plane.specs.Faces.Labels.{Labels}
use Rattle.plane.specs.Tubes.Bays.{Bay}
use Rattle.plane.specs.Tubes.Windings.{tiles}
use Rattle.plane.specs.CurveRuns.Extended.{Tubes, IsOnWay, InTubeAt, HasLabel}
use Rattle.plane.specs.CurveRuns.TubedRuns.{IsTubedRun, AreTubeLabels, arc_at, tubes}
use Rattle.plane.proofs.FaceLemmas.Drawn.{on_edge}
use Rattle.plane.proofs.Covers.HalfArcPlaces.{from_on, to_on, on_half_arc_same}
use Rattle.plane.proofs.Covers.SamePlace.{same_sym}
use Rattle.plane.proofs.Covers.CurvePlaces.{hits_alone}
use Rattle.plane.proofs.Algebra.Ring.{at, plus, times, vars, ring}
use Rattle.plane.proofs.Windings.Ways.{way_place}
use Rattle.plane.proofs.Windings.CommonPlaces.{decide_number, in_some_same}
use Rattle.plane.proofs.TubedRuns.HalfArcLists.{decide_kind}
use Rattle.plane.proofs.TubedRuns.OwnedEdges.{straight_edge}
use Rattle.plane.proofs.TubedRuns.RunTubes.{arc_fits, arc_bent, tubes_cover}
use Rattle.plane.proofs.TubedRuns.TubedCurves.{tube_of, bent_hits}
use Rattle.plane.proofs.TubedRuns.TubedApart.{straight_arc, one_end}
use Rattle.plane.proofs.Covers.CurvePlaces.{no_kind}

-- the ends of a half arc are on its circle
end_power : (h : HalfArc) (z : Vector) → Place z → Same z (point h.from) ⊎ Same z (point h.to)
    → power h z ≡ pos 0
end_power h z Z (inl s) =
    (on_half_arc_same h (point h.from) z (omega (arith, ints)) Z (same_sym z (point h.from) s)
    (from_on h)).circle
end_power h z Z (inr s) =
    (on_half_arc_same h (point h.to) z (omega (arith, ints)) Z (same_sym z (point h.to) s)
    (to_on h)).circle

module _ (w : ℤ) (d : Plan) (bays : ℕ → List Bay) (m : ℕ) (E : ℕ → Edge) (steps : List Step)
    (lab : Labels) (within : ℕ → Half) (inside outside : ℕ → ℕ)
    (swept : WeighedRun w m E steps) (is : IsTubedRun d bays m E steps)
    (L : AreTubeLabels d bays (replay w m E steps) lab within inside outside) where
  abbrev r : Replay
  r = replay w m E steps

  abbrev T : Tubes
  T = tubes d bays within inside outside

  module _ (z : Vector) (Z : Place z) where
    -- on one side of the circle of tube c
    abbrev HasSide : ℕ → Type 0
    HasSide c = (T.form c z <ℤ pos 0) ⊎ (pos 0 <ℤ T.form c z)

    not_on : (c : ℕ) → HasSide c → T.form c z ≡ pos 0 → ⊥
    not_on c (inl l) e = omega (arith, ints, l, e)
    not_on c (inr l) e = omega (arith, ints, l, e)

    end_of_arc : (c : ℕ) → HasSide c → IsControl (curve d (arc_at d c)) z → ⊥
    end_of_arc c s k = not_on c s (end_power (arc (curve d (arc_at d c))) z Z k)

    -- a place of a half arc is in its tube
    pub in_its_tube : (i : ℕ) → i < length d.curves → (curve d i).kind ≡ kind.HalfArc
        → IsOn (curve d i) z → (c : ℕ) × (c < T.count) × (arc_at d c ≡ i) × InTubeAt T c z
    in_its_tube i l e on =
        let c = tube_of w d bays m E steps lab within inside outside swept is L i l e in
        let hit = bent_hits w d bays m E steps lab within inside outside swept is L i z z e
        ((hits_alone (curve d i) z Z).1 on) in
        let k = tubes_cover w d bays m E steps lab within inside outside swept is L c.0 c.1 z z Z Z
        (subst (λ (y : ℕ). HitsHalfArc (arc (curve d y)) z z) (sym c.2) hit) in (
          c.0,
          c.1,
          c.2,
          in_some_same (tiles (T.first c.0) (T.bay c.0 ∷ T.bays c.0)) k.0 z
              (way_at k.0 k.1) (way_same k.0 k.1) k.2,
        )
      where
        way_at : (x : Vector) → IsOnWay z z x → Place x
        way_at x k = way_place z z x Z Z k

        way_same : (x : Vector) → IsOnWay z z x → Same x z
        way_same x k =
            subst (λ (y : Vector). Same y z) (sym k.is) (record {
              x = one k.s k.t z.x z.n;
              y = one k.s k.t z.y z.n;
            })
          where
            one : (s t x n : ℤ) → ((s *ℤ x) +ℤ (t *ℤ x)) *ℤ n ≡ x *ℤ ((s *ℤ n) +ℤ (t *ℤ n))
            one s t x n =
                ring (times (plus (times (at 0) (at 2)) (times (at 1) (at 2))) (at 3))
                (times (at 2) (plus (times (at 0) (at 3)) (times (at 1) (at 3))))
                (vars (s ∷ t ∷ x ∷ n ∷ [])) refl

    pub from_tube : (c : ℕ) → c < T.count → InTubeAt T c z → HasSide c → IsOff d z
    from_tube c lc inner side i l on = elim (decide_kind (curve d i).kind) [
      | inl e ↦
          let x = straight_edge d bays m E steps is i l e in
          let bent = arc_bent w d bays m E steps lab within inside outside swept is L c lc in
          let fits = arc_fits w d bays m E steps lab within inside outside swept is L c lc in
          let k = straight_arc w d bays m E steps lab within inside outside swept is L i
          (arc_at d c) l fits
          (λ q. no_kind (curve d i).kind e
          (subst (λ (y : ℕ). (curve d y).kind ≡ kind.HalfArc) (sym q) bent)) e bent x.0 c x.1
          x.2 x.3 lc refl z Z
          (on_edge w (E x.0) (curve d i) z x.3 e (swept.rises x.0 x.1) Z on) inner in
          end_of_arc c side k.1
      | inr e ↦
          let k = in_its_tube i l e on in
          elim (decide_number c k.0) [
            | inl q ↦ not_on c side
                (subst (λ (y : ℕ). power (arc (curve d y)) z ≡ pos 0)
                (sym (ap (λ (y : ℕ). arc_at d y) q ∙ k.2))
                (subst (λ (kd : CurveKind). IsOnKind kd (curve d i) z) e on).circle)
            | inr n ↦ end_of_arc c side
                (one_end w d bays m E steps lab within inside outside swept is L
                (arc_at d c) c k.0 lc k.1 n refl z Z inner k.3)
          ]
    ]

    pub label_off : (l : ℕ) → HasLabel r lab T z l → IsOff d z
    label_off l (inl h) = from_tube h.0 h.1 h.2 (elim h.3 [ inl s ↦ inl s.0 | inr s ↦ inr s.0 ])
    label_off l (inr h) = λ i k on. elim (decide_kind (curve d i).kind) [
      | inl e ↦
          let x = straight_edge d bays m E steps is i k e in
          h.1 x.0 x.1 (on_edge w (E x.0) (curve d i) z x.3 e (swept.rises x.0 x.1) Z on)
      | inr e ↦ let c = in_its_tube i k e on in h.0 c.0 c.1 c.3
    ]
