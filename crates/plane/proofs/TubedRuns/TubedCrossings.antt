-- Each half arc of a drawing with a run over its edge list is crossed by a segment that hits no
-- other curve; its ends have the labels of the two sides.
use Rattle.std.proofs.Common.{◌≡◌, ℕ, ◌<◌, List, [], ◌∷◌, length, ℤ, pos, ◌<ℤ◌, inl, inr, arith, ap}
use Rattle.std.proofs.Common.{sym, ◌∙◌, subst}
use Rattle.std.proofs.lemmas.Int.{ints}
use Rattle.plane.specs.declared.kinds.CurveKind.TheVariants as kind
use Rattle.plane.specs.Forms.Vectors.{Vector, mix, Edge}
use Rattle.plane.specs.Rule.HalfArcs.{HalfArc, power, HitsHalfArc}
use Rattle.plane.specs.Rule.Curves.{arc, Hits}
use Rattle.plane.specs.Rule.Plans.{Plan, curve}
use Rattle.plane.specs.Rule.CrossedCurves.{CrossesHalfArc}
use Rattle.plane.specs.Runs.Steps.{Step, WeighedRun}
use Rattle.plane.specs.Faces.Replays.{Replay, replay}
use Rattle.plane.specs.Faces.Halves.{Half}
use Rattle.plane.specs.Faces.Labels.{Labels}
use Rattle.plane.specs.Tubes.Bays.{Bay, IsTube, AtEnds}
use Rattle.plane.specs.Tubes.Bays as one
use Rattle.plane.specs.CurveRuns.Extended.{Tubes, IsOnWay, InTubeAt, HasLabel}
use Rattle.plane.specs.CurveRuns.TubedRuns.{IsTubedRun, AreTubeLabels, arc_at, tubes}
use Rattle.plane.proofs.Linear.Clear.{on_same}
use Rattle.plane.proofs.FaceLemmas.Drawn.{hits_edge}
use Rattle.plane.proofs.Caps.Signed.{between_first}
use Rattle.plane.proofs.Windings.Ways.{way_start, way_end, way_place}
use Rattle.plane.proofs.HalfArcs.ArcHits.{hits_half_arc}
use Rattle.plane.proofs.OneTube.ArcCrossings.{IsCrossing, crossing}
use Rattle.plane.proofs.TubedRuns.HalfArcLists.{decide_kind}
use Rattle.plane.proofs.TubedRuns.OwnedEdges.{straight_edge}
use Rattle.plane.proofs.TubedRuns.RunTubes.{tubes_cover, tube_places}
use Rattle.plane.proofs.TubedRuns.TubedCurves.{way_between, between_way, tube_of, bent_hits}
use Rattle.plane.proofs.TubedRuns.TubedApart.{straight_arc, one_end}
use Rattle.plane.proofs.TubedRuns.TubedOff.{label_off}

module _ (w : ℤ) (d : Plan) (bays : ℕ → List Bay) (m : ℕ) (E : ℕ → Edge) (steps : List Step)
    (lab : Labels) (within : ℕ → Half) (inside outside : ℕ → ℕ)
    (swept : WeighedRun w m E steps) (is : IsTubedRun d bays m E steps)
    (L : AreTubeLabels d bays (replay w m E steps) lab within inside outside) where
  abbrev r : Replay
  r = replay w m E steps

  abbrev T : Tubes
  T = tubes d bays within inside outside

  module _ (i : ℕ) (l : i < length d.curves) (bent : (curve d i).kind ≡ kind.HalfArc) where
    abbrev h : HalfArc
    h = arc (curve d i)

    -- a segment that crosses the half arc within its tube
    crosses : (p : Vector) × (q : Vector) × IsCrossing h (bays i) p q
    crosses = by_bays (bays i) (is.tube i l bent)
      where
        by_bays : (bs : List Bay) → IsTube h bs → (p : Vector) × (q : Vector) × IsCrossing h bs p q
        by_bays [] t = absurd t.some
        by_bays (b ∷ rest) t = crossing h b rest t

    abbrev p : Vector
    p = crosses.0

    abbrev q : Vector
    q = crosses.1

    x : IsCrossing h (bays i) p q
    x = crosses.2

    tube : (c : ℕ) × (c < T.count) × (arc_at d c ≡ i)
    tube = tube_of w d bays m E steps lab within inside outside swept is L i l bent

    in_tube : (z : Vector) → IsOnWay p q z → InTubeAt T tube.0 z
    in_tube z k =
        (tube_places w d bays m E steps lab within inside outside swept is L tube.0 tube.1 z).1
        (subst (λ (j : ℕ). one.InTube (curve d j).from (bays j) z) (sym tube.2) (x.there z k))

    p_label : HasLabel r lab T p (inside i)
    p_label = inl (
      tube.0,
      tube.1,
      in_tube p (way_start p q),
      inl (
        subst (λ (j : ℕ). power (arc (curve d j)) p <ℤ pos 0) (sym tube.2) x.inside,
        ap inside (sym tube.2),
      ),
    )

    q_label : HasLabel r lab T q (outside i)
    q_label = inl (
      tube.0,
      tube.1,
      in_tube q (way_end p q),
      inr (
        subst (λ (j : ℕ). pos 0 <ℤ power (arc (curve d j)) q) (sym tube.2) x.outside,
        ap outside (sym tube.2),
      ),
    )

    own : HitsHalfArc h p q
    own =
        let a = x.inside in
        let b = x.outside in
        hits_half_arc h p q x.p_place x.q_place (record {
          u = p;
          v = q;
          u_place = x.p_place;
          v_place = x.q_place;
          u_between = between_first p q;
          v_between = way_between p q q (way_end p q);
          u_away = x.p_away;
          v_away = x.q_away;
          u_in = omega (arith, ints, a);
          v_out = omega (arith, ints, b);
        })

    clear : (j : ℕ) → j < length d.curves → (j ≡ i → ⊥) → Hits (curve d j) p q → ⊥
    clear j k n hit = elim (decide_kind (curve d j).kind) [
      | inl e ↦
          let y = straight_edge d bays m E steps is j k e in
          let g = hits_edge w (E y.0) (curve d j) p q y.3 e
          (swept.rises y.0 y.1) x.p_place x.q_place hit in
          let b = g.between in
          let way = between_way p q g.z b in
          let z = mix b.s p b.t q in
          let Z = way_place p q z x.p_place x.q_place way in
          let on = on_same w (E y.0) g.z z b.is g.place Z g.on in
          x.inner z way
          (straight_arc w d bays m E steps lab within inside outside swept is L j i k l n e bent
          y.0 tube.0 y.1 y.2 y.3 tube.1 tube.2 z Z on (in_tube z way)).1
      | inr e ↦
          let c = tube_of w d bays m E steps lab within inside outside swept is L j k e in
          let g = bent_hits w d bays m E steps lab within inside outside swept is L j p q e hit in
          let o = tubes_cover w d bays m E steps lab within inside outside swept is L c.0 c.1 p q
          x.p_place x.q_place
          (subst (λ (y : ℕ). HitsHalfArc (arc (curve d y)) p q) (sym c.2) g) in
          x.inner o.0 o.1
          (one_end w d bays m E steps lab within inside outside swept is L i tube.0 c.0 tube.1
          c.1 (λ s. n (sym c.2 ∙ sym (ap (λ (y : ℕ). arc_at d y) s) ∙ tube.2)) tube.2 o.0
          (way_place p q o.0 x.p_place x.q_place o.1) (in_tube o.0 o.1) o.2)
    ]

    pub arc_crossed : (u : Vector) × (v : Vector) × CrossesHalfArc d i u v
        × (HasLabel r lab T u (inside i) × HasLabel r lab T v (outside i))
    arc_crossed = (
      p,
      q,
      record {
        p_place = x.p_place;
        q_place = x.q_place;
        p_off = label_off w d bays m E steps lab within inside outside swept is L p x.p_place
            (inside i) p_label;
        q_off = label_off w d bays m E steps lab within inside outside swept is L q x.q_place
            (outside i) q_label;
        p_away = x.p_away;
        q_away = x.q_away;
        inside = x.inside;
        outside = x.outside;
        hits = own;
        clear = clear;
      },
      (p_label, q_label),
    )
