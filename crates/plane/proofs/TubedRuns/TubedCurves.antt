-- A drawing with half arcs and a run over its edge list: a segment hits no curve exactly where it
-- is free of curves in the run.
use Rattle.std.proofs.Common.{◌≡◌, ℕ, ◌<◌, List, length, ℤ, ◌↔◌, inl, inr, refl, arith, ap, sym}
use Rattle.std.proofs.Common.{◌∙◌, subst}
use Rattle.plane.specs.declared.kinds.CurveKind.{CurveKind}
use Rattle.plane.specs.declared.kinds.CurveKind.TheVariants as kind
use Rattle.plane.specs.Forms.Vectors.{Vector, Place, Same, Between, mix, Edge}
use Rattle.plane.specs.Rule.HalfArcs.{HitsHalfArc}
use Rattle.plane.specs.Forms.Arcs.{HalfArc}
use Rattle.plane.specs.Rule.Curves.{arc, Hits, HitsKind}
use Rattle.plane.specs.Rule.Plans.{Plan, curve}
use Rattle.plane.specs.Rule.Partition.{IsClear}
use Rattle.plane.specs.Runs.Steps.{Step, WeighedRun}
use Rattle.plane.specs.Faces.Replays.{Replay, replay}
use Rattle.plane.proofs.Runs.RunWords.{IsRun}
use Rattle.plane.specs.Faces.Halves.{Half}
use Rattle.plane.specs.Faces.Labels.{Labels}
use Rattle.plane.specs.Tubes.Bays.{Bay}
use Rattle.plane.specs.CurveRuns.Extended.{Tubes, IsOnWay, IsFreeOfCurves}
use Rattle.plane.specs.CurveRuns.TubedRuns.{IsTubedRun, AreTubeLabels, arc_at, tubes, MeetsArc}
use Rattle.plane.specs.CurveRuns.TubedRuns.{owned}
use Rattle.plane.proofs.Runs.Numbered.{swept_run}
use Rattle.plane.proofs.Linear.Clear.{on_same}
use Rattle.plane.proofs.FaceLemmas.Drawn.{hits_curve, hits_edge}
use Rattle.plane.proofs.Windings.Ways.{way_mix, way_start, way_end, way_place}
use Rattle.plane.proofs.HalfArcs.ArcHits.{hits_half_arc, hits_arc}
use Rattle.plane.proofs.TubedRuns.HalfArcLists.{decide_kind, arc_listed}
use Rattle.plane.proofs.TubedRuns.OwnedEdges.{no_curve, owner_is, straight_edge}
use Rattle.plane.proofs.TubedRuns.RunTubes.{arc_fits, arc_bent, edge_in_tube, tube_owner}
use Rattle.plane.proofs.Covers.CurvePlaces.{no_kind}

-- ---- parts of segments
pub way_between : (p q z : Vector) → IsOnWay p q z → Between z p q
way_between p q z w =
    subst (λ (x : Vector). Between x p q) (sym w.is) (record {
      s = w.s;
      t = w.t;
      s_least = w.s_least;
      t_least = w.t_least;
      some = w.some;
      is = record { x = refl; y = refl };
    })

pub between_way : (p q z : Vector) → (b : Between z p q) → IsOnWay p q (mix b.s p b.t q)
between_way p q z b = record {
  s = b.s;
  t = b.t;
  s_least = b.s_least;
  t_least = b.t_least;
  some = b.some;
  is = refl;
}

part_between : (p q u v z : Vector) → IsOnWay p q u → IsOnWay p q v → Between z u v → Between z p q
part_between p q u v z a b k =
    let w = way_mix p q u v k.s k.t k.s_least k.t_least k.some a b in
    record {
      s = w.s;
      t = w.t;
      s_least = w.s_least;
      t_least = w.t_least;
      some = w.some;
      is = subst (λ (x : Vector). Same z x) w.is k.is;
    }

-- a segment hits a half arc where a part of it does
pub part_hits : (h : HalfArc) (p q u v : Vector) → Place p → Place q → IsOnWay p q u → IsOnWay p q v
    → HitsHalfArc h u v → HitsHalfArc h p q
part_hits h p q u v P Q a b k =
    let x = hits_arc h u v (way_place p q u P Q a) (way_place p q v P Q b) k in
    hits_half_arc h p q P Q (record {
      u = x.u;
      v = x.v;
      u_place = x.u_place;
      v_place = x.v_place;
      u_between = part_between p q u v x.u a b x.u_between;
      v_between = part_between p q u v x.v a b x.v_between;
      u_away = x.u_away;
      v_away = x.v_away;
      u_in = x.u_in;
      v_out = x.v_out;
    })

module _ (w : ℤ) (d : Plan) (bays : ℕ → List Bay) (m : ℕ) (E : ℕ → Edge) (steps : List Step)
    (lab : Labels) (within : ℕ → Half) (inside outside : ℕ → ℕ)
    (swept : WeighedRun w m E steps) (is : IsTubedRun d bays m E steps)
    (L : AreTubeLabels d bays (replay w m E steps) lab within inside outside) where
  abbrev r : Replay
  r = replay w m E steps

  abbrev T : Tubes
  T = tubes d bays within inside outside

  run : IsRun r
  run = swept_run w m E steps swept

  -- the tube of a half arc
  pub tube_of : (i : ℕ) → i < length d.curves → (curve d i).kind ≡ kind.HalfArc
      → (c : ℕ) × (c < T.count) × (arc_at d c ≡ i)
  tube_of i l e =
      let k = arc_listed no_curve 0 d.curves i l e in (k.0, k.1, let a = k.2 in omega (arith, a))

  pub hits_bent : (i : ℕ) (p q : Vector) → (curve d i).kind ≡ kind.HalfArc
      → HitsHalfArc (arc (curve d i)) p q → Hits (curve d i) p q
  hits_bent i p q e h = subst (λ (k : CurveKind). HitsKind k (curve d i) p q) (sym e) h

  pub bent_hits : (i : ℕ) (p q : Vector) → (curve d i).kind ≡ kind.HalfArc → Hits (curve d i) p q
      → HitsHalfArc (arc (curve d i)) p q
  bent_hits i p q e h = subst (λ (k : CurveKind). HitsKind k (curve d i) p q) e h

  module _ (p q : Vector) (P : Place p) (Q : Place q) where
    pub clear_free : IsClear d p q → IsFreeOfCurves r T (MeetsArc d) p q
    clear_free clear = record {
      straights = λ z a x l on. elim (owner_is d bays m E steps is x l) [
        | inl s ↦ absurd
            (clear s.index s.fits
            (hits_curve w (E x) (curve d s.index) p q s.edge s.straight (run.rise x l) P Q
            (record {
              z = z;
              place = way_place p q z P Q a;
              between = way_between p q z a;
              on = on;
            })))
        | inr b ↦
            let c = tube_of b.index b.fits b.bent in
            let h = edge_in_tube w d bays m E steps lab within inside outside swept is L c.0 c.1 x l
            (b.number ∙ sym c.2) in
            (c.0, c.1, within x, h.0, h.1)
      ];
      arcs = λ c l u v a b h. clear (arc_at d c)
          (arc_fits w d bays m E steps lab within inside outside swept is L c l)
          (hits_bent (arc_at d c) p q
          (arc_bent w d bays m E steps lab within inside outside swept is L c l)
          (part_hits (arc (curve d (arc_at d c))) p q u v P Q a b h));
    }

    pub free_clear : IsFreeOfCurves r T (MeetsArc d) p q → IsClear d p q
    free_clear free i l hit = elim (decide_kind (curve d i).kind) [
      | inl e ↦
          let x = straight_edge d bays m E steps is i l e in
          let h = hits_edge w (E x.0) (curve d i) p q x.3 e (run.rise x.0 x.1) P Q hit in
          let b = h.between in
          let way = between_way p q h.z b in
          let on = on_same w (E x.0) h.z (mix b.s p b.t q) b.is h.place
          (way_place p q _ P Q way) h.on in
          let s = free.straights (mix b.s p b.t q) way x.0 x.1 on in
          let o = tube_owner w d bays m E steps lab within inside outside swept is L s.0 s.1 s.2
          s.3 in
          let same : i ≡ arc_at d s.0 = sym x.2 ∙ ap (λ (y : ℕ). (owned d bays y).curve) (sym s.4)
          ∙ o in
          no_kind (curve d i).kind e
          (subst (λ (y : ℕ). (curve d y).kind ≡ kind.HalfArc) (sym same)
          (arc_bent w d bays m E steps lab within inside outside swept is L s.0 s.1))
      | inr e ↦
          let c = tube_of i l e in
          free.arcs c.0 c.1 p q (way_start p q) (way_end p q)
          (subst (λ (y : ℕ). HitsHalfArc (arc (curve d y)) p q) (sym c.2)
          (bent_hits i p q e hit))
    ]

    pub clear_is_free : IsClear d p q ↔ IsFreeOfCurves r T (MeetsArc d) p q
    clear_is_free = ((λ h. clear_free h), (λ h. free_clear h))
