-- Each straight of a drawing with half arcs is crossed by a segment that hits no other curve; its
-- ends have the labels of the straight's sides.
use Rattle.std.proofs.Common.{◌≡◌, ℕ, suc, ◌+◌, ◌<◌, ◌≤◌, List, ◌∷◌, length, ℤ, pos, ◌+ℤ◌, ◌*ℤ◌}
use Rattle.std.proofs.Common.{◌-ℤ◌, ◌≤ℤ◌, inl, inr, refl, arith, ap, sym, ◌∙◌, subst}
use Rattle.std.proofs.lemmas.Int.{ints}
use Rattle.plane.specs.declared.kinds.Point.{Point}
use Rattle.plane.specs.declared.kinds.CurveKind.TheVariants as kind
use Rattle.plane.specs.Lists.{Has}
use Rattle.plane.specs.Forms.Vectors.{Vector, Place, Same, point, mix, Edge, side, On}
use Rattle.plane.specs.Forms.Segments.{IsEdgeOf}
use Rattle.plane.specs.Rule.HalfArcs.{HitsHalfArc}
use Rattle.plane.specs.Rule.Curves.{arc, Hits}
use Rattle.plane.specs.Rule.Plans.{Plan, curve}
use Rattle.plane.specs.Rule.CrossedCurves.{CrossesCurve}
use Rattle.plane.specs.Runs.Steps.{Step, WeighedRun}
use Rattle.plane.specs.Faces.Replays.{Replay, replay, IsOffEdges}
use Rattle.plane.specs.Faces.Cells.{sector, label_of, IsFree}
use Rattle.plane.specs.Faces.Labels.{Labels}
use Rattle.plane.specs.Faces.Halves.{Half, under, over, edge_of, mark, Beside}
use Rattle.plane.proofs.FaceLemmas.EdgeCrossings.{IsCrossing}
use Rattle.plane.specs.Tubes.Bays.{Bay}
use Rattle.plane.specs.Tubes.Windings.{tiles}
use Rattle.plane.specs.CurveRuns.Extended.{Tubes, AreTubes, InTubeAt, AtArcEnd, HasLabel, IsOnWay}
use Rattle.plane.proofs.TubePaths.PieceWords.{AreSides}
use Rattle.plane.specs.CurveRuns.TubedRuns.{whole, owned, IsOfTube, IsTubedRun, AreTubeLabels}
use Rattle.plane.specs.CurveRuns.TubedRuns.{arc_at, tubes, MeetsArc}
use Rattle.plane.proofs.Linear.EdgePlaces.{side-turn, place_point}
use Rattle.plane.proofs.Linear.Vectors.{side-mix}
use Rattle.plane.proofs.Algebra.Laws.{product_nonnegative, weight_at_most}
use Rattle.plane.proofs.Algebra.Scaling.{product-difference, product_of_zero}
use Rattle.plane.proofs.Linear.Signs.{by_sign, mix_place}
use Rattle.plane.proofs.Linear.Clear.{mix_clear, on_same}
use Rattle.plane.proofs.FaceLemmas.Crossings.{crossing_segment}
use Rattle.plane.proofs.FaceLemmas.Drawn.{hits_curve, hits_edge}
use Rattle.plane.proofs.Windings.Whole.{IsWhole, swept_whole}
use Rattle.plane.proofs.Windings.Ways.{way_mix, way_start, way_end, way_place}
use Rattle.plane.proofs.Windings.Enters.{look_below, decide_same, edge_outside, event_corner}
use Rattle.plane.proofs.Windings.CommonPlaces.{decide_number, in_some_same}
use Rattle.plane.proofs.TubedRuns.HalfArcLists.{decide_kind}
use Rattle.plane.proofs.TubedRuns.OwnedEdges.{owner_is, straight_edge}
use Rattle.plane.proofs.OneTube.ArcEnds.{not_arc_end, not_arc_tip}
use Rattle.plane.proofs.TubedRuns.RunTubes.{are_tubes, tubes_cover, arc_bent, tube_owner}
use Rattle.plane.proofs.TubedRuns.TubedCurves.{tube_of, bent_hits}
use Rattle.plane.proofs.TubedRuns.TubedOff.{label_off}
use Rattle.plane.proofs.TubePaths.TubedSides.{are_sides}
use Rattle.plane.proofs.TubePaths.WaysOut.{beside_label, tube_label_of, free_label}
use Rattle.plane.proofs.TubePaths.Exits.{way_between, same_start}
use Rattle.plane.proofs.Covers.CurvePlaces.{no_kind}

module _ (w : ℤ) (d : Plan) (bays : ℕ → List Bay) (m : ℕ) (E : ℕ → Edge) (steps : List Step)
    (lab : Labels) (within : ℕ → Half) (inside outside : ℕ → ℕ)
    (swept : WeighedRun w m E steps) (is : IsTubedRun d bays m E steps)
    (L : AreTubeLabels d bays (replay w m E steps) lab within inside outside) where
  abbrev r : Replay
  r = replay w m E steps

  abbrev T : Tubes
  T = tubes d bays within inside outside

  run : IsWhole r
  run = swept_whole w m E steps swept

  all : AreTubes r lab T (MeetsArc d)
  all = are_tubes w d bays m E steps lab within inside outside swept is L

  sides : AreSides r lab T (MeetsArc d)
  sides = are_sides w d bays m E steps lab within inside outside swept is L

  too_great : (n i l : ℕ) → suc (n + i) ≡ l → l ≤ n → ⊥
  too_great n i l e k = omega (arith, e, k)

  -- an edge that is no tube's is in a tube at most at its ends
  at_end : (e c : ℕ) → e < m → c < T.count → ((h : Half) → Has h (T.halves c) → edge_of h ≡ e → ⊥)
      → (z : Vector) → Place z → On w (E e) z → InTubeAt T c z → AtArcEnd T c z
  at_end e c le lc not_its z Z on in_c =
      elim (look_below (λ k. Same z (point (r.step k).at)) r.steps
      (λ k. decide_same z (point (r.step k).at))) [
        | inr none ↦ absurd
            (edge_outside r run lab L.matched (T.label c) (T.first c) (T.bay c) (T.bays c)
            (T.halves c) (all.tube c lc) e z le not_its Z (λ k l s. none (k, l, s)) on in_c)
        | inl s ↦
            let v = (r.step s.0).at in
            let end = run.event_end s.0 s.1 e le
            (on_same w (E e) z (point v) s.2 Z (place_point v) on) in
            let corner = event_corner r run lab L.matched (T.label c) (T.first c) (T.bay c)
            (T.bays c) (T.halves c) (all.tube c lc) s.0 s.1
            (in_some_same (tiles (T.first c) (T.bay c ∷ T.bays c)) z (point v) Z s.2 in_c) in
            elim ((all.clean c lc).clean s.0 s.1 corner) [
              | inl k ↦ inl (subst (λ (p : Point). Same z (point p)) k s.2)
              | inr rest ↦ elim rest [
                | inl k ↦ inr (subst (λ (p : Point). Same z (point p)) k s.2)
                | inr f ↦ let h = f e le end in absurd (not_its h.0 h.1 h.2)
              ]
            ]
      ]

  module _ (i : ℕ) (l : i < length d.curves) (straight : (curve d i).kind ≡ kind.Straight) (e : ℕ)
      (le : e < m) (own : (owned d bays e).curve ≡ i) (part : (owned d bays e).part ≡ whole) where
    found : (p : Vector) × (q : Vector) × IsCrossing r e p q × Beside r (over e) (sector r p)
        × Beside r (under e) (sector r q)
    found = crossing_segment r run.run run.law e le

    abbrev p : Vector
    p = found.0

    abbrev q : Vector
    q = found.1

    x : IsCrossing r e p q
    x = found.2

    P : Place p
    P = x.p_place

    Q : Place q
    Q = x.q_place

    its_edge : IsEdgeOf (E e) (curve d i)
    its_edge = elim (owner_is d bays m E steps is e le) [
      | inl o ↦ subst (λ (j : ℕ). IsEdgeOf (E e) (curve d j)) (sym o.number ∙ own) o.edge
      | inr o ↦ absurd (subst IsOfTube part o.part)
    ]

    -- only edge e has places of the segment
    only : (z : Vector) → IsOnWay p q z → (f : ℕ) → f < m → On w (E f) z → f ≡ e
    only z k f lf on = elim (decide_number f e) [
      | inl y ↦ y
      | inr y ↦ absurd
          (x.clear f lf y (record {
            z = z;
            place = way_place p q z P Q k;
            between = way_between p q z k;
            on = on;
          }))
    ]

    -- an end of the segment is in a cell with the label of its side, and in no tube
    end_label : (h : Half) (z : Vector) → Place z → Beside r h (sector r z)
        → label_of lab r (sector r z) ≡ mark lab h
    end_label h z Z b = beside_label r run lab L.matched T (MeetsArc d) all sides h z Z b

    plain : (h : Half) (z : Vector) → Place z → Beside r h (sector r z)
        → mark lab h ≤ length d.points → (c : ℕ) → label_of lab r (sector r z) ≡ T.label c → ⊥
    plain h z Z b most c k =
        too_great (length d.points) (arc_at d c) (mark lab h) (sym k ∙ end_label h z Z b) most

    labelled : (h : Half) (z : Vector) → Place z → IsOffEdges r z → Beside r h (sector r z)
        → mark lab h ≤ length d.points → HasLabel r lab T z (mark lab h)
    labelled h z Z off b most =
        inr (
          (λ c lc k. plain h z Z b most c
              (tube_label_of r run lab L.matched T (MeetsArc d) all sides c lc z Z off k)),
          off,
          sym (end_label h z Z b),
        )

    p_label : HasLabel r lab T p (lab.above e)
    p_label = labelled (over e) p P x.p_off found.3 (L.straight_label e le part).1

    q_label : HasLabel r lab T q (lab.below e)
    q_label = labelled (under e) q Q x.q_off found.4 (L.straight_label e le part).0

    -- no place of the segment is in a tube
    module _ (c : ℕ) (lc : c < T.count) (z : Vector) (on_way : IsOnWay p q z)
        (in_c : InTubeAt T c z) where
      Z : Place z
      Z = way_place p q z P Q on_way

      not_its : (h : Half) → Has h (T.halves c) → edge_of h ≡ e → ⊥
      not_its h k y =
          no_kind (curve d i).kind straight
          (subst (λ (n : ℕ). (curve d n).kind ≡ kind.HalfArc)
          (sym (sym own ∙ ap (λ (f : ℕ). (owned d bays f).curve) (sym y)
          ∙ tube_owner w d bays m E steps lab within inside outside swept is L c lc h k))
          (arc_bent w d bays m E steps lab within inside outside swept is L c lc))

      alone : (f : ℕ) → f < m → On w (E f) z → f ≡ e
      alone f lf on = only z on_way f lf on

      not_end : AtArcEnd T c z → ⊥
      not_end (inl k) =
          not_arc_end r run.run lab (T.label c) (T.first c) (T.bay c) (T.bays c) (T.halves c)
          (all.tube c lc) z Z e alone k
      not_end (inr k) =
          not_arc_tip r run.run lab (T.label c) (T.first c) (T.bay c) (T.bays c) (T.halves c)
          (all.tube c lc) z Z e alone k

      off : IsOffEdges r z
      off f lf on =
          not_end (at_end e c le lc not_its z Z
          (subst (λ (n : ℕ). On w (E n) z) (alone f lf on) on) in_c)

      free_to : (o : Vector) → Place o → IsOnWay p q o
          → ((s t : ℤ) → pos 0 ≤ℤ s → pos 0 ≤ℤ t
          → (s *ℤ side (E e) z) +ℤ (t *ℤ side (E e) o) ≡ pos 0 → t ≡ pos 0)
          → IsFree r z o
      free_to o O k apart f lf = mix_clear w (E f) z o Z O (λ s t hs ht some on.
          let y = only (mix s z t o) (way_mix p q z o s t hs ht some on_way k) f lf on in
          let on_e = subst (λ (n : ℕ). On w (E n) (mix s z t o)) y on in
          let b = apart s t hs ht (sym (side-mix (E e) s z t o) ∙ on_e.line) in
          off e le (on_same w (E e) (mix s z t o) z (same_start s t z o b)
          (mix_place s z t o Z O hs ht some) Z on_e))

      label : label_of lab r (sector r z) ≡ T.label c
      label = tube_label_of r run lab L.matched T (MeetsArc d) all sides c lc z Z off in_c

      joins : (o : Vector) → Place o → IsFree r z o → label_of lab r (sector r o) ≡ T.label c
      joins o O free = sym (free_label r run lab L.matched T (MeetsArc d) all sides z o Z O free)
          ∙ label

      not_above : pos 0 ≤ℤ side (E e) z → ⊥
      not_above h =
          plain (over e) p P found.3 (L.straight_label e le part).1 c
          (joins p P (free_to p P (way_start p q) (λ s t hs ht k.
          let a = x.above in
          let i = product_nonnegative s (side (E e) z) hs h in
          let j = weight_at_most t (side (E e) p) ht a in
          omega (arith, ints, i, j, k, ht))))

      not_below : side (E e) z ≤ℤ pos 0 → ⊥
      not_below h =
          plain (under e) q Q found.4 (L.straight_label e le part).0 c
          (joins q Q (free_to q Q (way_end p q) (λ s t hs ht k.
          let a = x.below in
          let i = product_nonnegative s (pos 0 -ℤ side (E e) z) hs (omega (arith, ints, h)) in
          let j = weight_at_most t (pos 0 -ℤ side (E e) q) ht (omega (arith, ints, a)) in
          let u = product-difference s (pos 0) (side (E e) z) in
          let v = product-difference t (pos 0) (side (E e) q) in
          let o = product_of_zero s (pos 0) refl in
          let n = product_of_zero t (pos 0) refl in
          omega (arith, ints, i, j, u, v, o, n, k, ht))))

      in_no_tube : ⊥
      in_no_tube =
          by_sign (side (E e) z) (λ h. not_below (omega (arith, ints, h)))
          (λ h. not_below (omega (arith, ints, h))) (λ h. not_above (omega (arith, ints, h)))

    clear : (j : ℕ) → j < length d.curves → (j ≡ i → ⊥) → Hits (curve d j) p q → ⊥
    clear j k n hit = elim (decide_kind (curve d j).kind) [
      | inl g ↦
          let y = straight_edge d bays m E steps is j k g in
          x.clear y.0 y.1 (λ f. n (sym y.2 ∙ ap (λ (v : ℕ). (owned d bays v).curve) f ∙ own))
          (hits_edge w (E y.0) (curve d j) p q y.3 g (swept.rises y.0 y.1) P Q hit)
      | inr g ↦
          let c = tube_of w d bays m E steps lab within inside outside swept is L j k g in
          let h = bent_hits w d bays m E steps lab within inside outside swept is L j p q g hit in
          let o = tubes_cover w d bays m E steps lab within inside outside swept is L c.0 c.1 p q P
          Q (subst (λ (y : ℕ). HitsHalfArc (arc (curve d y)) p q) (sym c.2) h) in
          in_no_tube c.0 c.1 o.0 o.1 o.2
    ]

    pub straight_crossed : (u : Vector) × (v : Vector) × CrossesCurve d (E e) i u v
        × (HasLabel r lab T u (lab.above e) × HasLabel r lab T v (lab.below e))
    straight_crossed =
        let a = side-turn (E e) p in
        let b = side-turn (E e) q in
        let high = x.above in
        let low = x.below in (
          p,
          q,
          record {
            p_place = P;
            q_place = Q;
            p_off = label_off w d bays m E steps lab within inside outside swept is L p P
                (lab.above e) p_label;
            q_off = label_off w d bays m E steps lab within inside outside swept is L q Q
                (lab.below e) q_label;
            above = omega (arith, ints, a, high);
            below = omega (arith, ints, b, low);
            hits = hits_curve w (E e) (curve d i) p q its_edge straight
                (swept.rises e le) P Q x.hits;
            clear = clear;
          },
          (p_label, q_label),
        )
