-- In a drawing with half arcs every segment that crosses a straight and hits no other curve tells
-- the labels of the straight's two sides.
use Rattle.std.proofs.Common.{◌≡◌, ℕ, suc, ◌+◌, ◌<◌, ◌≤◌, List, length, ℤ, pos, ◌+ℤ◌, ◌*ℤ◌, ◌<ℤ◌}
use Rattle.std.proofs.Common.{◌≤ℤ◌, [], ◌∷◌, inl, inr, refl, arith, ap, sym, ◌∙◌, subst}
use Rattle.std.proofs.lemmas.Int.{ints}
use Rattle.plane.specs.declared.kinds.CurveKind.TheVariants as kind
use Rattle.plane.specs.Lists.{Has}
use Rattle.plane.specs.Forms.Vectors.{Vector, Place, Between, mix, point, Edge, side, sweep, rise}
use Rattle.plane.specs.Forms.Vectors.{On, HitsEdge}
use Rattle.plane.specs.Rule.Curves.{arc, HitsKind}
use Rattle.plane.specs.Rule.Plans.{Plan, curve}
use Rattle.plane.specs.Rule.CrossedCurves.{CrossesCurve}
use Rattle.plane.specs.Runs.Steps.{Step, WeighedRun}
use Rattle.plane.specs.Faces.Replays.{Replay, replay, IsOffEdges}
use Rattle.plane.specs.Faces.Cells.{Sector, IsSector, sector, label_of, Linked}
use Rattle.plane.specs.Faces.Labels.{Labels}
use Rattle.plane.specs.Faces.Halves.{Half, under, over, edge_of, mark, Beside}
use Rattle.plane.proofs.FaceLemmas.EdgeCrossings.{IsCrossing}
use Rattle.plane.specs.Tubes.Bays.{Bay}
use Rattle.plane.specs.CurveRuns.Extended.{Tubes, AreTubes, HasLabel, IsOnWay, IsFreeOfCurves}
use Rattle.plane.proofs.TubePaths.PieceWords.{AreSides}
use Rattle.plane.specs.CurveRuns.TubedRuns.{whole, owned, IsOfTube, IsTubedRun, AreTubeLabels}
use Rattle.plane.specs.CurveRuns.TubedRuns.{arc_at, tubes, MeetsArc}
use Rattle.plane.proofs.Linear.EdgePlaces.{side-turn}
use Rattle.plane.specs.declared.kinds.Point.{Point}
use Rattle.plane.proofs.Linear.Vectors.{side-mix, rise-is}
use Rattle.plane.proofs.Algebra.Scaling.{product_of_zero, cancel_zero}
use Rattle.plane.proofs.TubePaths.Bounding.{wall_in}
use Rattle.plane.proofs.Caps.Signed.{between_first}
use Rattle.plane.proofs.Runs.Meeting.{ends_differ}
use Rattle.plane.proofs.TubedRuns.TubedApart.{straight_arc}
use Rattle.plane.specs.Forms.Segments.{IsEdgeOf}
use Rattle.plane.specs.declared.kinds.CurveKind.{CurveKind}
use Rattle.plane.proofs.Linear.Clear.{on_same}
use Rattle.plane.proofs.LabelLemmas.HalfLabels.{linked_label}
use Rattle.plane.proofs.Windings.Whole.{IsWhole, swept_whole}
use Rattle.plane.proofs.Windings.Ways.{way_mix, way_start, way_end, way_place}
use Rattle.plane.proofs.FaceLemmas.CrossingSides.{IsTold, crossing_tells}
use Rattle.plane.proofs.Windings.CommonPlaces.{decide_number}
use Rattle.plane.proofs.Covers.CurvePlaces.{control_on, hits_alone}
use Rattle.plane.proofs.FaceLemmas.Drawn.{hits_curve, hits_edge}
use Rattle.plane.proofs.TubedRuns.OwnedEdges.{owner_is, straight_edge}
use Rattle.plane.proofs.TubedRuns.RunTubes.{are_tubes, arc_fits, arc_bent, edge_in_tube}
use Rattle.plane.proofs.TubedRuns.TubedCurves.{tube_of, free_clear, part_hits, bent_hits}
use Rattle.plane.proofs.TubedRuns.TubedLabels.{clear_label}
use Rattle.plane.proofs.TubePaths.TubedSides.{are_sides}
use Rattle.plane.proofs.TubePaths.WaysOut.{cell_label, tube_label_of, way_within}
use Rattle.plane.proofs.TubePaths.Exits.{way_between}
use Rattle.plane.proofs.FaceLemmas.SmallSteps.{near}
use Rattle.plane.proofs.HalfArcs.NearMisses.{near_is_place, others_missed}
use Rattle.plane.proofs.Algebra.Ring.{Expr, at, num, plus, times, vars, ring}
use Rattle.plane.proofs.Covers.CurvePlaces.{no_kind}

-- two edges that run against each other do not both rise
against : (w : ℤ) (a b : Edge) → a.low ≡ b.high → a.high ≡ b.low → pos 0 <ℤ rise w a
    → pos 0 <ℤ rise w b → ⊥
against w a b e f x y =
    let p = rise-is w a in
    let q = rise-is w b in
    let g = ap (λ (u : Point). sweep w (point u)) e in
    let h = ap (λ (u : Point). sweep w (point u)) f in
    omega (arith, ints, p, q, g, h, x, y)

-- z, between p and q, is between places near it
near_between : (m : ℤ) (z p q : Vector) (b : Between z p q) → Between z (near m z p) (near m z q)
near_between m z p q b = record {
  s = b.s;
  t = b.t;
  s_least = b.s_least;
  t_least = b.t_least;
  some = b.some;
  is = record {
    x = one b.s b.t z.x z.n p.x p.n q.x q.n b.is.x;
    y = one b.s b.t z.y z.n p.y p.n q.y q.n b.is.y;
  };
}
  where
    one : (s t z n p pn q qn : ℤ) → z *ℤ ((s *ℤ pn) +ℤ (t *ℤ qn)) ≡ ((s *ℤ p) +ℤ (t *ℤ q)) *ℤ n
        → z *ℤ ((s *ℤ ((m *ℤ n) +ℤ (pos 1 *ℤ pn))) +ℤ (t *ℤ ((m *ℤ n) +ℤ (pos 1 *ℤ qn))))
        ≡ ((s *ℤ ((m *ℤ z) +ℤ (pos 1 *ℤ p))) +ℤ (t *ℤ ((m *ℤ z) +ℤ (pos 1 *ℤ q)))) *ℤ n
    one s t z n p pn q qn e =
        let S = at 0 in
        let T = at 1 in
        let Z = at 2 in
        let N = at 3 in
        let A = at 4 in let B = at 5 in let C = at 6 in let D = at 7 in let M = at 8 in
        let unit = num (pos 1) in
        let more : Expr → Expr → Expr = λ a b. plus (times M a) (times unit b) in
        let i = ring (times Z (plus (times S (more N B)) (times T (more N D))))
        (plus (times (times (plus S T) M) (times Z N)) (times Z (plus (times S B) (times T D))))
        (vars (s ∷ t ∷ z ∷ n ∷ p ∷ pn ∷ q ∷ qn ∷ m ∷ [])) refl in
        let j = ring (times (plus (times S (more Z A)) (times T (more Z C))) N)
        (plus (times (times (plus S T) M) (times Z N)) (times (plus (times S A) (times T C)) N))
        (vars (s ∷ t ∷ z ∷ n ∷ p ∷ pn ∷ q ∷ qn ∷ m ∷ [])) refl in
        omega (arith, ints, i, j, e)

module _ (w : ℤ) (d : Plan) (bays : ℕ → List Bay) (m : ℕ) (E : ℕ → Edge) (steps : List Step)
    (lab : Labels) (within : ℕ → Half) (inside outside : ℕ → ℕ)
    (swept : WeighedRun w m E steps) (is : IsTubedRun d bays m E steps)
    (L : AreTubeLabels d bays (replay w m E steps) lab within inside outside) where
  abbrev r : Replay
  r = replay w m E steps

  abbrev T : Tubes
  T = tubes d bays within inside outside

  run : IsWhole r
  run = swept_whole w m E steps swept

  all : AreTubes r lab T (MeetsArc d)
  all = are_tubes w d bays m E steps lab within inside outside swept is L

  sides : AreSides r lab T (MeetsArc d)
  sides = are_sides w d bays m E steps lab within inside outside swept is L

  too_great : (n i l : ℕ) → suc (n + i) ≡ l → l ≤ n → ⊥
  too_great n i l e k = omega (arith, e, k)

  module _ (i : ℕ) (l : i < length d.curves) (straight : (curve d i).kind ≡ kind.Straight) (e : ℕ)
      (le : e < m) (own : (owned d bays e).curve ≡ i) (part : (owned d bays e).part ≡ whole)
      (p q : Vector) (cross : CrossesCurve d (E e) i p q) where
    P : Place p
    P = cross.p_place

    Q : Place q
    Q = cross.q_place

    above : pos 0 <ℤ side (E e) p
    above = let a = side-turn (E e) p in let b = cross.above in omega (arith, ints, a, b)

    below : side (E e) q <ℤ pos 0
    below = let a = side-turn (E e) q in let b = cross.below in omega (arith, ints, a, b)

    -- each straight has one edge
    one_edge : (f : ℕ) → f < m → IsEdgeOf (E f) (curve d i) → f ≡ e
    one_edge f lf edge = elim (decide_number f e) [
      | inl k ↦ k
      | inr k ↦ absurd (ends_differ w m E steps f e swept lf le k (same_edge edge its_edge))
    ]
      where
        x : (x : ℕ) × (x < m) × ((owned d bays x).curve ≡ i) × IsEdgeOf (E x) (curve d i)
            × ((owned d bays x).part ≡ whole)
        x = straight_edge d bays m E steps is i l straight

        its_edge : IsEdgeOf (E e) (curve d i)
        its_edge = elim (owner_is d bays m E steps is e le) [
          | inl o ↦ subst (λ (j : ℕ). IsEdgeOf (E e) (curve d j)) (sym o.number ∙ own) o.edge
          | inr o ↦ absurd (subst IsOfTube part o.part)
        ]

        same_edge : IsEdgeOf (E f) (curve d i) → IsEdgeOf (E e) (curve d i) → E f ≡ E e
        same_edge (inl a) (inl b) = λ k. record {
          low = (a.0 ∙ sym b.0) k;
          high = (a.1 ∙ sym b.1) k;
        }
        same_edge (inr a) (inr b) = λ k. record {
          low = (a.0 ∙ sym b.0) k;
          high = (a.1 ∙ sym b.1) k;
        }
        same_edge (inl a) (inr b) =
            absurd (against w (E f) (E e) (a.0 ∙ sym b.1) (a.1 ∙ sym b.0) (swept.rises f lf)
            (swept.rises e le))
        same_edge (inr a) (inl b) =
            absurd (against w (E f) (E e) (a.0 ∙ sym b.1) (a.1 ∙ sym b.0) (swept.rises f lf)
            (swept.rises e le))

    -- an edge with a place of the segment is that of curve i or a tube's
    own_or_tube : (z : Vector) → IsOnWay p q z → (f : ℕ) → f < m → (f ≡ e → ⊥) → On w (E f) z
        → (c : ℕ) × (c < T.count) × (h : Half) × Has h (T.halves c) × (edge_of h ≡ f)
    own_or_tube z k f lf n on = elim (owner_is d bays m E steps is f lf) [
      | inl s ↦ elim (decide_number s.index i) [
        | inl j ↦ absurd
            (n (one_edge f lf (subst (λ (y : ℕ). IsEdgeOf (E f) (curve d y)) j s.edge)))
        | inr j ↦ absurd
            (cross.clear s.index s.fits j
            (hits_curve w (E f) (curve d s.index) p q s.edge s.straight (swept.rises f lf) P Q
            (record {
              z = z;
              place = way_place p q z P Q k;
              between = way_between p q z k;
              on = on;
            })))
      ]
      | inr b ↦
          let c = tube_of w d bays m E steps lab within inside outside swept is L b.index b.fits
          b.bent in
          let h = edge_in_tube w d bays m E steps lab within inside outside swept is L c.0 c.1 f lf
          (b.number ∙ sym c.2) in
          (c.0, c.1, within f, h.0, h.1)
    ]

    -- no part of the segment hits a half arc
    no_arc : (c : ℕ) → c < T.count → (u v : Vector) → IsOnWay p q u → IsOnWay p q v
        → MeetsArc d c u v → ⊥
    no_arc c lc u v a b hit =
        let bent = arc_bent w d bays m E steps lab within inside outside swept is L c lc in
        cross.clear (arc_at d c)
        (arc_fits w d bays m E steps lab within inside outside swept is L c lc)
        (λ k. no_kind (curve d i).kind straight
        (subst (λ (y : ℕ). (curve d y).kind ≡ kind.HalfArc) k bent))
        (subst (λ (k : CurveKind). HitsKind k (curve d (arc_at d c)) p q) (sym bent)
        (part_hits (arc (curve d (arc_at d c))) p q u v P Q a b hit))

    -- ---- the place where the segment crosses the straight
    its_edge_is : IsEdgeOf (E e) (curve d i)
    its_edge_is = elim (owner_is d bays m E steps is e le) [
      | inl o ↦ subst (λ (j : ℕ). IsEdgeOf (E e) (curve d j)) (sym o.number ∙ own) o.edge
      | inr o ↦ absurd (subst IsOfTube part o.part)
    ]

    met : (z : Vector) × IsOnWay p q z × On w (E e) z
    met =
        let h = hits_edge w (E e) (curve d i) p q its_edge_is straight
        (swept.rises e le) P Q cross.hits in
        let b = h.between in
        let z = mix b.s p b.t q in
        let way : IsOnWay p q z = record {
          s = b.s;
          t = b.t;
          s_least = b.s_least;
          t_least = b.t_least;
          some = b.some;
          is = refl;
        } in
        (z, way, on_same w (E e) h.z z b.is h.place (way_place p q z P Q way) h.on)

    abbrev z : Vector
    z = met.0

    Z : Place z
    Z = way_place p q z P Q met.1

    -- no other edge goes through it
    alone : (f : ℕ) → f < m → (f ≡ e → ⊥) → On w (E f) z → ⊥
    alone f lf n on =
        let t = own_or_tube z met.1 f lf n on in
        let on_h = subst (λ (y : ℕ). On w (E y) z) (sym t.4) on in
        let lh = subst (λ (y : ℕ). y < m) (sym t.4) lf in
        let there = wall_in r lab (T.label t.0) (T.first t.0) (T.bay t.0) (T.bays t.0)
        (T.halves t.0) (all.tube t.0 t.1) t.2 t.3 z Z (swept.rises (edge_of t.2) lh) on_h in
        let bent = arc_bent w d bays m E steps lab within inside outside swept is L t.0 t.1 in
        let fits = arc_fits w d bays m E steps lab within inside outside swept is L t.0 t.1 in
        let differ : i ≡ arc_at d t.0
        → ⊥ = λ k. no_kind (curve d i).kind straight
        (subst (λ (y : ℕ). (curve d y).kind ≡ kind.HalfArc) (sym k) bent) in
        let c = (straight_arc w d bays m E steps lab within inside outside swept is L i
        (arc_at d t.0) l fits differ straight bent e t.0 le own its_edge_is t.1 refl z Z met.2
        there).1 in
        no_arc t.0 t.1 z z met.1 met.1
        (bent_hits w d bays m E steps lab within inside outside swept is L
        (arc_at d t.0) z z bent
        ((hits_alone (curve d (arc_at d t.0)) z Z).1
        (control_on (curve d (arc_at d t.0)) z Z c)))

    missed : (n : ℤ) × (pos 0 ≤ℤ n) × ((k : ℤ) → n ≤ℤ k → (f : ℕ) → f < m → (f ≡ e → ⊥)
        → HitsEdge w (near k z p) (near k z q) (E f) → ⊥)
    missed = others_missed w E e m z p q Z P Q alone

    abbrev close : Vector → Vector
    close o = near missed.0 z o

    C : (o : Vector) → Place o → Place (close o)
    C o O = near_is_place missed.0 z o missed.1 Z O

    close_side : (o : Vector) → side (E e) (close o) ≡ side (E e) o
    close_side o =
        let a = side-mix (E e) missed.0 z (pos 1) o in
        let b = met.2.line in
        let c = product_of_zero missed.0 (side (E e) z) b in
        omega (arith, ints, a, c)

    close_way : (o : Vector) → IsOnWay p q o → IsOnWay p q (close o)
    close_way o k =
        let n = missed.1 in
        way_mix p q z o missed.0 (pos 1) n (omega (arith, ints)) (omega (arith, ints, n)) met.1 k

    crossing : IsCrossing r e (close p) (close q)
    crossing = record {
      p_place = C p P;
      q_place = C q Q;
      p_off = λ f lf on. off_at p P f lf on (λ k. let a = close_side p in
          omega (arith, ints, a, above, k)) (between_first (close p) (close q));
      q_off = λ f lf on. off_at q Q f lf on (λ k. let a = close_side q in
          omega (arith, ints, a, below, k))
          (way_between (close p) (close q) (close q) (way_end (close p) (close q)));
      above = let a = close_side p in omega (arith, ints, a, above);
      below = let a = close_side q in omega (arith, ints, a, below);
      hits = record {
        z = z;
        place = Z;
        between = near_between missed.0 z p q (way_between p q z met.1);
        on = met.2;
      };
      clear = λ f lf n hit. missed.2 missed.0 (omega (arith, ints)) f lf n hit;
    }
      where
        off_at : (o : Vector) → Place o → (f : ℕ) → f < m → On w (E f) (close o)
            → (side (E e) (close o) ≡ pos 0 → ⊥) → Between (close o) (close p) (close q) → ⊥
        off_at o O f lf on n b = elim (decide_number f e) [
          | inl k ↦ n (subst (λ (y : ℕ). On w (E y) (close o)) k on).line
          | inr k ↦ missed.2 missed.0 (omega (arith, ints)) f lf k (record {
            z = close o;
            place = C o O;
            between = b;
            on = on;
          })
        ]

    told : IsTold r e (close p) (close q)
    told = crossing_tells r run.run run.law e (close p) (close q) le crossing

    -- from an end of the segment to near the straight no curve is hit
    end_free : (o : Vector) → Place o → IsOnWay p q o → (side (E e) o ≡ pos 0 → ⊥)
        → IsFreeOfCurves r T (MeetsArc d) o (close o)
    end_free o O k n = record {
      straights = λ v a f lf on. elim (decide_number f e) [
        | inl x ↦ absurd (not_on v a (subst (λ (y : ℕ). On w (E y) v) x on))
        | inr x ↦ own_or_tube v (way_within p q o (close o) v k (close_way o k) a) f lf x on
      ];
      arcs = λ c lc u v a b hit. no_arc c lc u v (way_within p q o (close o) u k (close_way o k) a)
          (way_within p q o (close o) v k (close_way o k) b) hit;
    }
      where
        not_on : (v : Vector) → IsOnWay o (close o) v → On w (E e) v → ⊥
        not_on v a on =
            let x : side (E e) v ≡ (a.s *ℤ side (E e) o)
            +ℤ (a.t *ℤ side (E e) (close o)) =
            ap (λ (u : Vector). side (E e) u) a.is ∙ side-mix (E e) a.s o a.t (close o) in
            let y = ap (λ (n : ℤ). a.t *ℤ n) (close_side o) in
            let z = ring (plus (times (at 0) (at 2)) (times (at 1) (at 2)))
            (times (plus (at 0) (at 1)) (at 2)) (vars (a.s ∷ a.t ∷ side (E e) o ∷ [])) refl in
            let line = on.line in
            n (cancel_zero (a.s +ℤ a.t) (side (E e) o) a.some (omega (arith, ints, x, y, z, line)))

    told_label : (h : Half) (c : Sector) → IsSector r c → (o : Vector) → Place o
        → IsOffEdges r (close o) → Linked r (sector r (close o)) c → Beside r h c
        → mark lab h ≤ length d.points → HasLabel r lab T (close o) (mark lab h)
    told_label h c K o O off linked beside most =
        let e : label_of lab r (sector r (close o))
        ≡ mark lab h =
        linked_label r run.run run.law lab L.matched (sector r (close o)) c linked
        ∙ cell_label r run lab L.matched T (MeetsArc d) all sides h c K beside in
        inr (
          (λ t lt k. too_great (length d.points) (arc_at d t) (mark lab h)
              (sym (tube_label_of r run lab L.matched T (MeetsArc d) all sides t lt (close o)
              (C o O) off k) ∙ e) most),
          off,
          sym e,
        )

    pub above_label : (k : ℕ) → HasLabel r lab T p k → k ≡ lab.above e
    above_label k h =
        clear_label w d bays m E steps lab within inside outside swept is L p (close p) k
        (lab.above e) P (C p P)
        (free_clear w d bays m E steps lab within inside outside swept is L p (close p) P (C p P)
        (end_free p P (way_start p q) (λ x. omega (arith, ints, x, above)))) h
        (told_label (over e) told.above told.above_is p P crossing.p_off told.above_linked
        told.above_beside (L.straight_label e le part).1)

    pub below_label : (k : ℕ) → HasLabel r lab T q k → k ≡ lab.below e
    below_label k h =
        clear_label w d bays m E steps lab within inside outside swept is L q (close q) k
        (lab.below e) Q (C q Q)
        (free_clear w d bays m E steps lab within inside outside swept is L q (close q) Q (C q Q)
        (end_free q Q (way_end p q) (λ x. omega (arith, ints, x, below)))) h
        (told_label (under e) told.below told.below_is q Q crossing.q_off told.below_linked
        told.below_beside (L.straight_label e le part).0)
