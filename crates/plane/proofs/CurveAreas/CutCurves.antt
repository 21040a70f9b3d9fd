-- Curves with one face on both sides: the labels of the two sides tell them.
use Rattle.std.proofs.Common.{◌≡◌, ℕ, ◌<◌, length, List, [], ◌∷◌, ℤ, pos, ◌-ℤ◌, ◌<ℤ◌, ◌⊎◌, inl, inr}
use Rattle.std.proofs.Common.{refl, arith, ap, sym, ◌∙◌, subst}
use Rattle.std.proofs.lemmas.Int.{ints}
use Rattle.plane.specs.declared.kinds.Point.{Point}
use Rattle.plane.specs.declared.kinds.Curve.{Curve}
use Rattle.plane.specs.declared.kinds.CurveKind.{CurveKind}
use Rattle.plane.specs.declared.kinds.CurveKind.TheVariants as kind
use Rattle.plane.specs.declared.kinds.Placed.{Placed}
use Rattle.plane.specs.Forms.Vectors.{Vector, Place, point, Edge}
use Rattle.plane.specs.Rule.Straights.{IsOnStraight, turn}
use Rattle.plane.specs.Forms.Segments.{IsEdgeOf}
use Rattle.plane.specs.Rule.Curves.{HitsKind, Hits}
use Rattle.plane.specs.Rule.Plans.{Plan, curve}
use Rattle.plane.specs.Rule.Partition.{IsOff, Joined, IsOuter}
use Rattle.plane.specs.Rule.CrossedCurves.{CrossesCurve}
use Rattle.plane.specs.Rule.Cuts.{course, CrossesKind, IsCut, HasNoCut}
use Rattle.plane.specs.Runs.Steps.{Step, WeighedRun}
use Rattle.plane.specs.Faces.Replays.{replay}
use Rattle.plane.specs.Faces.Labels.{Labels}
use Rattle.plane.specs.Faces.Halves.{Half, edge_of, mark}
use Rattle.plane.specs.Faces.Classes.{IsFaces}
use Rattle.plane.specs.Tubes.Bays.{Bay}
use Rattle.plane.specs.CurveRuns.Extended.{HasLabel}
use Rattle.plane.specs.CurveRuns.TubedRuns.{Part, whole, owned, IsOfTube, IsTubedRun, AreTubeLabels}
use Rattle.plane.specs.CurveRuns.TubedRuns.{tubes}
use Rattle.plane.proofs.Algebra.Ring.{Expr, at, num, minus, times, vars, ring}
use Rattle.plane.proofs.Linear.Signs.{between_back}
use Rattle.plane.proofs.Linear.Straights.{straight_between, between_straight}
use Rattle.plane.proofs.TubedRuns.HalfArcLists.{decide_kind}
use Rattle.plane.proofs.TubedRuns.OwnedEdges.{owner_is, straight_edge}
use Rattle.plane.proofs.Runs.RunWeights.{RunWeight, run_weight}
use Rattle.plane.proofs.Turning.AnyWeight.{faces_to}
use Rattle.plane.proofs.TubedRuns.TubedWeights.{labels_to}
use Rattle.plane.proofs.TubedRuns.TubedLabels.{off_label, joined_label, outer_label}
use Rattle.plane.proofs.CurveAreas.TubedFaces.{joined_is_label, joined_with, outer_with}
use Rattle.plane.proofs.CurveAreas.TubedFaces.{joined_without, outer_without}
use Rattle.plane.proofs.CurveAreas.StraightCrossings.{above_label, below_label}
use Rattle.plane.proofs.CurveAreas.CrossedStraights.{straight_crossed}
use Rattle.plane.proofs.CurveAreas.ArcSideLabels.{inner_end, outer_end}
use Rattle.plane.proofs.TubedRuns.TubedCrossings.{arc_crossed}
use Rattle.plane.proofs.CurveAreas.EmptyStraights as straights
use Rattle.plane.proofs.CurveAreas.EmptyHalfArcs as half_arcs

-- ---- a segment the other way round
on_back : (p q z : Vector) → Place p → Place q → Place z → IsOnStraight p q z → IsOnStraight q p z
on_back p q z P Q Z on =
    between_straight q p z Q P Z (between_back z p q (straight_between p q z P Q Z on))

kind_back : (k : CurveKind) (c : Curve) (p q : Vector) → Place p → Place q → HitsKind k c p q
    → HitsKind k c q p
kind_back kind.Straight c p q P Q h =
    record {
      z = h.z;
      place = h.place;
      of_segment = on_back p q h.z P Q h.place h.of_segment;
      of_curve = h.of_curve;
    }
kind_back kind.HalfArc c p q P Q h = record {
  u = h.u;
  v = h.v;
  u_place = h.u_place;
  v_place = h.v_place;
  u_of_segment = on_back p q h.u P Q h.u_place h.u_of_segment;
  v_of_segment = on_back p q h.v P Q h.v_place h.v_of_segment;
  u_away = h.u_away;
  v_away = h.v_away;
  u_not_outside = h.u_not_outside;
  v_not_inside = h.v_not_inside;
}

hits_back : (c : Curve) (p q : Vector) → Place p → Place q → Hits c p q → Hits c q p
hits_back c p q P Q h = kind_back c.kind c p q P Q h

turn-back : (a b : Point) (z : Vector)
    → turn (point b) (point a) z ≡ pos 0 -ℤ turn (point a) (point b) z
turn-back a b z =
    let AX = at 0 in
    let AY = at 1 in
    let BX = at 2 in let BY = at 3 in let X = at 4 in let Y = at 5 in let N = at 6 in
    let one = num (pos 1) in
    let D : Expr → Expr → Expr → Expr → Expr = λ a m b n. minus (times a n) (times b m) in
    let TURN : Expr → Expr → Expr → Expr
    → Expr = λ ax ay bx by. minus (times (D bx one ax one) (D Y N ay one))
    (times (D by one ay one) (D X N ax one)) in
    ring (TURN BX BY AX AY) (minus (num (pos 0)) (TURN AX AY BX BY))
    (vars (a.x ∷ a.y ∷ b.x ∷ b.y ∷ z.x ∷ z.y ∷ z.n ∷ [])) refl

-- a segment that crosses an edge crosses the edge the other way round, from its other end
abbrev back : Edge → Edge
back e = record { low = e.high; high = e.low }

up_from : (a b : ℤ) → a ≡ pos 0 -ℤ b → b <ℤ pos 0 → pos 0 <ℤ a
up_from a b e h = omega (arith, ints, e, h)

down_from : (a b : ℤ) → a ≡ pos 0 -ℤ b → pos 0 <ℤ b → a <ℤ pos 0
down_from a b e h = omega (arith, ints, e, h)

crosses_back : (d : Plan) (e : Edge) (i : ℕ) (p q : Vector) → CrossesCurve d e i p q
    → CrossesCurve d (back e) i q p
crosses_back d e i p q x =
    record {
      p_place = x.q_place;
      q_place = x.p_place;
      p_off = x.q_off;
      q_off = x.p_off;
      above = up_from _ _ (turn-back e.low e.high q) x.below;
      below = down_from _ _ (turn-back e.low e.high p) x.above;
      hits = hits_back (curve d i) p q x.p_place x.q_place x.hits;
      clear = λ j k n h. x.clear j k n (hits_back (curve d j) q p x.q_place x.p_place h);
    }

crosses_edge : (d : Plan) (e f : Edge) (i : ℕ) (p q : Vector) → e.low ≡ f.low → e.high ≡ f.high
    → CrossesCurve d e i p q → CrossesCurve d f i p q
crosses_edge d e f i p q l h x =
    let t : (z : Vector) → turn (point e.low) (point e.high) z
    ≡ turn (point f.low) (point f.high) z =
    λ z. ap (λ (y : Point). turn (point y) (point e.high) z) l
    ∙ ap (λ (y : Point). turn (point f.low) (point y) z) h in
    record {
      p_place = x.p_place;
      q_place = x.q_place;
      p_off = x.p_off;
      q_off = x.q_off;
      above = subst (λ (z : ℤ). pos 0 <ℤ z) (t p) x.above;
      below = subst (λ (z : ℤ). z <ℤ pos 0) (t q) x.below;
      hits = x.hits;
      clear = x.clear;
    }

-- both ends in one face, whichever is first
abbrev OneFace : Plan → Vector → Vector → Type 0
OneFace d p q = Joined d p q ⊎ (IsOuter d p × IsOuter d q)

-- ---- labels of one face
module _ (w : ℤ) (d : Plan) (bays : ℕ → List Bay) (m : ℕ) (E : ℕ → Edge) (steps : List Step)
    (lab : Labels) (within : ℕ → Half) (inside outside : ℕ → ℕ)
    (swept : WeighedRun w m E steps) (is : IsTubedRun d bays m E steps)
    (L : AreTubeLabels d bays (replay w m E steps) lab within inside outside) where
  abbrev Label : Vector → ℕ → Type 0
  Label z l = HasLabel (replay w m E steps) lab (tubes d bays within inside outside) z l

  one_label : (p q : Vector) (l k : ℕ) → Place p → Place q → Label p l → Label q k → OneFace d p q
      → l ≡ k
  one_label p q l k P Q hp hq (inl j) =
      joined_label w d bays m E steps lab within inside outside swept is L p q l k P Q j hp hq
  one_label p q l k P Q hp hq (inr o) =
      outer_label w d bays m E steps lab within inside outside swept is L p l P o.0 hp
      ∙ sym (outer_label w d bays m E steps lab within inside outside swept is L q k Q o.1 hq)

  -- the ends of a segment that crosses an edge of a straight
  edge_labels : (i e : ℕ) → i < length d.curves → (curve d i).kind ≡ kind.Straight → e < m
      → (owned d bays e).curve ≡ i → (owned d bays e).part ≡ whole
      → (p q : Vector) → CrossesCurve d (E e) i p q → Label p (lab.above e) × Label q (lab.below e)
  edge_labels i e fits straight le own part p q x =
      let hp = off_label w d bays m E steps lab within inside outside swept is L p x.p_place
      x.p_off in
      let hq = off_label w d bays m E steps lab within inside outside swept is L q x.q_place
      x.q_off in (
        subst (λ (l : ℕ). Label p l)
            (above_label w d bays m E steps lab within inside outside swept is L i fits straight e
            le own part p q x hp.0 hp.1) hp.1,
        subst (λ (l : ℕ). Label q l)
            (below_label w d bays m E steps lab within inside outside swept is L i fits straight e
            le own part p q x hq.0 hq.1) hq.1,
      )

  edge_is : (i e : ℕ) → e < m → (owned d bays e).curve ≡ i → (owned d bays e).part ≡ whole
      → IsEdgeOf (E e) (curve d i)
  edge_is i e le own part = elim (owner_is d bays m E steps is e le) [
    | inl s ↦ subst (λ (j : ℕ). IsEdgeOf (E e) (curve d j)) (sym s.number ∙ own) s.edge
    | inr a ↦ absurd (subst (λ (k : Part). IsOfTube k) part a.part)
  ]

  -- a segment that crosses a straight in its direction crosses its edge, one way or the other
  to_edge : (i e : ℕ) → e < m → (owned d bays e).curve ≡ i → (owned d bays e).part ≡ whole
      → (p q : Vector) → CrossesCurve d (course (curve d i)) i p q
      → CrossesCurve d (E e) i p q ⊎ CrossesCurve d (E e) i q p
  to_edge i e le own part p q x = elim (edge_is i e le own part) [
    | inl k ↦ inl (crosses_edge d (course (curve d i)) (E e) i p q (sym k.0) (sym k.1) x)
    | inr k ↦ inr
        (crosses_edge d (back (course (curve d i))) (E e) i q p (sym k.0) (sym k.1)
        (crosses_back d (course (curve d i)) i p q x))
  ]

  from_edge : (i e : ℕ) → e < m → (owned d bays e).curve ≡ i → (owned d bays e).part ≡ whole
      → (p q : Vector) → CrossesCurve d (E e) i p q
      → CrossesCurve d (course (curve d i)) i p q ⊎ CrossesCurve d (course (curve d i)) i q p
  from_edge i e le own part p q x = elim (edge_is i e le own part) [
    | inl k ↦ inl (crosses_edge d (E e) (course (curve d i)) i p q k.0 k.1 x)
    | inr k ↦ inr
        (crosses_edge d (back (E e)) (course (curve d i)) i q p k.1 k.0
        (crosses_back d (E e) i p q x))
  ]

  -- a cut tells equal labels
  pub straight_cut : (i e : ℕ) → i < length d.curves → (curve d i).kind ≡ kind.Straight → e < m
      → (owned d bays e).curve ≡ i → (owned d bays e).part ≡ whole → IsCut d i
      → lab.above e ≡ lab.below e
  straight_cut i e fits straight le own part c =
      let x = subst (λ (k : CurveKind). CrossesKind k d i c.p c.q) straight c.crossing in
      elim (to_edge i e le own part c.p c.q x) [
        | inl y ↦ (let h = edge_labels i e fits straight le own part c.p c.q y in
            one_label c.p c.q (lab.above e) (lab.below e) x.p_place x.q_place h.0 h.1 c.one)
        | inr y ↦ (let h = edge_labels i e fits straight le own part c.q c.p y in
            sym (one_label c.p c.q (lab.below e) (lab.above e) x.p_place x.q_place h.1 h.0 c.one))
      ]

  pub arc_cut : (i : ℕ) → i < length d.curves → (curve d i).kind ≡ kind.HalfArc → IsCut d i
      → inside i ≡ outside i
  arc_cut i fits bent c =
      let x = subst (λ (k : CurveKind). CrossesKind k d i c.p c.q) bent c.crossing in
      one_label c.p c.q (inside i) (outside i) x.p_place x.q_place
      (inner_end w d bays m E steps lab within inside outside swept is L i fits bent c.p c.q x)
      (outer_end w d bays m E steps lab within inside outside swept is L i fits bent c.p c.q x)
      c.one

-- ---- with any weight
module _ (v : ℤ) (d : Plan) (bays : ℕ → List Bay) (m : ℕ) (E : ℕ → Edge) (steps : List Step)
    (lab : Labels) (within : ℕ → Half) (inside outside : ℕ → ℕ)
    (is : IsTubedRun d bays m E steps)
    (L : AreTubeLabels d bays (replay v m E steps) lab within inside outside) where
  own_weight : RunWeight m E steps []
  own_weight = run_weight m E steps [] is.run

  abbrev w : ℤ
  w = own_weight.weight

  own_labels : AreTubeLabels d bays (replay w m E steps) lab within inside outside
  own_labels = labels_to v w d bays m E steps lab within inside outside L

  pub straight_equal : (i e : ℕ) → i < length d.curves → (curve d i).kind ≡ kind.Straight → e < m
      → (owned d bays e).curve ≡ i → (owned d bays e).part ≡ whole → IsCut d i
      → lab.above e ≡ lab.below e
  straight_equal i e fits straight le own part c =
      straight_cut w d bays m E steps lab within inside outside own_weight.swept is own_labels i e
      fits straight le own part c

  pub arc_equal : (i : ℕ) → i < length d.curves → (curve d i).kind ≡ kind.HalfArc → IsCut d i
      → inside i ≡ outside i
  arc_equal i fits bent c =
      arc_cut w d bays m E steps lab within inside outside own_weight.swept is own_labels i fits
      bent c

  pub straight_uncut : (i e : ℕ) → i < length d.curves → (curve d i).kind ≡ kind.Straight → e < m
      → (owned d bays e).curve ≡ i → (owned d bays e).part ≡ whole → (lab.above e ≡ lab.below e → ⊥)
      → IsCut d i → ⊥
  straight_uncut i e fits straight le own part n c =
      n (straight_equal i e fits straight le own part c)

  pub arc_uncut : (i : ℕ) → i < length d.curves → (curve d i).kind ≡ kind.HalfArc
      → (inside i ≡ outside i → ⊥) → IsCut d i → ⊥
  arc_uncut i fits bent n c = n (arc_equal i fits bent c)

  pub all_uncut : ((e : ℕ) → e < m → (owned d bays e).part ≡ whole → lab.above e ≡ lab.below e → ⊥)
      → ((i : ℕ) → i < length d.curves → (curve d i).kind ≡ kind.HalfArc → inside i ≡ outside i → ⊥)
      → HasNoCut d
  all_uncut straights arcs i fits c = elim (decide_kind (curve d i).kind) [
    | inl s ↦ (let e = straight_edge d bays m E steps is i fits s in
        straight_uncut i e.0 fits s e.1 e.2 e.4 (straights e.0 e.1 e.4) c)
    | inr b ↦ arc_uncut i fits b (arcs i fits b) c
  ]

-- ---- with labels as fine as the faces, numbered as if the drawing had other points
module _ (d : Plan) (ps : List Placed) (i : ℕ) where
  abbrev other : Plan
  other = record d { points = ps }

  face_with : (p q : Vector) → OneFace other p q → OneFace d p q
  face_with p q (inl j) = inl (joined_with d ps p q j)
  face_with p q (inr o) = inr (outer_with d ps p o.0, outer_with d ps q o.1)

  face_without : (p q : Vector) → OneFace d p q → OneFace other p q
  face_without p q (inl j) = inl (joined_without d ps p q j)
  face_without p q (inr o) = inr (outer_without d ps p o.0, outer_without d ps q o.1)

  kind_with : (k : CurveKind) (p q : Vector) → CrossesKind k other i p q → CrossesKind k d i p q
  kind_with kind.Straight p q x = straights.crosses_with d ps (course (curve d i)) i p q x
  kind_with kind.HalfArc p q x = half_arcs.crosses_with d ps i p q x

  kind_without : (k : CurveKind) (p q : Vector) → CrossesKind k d i p q → CrossesKind k other i p q
  kind_without kind.Straight p q x = straights.crosses_without d ps (course (curve d i)) i p q x
  kind_without kind.HalfArc p q x = half_arcs.crosses_without d ps i p q x

  pub cut_with : IsCut other i → IsCut d i
  cut_with c = record {
    p = c.p;
    q = c.q;
    crossing = kind_with (curve d i).kind c.p c.q c.crossing;
    one = face_with c.p c.q c.one;
  }

  pub cut_without : IsCut d i → IsCut other i
  cut_without c = record {
    p = c.p;
    q = c.q;
    crossing = kind_without (curve d i).kind c.p c.q c.crossing;
    one = face_without c.p c.q c.one;
  }

module _ (v : ℤ) (d : Plan) (bays : ℕ → List Bay) (m : ℕ) (E : ℕ → Edge) (steps : List Step)
    (lab : Labels) (within : ℕ → Half) (inside outside : ℕ → ℕ)
    (is : IsTubedRun d bays m E steps)
    (L : AreTubeLabels d bays (replay v m E steps) lab within inside outside) (face : Half → ℕ)
    (faces : IsFaces (replay v m E steps) face)
    (fine : (g h : Half) → edge_of g < m → edge_of h < m → mark lab g ≡ mark lab h
    → face g ≡ face h) (none : (h : Half) → edge_of h < m → mark lab h ≡ 0 → face h ≡ 0) where
  own : RunWeight m E steps []
  own = run_weight m E steps [] is.run

  abbrev u : ℤ
  u = own.weight

  labels : AreTubeLabels d bays (replay u m E steps) lab within inside outside
  labels = labels_to v u d bays m E steps lab within inside outside L

  numbers : IsFaces (replay u m E steps) face
  numbers = faces_to v u m E steps face faces

  abbrev Named : Vector → ℕ → Type 0
  Named z l = HasLabel (replay u m E steps) lab (tubes d bays within inside outside) z l

  joined : (p q : Vector) (l : ℕ) → Place p → Place q → IsOff d p → Named p l → Named q l
      → Joined d p q
  joined p q l P Q off hp hq =
      (joined_is_label u d bays m E steps lab within inside outside own.swept is labels face numbers
      fine none p q l l P Q off hp hq).1 refl

  joined_back : (p q : Vector) (l : ℕ) → Place p → Place q → IsOff d q → Named p l → Named q l
      → Joined d q p
  joined_back p q l P Q off hp hq = joined q p l Q P off hq hp

  pub straight_is_cut : (i e : ℕ) → i < length d.curves → (curve d i).kind ≡ kind.Straight → e < m
      → (owned d bays e).curve ≡ i → (owned d bays e).part ≡ whole → lab.above e ≡ lab.below e
      → IsCut d i
  straight_is_cut i e fits straight le mine part one =
      let c = straight_crossed u d bays m E steps lab within inside outside own.swept is labels i
      fits straight e le mine part in
      let p = c.0 in
      let q = c.1 in
      let x = c.2 in
      let hp = subst (λ (l : ℕ). Named p l) one c.3.0 in
      let hq = c.3.1 in
      elim (from_edge u d bays m E steps lab within inside outside own.swept is labels i e le mine
      part p q x) [
        | inl y ↦ record {
          p = p;
          q = q;
          crossing = subst (λ (k : CurveKind). CrossesKind k d i p q) (sym straight) y;
          one = inl (joined p q (lab.below e) x.p_place x.q_place x.p_off hp hq);
        }
        | inr y ↦ record {
          p = q;
          q = p;
          crossing = subst (λ (k : CurveKind). CrossesKind k d i q p) (sym straight) y;
          one = inl (joined_back p q (lab.below e) x.p_place x.q_place x.q_off hp hq);
        }
      ]

  pub arc_is_cut : (i : ℕ) → i < length d.curves → (curve d i).kind ≡ kind.HalfArc
      → inside i ≡ outside i → IsCut d i
  arc_is_cut i fits bent one =
      let c = arc_crossed u d bays m E steps lab within inside outside own.swept is labels i fits
      bent in
      let x = c.2 in
      record {
        p = c.0;
        q = c.1;
        crossing = subst (λ (k : CurveKind). CrossesKind k d i c.0 c.1) (sym bent) x;
        one = inl (joined c.0 c.1 (outside i) x.p_place x.q_place x.p_off
            (subst (λ (l : ℕ). Named c.0 l) one c.3.0) c.3.1);
      }
