-- In a drawing with half arcs and a run over its edge list, every two curves are apart.
use Rattle.std.proofs.Common.{◌≡◌, ℕ, ◌<◌, List, [], ◌∷◌, length, ℤ, inl, inr, ap, sym, ◌∙◌, subst}
use Rattle.plane.specs.declared.kinds.Point.{Point}
use Rattle.plane.specs.declared.kinds.Curve.{Curve}
use Rattle.plane.specs.declared.kinds.CurveKind.{CurveKind}
use Rattle.plane.specs.declared.kinds.CurveKind.TheVariants as kind
use Rattle.plane.specs.Lists.{Has}
use Rattle.plane.specs.Forms.Vectors.{Vector, Place, Same, point, Edge, On}
use Rattle.plane.specs.Forms.Segments.{IsEdgeOf}
use Rattle.plane.specs.Forms.Meets.{IsEnd}
use Rattle.plane.specs.Rule.Curves.{IsOnKind, IsControl}
use Rattle.plane.specs.Rule.Triangles.{Apart, InSome}
use Rattle.plane.specs.Rule.Plans.{Plan, curve}
use Rattle.plane.specs.Runs.Steps.{Step, WeighedRun}
use Rattle.plane.specs.Faces.Replays.{Replay, replay}
use Rattle.plane.specs.Faces.Halves.{Half, edge_of}
use Rattle.plane.specs.Faces.Labels.{Labels}
use Rattle.plane.specs.Tubes.Bays.{Bay}
use Rattle.plane.specs.Tubes.Bays as one
use Rattle.plane.specs.Tubes.Windings.{tiles}
use Rattle.plane.specs.CurveRuns.Extended.{Tubes, InTubeAt, AtArcEnd, AreTubes}
use Rattle.plane.specs.CurveRuns.TubedRuns.{owned, IsTubedRun, AreTubeLabels, arc_at, tubes}
use Rattle.plane.specs.CurveRuns.TubedRuns.{MeetsArc}
use Rattle.plane.proofs.Covers.CurveEdges.{controls_from}
use Rattle.plane.proofs.Covers.StraightCovers.{flat, in_flat, flat_covers, straights_apart_is}
use Rattle.plane.proofs.FaceLemmas.Drawn.{on_edge}
use Rattle.plane.proofs.Linear.Clear.{on_same}
use Rattle.plane.proofs.Runs.Meeting.{meet_in_ends}
use Rattle.plane.proofs.Windings.Whole.{IsWhole, swept_whole}
use Rattle.plane.proofs.Windings.Enters.{look_below, decide_same, edge_outside, event_corner}
use Rattle.plane.proofs.Windings.CommonPlaces.{common_place, in_some_same}
use Rattle.plane.proofs.Linear.EdgePlaces.{place_point}
use Rattle.plane.proofs.TubedRuns.HalfArcLists.{decide_kind}
use Rattle.plane.proofs.TubedRuns.OwnedEdges.{straight_edge}
use Rattle.plane.proofs.TubedRuns.RunTubes.{are_tubes, arc_end, tube_owner, tube_places}
use Rattle.plane.proofs.TubedRuns.TubedCurves.{tube_of}
use Rattle.plane.proofs.OneTube.TubeCovers.{triangles, triangle_places, triangles_cover}

apart_back : (c d : Curve) → Apart c d → Apart d c
apart_back c d a = record {
  first = a.second;
  second = a.first;
  first_covers = a.second_covers;
  second_covers = a.first_covers;
  apart = λ z Z x y. let k = a.apart z Z y x in (k.1, k.0);
}

-- an end of the edge of a straight is a control point
end_control : (e : Edge) (c : Curve) (p : Point) (z : Vector) → IsEdgeOf e c → IsEnd e p
    → Same z (point p) → IsControl c z
end_control e c p z (inl h) (inl k) s =
    inl (subst (λ (x : Point). Same z (point x)) (sym k ∙ h.0) s)
end_control e c p z (inl h) (inr k) s =
    inr (subst (λ (x : Point). Same z (point x)) (sym k ∙ h.1) s)
end_control e c p z (inr h) (inl k) s =
    inr (subst (λ (x : Point). Same z (point x)) (sym k ∙ h.0) s)
end_control e c p z (inr h) (inr k) s =
    inl (subst (λ (x : Point). Same z (point x)) (sym k ∙ h.1) s)

module _ (w : ℤ) (d : Plan) (bays : ℕ → List Bay) (m : ℕ) (E : ℕ → Edge) (steps : List Step)
    (lab : Labels) (within : ℕ → Half) (inside outside : ℕ → ℕ)
    (swept : WeighedRun w m E steps) (is : IsTubedRun d bays m E steps)
    (L : AreTubeLabels d bays (replay w m E steps) lab within inside outside) where
  abbrev r : Replay
  r = replay w m E steps

  abbrev T : Tubes
  T = tubes d bays within inside outside

  whole : IsWhole r
  whole = swept_whole w m E steps swept

  all : AreTubes r lab T (MeetsArc d)
  all = are_tubes w d bays m E steps lab within inside outside swept is L

  -- a place in the triangles of a half arc is in its tube
  to_tube : (i c : ℕ) → c < T.count → arc_at d c ≡ i → (z : Vector)
      → InSome (triangles (curve d i).from (bays i)) z → InTubeAt T c z
  to_tube i c l e z h =
      (tube_places w d bays m E steps lab within inside outside swept is L c l z).1
      (subst (λ (j : ℕ). one.InTube (curve d j).from (bays j) z) (sym e)
      ((triangle_places (curve d i).from (bays i) z).0 h))

  end_of : (i c : ℕ) → c < T.count → arc_at d c ≡ i → (z : Vector) → AtArcEnd T c z
      → IsControl (curve d i) z
  end_of i c l e z h =
      subst (λ (j : ℕ). IsControl (curve d j) z) e
      (arc_end w d bays m E steps lab within inside outside swept is L c l z h)

  -- ---- two straights
  two_straights : (i j : ℕ) → i < length d.curves → j < length d.curves → (i ≡ j → ⊥)
      → (curve d i).kind ≡ kind.Straight → (curve d j).kind ≡ kind.Straight
      → Apart (curve d i) (curve d j)
  two_straights i j li lj n ei ej =
      let x = straight_edge d bays m E steps is i li ei in
      let y = straight_edge d bays m E steps is j lj ej in
      (straights_apart_is (curve d i) (curve d j) ei ej).1 (λ z Z a b.
      controls_from (E x.0) (E y.0) (curve d i) (curve d j) z x.3 y.3
      (meet_in_ends w m E steps z x.0 y.0 swept x.1 y.1
      (λ q. n (sym x.2 ∙ ap (λ (k : ℕ). (owned d bays k).curve) q ∙ y.2)) Z
      (on_edge w (E x.0) (curve d i) z x.3 ei (swept.rises x.0 x.1) Z a)
      (on_edge w (E y.0) (curve d j) z y.3 ej (swept.rises y.0 y.1) Z b)))

  -- ---- a straight and a half arc
  module _ (i j : ℕ) (li : i < length d.curves) (lj : j < length d.curves) (n : i ≡ j → ⊥)
      (ei : (curve d i).kind ≡ kind.Straight) (ej : (curve d j).kind ≡ kind.HalfArc) where
    pub straight_arc : (x c : ℕ) → x < m → (owned d bays x).curve ≡ i → IsEdgeOf (E x) (curve d i)
        → c < T.count → arc_at d c ≡ j → (z : Vector) → Place z → On w (E x) z → InTubeAt T c z
        → IsControl (curve d i) z × IsControl (curve d j) z
    straight_arc x c lx ox edge lc at_c z Z on in_c =
        elim (look_below (λ k. Same z (point (r.step k).at)) r.steps
        (λ k. decide_same z (point (r.step k).at))) [
          | inr none ↦ absurd
              (edge_outside r whole lab L.matched (T.label c) (T.first c) (T.bay c) (T.bays c)
              (T.halves c) (all.tube c lc) x z lx not_its Z (λ k l s. none (k, l, s)) on in_c)
          | inl s ↦
              let v = (r.step s.0).at in
              let end = whole.event_end s.0 s.1 x lx
              (on_same w (E x) z (point v) s.2 Z (place_point v) on) in
              let corner = event_corner r whole lab L.matched (T.label c) (T.first c) (T.bay c)
              (T.bays c) (T.halves c) (all.tube c lc) s.0 s.1
              (in_some_same (tiles (T.first c) (T.bay c ∷ T.bays c)) z (point v) Z s.2 in_c) in (
                end_control (E x) (curve d i) v z edge end s.2,
                elim ((all.clean c lc).clean s.0 s.1 corner) [
                  | inl e ↦ end_of j c lc at_c z
                      (inl (subst (λ (p : Point). Same z (point p)) e s.2))
                  | inr rest ↦ elim rest [
                    | inl e ↦ end_of j c lc at_c z
                        (inr (subst (λ (p : Point). Same z (point p)) e s.2))
                    | inr f ↦ let h = f x lx end in absurd (not_its h.0 h.1 h.2)
                  ]
                ],
              )
        ]
      where
        not_its : (h : Half) → Has h (T.halves c) → edge_of h ≡ x → ⊥
        not_its h k e =
            n (sym ox ∙ ap (λ (y : ℕ). (owned d bays y).curve) (sym e)
            ∙ tube_owner w d bays m E steps lab within inside outside swept is L c lc h k ∙ at_c)

    straight_and_arc : Apart (curve d i) (curve d j)
    straight_and_arc =
        let x = straight_edge d bays m E steps is i li ei in
        let c = tube_of w d bays m E steps lab within inside outside swept is L j lj ej in
        record {
          first = flat (curve d i) ∷ [];
          second = triangles (curve d j).from (bays j);
          first_covers = flat_covers (curve d i) ei;
          second_covers = triangles_cover (curve d j) (bays j) ej (is.tube j lj ej);
          apart = λ z Z a b.
              let on = on_edge w (E x.0) (curve d i) z x.3 ei (swept.rises x.0 x.1) Z
              (subst (λ (k : CurveKind). IsOnKind k (curve d i) z) (sym ei)
              (in_flat (curve d i) z Z a)) in
              straight_arc x.0 c.0 x.1 x.2 x.3 c.1 c.2 z Z on (to_tube j c.0 c.1 c.2 z b);
        }

  -- ---- two half arcs
  pub one_end : (i c e : ℕ) → c < T.count → e < T.count → (c ≡ e → ⊥) → arc_at d c ≡ i
      → (z : Vector) → Place z → InTubeAt T c z → InTubeAt T e z → IsControl (curve d i) z
  one_end i c e lc le n q z Z hc he = end_of i c lc q z
      (common_place r whole lab L.matched (T.label c) (T.first c) (T.bay c) (T.bays c) (T.halves c)
      (T.label e) (T.first e) (T.bay e) (T.bays e) (T.halves e)
      (all.tube c lc) (all.tube e le) (all.labels c e lc le n) (all.apart c e lc le n)
      (all.clean c lc) z Z hc he)

  two_arcs : (i j : ℕ) → i < length d.curves → j < length d.curves → (i ≡ j → ⊥)
      → (curve d i).kind ≡ kind.HalfArc → (curve d j).kind ≡ kind.HalfArc
      → Apart (curve d i) (curve d j)
  two_arcs i j li lj n ei ej =
      let c = tube_of w d bays m E steps lab within inside outside swept is L i li ei in
      let e = tube_of w d bays m E steps lab within inside outside swept is L j lj ej in
      let differ : c.0 ≡ e.0 → ⊥ = λ q. n (sym c.2 ∙ ap (λ (k : ℕ). arc_at d k) q ∙ e.2) in
      record {
        first = triangles (curve d i).from (bays i);
        second = triangles (curve d j).from (bays j);
        first_covers = triangles_cover (curve d i) (bays i) ei (is.tube i li ei);
        second_covers = triangles_cover (curve d j) (bays j) ej (is.tube j lj ej);
        apart = λ z Z a b.
            let hc = to_tube i c.0 c.1 c.2 z a in
            let he = to_tube j e.0 e.1 e.2 z b in (
              one_end i c.0 e.0 c.1 e.1 differ c.2 z Z hc he,
              one_end j e.0 c.0 e.1 c.1 (λ q. differ (sym q)) e.2 z Z he hc,
            );
      }

  pub curves_apart : (i j : ℕ) → i < length d.curves → j < length d.curves → (i ≡ j → ⊥)
      → Apart (curve d i) (curve d j)
  curves_apart i j li lj n = elim (decide_kind (curve d i).kind) [
    | inl ei ↦ elim (decide_kind (curve d j).kind) [
      | inl ej ↦ two_straights i j li lj n ei ej
      | inr ej ↦ straight_and_arc i j li lj n ei ej
    ]
    | inr ei ↦ elim (decide_kind (curve d j).kind) [
      | inl ej ↦ apart_back (curve d j) (curve d i)
          (straight_and_arc j i lj li (λ q. n (sym q)) ej ei)
      | inr ej ↦ two_arcs i j li lj n ei ej
    ]
  ]
