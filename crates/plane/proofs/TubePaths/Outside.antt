-- Segments in a tube that miss its half arc hit no curve; segments outside the tubes that hit no
-- edge hit no curve.
use Rattle.std.proofs.Common.{◌≡◌, ℕ, ◌<◌, ◌∷◌, inl, inr, refl, arith, sym, ◌∙◌, subst}
use Rattle.std.proofs.lemmas.Int.{ints}
use Rattle.plane.specs.Lists.{Has}
use Rattle.plane.specs.Forms.Vectors.{Vector, Place, Same, Between, point, On, HitsEdge}
use Rattle.plane.specs.Faces.Replays.{Replay}
use Rattle.plane.specs.Faces.Cells.{sector, IsFree}
use Rattle.plane.specs.Faces.Halves.{Half, edge_of, IsMatched}
use Rattle.plane.specs.Faces.Labels.{Labels}
use Rattle.plane.specs.Tubes.Windings.{tiles}
use Rattle.plane.specs.CurveRuns.Extended.{Tubes, InTubeAt, AtArcEnd, AreTubes, IsOnWay}
use Rattle.plane.specs.CurveRuns.Extended.{IsFreeOfCurves}
use Rattle.plane.proofs.Linear.Clear.{clear_start, on_same}
use Rattle.plane.proofs.Strips.ToTheRight.{off_start, off_end}
use Rattle.plane.proofs.Strips.OneStrip.{segment_linked}
use Rattle.plane.proofs.LabelLemmas.HalfLabels.{linked_label}
use Rattle.plane.proofs.Windings.TubeCells.{in_tube}
use Rattle.plane.proofs.Windings.Whole.{IsWhole}
use Rattle.plane.proofs.Windings.Enters.{look, look_below, decide_same, edge_outside, event_corner}
use Rattle.plane.proofs.Windings.CommonPlaces.{decide_number, common_place, in_some_same}
use Rattle.plane.proofs.Windings.Ways.{way_mix, way_place}

module _ (r : Replay) (whole : IsWhole r) (lab : Labels) (matched : IsMatched r lab) (T : Tubes)
    (Meets : ℕ → Vector → Vector → Type 0) (tubes : AreTubes r lab T Meets)
    -- a segment that hits a half arc has a place in its tube
    (cover : (c : ℕ) → c < T.count → (u v : Vector) → Place u → Place v → Meets c u v
    → (z : Vector) × IsOnWay u v z × InTubeAt T c z) where
  module _ (p q : Vector) (P : Place p) (Q : Place q) where
    between : (u v z : Vector) → IsOnWay p q u → IsOnWay p q v → IsOnWay u v z → IsOnWay p q z
    between u v z a b w =
        subst (λ (x : Vector). IsOnWay p q x) (sym w.is)
        (way_mix p q u v w.s w.t w.s_least w.t_least w.some a b)

    -- within tube c, off its half arc
    module _ (c : ℕ) (fits : c < T.count) (within : (z : Vector) → IsOnWay p q z → InTubeAt T c z)
        (misses : (u v : Vector) → IsOnWay p q u → IsOnWay p q v → Meets c u v → ⊥) where
      no_end : (z : Vector) → IsOnWay p q z → AtArcEnd T c z → ⊥
      no_end z w h = misses z z w w (tubes.ends c fits z (way_place p q z P Q w) h)

      own_edge : (z : Vector) → IsOnWay p q z → (e : ℕ) → e < r.edges → On r.weight (r.edge e) z
          → (h : Half) × Has h (T.halves c) × (edge_of h ≡ e)
      own_edge z w e l on =
          elim (look Half (λ h. edge_of h ≡ e) (T.halves c) (λ h. decide_number (edge_of h) e)) [
            | inl h ↦ h
            | inr n ↦ elim (look_below (λ j. Same z (point (r.step j).at)) r.steps
                (λ j. decide_same z (point (r.step j).at))) [
                  | inl s ↦ at_event s.0 s.1 s.2
                  | inr plain ↦ absurd
                      (edge_outside r whole lab matched (T.label c) (T.first c) (T.bay c) (T.bays c)
                      (T.halves c) (tubes.tube c fits) e z l (λ h m x. n (h, m, x)) Z
                      (λ j k s. plain (j, k, s)) on (within z w))
                ]
          ]
        where
          Z : Place z
          Z = way_place p q z P Q w

          at_event : (j : ℕ) → j < r.steps → Same z (point (r.step j).at)
              → (h : Half) × Has h (T.halves c) × (edge_of h ≡ e)
          at_event j k s =
              let corner = event_corner r whole lab matched (T.label c) (T.first c) (T.bay c)
              (T.bays c) (T.halves c) (tubes.tube c fits) j k
              (in_some_same (tiles (T.first c) (T.bay c ∷ T.bays c)) z (point (r.step j).at) Z s
              (within z w)) in
              elim ((tubes.clean c fits).clean j k corner) [
                | inl x ↦ absurd (no_end z w (inl (subst (λ v. Same z (point v)) x s)))
                | inr m ↦ elim m [
                  | inl x ↦ absurd (no_end z w (inr (subst (λ v. Same z (point v)) x s)))
                  | inr f ↦ f e l
                      (whole.event_end j k e l
                      (on_same r.weight (r.edge e) z (point (r.step j).at) s Z
                      (omega (arith, ints)) on))
                ]
              ]

      pub inside_free : IsFreeOfCurves r T Meets p q
      inside_free = record {
        straights = λ z w e l on. let h = own_edge z w e l on in (c, fits, h.0, h.1, h.2);
        arcs = λ d ld u v a b hit. elim (decide_number c d) [
          | inl x ↦ misses u v a b (subst (λ (n : ℕ). Meets n u v) (sym x) hit)
          | inr n ↦
              let i = cover d ld u v (way_place p q u P Q a) (way_place p q v P Q b) hit in
              let w = between u v i.0 a b i.1 in
              no_end i.0 w
              (common_place r whole lab matched (T.label c) (T.first c) (T.bay c) (T.bays c)
              (T.halves c) (T.label d) (T.first d) (T.bay d) (T.bays d) (T.halves d)
              (tubes.tube c fits) (tubes.tube d ld) (tubes.labels c d fits ld n)
              (tubes.apart c d fits ld n) (tubes.clean c fits) i.0 (way_place p q i.0 P Q w)
              (within i.0 w) i.2)
        ];
      }

    -- off the edges, from a place in no tube
    pub outside_free : IsFree r p q → ((c : ℕ) → c < T.count → InTubeAt T c p → ⊥)
        → IsFreeOfCurves r T Meets p q
    outside_free free none = record {
      straights = λ z w e l on. absurd (free e l (hit z w e on));
      arcs = λ c l u v a b meets.
          let i = cover c l u v (way_place p q u P Q a) (way_place p q v P Q b) meets in
          let w = between u v i.0 a b i.1 in
          let Z = way_place p q i.0 P Q w in
          let part : IsFree r p i.0 = λ e k. subst (λ (x : Vector). HitsEdge r.weight p x (r.edge e)
          → ⊥) (sym w.is)
          (clear_start r.weight (r.edge e) p q P Q w.s w.t w.s_least w.t_least w.some
          (free e k)) in
          let t = tubes.tube c l in
          let label = linked_label r whole.run whole.law lab matched (sector r p) (sector r i.0)
          (segment_linked r whole.run whole.law p i.0 P Z part) in
          let at_z = (in_tube r whole.run whole.law whole.once lab matched (T.label c) (T.first c)
          (T.bay c) (T.bays c) (T.halves c) t i.0 Z (off_end r p i.0 P Z part)).0 i.2 in
          none c l ((in_tube r whole.run whole.law whole.once lab matched (T.label c) (T.first c)
          (T.bay c) (T.bays c) (T.halves c) t p P (off_start r p i.0 P part)).1 (label ∙ at_z));
    }
      where
        hit : (z : Vector) → IsOnWay p q z → (e : ℕ) → On r.weight (r.edge e) z
            → HitsEdge r.weight p q (r.edge e)
        hit z w e on = record {
          z = z;
          place = way_place p q z P Q w;
          between = subst (λ (x : Vector). Between x p q) (sym w.is) (record {
            s = w.s;
            t = w.t;
            s_least = w.s_least;
            t_least = w.t_least;
            some = w.some;
            is = record { x = refl; y = refl };
          });
          on = on;
        }
