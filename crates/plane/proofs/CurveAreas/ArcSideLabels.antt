-- The ends of every segment that crosses a half arc have the labels outside the inner and outside
-- the outer chain of its tube.
use Rattle.std.proofs.Common.{◌≡◌, ℕ, ◌<◌, List, [], ◌∷◌, length, ℤ, pos, ◌<ℤ◌, ◌⊎◌, inl, inr, refl}
use Rattle.std.proofs.Common.{ap, sym, ◌∙◌, subst}
use Rattle.plane.specs.declared.kinds.Point.{Point}
use Rattle.plane.specs.declared.kinds.CurveKind.TheVariants as kind
use Rattle.plane.specs.Forms.Vectors.{Vector, Place, Same, point, Edge, On}
use Rattle.plane.specs.Forms.Meets.{IsEnd}
use Rattle.plane.specs.Rule.HalfArcs.{HalfArc, power, HitsHalfArc}
use Rattle.plane.specs.Tubes.Caps.{IsCap, cap}
use Rattle.plane.specs.Rule.Curves.{arc}
use Rattle.plane.specs.Rule.Plans.{Plan, curve}
use Rattle.plane.specs.Rule.CrossedCurves.{CrossesHalfArc}
use Rattle.plane.specs.Runs.Steps.{Step, WeighedRun}
use Rattle.plane.specs.Faces.Replays.{Replay, replay}
use Rattle.plane.specs.Faces.Halves.{Half, edge_of}
use Rattle.plane.specs.Faces.Labels.{Labels}
use Rattle.plane.specs.Tubes.Bays.{Bay, IsTube, AtEnds}
use Rattle.plane.specs.Tubes.Bays as one
use Rattle.plane.specs.CurveRuns.Extended.{Tubes, InTubeAt, AtArcEnd, AreTubes, HasLabel, IsOnWay}
use Rattle.plane.specs.CurveRuns.Extended.{IsFreeOfCurves}
use Rattle.plane.specs.CurveRuns.TubedRuns.{owned, IsTubedRun, AreTubeLabels, arc_at, tube_label}
use Rattle.plane.specs.CurveRuns.TubedRuns.{tubes, MeetsArc}
use Rattle.plane.proofs.FaceLemmas.Drawn.{hits_curve}
use Rattle.plane.proofs.Windings.CommonPlaces.{decide_number}
use Rattle.plane.proofs.Windings.Ways.{way_mix, way_start, way_end, way_place}
use Rattle.plane.proofs.Windings.Whole.{IsWhole, swept_whole}
use Rattle.plane.proofs.TubePaths.Bounding.{wall_in}
use Rattle.plane.proofs.Windings.Touching.{low_on, high_on}
use Rattle.plane.proofs.Covers.CurvePlaces.{hits_alone}
use Rattle.plane.proofs.HalfArcs.ArcHits.{hits_arc}
use Rattle.plane.proofs.HalfArcs.Misses.{inside_misses}
use Rattle.plane.proofs.OneTube.TubeStrips.{tube_cap}
use Rattle.plane.proofs.TubedRuns.OwnedEdges.{owner_is}
use Rattle.plane.proofs.TubedRuns.ArcEdges.{at_ends}
use Rattle.plane.proofs.TubedRuns.RunTubes.{are_tubes, arc_fits, arc_bent, edge_in_tube, tube_owner}
use Rattle.plane.proofs.TubedRuns.RunTubes.{tube_places}
use Rattle.plane.proofs.TubedRuns.TubedCurves.{way_between, part_hits, tube_of, hits_bent}
use Rattle.plane.proofs.TubedRuns.TubedOff.{in_its_tube}
use Rattle.plane.proofs.TubedRuns.TubedLabels.{off_label}
use Rattle.plane.proofs.TubePaths.Extended.{label_kept}
use Rattle.plane.proofs.HalfArcs.AfterArcs.{after_misses}
use Rattle.plane.proofs.HalfArcs.ArcEntries.{IsInnerEntry, IsOuterEntry, IsThroughEnd, inner_entry}
use Rattle.plane.proofs.HalfArcs.ArcEntries.{outer_entry}
use Rattle.plane.proofs.TubePaths.LoneTubeEnds.{lone_end}
use Rattle.plane.proofs.TubePaths.ThroughEnds.{IsFreeBut, one_tube, label_there}
use Rattle.plane.proofs.Covers.CurvePlaces.{no_kind}

-- a part of a segment
pub part_way : (p q a b z : Vector) → IsOnWay p q a → IsOnWay p q b → IsOnWay a b z → IsOnWay p q z
part_way p q a b z wa wb w =
    subst (λ (v : Vector). IsOnWay p q v) (sym w.is)
    (way_mix p q a b w.s w.t w.s_least w.t_least w.some wa wb)

module _ (w : ℤ) (d : Plan) (bays : ℕ → List Bay) (m : ℕ) (E : ℕ → Edge) (steps : List Step)
    (lab : Labels) (within : ℕ → Half) (inside outside : ℕ → ℕ)
    (swept : WeighedRun w m E steps) (is : IsTubedRun d bays m E steps)
    (L : AreTubeLabels d bays (replay w m E steps) lab within inside outside)
    (i : ℕ) (l : i < length d.curves) (bent : (curve d i).kind ≡ kind.HalfArc) (p q : Vector)
    (x : CrossesHalfArc d i p q) where
  abbrev r : Replay
  r = replay w m E steps

  abbrev T : Tubes
  T = tubes d bays within inside outside

  abbrev h : HalfArc
  h = arc (curve d i)

  whole : IsWhole r
  whole = swept_whole w m E steps swept

  all : AreTubes r lab T (MeetsArc d)
  all = are_tubes w d bays m E steps lab within inside outside swept is L

  P : Place p
  P = x.p_place

  Q : Place q
  Q = x.q_place

  t : IsTube h (bays i)
  t = is.tube i l bent

  hc : IsCap (cap h)
  hc = tube_cap h (bays i) t

  tube : (c : ℕ) × (c < T.count) × (arc_at d c ≡ i)
  tube = tube_of w d bays m E steps lab within inside outside swept is L i l bent

  abbrev c : ℕ
  c = tube.0

  lc : c < T.count
  lc = tube.1

  fits : (e : ℕ) → e < T.count → arc_at d e < length d.curves
  fits e k = arc_fits w d bays m E steps lab within inside outside swept is L e k

  bends : (e : ℕ) → e < T.count → (curve d (arc_at d e)).kind ≡ kind.HalfArc
  bends e k = arc_bent w d bays m E steps lab within inside outside swept is L e k

  -- ---- the segment hits no curve but the half arc
  free_but : IsFreeBut r T (MeetsArc d) c p q
  free_but = record {
    straights = λ z a e k on. elim (owner_is d bays m E steps is e k) [
      | inl s ↦ absurd
          (x.clear s.index s.fits
          (λ j. no_kind (curve d i).kind
          (subst (λ (n : ℕ). (curve d n).kind ≡ kind.Straight) j s.straight) bent)
          (hits_curve w (E e) (curve d s.index) p q s.edge s.straight (swept.rises e k) P Q
          (record {
            z = z;
            place = way_place p q z P Q a;
            between = way_between p q z a;
            on = on;
          })))
      | inr b ↦
          let y = tube_of w d bays m E steps lab within inside outside swept is L b.index b.fits
          b.bent in
          let g = edge_in_tube w d bays m E steps lab within inside outside swept is L y.0 y.1 e k
          (b.number ∙ sym y.2) in
          (y.0, y.1, within e, g.0, g.1)
    ];
    arcs = λ e k n u v a b hit. x.clear (arc_at d e) (fits e k)
        (λ j. all.labels e c k lc n (ap (tube_label d) (j ∙ sym tube.2)))
        (hits_bent w d bays m E steps lab within inside outside swept is L (arc_at d e) p q
        (bends e k) (part_hits (arc (curve d (arc_at d e))) p q u v P Q a b hit));
  }

  part_free : (a b : Vector) → IsOnWay p q a → IsOnWay p q b → IsFreeBut r T (MeetsArc d) c a b
  part_free a b wa wb = record {
    straights = λ z k. free_but.straights z (part_way p q a b z wa wb k);
    arcs = λ e k n u v ku kv. free_but.arcs e k n u v (part_way p q a b u wa wb ku)
        (part_way p q a b v wa wb kv);
  }

  -- a part of it that does not hit the half arc hits no curve
  clear_free : (a b : Vector) → Place a → Place b → IsOnWay p q a → IsOnWay p q b
      → (HitsHalfArc h a b → ⊥) → IsFreeOfCurves r T (MeetsArc d) a b
  clear_free a b A B wa wb misses = record {
    straights = (part_free a b wa wb).straights;
    arcs = λ e k u v ku kv hit. elim (decide_number e c) [
      | inr n ↦ (part_free a b wa wb).arcs e k n u v ku kv hit
      | inl own ↦ misses
          (part_hits h a b u v A B ku kv
          (subst (λ (n : ℕ). HitsHalfArc (arc (curve d n)) u v) (ap (λ (n : ℕ). arc_at d n) own
          ∙ tube.2) hit))
    ];
  }

  clear_label : (a b : Vector) → Place a → Place b → IsOnWay p q a → IsOnWay p q b
      → (HitsHalfArc h a b → ⊥) → (k n : ℕ) → HasLabel r lab T a k → HasLabel r lab T b n → k ≡ n
  clear_label a b A B wa wb misses =
      label_kept r whole lab L.matched T (MeetsArc d) all a b A B (clear_free a b A B wa wb misses)

  -- ---- the places where it enters the tube, on each side
  abbrev Entries : List Bay → Type 0
  Entries bs =
      (((y : Vector) × IsInnerEntry h bs p q y) ⊎ ((y : Vector) × IsThroughEnd h p q y))
      × (((y : Vector) × IsOuterEntry h bs p q y) ⊎ ((y : Vector) × IsThroughEnd h p q y))

  entries : Entries (bays i)
  entries = by_bays (bays i) t
    where
      by_bays : (bs : List Bay) → IsTube h bs → Entries bs
      by_bays [] k = absurd k.some
      by_bays (b ∷ rest) k = (
        inner_entry h b rest k p q P Q x.p_away x.q_away x.inside x.outside,
        outer_entry h b rest k p q P Q x.p_away x.q_away x.inside x.outside,
      )

  in_tube : (z : Vector) → one.InTube h.from (bays i) z → InTubeAt T c z
  in_tube z k =
      (tube_places w d bays m E steps lab within inside outside swept is L c lc z).1
      (subst (λ (j : ℕ). one.InTube (curve d j).from (bays j) z) (sym tube.2) k)

  place : (y : Vector) → IsOnWay p q y → Place y
  place y k = way_place p q y P Q k

  inner_told : (y : Vector) → IsInnerEntry h (bays i) p q y → (k : ℕ) → HasLabel r lab T p k
      → k ≡ inside i
  inner_told y e k hp =
      clear_label p y P (place y e.way) (way_start p q) e.way
      (λ hit. inside_misses h p y hc P (place y e.way) x.inside e.inside
      (hits_arc h p y P (place y e.way) hit)) k (inside i) hp
      (inl (
        c,
        lc,
        in_tube y e.there,
        inl (
          subst (λ (j : ℕ). power (arc (curve d j)) y <ℤ pos 0) (sym tube.2) e.inside,
          ap inside (sym tube.2),
        ),
      ))

  outer_told : (y : Vector) → IsOuterEntry h (bays i) p q y → (k : ℕ) → HasLabel r lab T q k
      → k ≡ outside i
  outer_told y e k hq =
      sym (clear_label y q (place y e.way) Q e.way (way_end p q)
      (λ hit. after_misses h p q y hc P Q e.way x.inside e.outside
      (hits_arc h y q (place y e.way) Q hit)) (outside i) k
      (inl (
        c,
        lc,
        in_tube y e.there,
        inr (
          subst (λ (j : ℕ). pos 0 <ℤ power (arc (curve d j)) y) (sym tube.2) e.outside,
          ap outside (sym tube.2),
        ),
      )) hq)

  -- ---- through an end of the half arc, at which no other curve ends
  module _ (y : Vector) (e : IsThroughEnd h p q y) where
    Y : Place y
    Y = place y e.way

    at_end : AtArcEnd T c y
    at_end = at_ends d bays m E steps is (arc_at d c) (fits c lc) (bends c lc)
        (λ v. Same y (point v)) (subst (λ (j : ℕ). AtEnds (arc (curve d j)) y) (sym tube.2) e.end)

    there : InTubeAt T c y
    there =
        let hit = hits_bent w d bays m E steps lab within inside outside swept is L (arc_at d c) y y
        (bends c lc) (all.ends c lc y Y at_end) in
        let k = in_its_tube w d bays m E steps lab within inside outside swept is L y Y (arc_at d c)
        (fits c lc) (bends c lc) ((hits_alone (curve d (arc_at d c)) y Y).0 hit) in
        elim (decide_number k.0 c) [
          | inl own ↦ subst (λ (n : ℕ). InTubeAt T n y) own k.3
          | inr n ↦ absurd (all.labels k.0 c k.1 lc n (ap (tube_label d) k.2))
        ]

    lone : (v : Point) → Same y (point v) → (f : ℕ) → f < m → IsEnd (E f) v
        → (owned d bays f).curve ≡ i
    lone v same f k end =
        let s = free_but.straights y e.way f k (on_end end) in
        let on = subst (λ (n : ℕ). On w (E n) y) (sym s.4) (on_end end) in
        let up = swept.rises (edge_of s.2) (subst (λ (n : ℕ). n < m) (sym s.4) k) in
        let in_other = wall_in r lab (T.label s.0) (T.first s.0) (T.bay s.0) (T.bays s.0)
        (T.halves s.0) (all.tube s.0 s.1) s.2 s.3 y Y up on in
        let own = one_tube r whole lab L.matched T
        (MeetsArc d) all c lc p q P Q free_but s.0 c y s.1 lc e.way in_other there in
        sym (ap (λ (n : ℕ). (owned d bays n).curve) s.4)
        ∙ tube_owner w d bays m E steps lab within inside outside swept is L s.0 s.1 s.2 s.3
        ∙ ap (λ (n : ℕ). arc_at d n) own ∙ tube.2
      where
        on_end : IsEnd (E f) v → On w (E f) y
        on_end (inl q) =
            low_on w (E f) y (swept.rises f k) Y
            (subst (λ (z : Point). Same y (point z)) (sym q) same)
        on_end (inr q) =
            high_on w (E f) y (swept.rises f k) Y
            (subst (λ (z : Point). Same y (point z)) (sym q) same)

    one_side : inside i ≡ outside i
    one_side = elim e.end [
      | inl s ↦ lone_end w d bays m E steps lab within inside outside swept is L i l bent h.from
          (lone h.from s) (inl refl)
      | inr s ↦ lone_end w d bays m E steps lab within inside outside swept is L i l bent h.to
          (lone h.to s) (inr refl)
    ]

    equal : T.inner c ≡ T.outer c
    equal = ap inside tube.2 ∙ one_side ∙ sym (ap outside tube.2)

    end_told : (a : Vector) → Place a → IsOnWay p q a → (k : ℕ) → HasLabel r lab T a k
        → k ≡ inside i
    end_told a A wa k ha =
        label_there r whole lab L.matched T (MeetsArc d) all c lc equal a y A Y
        (part_free a y wa e.way) k there ha ∙ ap inside tube.2

  -- ---- both ends
  p_told : (k : ℕ) → HasLabel r lab T p k → k ≡ inside i
  p_told k hp =
      elim entries.0 [
        | inl y ↦ inner_told y.0 y.1 k hp
        | inr y ↦ end_told y.0 y.1 p P (way_start p q) k hp
      ]

  q_told : (k : ℕ) → HasLabel r lab T q k → k ≡ outside i
  q_told k hq =
      elim entries.1 [
        | inl y ↦ outer_told y.0 y.1 k hq
        | inr y ↦ end_told y.0 y.1 q Q (way_end p q) k hq ∙ one_side y.0 y.1
      ]

  pub inner_end : HasLabel r lab T p (inside i)
  inner_end =
      let k = off_label w d bays m E steps lab within inside outside swept is L p P x.p_off in
      subst (λ (n : ℕ). HasLabel r lab T p n) (p_told k.0 k.1) k.1

  pub outer_end : HasLabel r lab T q (outside i)
  outer_end =
      let k = off_label w d bays m E steps lab within inside outside swept is L q Q x.q_off in
      subst (λ (n : ℕ). HasLabel r lab T q n) (q_told k.0 k.1) k.1
