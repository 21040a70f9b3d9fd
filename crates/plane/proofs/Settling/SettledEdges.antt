-- In a settled drawing no place of an edge but its ends is in a tube that is not the edge's own.
use Rattle.std.proofs.Common.{◌≡◌, ℕ, ◌<◌, ◌⊎◌, inl, inr, List, [], ◌∷◌, ℤ, pos, ◌+ℤ◌, ◌*ℤ◌, ◌-ℤ◌}
use Rattle.std.proofs.Common.{◌<ℤ◌, ◌≤ℤ◌, refl, arith, ap, sym, ◌∙◌, subst}
use Rattle.std.proofs.lemmas.Int.{ints, by_lt_z}
use Rattle.plane.specs.declared.kinds.Point.{Point}
use Rattle.plane.specs.declared.kinds.Curve.{Curve}
use Rattle.plane.specs.Lists.{Each, Has}
use Rattle.plane.specs.Forms.Vectors.{Vector, Place, Same, Between, mix, point, Edge, side, sweep}
use Rattle.plane.specs.Forms.Vectors.{rise, lift, On}
use Rattle.plane.specs.Forms.Meets.{IsEnd}
use Rattle.plane.specs.Forms.Arcs.{HalfArc, chord, along, bow}
use Rattle.plane.specs.Rule.Curves.{arc}
use Rattle.plane.specs.Rule.Plans.{Plan, curve, IsStraight, IsHalfArc}
use Rattle.plane.specs.Rule.BadPairs.{IsEndOf, HaveSameEnds}
use Rattle.plane.specs.Forms.Segments.{IsEdgeOf}
use Rattle.plane.specs.Runs.Steps.{Step, WeighedRun}
use Rattle.plane.specs.Faces.Replays.{Replay, replay}
use Rattle.plane.specs.Faces.Halves.{Half, edge_of}
use Rattle.plane.specs.Tubes.Bays.{Bay}
use Rattle.plane.specs.Tubes.Windings.{arrow, Tile, InTile, InSomeTile, IsLeftTile, IsTiled, tiles}
use Rattle.plane.specs.Tubes.Windings.{bounds, IsCornerOf}
use Rattle.plane.specs.Tubes.Facing.{way}
use Rattle.plane.specs.CurveRuns.Extended.{IsOnWay}
use Rattle.plane.proofs.Settling.EdgesAndTubes.{DrawnTube, tiles_of, EdgeList, IsEdgeList}
use Rattle.plane.proofs.Settling.EdgesSettled.{IsSettled}
use Rattle.plane.proofs.Linear.EdgePlaces.{place_point}
use Rattle.plane.proofs.Algebra.Laws.{weight_at_most}
use Rattle.plane.proofs.Algebra.Ring.{at, plus, minus, times, vars, ring}
use Rattle.plane.proofs.ListLemmas.Lists.{each_from}
use Rattle.plane.proofs.Linear.Vectors.{side-low, side-high, side-mix, sweep-mix, rise-is}
use Rattle.plane.proofs.Linear.Signs.{by_sign, mix_in_span, on_between, between_back}
use Rattle.plane.proofs.Runs.Order.{higher_side, lower_side}
use Rattle.plane.proofs.Runs.Meeting.{same_place, same_sweep, meet_in_ends}
use Rattle.plane.proofs.Windings.Ways.{way_place}
use Rattle.plane.proofs.OneTube.ArcTubes.{tiles_left, tiles_in_tube}
use Rattle.plane.proofs.Windings.Limits.{decide_in_some}
use Rattle.plane.proofs.Windings.Enters.{high_same}
use Rattle.plane.proofs.Windings.TubeCells.{from_map, way_on}
use Rattle.plane.proofs.Windings.Whole.{IsWhole, swept_whole}
use Rattle.plane.proofs.HalfArcs.Turned.{bow_one}
use Rattle.plane.proofs.Windings.TileCorners.{AtArrow, arrow_end, tile_corners, corner_edge}
use Rattle.plane.proofs.Windings.TileCorners.{edge_arrow}
use Rattle.plane.proofs.Windings.SteepTiles.{tiled}
use Rattle.plane.proofs.OneTube.TubeExits.{kept_in}
use Rattle.plane.proofs.OneTube.BoundSides.{IsSideOf, bound_side, column_low}
use Rattle.plane.proofs.OneTube.HighChords.{StandsHigh, high_chord_out, bound_middle}
use Rattle.plane.proofs.ListLemmas.Lists.{has_map}
use Rattle.plane.proofs.Algebra.Scaling.{cancel_zero}
use Rattle.plane.proofs.Caps.Seen.{seen-mix, seen_same}
use Rattle.plane.proofs.Caps.Pictures.{along-from, along-to, bow-from, bow-to}
use Rattle.plane.proofs.OneTube.TubeStrips.{tube_cap, tube_rest}
use Rattle.plane.proofs.OneTube.TubeEdges.{at_end}
use Rattle.plane.proofs.OneTube.Chords.{inner_after}
use Rattle.plane.proofs.Settling.DrawnTubes.{either_kind, arc_ends, ends_arc, tip_is, moved}
use Rattle.plane.proofs.Settling.DrawnTubes.{between_arc}

-- ---- places of an edge
pub low_same : (w : ℤ) (e : Edge) (z : Vector) → pos 0 <ℤ rise w e → Place z → side e z ≡ pos 0
    → sweep w z ≡ sweep w (point e.low) *ℤ z.n → Same z (point e.low)
low_same w e z up Z line level =
    let q = side-low e in
    by_sign (lift z (point e.low))
    (λ (l : lift z (point e.low) <ℤ pos 0). let x = lower_side w e z e.low level Z up l
    (omega (arith, ints, q)) in absurd (omega (arith, ints, x, line)))
    (λ l. same_place w z e.low level l)
    (λ (l : pos 0 <ℤ lift z (point e.low)). let x = higher_side w e z e.low level Z up l
    (omega (arith, ints, q)) in absurd (omega (arith, ints, x, line)))

pub on_mix : (w : ℤ) (e : Edge) (s : ℤ) (y : Vector) (t : ℤ) (z : Vector) → pos 0 ≤ℤ s → pos 0 ≤ℤ t
    → On w e y → On w e z → On w e (mix s y t z)
on_mix w e s y t z hs ht a b =
    let f = side-mix e s y t z in
    let u = ap (λ (v : ℤ). s *ℤ v) a.line in
    let v = ap (λ (v : ℤ). t *ℤ v) b.line in
    let k = mix_in_span w e s y t z hs ht (record { low = a.low; high = a.high })
    (record { low = b.low; high = b.high }) in
    record { line = omega (arith, ints, f, u, v); low = k.low; high = k.high }

-- strictly after the low end, and strictly before the high one
pub after_low : (w : ℤ) (e : Edge) (z : Vector) → pos 0 <ℤ rise w e → Place z → On w e z
    → (Same z (point e.low) → ⊥) → (sweep w (point e.low) *ℤ z.n) <ℤ sweep w z
after_low w e z up Z on n =
    by_lt_z (sweep w (point e.low) *ℤ z.n) (sweep w z) (λ l. l)
    (λ (l : sweep w z ≤ℤ (sweep w (point e.low) *ℤ z.n)). let k = on.low in
    absurd (n (low_same w e z up Z on.line (omega (arith, ints, l, k)))))

pub before_high : (w : ℤ) (e : Edge) (z : Vector) → pos 0 <ℤ rise w e → Place z → On w e z
    → (Same z (point e.high) → ⊥) → sweep w z <ℤ (sweep w (point e.high) *ℤ z.n)
before_high w e z up Z on n =
    by_lt_z (sweep w z) (sweep w (point e.high) *ℤ z.n) (λ l. l)
    (λ (l : (sweep w (point e.high) *ℤ z.n) ≤ℤ sweep w z). let k = on.high in
    absurd (n (high_same w e z up Z on.line (omega (arith, ints, l, k)))))

pub low_on : (w : ℤ) (e : Edge) → pos 0 <ℤ rise w e → On w e (point e.low)
low_on w e up =
    let f = rise-is w e in
    record { line = side-low e; low = omega (arith, ints); high = omega (arith, ints, up, f) }

pub high_on : (w : ℤ) (e : Edge) → pos 0 <ℤ rise w e → On w e (point e.high)
high_on w e up =
    let f = rise-is w e in
    record { line = side-high e; low = omega (arith, ints, up, f); high = omega (arith, ints) }

-- of two places strictly before a sweep value each mix is strictly before it
below_mix : (k s a m t b n : ℤ) → pos 0 ≤ℤ s → pos 0 ≤ℤ t → pos 0 <ℤ (s +ℤ t) → a <ℤ (k *ℤ m)
    → b <ℤ (k *ℤ n) → ((s *ℤ a) +ℤ (t *ℤ b)) <ℤ (k *ℤ ((s *ℤ m) +ℤ (t *ℤ n)))
below_mix k s a m t b n hs ht some ha hb =
    let x = weight_at_most s ((k *ℤ m) -ℤ a) hs (omega (arith, ints, ha)) in
    let y = weight_at_most t ((k *ℤ n) -ℤ b) ht (omega (arith, ints, hb)) in
    let f = ring
    (minus (times (at 0) (plus (times (at 1) (at 3)) (times (at 4) (at 6))))
    (plus (times (at 1) (at 2)) (times (at 4) (at 5))))
    (plus (times (at 1) (minus (times (at 0) (at 3)) (at 2)))
    (times (at 4) (minus (times (at 0) (at 6)) (at 5))))
    (vars (k ∷ s ∷ a ∷ m ∷ t ∷ b ∷ n ∷ [])) refl in
    omega (arith, ints, x, y, f, some)

above_mix : (k s a m t b n : ℤ) → pos 0 ≤ℤ s → pos 0 ≤ℤ t → pos 0 <ℤ (s +ℤ t) → (k *ℤ m) <ℤ a
    → (k *ℤ n) <ℤ b → (k *ℤ ((s *ℤ m) +ℤ (t *ℤ n))) <ℤ ((s *ℤ a) +ℤ (t *ℤ b))
above_mix k s a m t b n hs ht some ha hb =
    let x = weight_at_most s (a -ℤ (k *ℤ m)) hs (omega (arith, ints, ha)) in
    let y = weight_at_most t (b -ℤ (k *ℤ n)) ht (omega (arith, ints, hb)) in
    let f = ring
    (minus (plus (times (at 1) (at 2)) (times (at 4) (at 5)))
    (times (at 0) (plus (times (at 1) (at 3)) (times (at 4) (at 6)))))
    (plus (times (at 1) (minus (at 2) (times (at 0) (at 3))))
    (times (at 4) (minus (at 5) (times (at 0) (at 6)))))
    (vars (k ∷ s ∷ a ∷ m ∷ t ∷ b ∷ n ∷ [])) refl in
    omega (arith, ints, x, y, f, some)

-- ---- corners of tubes are in them
pub corner_within : (t : Tile) (q : Point) → IsCornerOf t q → InTile t (point q)
corner_within t q (inl e) = subst (λ (p : Point). InTile t (point p)) (sym e) (record {
  of_a = pos 1;
  of_b = pos 0;
  of_c = pos 0;
  a_least = omega (arith, ints);
  b_least = omega (arith, ints);
  c_least = omega (arith, ints);
  some = omega (arith, ints);
  is = record { x = omega (arith, ints); y = omega (arith, ints) };
})
corner_within t q (inr (inl e)) = subst (λ (p : Point). InTile t (point p)) (sym e) (record {
  of_a = pos 0;
  of_b = pos 1;
  of_c = pos 0;
  a_least = omega (arith, ints);
  b_least = omega (arith, ints);
  c_least = omega (arith, ints);
  some = omega (arith, ints);
  is = record { x = omega (arith, ints); y = omega (arith, ints) };
})
corner_within t q (inr (inr e)) = subst (λ (p : Point). InTile t (point p)) (sym e) (record {
  of_a = pos 0;
  of_b = pos 0;
  of_c = pos 1;
  a_least = omega (arith, ints);
  b_least = omega (arith, ints);
  c_least = omega (arith, ints);
  some = omega (arith, ints);
  is = record { x = omega (arith, ints); y = omega (arith, ints) };
})

side_corner : (e : Edge) (t : Tile) (q : Point) → IsSideOf e t → IsEnd e q → IsCornerOf t q
side_corner e t q (inl s) i =
    elim (subst (λ (f : Edge). IsEnd f q) s i) [ inl x ↦ inl (sym x) | inr x ↦ inr (inl (sym x)) ]
side_corner e t q (inr (inl s)) i =
    elim (subst (λ (f : Edge). IsEnd f q) s i) [
      | inl x ↦ inr (inl (sym x))
      | inr x ↦ inr (inr (sym x))
    ]
side_corner e t q (inr (inr s)) i =
    elim (subst (λ (f : Edge). IsEnd f q) s i) [ inl x ↦ inr (inr (sym x)) | inr x ↦ inl (sym x) ]

pub bound_in : (a : Point) (k : Bay) (ks : List Bay) (e : Edge) (q : Point)
    → Has e (bounds a (k ∷ ks)) → IsEnd e q → InSomeTile (tiles a (k ∷ ks)) (point q)
bound_in a k ks e q m i =
    let s = bound_side a k ks e m in (s.0, s.1, corner_within s.0 q (side_corner e s.0 q s.2 i))

-- ---- one edge, two curves
pub one_edge : (e : Edge) (c d : Curve) → IsEdgeOf e c → IsEdgeOf e d → HaveSameEnds c d
one_edge e c d (inl x) (inl y) = inl (sym x.0 ∙ y.0, sym x.1 ∙ y.1)
one_edge e c d (inl x) (inr y) = inr (sym x.0 ∙ y.0, sym x.1 ∙ y.1)
one_edge e c d (inr x) (inl y) = inr (sym x.1 ∙ y.1, sym x.0 ∙ y.0)
one_edge e c d (inr x) (inr y) = inl (sym x.1 ∙ y.1, sym x.0 ∙ y.0)

-- a place of the chord is on its line
pub bow_zero : (h : HalfArc) (z : Vector) → Between z (point h.from) (point h.to) → bow h z ≡ pos 0
bow_zero h z d =
    let m = mix d.s (point h.from) d.t (point h.to) in
    let some = d.some in
    let n : pos 0 <ℤ m.n = omega (arith, ints, some) in
    let f : bow h z *ℤ m.n ≡ bow h m *ℤ z.n = (seen_same h z m d.is).y in
    let g : bow h m ≡ (d.s *ℤ bow h (point h.from))
    +ℤ (d.t *ℤ bow h (point h.to)) =
    ap (λ (v : Vector). v.y) (seen-mix h d.s (point h.from) d.t (point h.to)) in
    let a : d.s *ℤ bow h (point h.from) ≡ pos 0 = ap (λ (v : ℤ). d.s *ℤ v) (bow-from h)
    ∙ omega (arith, ints) in
    let b : d.t *ℤ bow h (point h.to) ≡ pos 0 = ap (λ (v : ℤ). d.t *ℤ v) (bow-to h)
    ∙ omega (arith, ints) in
    let none : bow h m ≡ pos 0 = omega (arith, ints, g, a, b) in
    let zero : bow h m *ℤ z.n ≡ pos 0 = ap (λ (v : ℤ). v *ℤ z.n) none ∙ omega (arith, ints) in
    let i = ring (times (at 1) (at 0)) (times (at 0) (at 1)) (vars (bow h z ∷ m.n ∷ [])) refl in
    cancel_zero m.n (bow h z) n (i ∙ f ∙ zero)

module _ (d : Plan) (l : EdgeList) (is : IsEdgeList d l) (settled : IsSettled d l) (w : ℤ)
    (steps : List Step) (swept : WeighedRun w l.edges l.edge steps) where
  abbrev r : Replay
  r = replay w l.edges l.edge steps

  whole : IsWhole r
  whole = swept_whole w l.edges l.edge steps swept

  abbrev pub Inside : ℕ → Vector → Type 0
  Inside i z = InSomeTile (tiles_of (l.tube i)) z

  pub all_left : (i : ℕ) → IsHalfArc d i → Each (λ t. IsLeftTile t) (tiles_of (l.tube i))
  all_left i h =
      let t = is.tubes i h in
      tiles_left (l.tube i).arc (l.tube i).bay (l.tube i).bays t.right t.tube

  pub all_tiled : (i : ℕ) → IsHalfArc d i → IsTiled w (tiles_of (l.tube i))
  all_tiled i h =
      let t = is.tubes i h in
      tiled r whole.run (l.tube i).arc.from ((l.tube i).bay ∷ (l.tube i).bays)
      (l.tube i).halves t.bounds t.fits (all_left i h)

  -- a bound of the tube through a place is an edge of the tube through it
  pub bound_edge : (i : ℕ) → (h : IsHalfArc d i) → (e : Edge)
      → Has e (bounds (l.tube i).arc.from ((l.tube i).bay ∷ (l.tube i).bays)) → (z : Vector)
      → Place z → Between z (point e.low) (point e.high)
      → (g : Half) × Has g (l.tube i).halves × On w (l.edge (edge_of g)) z
  bound_edge i h e m z Z b =
      let t = is.tubes i h in
      let g = from_map (way l.edge) e (l.tube i).halves
      (subst (λ (es : List Edge). Has e es) t.bounds m) in (
        g.0,
        g.1,
        way_on w l.edge g.0 z (whole.run.rise (edge_of g.0) (t.fits g.0 g.1)) Z
            (subst (λ (f : Edge). Between z (point f.low) (point f.high)) g.2 b),
      )

  -- an end of an edge of the tube is in the tube
  pub end_in : (i : ℕ) → (h : IsHalfArc d i) → (g : Half) → Has g (l.tube i).halves → (q : Point)
      → IsEnd (l.edge (edge_of g)) q → Inside i (point q)
  end_in i h g m q x =
      let t = is.tubes i h in
      let a = edge_arrow l.edge (bounds (l.tube i).arc.from ((l.tube i).bay ∷ (l.tube i).bays))
      (l.tube i).halves g q t.bounds m x in
      bound_in (l.tube i).arc.from (l.tube i).bay (l.tube i).bays a.0 q a.1 a.2

  -- an event in the tube is an end of an edge of the tube
  pub event_in : (i : ℕ) → (h : IsHalfArc d i) → (e : ℕ) → e < l.edges → (q : Point)
      → IsEnd (l.edge e) q → Inside i (point q)
      → (g : Half) × Has g (l.tube i).halves × IsEnd (l.edge (edge_of g)) q
  event_in i h e f q x (t, m, s) =
      let tube = is.tubes i h in
      let a = (l.tube i).arc.from in
      let ks = (l.tube i).bay ∷ (l.tube i).bays in
      let c = tile_corners a ks t m in
      elim (settled.enter e f q x i h t m s) [
        | inl y ↦ corner_edge l.edge (bounds a ks) (l.tube i).halves q tube.bounds
            (subst (AtArrow (bounds a ks)) (sym y) c.a)
        | inr y ↦ elim y [
          | inl v ↦ corner_edge l.edge (bounds a ks) (l.tube i).halves q tube.bounds
              (subst (AtArrow (bounds a ks)) (sym v) c.b)
          | inr v ↦ corner_edge l.edge (bounds a ks) (l.tube i).halves q tube.bounds
              (subst (AtArrow (bounds a ks)) (sym v) c.c)
        ]
      ]

  -- ---- an edge that is none of the tube's, with a place in the tube that is no end of it
  module _ (i : ℕ) (h : IsHalfArc d i) (u : ℕ) (fits : u < l.edges) (other : l.owner u ≡ i → ⊥)
      (y : Vector) (Y : Place y) (on : On w (l.edge u) y)
      (no_low : Same y (point (l.edge u).low) → ⊥) (no_high : Same y (point (l.edge u).high) → ⊥)
      (inside : Inside i y) where
    up : pos 0 <ℤ rise w (l.edge u)
    up = whole.run.rise u fits

    -- where a bound meets the edge, the edge ends
    meets_end : (x : Vector) → Place x → On w (l.edge u) x → (g : Half) → Has g (l.tube i).halves
        → On w (l.edge (edge_of g)) x
        → (p : Point) × IsEnd (l.edge u) p × IsEnd (l.edge (edge_of g)) p × Same x (point p)
    meets_end x X at_u g m at_g =
        let c = meet_in_ends w l.edges l.edge steps x u (edge_of g) swept fits
        ((is.tubes i h).fits g m) (λ e. other (ap l.owner e ∙ is.tube_owner i h g m)) X at_u
        at_g in
        (c.at, c.of_first, c.of_second, c.is)

    -- so the edge leaves the tube at no place
    low_in : Inside i (point (l.edge u).low)
    low_in = elim (decide_in_some w (point (l.edge u).low) (tiles_of (l.tube i))
        (place_point (l.edge u).low) (all_tiled i h)) [
          | inl k ↦ k
          | inr out ↦ kept_in y (point (l.edge u).low) Y (place_point (l.edge u).low)
              (l.tube i).arc.from ((l.tube i).bay ∷ (l.tube i).bays) (all_left i h) (misses out) inside
        ]
      where
        misses : (Inside i (point (l.edge u).low) → ⊥) → (x : Vector)
            → IsOnWay y (point (l.edge u).low) x → (e : Edge)
            → Has e (bounds (l.tube i).arc.from ((l.tube i).bay ∷ (l.tube i).bays))
            → Between x (point e.low) (point e.high) → ⊥
        misses out x way e m b =
            let X = way_place y (point (l.edge u).low) x Y (place_point (l.edge u).low) way in
            let at_u = subst (λ (v : Vector). On w (l.edge u) v) (sym way.is)
            (on_mix w (l.edge u) way.s y way.t (point (l.edge u).low) way.s_least way.t_least on
            (low_on w (l.edge u) up)) in
            let g = bound_edge i h e m x X b in
            let c = meets_end x X at_u g.0 g.1 g.2 in
            elim c.1 [
              | inl k ↦ out
                  (end_in i h g.0 g.1 (l.edge u).low
                  (subst (λ (p : Point). IsEnd (l.edge (edge_of g.0)) p) (sym k) c.2))
              | inr k ↦
                  let s = same_sweep w x (l.edge u).high
                  (subst (λ (p : Point). Same x (point p)) (sym k) c.3) in
                  let f = rise-is w (l.edge u) in
                  let up = whole.run.rise u fits in
                  let a = below_mix (sweep w (point (l.edge u).high)) way.s (sweep w y) y.n way.t
                  (sweep w (point (l.edge u).low)) (pos 1) way.s_least way.t_least way.some
                  (before_high w (l.edge u) y up Y on no_high) (omega (arith, ints, up, f)) in
                  let v = ap (λ (v : Vector). sweep w v) way.is
                  ∙ sweep-mix w way.s y way.t (point (l.edge u).low) in
                  let n = ap (λ (v : Vector). sweep w (point (l.edge u).high) *ℤ v.n) way.is in
                  omega (arith, ints, s, a, v, n)
            ]

    high_in : Inside i (point (l.edge u).high)
    high_in = elim (decide_in_some w (point (l.edge u).high) (tiles_of (l.tube i))
        (place_point (l.edge u).high) (all_tiled i h)) [
          | inl k ↦ k
          | inr out ↦ kept_in y (point (l.edge u).high) Y (place_point (l.edge u).high)
              (l.tube i).arc.from ((l.tube i).bay ∷ (l.tube i).bays) (all_left i h) (misses out) inside
        ]
      where
        misses : (Inside i (point (l.edge u).high) → ⊥) → (x : Vector)
            → IsOnWay y (point (l.edge u).high) x → (e : Edge)
            → Has e (bounds (l.tube i).arc.from ((l.tube i).bay ∷ (l.tube i).bays))
            → Between x (point e.low) (point e.high) → ⊥
        misses out x way e m b =
            let X = way_place y (point (l.edge u).high) x Y (place_point (l.edge u).high) way in
            let at_u = subst (λ (v : Vector). On w (l.edge u) v) (sym way.is)
            (on_mix w (l.edge u) way.s y way.t
            (point (l.edge u).high) way.s_least way.t_least on (high_on w (l.edge u) up)) in
            let g = bound_edge i h e m x X b in
            let c = meets_end x X at_u g.0 g.1 g.2 in
            elim c.1 [
              | inr k ↦ out
                  (end_in i h g.0 g.1 (l.edge u).high
                  (subst (λ (p : Point). IsEnd (l.edge (edge_of g.0)) p) (sym k) c.2))
              | inl k ↦
                  let s = same_sweep w x (l.edge u).low
                  (subst (λ (p : Point). Same x (point p)) (sym k) c.3) in
                  let f = rise-is w (l.edge u) in
                  let up = whole.run.rise u fits in
                  let a = above_mix (sweep w (point (l.edge u).low)) way.s (sweep w y) y.n way.t
                  (sweep w (point (l.edge u).high)) (pos 1) way.s_least way.t_least way.some
                  (after_low w (l.edge u) y up Y on no_low) (omega (arith, ints, up, f)) in
                  let v = ap (λ (v : Vector). sweep w v) way.is
                  ∙ sweep-mix w way.s y way.t (point (l.edge u).high) in
                  let n = ap (λ (v : Vector). sweep w (point (l.edge u).low) *ℤ v.n) way.is in
                  omega (arith, ints, s, a, v, n)
            ]

    -- both its ends are then ends of the half arc
    tube_end : (p : Point) → IsEnd (l.edge u) p → Inside i (point p) → IsEndOf (curve d i) p
    tube_end p x s =
        let g = event_in i h u fits p x s in
        elim (settled.own i h g.0 g.1 p g.2) [
          | inl k ↦ k
          | inr own ↦ absurd (other (own u fits x))
        ]

    joins : IsEdgeOf (l.edge u) (curve d i)
    joins = ends (tube_end (l.edge u).low (inl refl) low_in)
        (tube_end (l.edge u).high (inr refl) high_in)
      where
        flat : (l.edge u).low ≡ (l.edge u).high → ⊥
        flat e =
            let f = rise-is w (l.edge u) in
            let g = ap (λ (p : Point). sweep w (point p)) e in
            let up = whole.run.rise u fits in omega (arith, ints, f, g, up)

        ends : IsEndOf (curve d i) (l.edge u).low → IsEndOf (curve d i) (l.edge u).high
            → IsEdgeOf (l.edge u) (curve d i)
        ends (inl a) (inl b) = absurd (flat (sym a ∙ b))
        ends (inl a) (inr b) = inl (sym a, sym b)
        ends (inr a) (inl b) = inr (sym a, sym b)
        ends (inr a) (inr b) = absurd (flat (sym a ∙ b))

    -- the place is strictly between the ends of the half arc
    at_ends : (p : Point) → IsEndOf (curve d i) p → Same y (point p) → ⊥
    at_ends p x s = elim joins [
      | inl k ↦ elim x [
        | inl e ↦ no_low (subst (λ (q : Point). Same y (point q)) (sym e ∙ sym k.0) s)
        | inr e ↦ no_high (subst (λ (q : Point). Same y (point q)) (sym e ∙ sym k.1) s)
      ]
      | inr k ↦ elim x [
        | inl e ↦ no_high (subst (λ (q : Point). Same y (point q)) (sym e ∙ sym k.1) s)
        | inr e ↦ no_low (subst (λ (q : Point). Same y (point q)) (sym e ∙ sym k.0) s)
      ]
    ]

    between_curve : Between y (point (curve d i).from) (point (curve d i).to)
    between_curve = elim joins [
      | inl k ↦ moved (l.edge u).low (l.edge u).high (curve d i).from (curve d i).to y k.0 k.1
          (on_between w (l.edge u) y up Y on)
      | inr k ↦ moved (l.edge u).high (l.edge u).low (curve d i).from (curve d i).to y k.1 k.0
          (between_back y (point (l.edge u).low) (point (l.edge u).high)
          (on_between w (l.edge u) y up Y on))
    ]

    abbrev t : DrawnTube
    t = l.tube i

    along_chord : (bow t.arc y ≡ pos 0) × (pos 0 <ℤ along t.arc y)
        × (along t.arc y <ℤ (chord t.arc *ℤ y.n))
    along_chord =
        let tube = is.tubes i h in
        let one : pos 0 <ℤ pos 1 = omega (arith, ints) in
        let b = between_arc (curve d i) t.arc y tube.is between_curve in
        let e = tip_is t.bay t.bays t.arc.to tube.tube.ends in
        elim (at_end y (point t.arc.from) (point t.arc.to) one one b) [
          | inl k ↦
              let f = along-from t.arc in
              let g = along-to t.arc in
              let c = (tube_cap t.arc (t.bay ∷ t.bays) tube.tube).chord in
              let x = column_low t.arc t.bay t.bays tube.tube tube.right
              (arrow t.arc.from t.arc.to) y Y b k.0 k.1 (omega (arith, ints, f, g, c)) in
              let low = x.0 in
              let high = x.1 in
              let f2 = ap (λ (v : ℤ). v *ℤ y.n) f in
              let g2 = ap (λ (v : ℤ). v *ℤ y.n) g in
              (bow_zero t.arc y b, omega (arith, ints, low, f2), omega (arith, ints, high, g2))
          | inr s ↦ absurd (elim s [
            | inl x ↦ at_ends t.arc.from
                (arc_ends l.edges l.edge (curve d i) t tube t.arc.from (inl refl)) x
            | inr x ↦ at_ends t.arc.to
                (arc_ends l.edges l.edge (curve d i) t tube t.arc.to (inr (sym e))) x
          ])
        ]

    -- ---- it is no straight's edge
    no_straight : (j : ℕ) → l.owner u ≡ j → IsStraight d j → ⊥
    no_straight j o s =
        let tube = is.tubes i h in
        let q = is.straight_only u fits (subst (λ (x : ℕ). IsStraight d x) (sym o) s) in
        let k = is.straights j s in
        let same = one_edge (l.edge u) (curve d j) (curve d i)
        (subst (λ (x : ℕ). IsEdgeOf (l.edge x) (curve d j)) (sym (q ∙ ap l.straight o)) k.1)
        joins in
        let a = along_chord in
        high_chord_out t.arc t.bay t.bays y tube.tube tube.wide
        (each_from (StandsHigh t.arc) (t.bay ∷ t.bays)
        (λ b m. stands b m (settled.chord j i s h same b m))) Y a.0 a.1 a.2
        (tiles_in_tube t.arc.from t.bay t.bays y inside)
      where
        stands : (b : Bay) → Has b ((l.tube i).bay ∷ (l.tube i).bays)
            → IsEndOf (curve d i) b.inner ⊎ (pos 0 <ℤ bow (arc (curve d i)) (point b.inner))
            → StandsHigh (l.tube i).arc b
        stands b m (inr k) =
            let e = bow_one (l.tube i).arc (arc (curve d i)) (point b.inner) (is.tubes i h).is in
            inr (omega (arith, ints, e, k))
        stands b m (inl k) =
            let tube = is.tubes i h in
            elim (ends_arc l.edges l.edge (curve d i) (l.tube i) tube b.inner k) [
              | inl e ↦
                  let x = inner_after (l.tube i).arc (l.tube i).arc.from (l.tube i).bay
                  (l.tube i).bays b
                  (tube_rest (l.tube i).arc (l.tube i).bay (l.tube i).bays tube.tube) m in
                  let f = ap (λ (p : Point). along (l.tube i).arc (point p)) e in
                  absurd (omega (arith, ints, x, f))
              | inr e ↦ inl (e
                  ∙ tip_is (l.tube i).bay (l.tube i).bays (l.tube i).arc.to tube.tube.ends)
            ]

    -- ---- and no other tube's edge
    no_tube : (j : ℕ) → l.owner u ≡ j → IsHalfArc d j → ⊥
    no_tube j o a =
        let tube = is.tubes j a in
        let m = is.tube_only u fits (subst (λ (x : ℕ). IsHalfArc d x) (sym o) a) in
        let g = m.0 in
        let has = subst (λ (x : ℕ). Has g (l.tube x).halves) o m.1 in
        let mid = bound_middle (l.tube j).arc (l.tube j).bay (l.tube j).bays
        (way l.edge g) tube.tube tube.wide
        (subst (λ (es : List Edge). Has (way l.edge g) es) (sym tube.bounds)
        (has_map (way l.edge) g (l.tube j).halves has)) in
        let q = mid.0 in
        let at_g = arrow_end l.edge g q mid.1 in
        let at_u = subst (λ (x : ℕ). IsEnd (l.edge x) q) m.2 at_g in
        let in_i : Inside i (point q) = elim at_u [
          | inl x ↦ subst (λ (p : Point). Inside i (point p)) x low_in
          | inr x ↦ subst (λ (p : Point). Inside i (point p)) x high_in
        ] in
        let f = event_in i h u fits q at_u in_i in
        elim (settled.own j a g has q at_g) [
          | inr own ↦ other (o ∙ sym (own (edge_of f.0) ((is.tubes i h).fits f.0 f.1) f.2)
              ∙ is.tube_owner i h f.0 f.1)
          | inl k ↦
              let low = mid.2 in
              let high = mid.3 in
              elim (ends_arc l.edges l.edge (curve d j) (l.tube j) tube q k) [
                | inl e ↦ let x = ap (λ (p : Point). along (l.tube j).arc (point p)) e in
                    let y = along-from (l.tube j).arc in omega (arith, ints, x, y, low)
                | inr e ↦
                    let x = ap (λ (p : Point). along (l.tube j).arc (point p)) (e
                    ∙ tip_is (l.tube j).bay (l.tube j).bays (l.tube j).arc.to tube.tube.ends) in
                    let y = along-to (l.tube j).arc in
                    omega (arith, ints, x, y, high)
              ]
        ]

    pub edge_out : ⊥
    edge_out = elim (either_kind d (l.owner u) (is.owned u fits)) [
      | inl s ↦ no_straight (l.owner u) refl s
      | inr a ↦ no_tube (l.owner u) refl a
    ]
