-- The part of a tube inside the circle is one piece, and so is the part outside it: paths over the
-- corners of the triangles.
use Rattle.std.proofs.Common.{◌≡◌, List, [], ◌∷◌, ℤ, pos, ◌+ℤ◌, ◌*ℤ◌, ◌<ℤ◌, ◌≤ℤ◌, inl, inr, refl}
use Rattle.std.proofs.Common.{arith, ap, sym, subst}
use Rattle.std.proofs.lemmas.Int.{ints, by_lt_z}
use Rattle.plane.specs.declared.kinds.Point.{Point}
use Rattle.plane.specs.Lists.{Each, Has}
use Rattle.plane.specs.Forms.Vectors.{Vector, Place, Same, mix, point}
use Rattle.plane.specs.Forms.Arcs.{HalfArc, power}
use Rattle.plane.specs.Tubes.Caps.{IsCap, cap}
use Rattle.plane.specs.Tubes.Bays.{Bay, RunsOutside, IsOuterCorner, OuterChain}
use Rattle.plane.specs.Tubes.Windings.{Tile, InTile, InSomeTile, strips, tiles, weighed}
use Rattle.plane.specs.CurveRuns.Extended.{IsOnWay}
use Rattle.plane.proofs.TubePaths.PieceWords.{PathIn, stays, goes}
use Rattle.plane.proofs.Linear.Signs.{mix_place}
use Rattle.plane.proofs.Linear.EdgePlaces.{place_point}
use Rattle.plane.proofs.Covers.SamePlace.{same_refl, same_sym, between_same}
use Rattle.plane.proofs.Windings.Ways.{way_start, way_place}
use Rattle.plane.proofs.TubePaths.WaysOut.{way_back, way_within}
use Rattle.plane.proofs.TubePaths.Exits.{same_start, way_between}
use Rattle.plane.proofs.Linear.Clear.{mix_back}
use Rattle.plane.proofs.HalfArcs.ArcSides.{outside_same, not_outside_mix, inside_both, triangle_way}
use Rattle.plane.proofs.TubePaths.AwayFrom.{path_more, path_on, path_turned, Times, times_same}
use Rattle.plane.proofs.TubePaths.AwayFrom.{away_from, towards}

-- ---- corners
corner_a : (t : Tile) → InTile t (point t.a)
corner_a t = record {
  of_a = pos 1;
  of_b = pos 0;
  of_c = pos 0;
  a_least = omega (arith, ints);
  b_least = omega (arith, ints);
  c_least = omega (arith, ints);
  some = omega (arith, ints);
  is = record { x = omega (arith, ints); y = omega (arith, ints) };
}

corner_b : (t : Tile) → InTile t (point t.b)
corner_b t = record {
  of_a = pos 0;
  of_b = pos 1;
  of_c = pos 0;
  a_least = omega (arith, ints);
  b_least = omega (arith, ints);
  c_least = omega (arith, ints);
  some = omega (arith, ints);
  is = record { x = omega (arith, ints); y = omega (arith, ints) };
}

corner_c : (t : Tile) → InTile t (point t.c)
corner_c t = record {
  of_a = pos 0;
  of_b = pos 0;
  of_c = pos 1;
  a_least = omega (arith, ints);
  b_least = omega (arith, ints);
  c_least = omega (arith, ints);
  some = omega (arith, ints);
  is = record { x = omega (arith, ints); y = omega (arith, ints) };
}

module _ (h : HalfArc) (hc : IsCap (cap h)) where
  -- ---- steps
  later : (t : Tile) (ts : List Tile) (z : Vector) → InSomeTile ts z → InSomeTile (t ∷ ts) z
  later t ts z s = (s.0, inr s.1, s.2)

  abbrev pub Within : List Tile → Vector → Type 0
  Within ts z = InSomeTile ts z × (power h z <ℤ pos 0)

  abbrev pub Without : List Tile → Vector → Type 0
  Without ts z = InSomeTile ts z × (pos 0 <ℤ power h z)

  step_in : (t : Tile) (ts : List Tile) (p q : Vector) → Has t ts → Place p → Place q → InTile t p
      → InTile t q → power h p <ℤ pos 0 → power h q <ℤ pos 0 → PathIn (Within ts) p q
  step_in t ts p q m P Q i k a b = goes p q q Q
      (λ z w. (
        (t, m, triangle_way t p q z P Q i k w),
        subst (λ (v : Vector). power h v <ℤ pos 0) (sym w.is)
            (inside_both h w.s p w.t q hc P Q w.s_least w.t_least w.some a b),
      ))
      (stays q q refl)

  step_out : (t : Tile) (ts : List Tile) (p q : Vector) → Has t ts → Place p → Place q → InTile t p
      → InTile t q → ((z : Vector) → IsOnWay p q z → pos 0 <ℤ power h z) → PathIn (Without ts) p q
  step_out t ts p q m P Q i k f =
      goes p q q Q (λ z w. ((t, m, triangle_way t p q z P Q i k w), f z w)) (stays q q refl)

  -- ---- inside
  -- the inner points but for the last one are strictly inside
  abbrev pub AreInside : List Bay → Type 0
  AreInside [] = Unit {0}
  AreInside (b ∷ []) = Unit {0}
  AreInside (b ∷ (d ∷ ds)) = (power h (point b.inner) <ℤ pos 0) × AreInside (d ∷ ds)

  head_in : (p u : Point) (k : Bay) (ks : List Bay) → power h (point p) <ℤ pos 0 → (z : Vector)
      → Place z → Within (strips p u (k ∷ ks)) z
      → (InSomeTile (strips k.inner k.outer ks) z
      → PathIn (Within (strips p u (k ∷ ks))) z (point p))
      → PathIn (Within (strips p u (k ∷ ks))) z (point p)
  head_in p u k ks b z Z i rest = elim i.0.1 [
    | inl e ↦ step_in (record { a = u; b = p; c = k.outer }) (strips p u (k ∷ ks)) z (point p)
        (inl refl) Z (place_point p) (subst (λ (t : Tile). InTile t z) e i.0.2)
        (corner_b (record { a = u; b = p; c = k.outer })) i.1 b
    | inr m ↦ elim m [
      | inl e ↦ step_in (record { a = p; b = k.inner; c = k.outer }) (strips p u (k ∷ ks)) z
          (point p) (inr (inl refl)) Z (place_point p) (subst (λ (t : Tile). InTile t z) e i.0.2)
          (corner_a (record { a = p; b = k.inner; c = k.outer })) i.1 b
      | inr n ↦ rest (i.0.0, n, i.0.2)
    ]
  ]

  strips_in : (p u : Point) (ks : List Bay) → AreInside ks → power h (point p) <ℤ pos 0
      → (z : Vector) → Place z → Within (strips p u ks) z
      → PathIn (Within (strips p u ks)) z (point p)
  strips_in p u [] f b z Z i = absurd i.0.1
  strips_in p u (k ∷ []) f b z Z i = head_in p u k [] b z Z i (λ s. absurd s.1)
  strips_in p u (k ∷ (d ∷ ds)) f b z Z i = head_in p u k (d ∷ ds) b z Z i (λ s.
      let t1 : Tile = record { a = u; b = p; c = k.outer } in
      let t2 : Tile = record { a = p; b = k.inner; c = k.outer } in
      let rest = strips k.inner k.outer (d ∷ ds) in
      path_on (Within (t1 ∷ (t2 ∷ rest))) z (point k.inner) (point p)
      (path_more (Within rest) (Within (t1 ∷ (t2 ∷ rest)))
      (λ v j. (later t1 (t2 ∷ rest) v (later t2 rest v j.0), j.1)) z (point k.inner)
      (strips_in k.inner k.outer (d ∷ ds) f.1 f.0 z Z (s, i.1)))
      (step_in t2 (t1 ∷ (t2 ∷ rest)) (point k.inner) (point p) (inr (inl refl))
      (place_point k.inner) (place_point p) (corner_b t2) (corner_a t2) f.0 b))

  pub inner_piece : (a : Point) (k : Bay) (ks : List Bay) → AreInside (k ∷ ks) → (p q : Vector)
      → Place p → Place q → Within (tiles a (k ∷ ks)) p → Within (tiles a (k ∷ ks)) q
      → PathIn (Within (tiles a (k ∷ ks))) p q
  inner_piece a k [] f p q P Q i j =
      step_in t (t ∷ []) p q (inl refl) P Q (only p i.0) (only q j.0) i.1 j.1
    where
      t : Tile
      t = record { a = a; b = k.inner; c = k.outer }

      only : (z : Vector) → InSomeTile (t ∷ []) z → InTile t z
      only z s = elim s.1 [ inl e ↦ subst (λ (u : Tile). InTile u z) e s.2 | inr n ↦ absurd n ]
  inner_piece a k (d ∷ ds) f p q P Q i j =
      path_on (Within (t ∷ rest)) p hub q (to_hub p P i)
      (path_turned (Within (t ∷ rest)) q hub Q (to_hub q Q j))
    where
      t : Tile
      t = record { a = a; b = k.inner; c = k.outer }

      rest : List Tile
      rest = strips k.inner k.outer (d ∷ ds)

      hub : Vector
      hub = point k.inner

      to_hub : (z : Vector) → Place z → Within (t ∷ rest) z → PathIn (Within (t ∷ rest)) z hub
      to_hub z Z i = elim i.0.1 [
        | inl e ↦ step_in t (t ∷ rest) z hub (inl refl) Z (place_point k.inner)
            (subst (λ (u : Tile). InTile u z) e i.0.2) (corner_b t) i.1 f.0
        | inr n ↦ path_more (Within rest) (Within (t ∷ rest))
            (λ v j. (later t rest v j.0, j.1)) z hub
            (strips_in k.inner k.outer (d ∷ ds) f.1 f.0 z Z ((i.0.0, n, i.0.2), i.1))
      ]

  -- ---- outside
  outer_edge : (u o : Point) → RunsOutside h u o → pos 0 <ℤ power h (point u)
      → pos 0 <ℤ power h (point o) → (z : Vector) → IsOnWay (point u) (point o) z
      → pos 0 <ℤ power h z
  outer_edge u o out a b z w =
      subst (λ (v : Vector). pos 0 <ℤ power h v) (sym w.is) (by_lt_z (pos 0) w.s
      (λ (k : pos 0 <ℤ w.s). by_lt_z (pos 0) w.t
      (λ (l : pos 0 <ℤ w.t). (out w.s w.t k l).0)
      (λ (l : w.t ≤ℤ pos 0). let m = w.t_least in
      outside_same h (point u) v (place_point u) V
      (same_sym v (point u)
      (same_start w.s w.t (point u) (point o) (omega (arith, ints, l, m)))) a))
      (λ (k : w.s ≤ℤ pos 0).
      let m = w.s_least in
      outside_same h (point o) v (place_point o) V
      (same_sym v (point o)
      (subst (λ (x : Vector). Same x (point o)) (mix_back w.t w.s (point o) (point u))
      (same_start w.t w.s (point o) (point u) (omega (arith, ints, k, m))))) b))
    where
      v : Vector
      v = mix w.s (point u) w.t (point o)

      V : Place v
      V = mix_place w.s (point u) w.t (point o) (place_point u)
          (place_point o) w.s_least w.t_least w.some

  -- the mean itself, and the way to it
  abbrev mean_of : (t : Tile) (z : Vector) → InTile t z → Vector
  mean_of t z i = weighed i.of_a t.a i.of_b t.b i.of_c t.c

  mean_in : (t : Tile) (z : Vector) (i : InTile t z) → InTile t (mean_of t z i)
  mean_in t z i = record {
    of_a = i.of_a;
    of_b = i.of_b;
    of_c = i.of_c;
    a_least = i.a_least;
    b_least = i.b_least;
    c_least = i.c_least;
    some = i.some;
    is = same_refl (mean_of t z i);
  }

  same_way_out : (p q : Vector) → Place p → Place q → Same p q → pos 0 <ℤ power h q → (z : Vector)
      → IsOnWay p q z → pos 0 <ℤ power h z
  same_way_out p q P Q e k z w =
      let Z = way_place p q z P Q w in
      outside_same h q z Q Z (same_sym z q (between_same p q z P Q e (way_between p q z w))) k

  to_mean : (t : Tile) (ts : List Tile) (z : Vector) → Has t ts → Place z → (i : InTile t z)
      → pos 0 <ℤ power h z → PathIn (Without ts) z (mean_of t z i)
  to_mean t ts z m Z i k =
      step_out t ts z (mean_of t z i) m Z i.some i (mean_in t z i)
      (same_way_out z (mean_of t z i) Z i.some i.is
      (outside_same h z (mean_of t z i) Z i.some i.is k))

  -- from a place of the triangle u p o with p not outside, over the edge u o, to u
  gap_out : (u p o : Point) (ts : List Tile) (z : Vector) → Has (record { a = u; b = p; c = o }) ts
      → Place z → InTile (record { a = u; b = p; c = o }) z → pos 0 <ℤ power h z
      → power h (point p) ≤ℤ pos 0 → RunsOutside h u o → pos 0 <ℤ power h (point u)
      → pos 0 <ℤ power h (point o) → PathIn (Without ts) z (point u)
  gap_out u p o ts z m Z i k below out over_u over_o =
      path_on (Without ts) z v (point u) (to_mean t ts z m Z i k)
      (by_lt_z (pos 0) (i.of_a +ℤ i.of_c)
      (λ (some : pos 0 <ℤ (i.of_a +ℤ i.of_c)).
      let e = mix i.of_a (point u) i.of_c (point o) in
      let way_e : IsOnWay (point u) (point o) e = record {
        s = i.of_a;
        t = i.of_c;
        s_least = i.a_least;
        t_least = i.c_least;
        some = some;
        is = refl;
      } in
      let E = way_place (point u) (point o) e (place_point u) (place_point o) way_e in
      let in_e = triangle_way t (point u) (point o) e (place_point u) (place_point o) (corner_a t)
      (corner_c t) way_e in
      path_on (Without ts) v e (point u)
      (step_out t ts v e m V E in_v in_e
      (λ x w. away_from h hc (point p) v e x i.of_b w.s w.t (place_point p) V
      (way_place v e x V E w) below over_v i.b_least w.s_least w.t_least
      (omega (arith, ints)) (omega (arith, ints)) (omega (arith, ints)) w.is))
      (step_out t ts e (point u) m E (place_point u) in_e (corner_a t)
      (λ x w. outer_edge u o out over_u over_o x
      (way_within (point u) (point o) e (point u) x way_e (way_start (point u) (point o)) w))))
      (λ (none : (i.of_a +ℤ i.of_c) ≤ℤ pos 0).
      let a = i.a_least in
      let c = i.c_least in
      let za : i.of_a ≡ pos 0 = omega (arith, ints, a, c, none) in
      let zc : i.of_c ≡ pos 0 = omega (arith, ints, a, c, none) in
      let f : Times i.of_b (point p) v = (
        alone i.of_a u.x i.of_b p.x i.of_c o.x za zc,
        alone i.of_a u.y i.of_b p.y i.of_c o.y za zc,
        omega (arith, ints, za, zc),
      ) in
      let g = outside_same h v (point p) V (place_point p)
      (times_same i.of_b (point p) v f) over_v in
      absurd (omega (arith, ints, g, below))))
    where
      t : Tile
      t = record { a = u; b = p; c = o }

      v : Vector
      v = mean_of t z i

      V : Place v
      V = i.some

      in_v : InTile t v
      in_v = mean_in t z i

      over_v : pos 0 <ℤ power h v
      over_v = outside_same h z v Z V i.is k

      alone : (r a s b t c : ℤ) → r ≡ pos 0 → t ≡ pos 0
          → ((r *ℤ a) +ℤ (s *ℤ b)) +ℤ (t *ℤ c) ≡ s *ℤ b
      alone r a s b t c e f =
          let x = ap (λ (w : ℤ). w *ℤ a) e in
          let y = ap (λ (w : ℤ). w *ℤ c) f in omega (arith, ints, x, y)

  -- from a place of the triangle p q o with p and q not outside to o
  bay_out : (p q o : Point) (ts : List Tile) (z : Vector) → Has (record { a = p; b = q; c = o }) ts
      → Place z → InTile (record { a = p; b = q; c = o }) z → pos 0 <ℤ power h z
      → power h (point p) ≤ℤ pos 0 → power h (point q) ≤ℤ pos 0 → pos 0 <ℤ power h (point o)
      → PathIn (Without ts) z (point o)
  bay_out p q o ts z m Z i k below_p below_q over_o =
      path_on (Without ts) z v (point o) (to_mean t ts z m Z i k)
      (step_out t ts v (point o) m V (place_point o) in_v (corner_c t)
      (by_lt_z (pos 0) (i.of_a +ℤ i.of_b)
      (λ (some : pos 0 <ℤ (i.of_a +ℤ i.of_b)) x w.
      let e = mix i.of_a (point p) i.of_b (point q) in
      let E = mix_place i.of_a (point p) i.of_b (point q) (place_point p)
      (place_point q) i.a_least i.b_least some in
      let below_e = not_outside_mix h i.of_a (point p) i.of_b (point q) hc (place_point p)
      (place_point q) i.a_least i.b_least below_p below_q in
      towards h hc e (point o) v x i.of_c w.s w.t E V
      (way_place v (point o) x V (place_point o) w) below_e over_v i.c_least w.s_least w.t_least
      (omega (arith, ints)) (omega (arith, ints)) (omega (arith, ints)) w.is)
      (λ (none : (i.of_a +ℤ i.of_b) ≤ℤ pos 0) x w.
      let a = i.a_least in
      let b = i.b_least in
      let za : i.of_a ≡ pos 0 = omega (arith, ints, a, b, none) in
      let zb : i.of_b ≡ pos 0 = omega (arith, ints, a, b, none) in
      let f : Times i.of_c (point o) v = (
        alone i.of_a p.x i.of_b q.x i.of_c o.x za zb,
        alone i.of_a p.y i.of_b q.y i.of_c o.y za zb,
        omega (arith, ints, za, zb),
      ) in
      same_way_out v (point o) V (place_point o) (times_same i.of_c (point o) v f) over_o x w)))
    where
      t : Tile
      t = record { a = p; b = q; c = o }

      v : Vector
      v = mean_of t z i

      V : Place v
      V = i.some

      in_v : InTile t v
      in_v = mean_in t z i

      over_v : pos 0 <ℤ power h v
      over_v = outside_same h z v Z V i.is k

      alone : (r a s b t c : ℤ) → r ≡ pos 0 → s ≡ pos 0
          → ((r *ℤ a) +ℤ (s *ℤ b)) +ℤ (t *ℤ c) ≡ t *ℤ c
      alone r a s b t c e f =
          let x = ap (λ (w : ℤ). w *ℤ a) e in
          let y = ap (λ (w : ℤ). w *ℤ b) f in omega (arith, ints, x, y)

  abbrev pub NotOutside : Bay → Type 0
  NotOutside b = power h (point b.inner) ≤ℤ pos 0

  strips_out : (p u e : Point) (ks : List Bay) → OuterChain (RunsOutside h) u e ks
      → Each (IsOuterCorner h) ks → Each NotOutside ks → power h (point p) ≤ℤ pos 0
      → pos 0 <ℤ power h (point u)
      → (z : Vector) → Place z → Without (strips p u ks) z
      → PathIn (Without (strips p u ks)) z (point u)
  strips_out p u e [] chain corners below b over z Z i = absurd i.0.1
  strips_out p u e (k ∷ ks) chain corners below b over z Z i =
      let t1 : Tile = record { a = u; b = p; c = k.outer } in
      let t2 : Tile = record { a = p; b = k.inner; c = k.outer } in
      let rest = strips k.inner k.outer ks in
      let all = t1 ∷ (t2 ∷ rest) in
      let back = step_out t1 all (point k.outer) (point u) (inl refl) (place_point k.outer)
      (place_point u) (corner_c t1) (corner_a t1)
      (λ x w. outer_edge u k.outer chain.0 over corners.0.0 x
      (way_back (point k.outer) (point u) x w)) in
      elim i.0.1 [
        | inl q ↦ gap_out u p k.outer all z (inl refl) Z
            (subst (λ (t : Tile). InTile t z) q i.0.2) i.1 b chain.0 over corners.0.0
        | inr m ↦ elim m [
          | inl q ↦ path_on (Without all) z (point k.outer) (point u)
              (bay_out p k.inner k.outer all z (inr (inl refl)) Z
              (subst (λ (t : Tile). InTile t z) q i.0.2) i.1 b below.0 corners.0.0) back
          | inr n ↦ path_on (Without all) z (point k.outer) (point u)
              (path_more (Without rest) (Without all)
              (λ v j. (later t1 (t2 ∷ rest) v (later t2 rest v j.0), j.1)) z (point k.outer)
              (strips_out k.inner k.outer e ks chain.1 corners.1 below.1 below.0 corners.0.0 z Z
              ((i.0.0, n, i.0.2), i.1))) back
        ]
      ]

  pub outer_piece : (a e : Point) (k : Bay) (ks : List Bay)
      → OuterChain (RunsOutside h) a e (k ∷ ks) → Each (IsOuterCorner h) (k ∷ ks)
      → Each NotOutside (k ∷ ks) → power h (point a) ≤ℤ pos 0
      → (p q : Vector) → Place p → Place q → Without (tiles a (k ∷ ks)) p
      → Without (tiles a (k ∷ ks)) q → PathIn (Without (tiles a (k ∷ ks))) p q
  outer_piece a e k ks chain corners below b p q P Q i j =
      path_on (Without all) p hub q (to_hub p P i)
      (path_turned (Without all) q hub Q (to_hub q Q j))
    where
      t : Tile
      t = record { a = a; b = k.inner; c = k.outer }

      rest : List Tile
      rest = strips k.inner k.outer ks

      all : List Tile
      all = t ∷ rest

      hub : Vector
      hub = point k.outer

      to_hub : (z : Vector) → Place z → Without all z → PathIn (Without all) z hub
      to_hub z Z i = elim i.0.1 [
        | inl q ↦ bay_out a k.inner k.outer all z (inl refl) Z
            (subst (λ (t : Tile). InTile t z) q i.0.2) i.1 b below.0 corners.0.0
        | inr n ↦ path_more (Without rest) (Without all) (λ v j. (later t rest v j.0, j.1)) z hub
            (strips_out k.inner k.outer e ks chain.1 corners.1 below.1 below.0 corners.0.0 z Z
            ((i.0.0, n, i.0.2), i.1))
      ]
