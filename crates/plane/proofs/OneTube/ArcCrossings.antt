-- In the first bay of a tube stands a segment that crosses the half arc, straight up from the
-- inside to the outer corner.
use Rattle.std.proofs.Common.{◌≡◌, List, [], ◌∷◌, ℤ, pos, ◌+ℤ◌, ◌*ℤ◌, ◌-ℤ◌, ◌<ℤ◌, ◌≤ℤ◌, inl, inr}
use Rattle.std.proofs.Common.{refl, arith, ap, sym, ◌∙◌, subst}
use Rattle.std.proofs.lemmas.Int.{ints, by_lt_z}
use Rattle.plane.specs.Forms.Vectors.{Vector, Place, Same, mix, point}
use Rattle.plane.specs.Forms.Arcs.{HalfArc, power, along, bow, seen, chord}
use Rattle.plane.specs.Tubes.Caps.{Cap, IsCap, cap, shape}
use Rattle.plane.specs.Tubes.Bays.{mean, Bay, InTube, IsTube, AtEnds}
use Rattle.plane.specs.CurveRuns.Extended.{IsOnWay}
use Rattle.plane.proofs.Algebra.Laws.{product_positive, product_nonnegative}
use Rattle.plane.proofs.Algebra.Scaling.{times_lt}
use Rattle.plane.proofs.Algebra.Ring.{at, num, plus, minus, times, vars, ring}
use Rattle.plane.proofs.Linear.Clear.{vector_eq}
use Rattle.plane.proofs.Caps.Seen.{along-mix, bow-mix, seen_same, power_below}
use Rattle.plane.proofs.Caps.Pictures.{along-from, along-to}
use Rattle.plane.proofs.OneTube.TubeStrips.{before_end, tube_cap, tube_rest}
use Rattle.plane.proofs.OneTube.Chains.{tube_inner, tube_outer_corners}

-- on the chord, strictly between its ends, all is strictly inside
shape_low : (c : Cap) (v : Vector) → IsCap c → v.y ≡ pos 0 → pos 0 <ℤ v.x → v.x <ℤ (c.chord *ℤ v.n)
    → shape c v <ℤ pos 0
unfolding shape
shape_low c v hc e l k =
    let a = product_positive v.x ((c.chord *ℤ v.n) -ℤ v.x) l (omega (arith, ints, k)) in
    let b = product_positive c.size (v.x *ℤ ((c.chord *ℤ v.n) -ℤ v.x)) hc.size a in
    let f = ring (times (at 0) (times (at 1) (minus (at 2) (at 1))))
    (minus (num (pos 0)) (times (at 0) (times (at 1) (minus (at 1) (at 2)))))
    (vars (c.size ∷ v.x ∷ (c.chord *ℤ v.n) ∷ [])) refl in
    let g : v.y *ℤ (v.y +ℤ (c.sag *ℤ v.n)) ≡ pos 0 = ap (λ (z : ℤ). z *ℤ (v.y +ℤ (c.sag *ℤ v.n))) e
    ∙ omega (arith, ints) in
    omega (arith, ints, b, f, g)

-- the segment goes from a place inside to one outside, both not under the chord, within the tube
-- and past the ends of the half arc
pub record IsCrossing (h : HalfArc) (bs : List Bay) (p q : Vector) : Type 0 where
  pub p_place : Place p
  pub q_place : Place q
  pub p_away : pos 0 ≤ℤ bow h p
  pub q_away : pos 0 ≤ℤ bow h q
  pub inside : power h p <ℤ pos 0
  pub outside : pos 0 <ℤ power h q
  pub there : (z : Vector) → IsOnWay p q z → InTube h.from bs z
  pub inner : (z : Vector) → IsOnWay p q z → AtEnds h z → ⊥

module _ (h : HalfArc) (b : Bay) (rest : List Bay) (t : IsTube h (b ∷ rest)) where
  hc : IsCap (cap h)
  hc = tube_cap h (b ∷ rest) t

  abbrev O : ℤ
  O = along h (point b.outer)

  abbrev V : ℤ
  V = along h (point b.inner)

  O_least : pos 0 <ℤ O
  O_least = let a = t.are_bays.0.up in let e = along-from h in omega (arith, ints, a, e)

  O_before : O <ℤ V
  O_before = t.are_bays.0.on

  V_most : V ≤ℤ chord h
  V_most = before_end h h.from b rest (tube_rest h b rest t)

  abbrev o : Vector
  o = point b.outer

  -- the place of the first inner edge straight under the outer corner
  abbrev y : Vector
  y = mix (V -ℤ O) (point h.from) O (point b.inner)

  y_inside : power h y <ℤ pos 0
  y_inside = (tube_inner h (b ∷ rest) t).0 (V -ℤ O) O (let a = O_before in
      omega (arith, ints, a)) O_least

  y_n : y.n ≡ V
  y_n = omega (arith, ints)

  y_along : along h y ≡ O *ℤ V
  y_along =
      along-mix h (V -ℤ O) (point h.from) O (point b.inner)
      ∙ ap (λ (x : ℤ). ((V -ℤ O) *ℤ x) +ℤ (O *ℤ V)) (along-from h)
      ∙ ring (plus (times (minus (at 1) (at 0)) (num (pos 0))) (times (at 0) (at 1)))
      (times (at 0) (at 1)) (vars (O ∷ V ∷ [])) refl

  corner : (pos 0 <ℤ power h o) × (pos 0 <ℤ bow h o)
  corner = (tube_outer_corners h (b ∷ rest) t).0

  -- all places from y to the outer corner stand in its column
  column_along : (u v : ℤ) → along h (mix u y v o) ≡ O *ℤ (mix u y v o).n
  column_along u v =
      along-mix h u y v o
      ∙ ap (λ (x : ℤ). (u *ℤ x) +ℤ (v *ℤ O)) y_along
      ∙ ring (plus (times (at 0) (times (at 2) (at 3))) (times (at 1) (at 2)))
      (times (at 2) (plus (times (at 0) (at 3)) (times (at 1) (num (pos 1)))))
      (vars (u ∷ v ∷ O ∷ V ∷ [])) refl
      ∙ ap (λ (x : ℤ). O *ℤ ((u *ℤ x) +ℤ (v *ℤ pos 1))) (sym y_n)

  column_place : (u v : ℤ) → pos 0 ≤ℤ u → pos 0 ≤ℤ v → pos 0 <ℤ (u +ℤ v) → Place (mix u y v o)
  column_place u v hu hv some =
      let a = O_least in
      let c = O_before in
      let e = product_nonnegative u (V -ℤ pos 1) hu (omega (arith, ints, a, c)) in
      let f = ring (times (at 0) (minus (at 1) (num (pos 1)))) (minus (times (at 0) (at 1)) (at 0))
      (vars (u ∷ V ∷ [])) refl in
      let g = ap (λ (x : ℤ). u *ℤ x) y_n in
      omega (arith, ints, e, f, g, some)

  -- strictly between the ends of the chord
  column_low : (u v : ℤ) → Place (mix u y v o) → pos 0 <ℤ along h (mix u y v o)
  column_low u v Z =
      let e = column_along u v in
      let p = product_positive O (mix u y v o).n O_least Z in omega (arith, ints, e, p)

  column_high : (u v : ℤ) → Place (mix u y v o)
      → along h (mix u y v o) <ℤ (chord h *ℤ (mix u y v o).n)
  column_high u v Z =
      let n = (mix u y v o).n in
      let e = column_along u v in
      let a = O_before in
      let c = V_most in
      let p = times_lt n O (chord h) Z (omega (arith, ints, a, c)) in
      let f = ring (times (at 0) (at 1)) (times (at 1) (at 0)) (vars (n ∷ O ∷ [])) refl in
      let g = ring (times (at 0) (at 1)) (times (at 1) (at 0)) (vars (n ∷ chord h ∷ [])) refl in
      omega (arith, ints, e, p, f, g)

  column_inner : (u v : ℤ) → Place (mix u y v o) → AtEnds h (mix u y v o) → ⊥
  column_inner u v Z (inl s) =
      let e = (seen_same h (mix u y v o) (point h.from) s).x in
      let f = ap (λ (x : ℤ). x *ℤ (mix u y v o).n) (along-from h) in
      let l = column_low u v Z in
      omega (arith, ints, e, f, l)
  column_inner u v Z (inr s) =
      let e = (seen_same h (mix u y v o) (point h.to) s).x in
      let f = ap (λ (x : ℤ). x *ℤ (mix u y v o).n) (along-to h) in
      let l = column_high u v Z in
      omega (arith, ints, e, f, l)

  -- and in the first triangle
  column_there : (u v : ℤ) → pos 0 ≤ℤ u → pos 0 ≤ℤ v → pos 0 <ℤ (u +ℤ v)
      → InTube h.from (b ∷ rest) (mix u y v o)
  column_there u v hu hv some =
      let a = O_least in
      let c = O_before in
      let z = mix u y v o in
      let m = mean (u *ℤ (V -ℤ O)) (point h.from) (u *ℤ O) (point b.inner) v o in
      let e : z ≡ m = vector_eq z m (one h.from.x b.inner.x b.outer.x)
      (one h.from.y b.inner.y b.outer.y) (one (pos 1) (pos 1) (pos 1)) in
      let p = column_place u v hu hv some in
      let n = ap (λ (w : Vector). w.n) e in
      inl (inl (record {
        i = u *ℤ (V -ℤ O);
        j = u *ℤ O;
        k = v;
        i_least = product_nonnegative u (V -ℤ O) hu (omega (arith, ints, c));
        j_least = product_nonnegative u O hu (omega (arith, ints, a));
        k_least = hv;
        some = omega (arith, ints, p, n);
        is = subst (λ (w : Vector). Same z w) e (record { x = refl; y = refl });
      }))
    where
      one : (f i g : ℤ)
          → (u *ℤ (((V -ℤ O) *ℤ f) +ℤ (O *ℤ i))) +ℤ (v *ℤ g)
          ≡ (((u *ℤ (V -ℤ O)) *ℤ f) +ℤ ((u *ℤ O) *ℤ i)) +ℤ (v *ℤ g)
      one f i g = ring
          (plus (times (at 0) (plus (times (minus (at 3) (at 2)) (at 4)) (times (at 2) (at 5))))
          (times (at 1) (at 6)))
          (plus (plus (times (times (at 0) (minus (at 3) (at 2))) (at 4))
          (times (times (at 0) (at 2)) (at 5))) (times (at 1) (at 6)))
          (vars (u ∷ v ∷ O ∷ V ∷ f ∷ i ∷ g ∷ [])) refl

  -- ---- a place inside and not under the chord
  pub record IsStart (u v : ℤ) : Type 0 where
    pub u_least : pos 0 <ℤ u
    pub v_least : pos 0 ≤ℤ v
    pub away : pos 0 ≤ℤ bow h (mix u y v o)
    pub inside : power h (mix u y v o) <ℤ pos 0

  pub start : (u : ℤ) × (v : ℤ) × IsStart u v
  start = by_lt_z (bow h y) (pos 0) under over
    where
      over : pos 0 ≤ℤ bow h y → (u : ℤ) × (v : ℤ) × IsStart u v
      over l =
          let e : mix (pos 1) y (pos 0) o ≡ y = vector_eq _ y (omega (arith, ints))
          (omega (arith, ints)) (omega (arith, ints)) in (
            pos 1,
            pos 0,
            record {
              u_least = omega (arith, ints);
              v_least = omega (arith, ints);
              away = subst (λ (z : Vector). pos 0 ≤ℤ bow h z) (sym e) l;
              inside = subst (λ (z : Vector). power h z <ℤ pos 0) (sym e) y_inside;
            },
          )

      under : bow h y <ℤ pos 0 → (u : ℤ) × (v : ℤ) × IsStart u v
      under l =
          let u = bow h o in
          let v = pos 0 -ℤ bow h y in
          let U = corner.1 in
          let W : pos 0 ≤ℤ v = omega (arith, ints, l) in
          let level : bow h (mix u y v o) ≡ pos 0 = bow-mix h u y v o
          ∙ ring (plus (times (at 0) (at 1)) (times (minus (num (pos 0)) (at 1)) (at 0)))
          (num (pos 0)) (vars (u ∷ bow h y ∷ [])) refl in
          let Z = column_place u v (omega (arith, ints, U)) W (omega (arith, ints, U, W)) in (
            u,
            v,
            record {
              u_least = U;
              v_least = W;
              away = omega (arith, ints, level);
              inside = power_below h (mix u y v o) hc
                  (shape_low (cap h) (seen h (mix u y v o)) hc level (column_low u v Z)
                  (column_high u v Z));
            },
          )

  pub crossing : (p : Vector) × (q : Vector) × IsCrossing h (b ∷ rest) p q
  crossing =
      let s = start.2 in
      let a = s.u_least in
      let c = s.v_least in
      let k = corner in
      let P = column_place start.0 start.1 (omega (arith, ints, a)) c (omega (arith, ints, a, c)) in (
        mix start.0 y start.1 o,
        o,
        record {
          p_place = P;
          q_place = omega (arith, ints);
          p_away = s.away;
          q_away = (let e = k.1 in omega (arith, ints, e));
          inside = s.inside;
          outside = k.0;
          there = λ z w. let x = on_column z w in
              subst (λ (v : Vector). InTube h.from (b ∷ rest) v) (sym x.4)
              (column_there x.0 x.1 x.2 x.3.0 x.3.1);
          inner = λ z w e. let x = on_column z w in
              column_inner x.0 x.1 (column_place x.0 x.1 x.2 x.3.0 x.3.1)
              (subst (λ (v : Vector). AtEnds h v) x.4 e);
        },
      )
    where
      on_column : (z : Vector) → IsOnWay (mix start.0 y start.1 o) o z
          → (u : ℤ) × (v : ℤ) × (pos 0 ≤ℤ u) × ((pos 0 ≤ℤ v) × (pos 0 <ℤ (u +ℤ v)))
          × (z ≡ mix u y v o)
      on_column z w =
          let s = start.2 in
          let a = s.u_least in
          let c = s.v_least in
          let hs = w.s_least in
          let ht = w.t_least in
          let some = w.some in
          let u = w.s *ℤ start.0 in
          let v = (w.s *ℤ start.1) +ℤ w.t in
          let f = product_nonnegative w.s start.0 hs (omega (arith, ints, a)) in
          let g = product_nonnegative w.s start.1 hs c in
          let k = product_nonnegative w.s (start.0 -ℤ pos 1) hs (omega (arith, ints, a)) in
          let e = ring (times (at 0) (minus (at 1) (num (pos 1))))
          (minus (times (at 0) (at 1)) (at 0)) (vars (w.s ∷ start.0 ∷ [])) refl in (
            u,
            v,
            f,
            (omega (arith, ints, g, ht), omega (arith, ints, g, k, e, some)),
            w.is ∙ vector_eq _ (mix u y v o) (one w.s w.t start.0 start.1 y.x o.x)
                (one w.s w.t start.0 start.1 y.y o.y) (one w.s w.t start.0 start.1 y.n o.n),
          )
        where
          one : (s t u v x g : ℤ)
              → (s *ℤ ((u *ℤ x) +ℤ (v *ℤ g))) +ℤ (t *ℤ g)
              ≡ ((s *ℤ u) *ℤ x) +ℤ (((s *ℤ v) +ℤ t) *ℤ g)
          one s t u v x g =
              ring (plus (times (at 0) (plus (times (at 2) (at 4)) (times (at 3) (at 5))))
              (times (at 1) (at 5)))
              (plus (times (times (at 0) (at 2)) (at 4))
              (times (plus (times (at 0) (at 3)) (at 1)) (at 5)))
              (vars (s ∷ t ∷ u ∷ v ∷ x ∷ g ∷ [])) refl
