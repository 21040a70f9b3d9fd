-- A corner of a tube that lies in one of the tube's triangles is a corner of that triangle: along
-- the chord the corners strictly rise.
use Rattle.std.proofs.Common.{◌≡◌, ◌⊎◌, inl, inr, List, [], ◌∷◌, ℤ, pos, ◌+ℤ◌, ◌*ℤ◌, ◌<ℤ◌, ◌≤ℤ◌}
use Rattle.std.proofs.Common.{refl, arith, ap, sym, subst}
use Rattle.std.proofs.lemmas.Int.{ints}
use Rattle.plane.specs.declared.kinds.Point.{Point}
use Rattle.plane.specs.Lists.{Has}
use Rattle.plane.specs.Forms.Vectors.{Vector, Place, point, Edge}
use Rattle.plane.specs.Forms.Meets.{IsEnd}
use Rattle.plane.specs.Forms.Arcs.{HalfArc, wide, tall, along}
use Rattle.plane.specs.Tubes.Bays.{Bay, AreBays}
use Rattle.plane.specs.Tubes.Windings.{arrow, Tile, weighed, InTile, strips, tiles, fence, bounds}
use Rattle.plane.specs.Tubes.Windings.{IsCornerOf}
use Rattle.plane.proofs.Algebra.Scaling.{times_le, cancel_le}
use Rattle.plane.proofs.Algebra.Ring.{Expr, at, num, plus, minus, times, vars, ring}
use Rattle.plane.proofs.Caps.Seen.{seen_same}
use Rattle.plane.proofs.Windings.TileCorners.{AtArrow}

-- ---- how far along the chord the places of a triangle lie
along-weighed : (h : HalfArc) (r : ℤ) (a : Point) (s : ℤ) (b : Point) (t : ℤ) (c : Point)
    → along h (weighed r a s b t c) ≡ ((r *ℤ along h (point a)) +ℤ (s *ℤ along h (point b)))
    +ℤ (t *ℤ along h (point c))
unfolding along
along-weighed h r a s b t c =
    let W = at 0 in let T = at 1 in let FX = at 2 in let FY = at 3 in
    let R = at 4 in let S = at 5 in let U = at 6 in
    let one = num (pos 1) in
    let at_point : Expr → Expr
    → Expr = λ x y. plus (times W (minus x (times FX one)))
    (times T (minus y (times FY one))) in
    let n = plus (plus R S) U in
    ring (plus (times W
    (minus (plus (plus (times R (at 7)) (times S (at 9))) (times U (at 11))) (times FX n)))
    (times T (minus (plus (plus (times R (at 8)) (times S (at 10))) (times U (at 12)))
    (times FY n))))
    (plus (plus (times R (at_point (at 7) (at 8))) (times S (at_point (at 9) (at 10))))
    (times U (at_point (at 11) (at 12))))
    (vars (wide h ∷ tall h ∷ h.from.x ∷ h.from.y ∷ r ∷ s ∷ t ∷ a.x ∷ a.y ∷ b.x ∷ b.y ∷ c.x ∷ c.y
    ∷ [])) refl

-- weights of at least 0 keep a bound
weighed_low : (k r x s y t z : ℤ) → pos 0 ≤ℤ r → pos 0 ≤ℤ s → pos 0 ≤ℤ t → k ≤ℤ x → k ≤ℤ y → k ≤ℤ z
    → (((r +ℤ s) +ℤ t) *ℤ k) ≤ℤ (((r *ℤ x) +ℤ (s *ℤ y)) +ℤ (t *ℤ z))
weighed_low k r x s y t z hr hs ht a b c =
    let u = times_le r k x hr a in let v = times_le s k y hs b in let w = times_le t k z ht c in
    let i = ring (times (plus (plus (at 1) (at 2)) (at 3)) (at 0))
    (plus (plus (times (at 1) (at 0)) (times (at 2) (at 0))) (times (at 3) (at 0)))
    (vars (k ∷ r ∷ s ∷ t ∷ [])) refl in
    omega (arith, ints, u, v, w, i)

weighed_high : (k r x s y t z : ℤ) → pos 0 ≤ℤ r → pos 0 ≤ℤ s → pos 0 ≤ℤ t → x ≤ℤ k → y ≤ℤ k → z ≤ℤ k
    → (((r *ℤ x) +ℤ (s *ℤ y)) +ℤ (t *ℤ z)) ≤ℤ (((r +ℤ s) +ℤ t) *ℤ k)
weighed_high k r x s y t z hr hs ht a b c =
    let u = times_le r x k hr a in let v = times_le s y k hs b in let w = times_le t z k ht c in
    let i = ring (times (plus (plus (at 1) (at 2)) (at 3)) (at 0))
    (plus (plus (times (at 1) (at 0)) (times (at 2) (at 0))) (times (at 3) (at 0)))
    (vars (k ∷ r ∷ s ∷ t ∷ [])) refl in
    omega (arith, ints, u, v, w, i)

swap : (a b : ℤ) → a *ℤ b ≡ b *ℤ a
swap a b = ring (times (at 0) (at 1)) (times (at 1) (at 0)) (vars (a ∷ b ∷ [])) refl

scaled_le : (n k x m : ℤ) → pos 0 ≤ℤ n → pos 0 <ℤ m → (m *ℤ k) ≤ℤ x → (y : ℤ) → y *ℤ m ≡ x *ℤ n
    → (k *ℤ n) ≤ℤ y
scaled_le n k x m hn hm l y e =
    let a = times_le n (m *ℤ k) x hn l in
    let i = ring (times (at 0) (times (at 1) (at 2))) (times (at 1) (times (at 2) (at 0)))
    (vars (n ∷ m ∷ k ∷ [])) refl in
    let j = swap x n in
    let q = swap y m in
    cancel_le m (k *ℤ n) y hm (omega (arith, ints, a, i, j, q, e))

scaled_ge : (n k x m : ℤ) → pos 0 ≤ℤ n → pos 0 <ℤ m → x ≤ℤ (m *ℤ k) → (y : ℤ) → y *ℤ m ≡ x *ℤ n
    → y ≤ℤ (k *ℤ n)
scaled_ge n k x m hn hm l y e =
    let a = times_le n x (m *ℤ k) hn l in
    let i = ring (times (at 0) (times (at 1) (at 2))) (times (at 1) (times (at 2) (at 0)))
    (vars (n ∷ m ∷ k ∷ [])) refl in
    let j = swap x n in
    let q = swap y m in
    cancel_le m y (k *ℤ n) hm (omega (arith, ints, a, i, j, q, e))

weak : (n : ℤ) → pos 0 <ℤ n → pos 0 ≤ℤ n
weak n h = omega (arith, ints, h)

pub tile_low : (h : HalfArc) (t : Tile) (z : Vector) (k : ℤ) → Place z → InTile t z
    → k ≤ℤ along h (point t.a) → k ≤ℤ along h (point t.b) → k ≤ℤ along h (point t.c)
    → (k *ℤ z.n) ≤ℤ along h z
tile_low h t z k Z i a b c =
    let m = weighed i.of_a t.a i.of_b t.b i.of_c t.c in
    let e = along-weighed h i.of_a t.a i.of_b t.b i.of_c t.c in
    let l = weighed_low k i.of_a (along h (point t.a)) i.of_b (along h (point t.b)) i.of_c
    (along h (point t.c)) i.a_least i.b_least i.c_least a b c in
    scaled_le z.n k (along h m) m.n (weak z.n Z) i.some (omega (arith, ints, l, e)) (along h z)
    (seen_same h z m i.is).x

pub tile_high : (h : HalfArc) (t : Tile) (z : Vector) (k : ℤ) → Place z → InTile t z
    → along h (point t.a) ≤ℤ k → along h (point t.b) ≤ℤ k → along h (point t.c) ≤ℤ k
    → along h z ≤ℤ (k *ℤ z.n)
tile_high h t z k Z i a b c =
    let m = weighed i.of_a t.a i.of_b t.b i.of_c t.c in
    let e = along-weighed h i.of_a t.a i.of_b t.b i.of_c t.c in
    let l = weighed_high k i.of_a (along h (point t.a)) i.of_b (along h (point t.b)) i.of_c
    (along h (point t.c)) i.a_least i.b_least i.c_least a b c in
    scaled_ge z.n k (along h m) m.n (weak z.n Z) i.some (omega (arith, ints, l, e)) (along h z)
    (seen_same h z m i.is).x

low_point : (h : HalfArc) (t : Tile) (q : Point) (k : ℤ) → InTile t (point q)
    → k ≤ℤ along h (point t.a) → k ≤ℤ along h (point t.b) → k ≤ℤ along h (point t.c)
    → k ≤ℤ along h (point q)
low_point h t q k i a b c =
    let l = tile_low h t (point q) k (omega (arith, ints)) i a b c in omega (arith, ints, l)

high_point : (h : HalfArc) (t : Tile) (q : Point) (k : ℤ) → InTile t (point q)
    → along h (point t.a) ≤ℤ k → along h (point t.b) ≤ℤ k → along h (point t.c) ≤ℤ k
    → along h (point q) ≤ℤ k
high_point h t q k i a b c =
    let l = tile_high h t (point q) k (omega (arith, ints)) i a b c in omega (arith, ints, l)

-- ---- the corners from a diagonal on
abbrev A : HalfArc → Point → ℤ
A h p = along h (point p)

-- q is the outer corner u, the inner corner p, or beyond p
abbrev IsFrom : HalfArc → Point → Point → Point → Type 0
IsFrom h p u q = (q ≡ u) ⊎ ((q ≡ p) ⊎ (A h p <ℤ A h q))

fence_from : (h : HalfArc) (p u : Point) (ks : List Bay) (q : Point) → AreBays h p ks
    → AtArrow (fence p u ks) q → IsFrom h p u q
fence_from h p u [] q are (e, inl m, x) =
    elim (subst (λ (f : Edge). IsEnd f q) m x) [ inl y ↦ inr (inl (sym y)) | inr y ↦ inl (sym y) ]
fence_from h p u [] q are (e, inr m, x) = absurd m
fence_from h p u (k ∷ ks) q are (e, inl m, x) =
    let up = are.0.up in let on = are.0.on in
    elim (subst (λ (f : Edge). IsEnd f q) m x) [
      | inl y ↦ inr (inl (sym y))
      | inr y ↦ inr (inr (subst (λ (v : Point). A h p <ℤ A h v) y (omega (arith, ints, up, on))))
    ]
fence_from h p u (k ∷ ks) q are (e, inr (inl m), x) =
    let up = are.0.up in
    elim (subst (λ (f : Edge). IsEnd f q) m x) [
      | inl y ↦ inr (inr (subst (λ (v : Point). A h p <ℤ A h v) y up))
      | inr y ↦ inl (sym y)
    ]
fence_from h p u (k ∷ ks) q are (e, inr (inr m), x) =
    let up = are.0.up in let on = are.0.on in
    elim (fence_from h k.inner k.outer ks q are.1 (e, m, x)) [
      | inl y ↦ inr (inr (subst (λ (v : Point). A h p <ℤ A h v) (sym y) up))
      | inr y ↦ elim y [
        | inl z ↦ inr
            (inr (subst (λ (v : Point). A h p <ℤ A h v) (sym z) (omega (arith, ints, up, on))))
        | inr l ↦ inr (inr (omega (arith, ints, up, on, l)))
      ]
    ]

-- the triangles from the diagonal on do not lie before u
strip_low : (h : HalfArc) (p u : Point) (ks : List Bay) (t : Tile) (q : Point) → A h u ≤ℤ A h p
    → AreBays h p ks → Has t (strips p u ks) → InTile t (point q) → A h u ≤ℤ A h q
strip_low h p u [] t q l are m i = absurd m
strip_low h p u (k ∷ ks) t q l are (inl e) i =
    let up = are.0.up in
    low_point h (record { a = u; b = p; c = k.outer }) q (A h u)
    (subst (λ (x : Tile). InTile x (point q)) e i) (omega (arith, ints)) l
    (omega (arith, ints, l, up))
strip_low h p u (k ∷ ks) t q l are (inr (inl e)) i =
    let up = are.0.up in let on = are.0.on in
    low_point h (record { a = p; b = k.inner; c = k.outer }) q (A h u)
    (subst (λ (x : Tile). InTile x (point q)) e i) l (omega (arith, ints, l, up, on))
    (omega (arith, ints, l, up))
strip_low h p u (k ∷ ks) t q l are (inr (inr m)) i =
    let up = are.0.up in let on = are.0.on in
    let x = strip_low h k.inner k.outer ks t q (omega (arith, ints, on)) are.1 m i in
    omega (arith, ints, l, up, x)

of_same : (s t : Tile) (q : Point) → t ≡ s → IsCornerOf s q → IsCornerOf t q
of_same s t q e c = subst (λ (x : Tile). IsCornerOf x q) (sym e) c

-- from a diagonal on: a corner of the chains that is in a triangle is one of its corners
strip_corner : (h : HalfArc) (p u : Point) (ks : List Bay) (t : Tile) (q : Point) → A h u <ℤ A h p
    → AreBays h p ks → Has t (strips p u ks) → InTile t (point q)
    → AtArrow (fence p u ks) q → IsCornerOf t q
strip_corner h p u [] t q l are m i at_ = absurd m
strip_corner h p u (k ∷ ks) t q l are (inl e) i at_ =
    let up = are.0.up in let on = are.0.on in
    let top = high_point h (record { a = u; b = p; c = k.outer }) q (A h k.outer)
    (subst (λ (x : Tile). InTile x (point q)) e i) (omega (arith, ints, l, up))
    (omega (arith, ints, up)) (omega (arith, ints)) in
    of_same (record { a = u; b = p; c = k.outer }) t q e (first at_ top)
  where
    first : AtArrow (fence p u (k ∷ ks)) q → A h q ≤ℤ A h k.outer
        → (q ≡ u) ⊎ ((q ≡ p) ⊎ (q ≡ k.outer))
    first (f, inl m, x) top =
        let on = are.0.on in
        elim (subst (λ (g : Edge). IsEnd g q) m x) [
          | inl y ↦ inr (inl (sym y))
          | inr y ↦ let z = ap (λ (v : Point). A h v) y in absurd (omega (arith, ints, top, z, on))
        ]
    first (f, inr (inl m), x) top =
        elim (subst (λ (g : Edge). IsEnd g q) m x) [
          | inl y ↦ inr (inr (sym y))
          | inr y ↦ inl (sym y)
        ]
    first (f, inr (inr m), x) top =
        let on = are.0.on in
        elim (fence_from h k.inner k.outer ks q are.1 (f, m, x)) [
          | inl y ↦ inr (inr y)
          | inr y ↦ elim y [
            | inl z ↦ let v = ap (λ (v : Point). A h v) z in
                absurd (omega (arith, ints, top, v, on))
            | inr z ↦ absurd (omega (arith, ints, top, z, on))
          ]
        ]
strip_corner h p u (k ∷ ks) t q l are (inr (inl e)) i at_ =
    let up = are.0.up in let on = are.0.on in
    let s : Tile = record { a = p; b = k.inner; c = k.outer } in
    let j = subst (λ (x : Tile). InTile x (point q)) e i in
    let top = high_point h s q (A h k.inner) j (omega (arith, ints, up, on)) (omega (arith, ints))
    (omega (arith, ints, on)) in
    let low = low_point h s q (A h p) j (omega (arith, ints)) (omega (arith, ints, up, on))
    (omega (arith, ints, up)) in
    of_same s t q e (second at_ top low)
  where
    second : AtArrow (fence p u (k ∷ ks)) q → A h q ≤ℤ A h k.inner → A h p ≤ℤ A h q
        → (q ≡ p) ⊎ ((q ≡ k.inner) ⊎ (q ≡ k.outer))
    second (f, inl m, x) top low =
        elim (subst (λ (g : Edge). IsEnd g q) m x) [
          | inl y ↦ inl (sym y)
          | inr y ↦ inr (inl (sym y))
        ]
    second (f, inr (inl m), x) top low = elim (subst (λ (g : Edge). IsEnd g q) m x) [
      | inl y ↦ inr (inr (sym y))
      | inr y ↦ let v = ap (λ (v : Point). A h v) y in absurd (omega (arith, ints, low, v, l))
    ]
    second (f, inr (inr m), x) top low = elim (fence_from h k.inner k.outer ks q are.1 (f, m, x)) [
      | inl y ↦ inr (inr y)
      | inr y ↦ elim y [
        | inl z ↦ inr (inl z)
        | inr z ↦ absurd (omega (arith, ints, top, z))
      ]
    ]
strip_corner h p u (k ∷ ks) t q l are (inr (inr m)) i at_ =
    let up = are.0.up in let on = are.0.on in
    let low = strip_low h k.inner k.outer ks t q (omega (arith, ints, on)) are.1 m i in
    rest at_ low (λ x. strip_corner h k.inner k.outer ks t q on are.1 m i x)
  where
    at_inner : q ≡ k.inner → AtArrow (fence k.inner k.outer ks) q
    at_inner e = start ks
      where
        start : (ks : List Bay) → AtArrow (fence k.inner k.outer ks) q
        start [] = (arrow k.inner k.outer, inl refl, inl (sym e))
        start (d ∷ ds) = (arrow k.inner d.inner, inl refl, inl (sym e))

    at_outer : q ≡ k.outer → AtArrow (fence k.inner k.outer ks) q
    at_outer e = start ks
      where
        start : (ks : List Bay) → AtArrow (fence k.inner k.outer ks) q
        start [] = (arrow k.inner k.outer, inl refl, inr (sym e))
        start (d ∷ ds) = (arrow d.outer k.outer, inr (inl refl), inr (sym e))

    rest : AtArrow (fence p u (k ∷ ks)) q → A h k.outer ≤ℤ A h q
        → (AtArrow (fence k.inner k.outer ks) q → IsCornerOf t q) → IsCornerOf t q
    rest (f, inl n, x) low next =
        let up = are.0.up in
        elim (subst (λ (g : Edge). IsEnd g q) n x) [
          | inl y ↦ let v = ap (λ (v : Point). A h v) y in absurd (omega (arith, ints, low, v, up))
          | inr y ↦ next (at_inner (sym y))
        ]
    rest (f, inr (inl n), x) low next =
        let up = are.0.up in
        elim (subst (λ (g : Edge). IsEnd g q) n x) [
          | inl y ↦ next (at_outer (sym y))
          | inr y ↦ let v = ap (λ (v : Point). A h v) y in
              absurd (omega (arith, ints, low, v, l, up))
        ]
    rest (f, inr (inr n), x) low next = next (f, n, x)

-- ---- the whole tube
pub tile_corner : (h : HalfArc) (a : Point) (ks : List Bay) (t : Tile) (q : Point) → AreBays h a ks
    → Has t (tiles a ks) → InTile t (point q) → AtArrow (bounds a ks) q → IsCornerOf t q
tile_corner h a [] t q are m i at_ = absurd m
tile_corner h a (k ∷ ks) t q are (inl e) i at_ =
    let up = are.0.up in let on = are.0.on in
    let s : Tile = record { a = a; b = k.inner; c = k.outer } in
    let top = high_point h s q (A h k.inner) (subst (λ (x : Tile). InTile x (point q)) e i)
    (omega (arith, ints, up, on)) (omega (arith, ints)) (omega (arith, ints, on)) in
    of_same s t q e (first at_ top)
  where
    first : AtArrow (fence a a (k ∷ ks)) q → A h q ≤ℤ A h k.inner
        → (q ≡ a) ⊎ ((q ≡ k.inner) ⊎ (q ≡ k.outer))
    first (f, inl m, x) top =
        elim (subst (λ (g : Edge). IsEnd g q) m x) [
          | inl y ↦ inl (sym y)
          | inr y ↦ inr (inl (sym y))
        ]
    first (f, inr (inl m), x) top =
        elim (subst (λ (g : Edge). IsEnd g q) m x) [
          | inl y ↦ inr (inr (sym y))
          | inr y ↦ inl (sym y)
        ]
    first (f, inr (inr m), x) top = elim (fence_from h k.inner k.outer ks q are.1 (f, m, x)) [
      | inl y ↦ inr (inr y)
      | inr y ↦ elim y [ inl z ↦ inr (inl z) | inr z ↦ absurd (omega (arith, ints, top, z)) ]
    ]
tile_corner h a (k ∷ ks) t q are (inr m) i at_ =
    let on = are.0.on in
    let low = strip_low h k.inner k.outer ks t q (omega (arith, ints, on)) are.1 m i in
    rest at_ low
  where
    start_inner : (ks : List Bay) → q ≡ k.inner → AtArrow (fence k.inner k.outer ks) q
    start_inner [] e = (arrow k.inner k.outer, inl refl, inl (sym e))
    start_inner (d ∷ ds) e = (arrow k.inner d.inner, inl refl, inl (sym e))

    start_outer : (ks : List Bay) → q ≡ k.outer → AtArrow (fence k.inner k.outer ks) q
    start_outer [] e = (arrow k.inner k.outer, inl refl, inr (sym e))
    start_outer (d ∷ ds) e = (arrow d.outer k.outer, inr (inl refl), inr (sym e))

    on_rest : AtArrow (fence k.inner k.outer ks) q → IsCornerOf t q
    on_rest x = let on = are.0.on in strip_corner h k.inner k.outer ks t q on are.1 m i x

    rest : AtArrow (fence a a (k ∷ ks)) q → A h k.outer ≤ℤ A h q → IsCornerOf t q
    rest (f, inl n, x) low =
        let up = are.0.up in
        elim (subst (λ (g : Edge). IsEnd g q) n x) [
          | inl y ↦ let v = ap (λ (v : Point). A h v) y in absurd (omega (arith, ints, low, v, up))
          | inr y ↦ on_rest (start_inner ks (sym y))
        ]
    rest (f, inr (inl n), x) low =
        let up = are.0.up in
        elim (subst (λ (g : Edge). IsEnd g q) n x) [
          | inl y ↦ on_rest (start_outer ks (sym y))
          | inr y ↦ let v = ap (λ (v : Point). A h v) y in absurd (omega (arith, ints, low, v, up))
        ]
    rest (f, inr (inr n), x) low = on_rest (f, n, x)
