-- Triangles that share their inner arrows: a place in one of them, off the outer arrows, is gone
-- round by one of them.
use Rattle.std.proofs.Common.{◌≡◌, List, [], ◌∷◌, ℤ, pos, ◌+ℤ◌, ◌*ℤ◌, ◌<ℤ◌, ◌≤ℤ◌, ◌⊎◌, inl, inr}
use Rattle.std.proofs.Common.{refl, arith, ap, sym, ◌∙◌, subst}
use Rattle.std.proofs.lemmas.Int.{ints, by_lt_z}
use Rattle.plane.specs.declared.kinds.Point.{Point}
use Rattle.plane.specs.Lists.{Has}
use Rattle.plane.specs.Forms.Vectors.{Vector, Place, Same, Between, mix, point, Edge, side}
use Rattle.plane.specs.Tubes.Windings.{arrow, back, lead, Tile, round, IsLeftTile, IsSteep, winding}
use Rattle.plane.specs.Tubes.Windings.{IsTiled, IsClearOf}
use Rattle.plane.proofs.Algebra.Laws.{product_positive, product_comm}
use Rattle.plane.proofs.Algebra.Scaling.{times_le, cancel_le, cancel_lt, cancel_zero}
use Rattle.plane.proofs.Algebra.Scaling.{product_of_zero}
use Rattle.plane.proofs.Linear.OnePlace.{side_same}
use Rattle.plane.proofs.ListLemmas.Lists.{each_has}
use Rattle.plane.proofs.Linear.Vectors.{side-mix, side-low, side-high}
use Rattle.plane.proofs.Windings.OneTriangle.{side_a, side_b, side_c, area, sides_sum, sides_x}
use Rattle.plane.proofs.Windings.OneTriangle.{sides_y, sides_lead, area_next, area_last, IsWithin}
use Rattle.plane.proofs.Windings.OneTriangle.{lead_level, winding_full, winding_edge}
use Rattle.plane.proofs.Algebra.Ring.{at, times, vars, ring}

-- ---- places strictly between two points
pub record Inner (z : Vector) (p q : Point) : Type 0 where
  pub s : ℤ
  pub t : ℤ
  pub s_least : pos 0 <ℤ s
  pub t_least : pos 0 <ℤ t
  pub is : Same z (mix s (point p) t (point q))

inner_back : (z : Vector) (p q : Point) → Inner z p q → Inner z q p
inner_back z p q h =
    let x = h.is.x in
    let y = h.is.y in
    record {
      s = h.t;
      t = h.s;
      s_least = h.t_least;
      t_least = h.s_least;
      is = record {
        x = ap (λ (n : ℤ). z.x *ℤ n) (omega (arith, ints)) ∙ x
            ∙ ap (λ (n : ℤ). n *ℤ z.n) (omega (arith, ints));
        y = ap (λ (n : ℤ). z.y *ℤ n) (omega (arith, ints)) ∙ y
            ∙ ap (λ (n : ℤ). n *ℤ z.n) (omega (arith, ints));
      };
    }

inner_between : (z : Vector) (p q : Point) → Inner z p q → Between z (point p) (point q)
inner_between z p q h =
    let a = h.s_least in
    let b = h.t_least in
    record {
      s = h.s;
      t = h.t;
      s_least = omega (arith, ints, a);
      t_least = omega (arith, ints, b);
      some = omega (arith, ints, a, b);
      is = h.is;
    }

-- its sides in a triangle whose first arrow it is on
inner_side : (z : Vector) (p q : Point) (e : Edge) → Place z → (h : Inner z p q)
    → ((h.s *ℤ pos 1) +ℤ (h.t *ℤ pos 1)) *ℤ side e z
    ≡ z.n *ℤ ((h.s *ℤ side e (point p)) +ℤ (h.t *ℤ side e (point q)))
inner_side z p q e Z h = side_same e z (mix h.s (point p) h.t (point q)) h.is
    ∙ ap (λ (v : ℤ). z.n *ℤ v) (side-mix e h.s (point p) h.t (point q))

inner_weight : (z : Vector) (p q : Point) → (h : Inner z p q)
    → pos 0 <ℤ ((h.s *ℤ pos 1) +ℤ (h.t *ℤ pos 1))
inner_weight z p q h = let a = h.s_least in let b = h.t_least in omega (arith, ints, a, b)

positive_from : (m n a v : ℤ) → pos 0 <ℤ m → pos 0 <ℤ n → pos 0 <ℤ v → m *ℤ a ≡ n *ℤ v → pos 0 <ℤ a
positive_from m n a v M N V e =
    let p = product_positive n v N V in
    let z : m *ℤ pos 0 ≡ pos 0 = omega (arith, ints) in
    cancel_lt m (pos 0) a M (omega (arith, ints, p, e, z))

inner_a : (t : Tile) (z : Vector) → Place z → Inner z t.a t.b → side_a t z ≡ pos 0
inner_a t z Z h =
    let e = arrow t.a t.b in
    let l = product_of_zero h.s (side e (point t.a)) (side-low e) in
    let r = product_of_zero h.t (side e (point t.b)) (side-high e) in
    cancel_zero ((h.s *ℤ pos 1) +ℤ (h.t *ℤ pos 1)) (side e z) (inner_weight z t.a t.b h)
    (inner_side z t.a t.b e Z h ∙ product_of_zero z.n _ (omega (arith, ints, l, r)))

inner_b : (t : Tile) (z : Vector) → Place z → IsLeftTile t → Inner z t.a t.b → pos 0 <ℤ side_b t z
inner_b t z Z left h =
    let e = arrow t.b t.c in
    let l = product_positive h.s (side e (point t.a)) h.s_least
    (subst (λ (v : ℤ). pos 0 <ℤ v) (sym (area_next t)) left) in
    let r = product_of_zero h.t (side e (point t.b)) (side-low e) in
    positive_from ((h.s *ℤ pos 1) +ℤ (h.t *ℤ pos 1)) z.n (side e z) _ (inner_weight z t.a t.b h) Z
    (omega (arith, ints, l, r)) (inner_side z t.a t.b e Z h)

inner_c : (t : Tile) (z : Vector) → Place z → IsLeftTile t → Inner z t.a t.b → pos 0 <ℤ side_c t z
inner_c t z Z left h =
    let e = arrow t.c t.a in
    let l = product_positive h.t (side e (point t.b)) h.t_least
    (subst (λ (v : ℤ). pos 0 <ℤ v) (sym (area_last t)) left) in
    let r = product_of_zero h.s (side e (point t.a)) (side-high e) in
    positive_from ((h.s *ℤ pos 1) +ℤ (h.t *ℤ pos 1)) z.n (side e z) _ (inner_weight z t.a t.b h) Z
    (omega (arith, ints, l, r)) (inner_side z t.a t.b e Z h)

-- a triangle whose first arrow holds the place and goes against the sweep
against : (w : ℤ) (t : Tile) (z : Vector) → Place z → IsLeftTile t → Inner z t.a t.b
    → pos 0 <ℤ lead w t.a z → lead w t.b z ≤ℤ pos 0 → winding w z t ≡ pos 1
against w t z Z left h a b =
    winding_edge w t z (inner_a t z Z h) (inner_b t z Z left h) (inner_c t z Z left h) a b

-- ---- a triangle from its next corner on
abbrev pub next : Tile → Tile
next t = record { a = t.b; b = t.c; c = t.a }

winding_next : (w : ℤ) (z : Vector) (t : Tile) → winding w z (next t) ≡ winding w z t
winding_next w z t = omega (arith, ints)

left_next : (t : Tile) → IsLeftTile t → IsLeftTile (next t)
left_next t h = subst (λ (v : ℤ). pos 0 <ℤ v) (sym (area_next t)) h

steep_next : (w : ℤ) (t : Tile) → IsSteep w t → IsSteep w (next t)
steep_next w t h = record { ab = h.bc; bc = h.ca; ca = h.ab }

-- the arrow is one of the triangle's, and the place is strictly between its ends
arrow_against : (w : ℤ) (t : Tile) (z : Vector) (p q : Point) → Place z → IsLeftTile t
    → Has (arrow p q) (round t) → Inner z p q → pos 0 <ℤ lead w p z → lead w q z ≤ℤ pos 0
    → winding w z t ≡ pos 1
arrow_against w t z p q Z left (inl e) h a b =
    let x : p ≡ t.a = ap (λ (f : Edge). f.low) e in
    let y : q ≡ t.b = ap (λ (f : Edge). f.high) e in
    against w t z Z left
    (subst (λ (u : Point). Inner z u t.b) x (subst (λ (u : Point). Inner z p u) y h))
    (subst (λ (u : Point). pos 0 <ℤ lead w u z) x a)
    (subst (λ (u : Point). lead w u z ≤ℤ pos 0) y b)
arrow_against w t z p q Z left (inr (inl e)) h a b =
    let x : p ≡ t.b = ap (λ (f : Edge). f.low) e in
    let y : q ≡ t.c = ap (λ (f : Edge). f.high) e in
    sym (winding_next w z t)
    ∙ against w (next t) z Z (left_next t left)
    (subst (λ (u : Point). Inner z u t.c) x (subst (λ (u : Point). Inner z p u) y h))
    (subst (λ (u : Point). pos 0 <ℤ lead w u z) x a)
    (subst (λ (u : Point). lead w u z ≤ℤ pos 0) y b)
arrow_against w t z p q Z left (inr (inr (inl e))) h a b =
    let x : p ≡ t.c = ap (λ (f : Edge). f.low) e in
    let y : q ≡ t.a = ap (λ (f : Edge). f.high) e in
    sym (winding_next w z (next t) ∙ winding_next w z t)
    ∙ against w (next (next t)) z Z (left_next (next t) (left_next t left))
    (subst (λ (u : Point). Inner z u t.a) x (subst (λ (u : Point). Inner z p u) y h))
    (subst (λ (u : Point). pos 0 <ℤ lead w u z) x a)
    (subst (λ (u : Point). lead w u z ≤ℤ pos 0) y b)
arrow_against w t z p q Z left (inr (inr (inr e))) h a b = absurd e

-- ---- a tiling
abbrev pub corners : Tile → List Point
corners t = t.a ∷ t.b ∷ t.c ∷ []

abbrev pub IsShared : List Tile → List Edge → Edge → Type 0
IsShared ts bs e = Has e bs ⊎ ((u : Tile) × Has u ts × Has (back e) (round u))

abbrev pub IsHeld : List Edge → Point → Type 0
IsHeld bs p = (e : Edge) × Has e bs × ((e.low ≡ p) ⊎ (e.high ≡ p))

-- each arrow of a triangle is one of the bounds or the back of another triangle's arrow, and each
-- corner is an end of a bound
pub record IsTiling (ts : List Tile) (bs : List Edge) : Type 0 where
  pub arrows : (t : Tile) → Has t ts → (e : Edge) → Has e (round t) → IsShared ts bs e
  pub held : (t : Tile) → Has t ts → (p : Point) → Has p (corners t) → IsHeld bs p

-- a corner is on a bound
at_end : (z : Vector) (p : Point) (e : Edge) → Same z (point p) → (e.low ≡ p) ⊎ (e.high ≡ p)
    → Between z (point e.low) (point e.high)
at_end z p e h (inl x) =
    let k = subst (λ (u : Point). Same z (point u)) (sym x) h in
    let a = k.x in
    let b = k.y in
    record {
      s = pos 1;
      t = pos 0;
      s_least = omega (arith, ints);
      t_least = omega (arith, ints);
      some = omega (arith, ints);
      is = record { x = one z.x z.n e.low.x e.high.x a; y = one z.y z.n e.low.y e.high.y b };
    }
  where
    one : (x n l r : ℤ) → x *ℤ pos 1 ≡ l *ℤ n
        → x *ℤ ((pos 1 *ℤ pos 1) +ℤ (pos 0 *ℤ pos 1)) ≡ ((pos 1 *ℤ l) +ℤ (pos 0 *ℤ r)) *ℤ n
    one x n l r h = h ∙ ap (λ (v : ℤ). v *ℤ n) (omega (arith, ints))
at_end z p e h (inr x) =
    let k = subst (λ (u : Point). Same z (point u)) (sym x) h in
    let a = k.x in
    let b = k.y in
    record {
      s = pos 0;
      t = pos 1;
      s_least = omega (arith, ints);
      t_least = omega (arith, ints);
      some = omega (arith, ints);
      is = record { x = one z.x z.n e.low.x e.high.x a; y = one z.y z.n e.low.y e.high.y b };
    }
  where
    one : (x n l r : ℤ) → x *ℤ pos 1 ≡ r *ℤ n
        → x *ℤ ((pos 0 *ℤ pos 1) +ℤ (pos 1 *ℤ pos 1)) ≡ ((pos 0 *ℤ l) +ℤ (pos 1 *ℤ r)) *ℤ n
    one x n l r h = h ∙ ap (λ (v : ℤ). v *ℤ n) (omega (arith, ints))

-- the place of two weights where the third side is 0
weights_same : (x n k B C A a b c m : ℤ) → pos 0 <ℤ k → A ≡ pos 0
    → x *ℤ k ≡ ((B *ℤ a) +ℤ (C *ℤ b)) +ℤ (A *ℤ c) → m ≡ n *ℤ k
    → x *ℤ m ≡ ((B *ℤ a) +ℤ (C *ℤ b)) *ℤ n
weights_same x n k B C A a b c m K z e f =
    let o = product_comm A c ∙ product_of_zero c A z in
    let g : x *ℤ k ≡ (B *ℤ a) +ℤ (C *ℤ b) = omega (arith, ints, e, o) in
    let r = ring (times (at 0) (times (at 1) (at 2))) (times (times (at 0) (at 2)) (at 1))
    (vars (x ∷ n ∷ k ∷ [])) refl in
    ap (λ (v : ℤ). x *ℤ v) f ∙ r ∙ ap (λ (v : ℤ). v *ℤ n) g

edge_same : (t : Tile) (z : Vector) → IsLeftTile t → side_a t z ≡ pos 0
    → Same z (mix (side_b t z) (point t.a) (side_c t z) (point t.b))
edge_same t z left a =
    let s = sides_sum t z in
    let m : ((side_b t z *ℤ pos 1) +ℤ (side_c t z *ℤ pos 1))
    ≡ z.n *ℤ area t = omega (arith, ints, s, a) in
    record {
      x = weights_same z.x z.n (area t) (side_b t z) (side_c t z)
          (side_a t z) t.a.x t.b.x t.c.x _ left a (sides_x t z) m;
      y = weights_same z.y z.n (area t) (side_b t z) (side_c t z)
          (side_a t z) t.a.y t.b.y t.c.y _ left a (sides_y t z) m;
    }

weights_last : (C x b n B a : ℤ) → pos 0 <ℤ C → B ≡ pos 0
    → x *ℤ ((B *ℤ pos 1) +ℤ (C *ℤ pos 1)) ≡ ((B *ℤ a) +ℤ (C *ℤ b)) *ℤ n → x *ℤ pos 1 ≡ b *ℤ n
weights_last C x b n B a K z e =
    let o = product_comm B a ∙ product_of_zero a B z in
    let l : x *ℤ ((B *ℤ pos 1) +ℤ (C *ℤ pos 1))
    ≡ x *ℤ C = ap (λ (v : ℤ). x *ℤ v) (omega (arith, ints, z)) in
    let r : ((B *ℤ a) +ℤ (C *ℤ b)) *ℤ n
    ≡ (C *ℤ b) *ℤ n = ap (λ (v : ℤ). v *ℤ n) (omega (arith, ints, o)) in
    let i = product_comm x C in
    let j = ring (times (times (at 0) (at 1)) (at 2)) (times (at 0) (times (at 1) (at 2)))
    (vars (C ∷ b ∷ n ∷ [])) refl in
    let f = cancel_le C x (b *ℤ n) K (omega (arith, ints, e, l, r, i, j)) in
    let g = cancel_le C (b *ℤ n) x K (omega (arith, ints, e, l, r, i, j)) in
    omega (arith, ints, f, g)

weights_first : (B x a n C b : ℤ) → pos 0 <ℤ B → C ≡ pos 0
    → x *ℤ ((B *ℤ pos 1) +ℤ (C *ℤ pos 1)) ≡ ((B *ℤ a) +ℤ (C *ℤ b)) *ℤ n → x *ℤ pos 1 ≡ a *ℤ n
weights_first B x a n C b K z e =
    weights_last B x a n C b K z (ap (λ (v : ℤ). x *ℤ v) (omega (arith, ints)) ∙ e
    ∙ ap (λ (v : ℤ). v *ℤ n) (omega (arith, ints)))

-- ---- the place in a triangle, off the bounds
abbrev pub IsRounded : ℤ → Vector → List Tile → Type 0
IsRounded w z ts = (u : Tile) × Has u ts × (winding w z u ≡ pos 1)

module _ (w : ℤ) (z : Vector) (ts : List Tile) (bs : List Edge) (Z : Place z)
    (tiling : IsTiling ts bs) (tiled : IsTiled w ts) (clear : IsClearOf bs z) where
  not_held : (p : Point) → Same z (point p) → IsHeld bs p → ⊥
  not_held p h k = clear k.0 k.1 (at_end z p k.0 h k.2)

  lead_other : (t : Tile) → IsLeftTile t → IsSteep w t → side_a t z ≡ pos 0 → pos 0 <ℤ side_b t z
      → pos 0 <ℤ side_c t z
      → ((pos 0 <ℤ lead w t.a z) × (lead w t.b z ≤ℤ pos 0))
      ⊎ ((pos 0 <ℤ lead w t.b z) × (lead w t.a z ≤ℤ pos 0))
  lead_other t left steep a b c =
      let l = sides_lead w t z in
      let o = product_comm (side_a t z) (lead w t.c z)
      ∙ product_of_zero (lead w t.c z) (side_a t z) a in
      by_lt_z (pos 0) (lead w t.a z)
      (λ (k : pos 0 <ℤ lead w t.a z).
      let p = product_positive (side_b t z) (lead w t.a z) b k in
      inl (
        k,
        by_lt_z (pos 0) (lead w t.b z)
            (λ (m : pos 0 <ℤ lead w t.b z). let q = product_positive (side_c t z)
            (lead w t.b z) c m in absurd (omega (arith, ints, l, o, p, q)))
            (λ m. m),
      ))
      (λ (k : lead w t.a z ≤ℤ pos 0).
      let p = times_le (side_b t z) (lead w t.a z) (pos 0) (omega (arith, ints, b)) k in
      let p0 : side_b t z *ℤ pos 0 ≡ pos 0 = omega (arith, ints) in
      by_lt_z (pos 0) (lead w t.b z)
      (λ (m : pos 0 <ℤ lead w t.b z). inr (m, k))
      (λ (m : lead w t.b z ≤ℤ pos 0).
      let q = times_le (side_c t z) (lead w t.b z) (pos 0) (omega (arith, ints, c)) m in
      let q0 : side_c t z *ℤ pos 0 ≡ pos 0 = omega (arith, ints) in
      let x = cancel_zero (side_b t z) (lead w t.a z) b (omega (arith, ints, l, o, p, q, p0, q0)) in
      let y = cancel_zero (side_c t z) (lead w t.b z) c (omega (arith, ints, l, o, p, q, p0, q0)) in
      absurd (steep.ab (lead_level w t.a t.b z Z (x ∙ sym y)))))

  on_first : (t : Tile) → IsLeftTile t → IsSteep w t → IsWithin t z → side_a t z ≡ pos 0
      → IsShared ts bs (arrow t.a t.b) → IsHeld bs t.a → IsHeld bs t.b
      → (winding w z t ≡ pos 1) ⊎ IsRounded w z ts
  on_first t left steep h a shared ha hb =
      let hB = h.1 in
      let hC = h.2 in
      let s = sides_sum t z in
      let k = product_positive z.n (area t) Z left in
      let same = edge_same t z left a in
      by_lt_z (pos 0) (side_b t z)
      (λ (b : pos 0 <ℤ side_b t z). by_lt_z (pos 0) (side_c t z)
      (λ (c : pos 0 <ℤ side_c t z). inside b c (record {
        s = side_b t z;
        t = side_c t z;
        s_least = b;
        t_least = c;
        is = same;
      }) shared)
      (λ (c : side_c t z ≤ℤ pos 0).
      let zero : side_c t z ≡ pos 0 = omega (arith, ints, c, hC) in
      absurd (not_held t.a (record {
        x = weights_first (side_b t z) z.x t.a.x z.n (side_c t z) t.b.x b zero same.x;
        y = weights_first (side_b t z) z.y t.a.y z.n (side_c t z) t.b.y b zero same.y;
      }) ha)))
      (λ (b : side_b t z ≤ℤ pos 0).
      let zero : side_b t z ≡ pos 0 = omega (arith, ints, b, hB) in
      let c : pos 0 <ℤ side_c t z = omega (arith, ints, s, k, zero, a) in
      absurd (not_held t.b (record {
        x = weights_last (side_c t z) z.x t.b.x z.n (side_b t z) t.a.x c zero same.x;
        y = weights_last (side_c t z) z.y t.b.y z.n (side_b t z) t.a.y c zero same.y;
      }) hb))
    where
      inside : pos 0 <ℤ side_b t z → pos 0 <ℤ side_c t z → Inner z t.a t.b
          → IsShared ts bs (arrow t.a t.b) → (winding w z t ≡ pos 1) ⊎ IsRounded w z ts
      inside b c i (inl m) = absurd (clear (arrow t.a t.b) m (inner_between z t.a t.b i))
      inside b c i (inr m) = elim (lead_other t left steep a b c) [
        | inl k ↦ inl (against w t z Z left i k.0 k.1)
        | inr k ↦ inr (
          m.0,
          m.1,
          arrow_against w m.0 z t.b t.a Z
              (each_has (λ u. IsLeftTile u × IsSteep w u) ts m.0 tiled m.1).0 m.2
              (inner_back z t.a t.b i) k.0 k.1,
        )
      ]

  or_here : (t : Tile) → Has t ts → (n : ℤ) → n ≡ winding w z t → (n ≡ pos 1) ⊎ IsRounded w z ts
      → IsRounded w z ts
  or_here t m n e (inl h) = (t, m, sym e ∙ h)
  or_here t m n e (inr h) = h

  -- some triangle goes round a place of a triangle
  pub rounded : (t : Tile) → Has t ts → IsWithin t z → IsRounded w z ts
  rounded t m h =
      let k = each_has (λ u. IsLeftTile u × IsSteep w u) ts t tiled m in
      let a = h.0 in
      let b = h.1 in
      let c = h.2 in
      let ab = tiling.arrows t m (arrow t.a t.b) (inl refl) in
      let bc = tiling.arrows t m (arrow t.b t.c) (inr (inl refl)) in
      let ca = tiling.arrows t m (arrow t.c t.a) (inr (inr (inl refl))) in
      let ha = tiling.held t m t.a (inl refl) in
      let hb = tiling.held t m t.b (inr (inl refl)) in
      let hc = tiling.held t m t.c (inr (inr (inl refl))) in
      by_lt_z (pos 0) (side_a t z)
      (λ (pa : pos 0 <ℤ side_a t z). by_lt_z (pos 0) (side_b t z)
      (λ (pb : pos 0 <ℤ side_b t z). by_lt_z (pos 0) (side_c t z)
      (λ (pc : pos 0 <ℤ side_c t z). (t, m, winding_full w t z Z k.0 k.1 pa pb pc))
      (λ (nc : side_c t z ≤ℤ pos 0).
      or_here t m (winding w z (next (next t))) (winding_next w z (next t) ∙ winding_next w z t)
      (on_first (next (next t)) (left_next (next t) (left_next t k.0))
      (steep_next w (next t) (steep_next w t k.1)) (c, a, b)
      (omega (arith, ints, nc, c)) ca hc ha)))
      (λ (nb : side_b t z ≤ℤ pos 0).
      or_here t m (winding w z (next t)) (winding_next w z t)
      (on_first (next t) (left_next t k.0) (steep_next w t k.1) (b, c, a)
      (omega (arith, ints, nb, b)) bc hb hc)))
      (λ (na : side_a t z ≤ℤ pos 0). or_here t m (winding w z t) refl
      (on_first t k.0 k.1 h (omega (arith, ints, na, a)) ab ha hb))
