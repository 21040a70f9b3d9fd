-- A triangle that turns left goes round a place once or not at all, and once only where it holds
-- the place.
use Rattle.std.proofs.Common.{◌≡◌, ℤ, pos, ◌+ℤ◌, ◌*ℤ◌, ◌-ℤ◌, ◌<ℤ◌, ◌≤ℤ◌, ◌⊎◌, [], ◌∷◌, refl, arith}
use Rattle.std.proofs.Common.{ap, sym, ◌∙◌}
use Rattle.std.proofs.lemmas.Int.{ints}
use Rattle.plane.specs.declared.kinds.Point.{Point}
use Rattle.plane.specs.Forms.Vectors.{Vector, Place, point, Edge, side, sweep}
use Rattle.plane.specs.Faces.Cells.{is_positive}
use Rattle.plane.specs.Tubes.Windings.{arrow, back, lead, turning, Tile, IsLeftTile, IsSteep}
use Rattle.plane.specs.Tubes.Windings.{weighed, InTile, winding}
use Rattle.plane.proofs.Algebra.Laws.{product_positive, product_nonnegative, product_comm}
use Rattle.plane.proofs.Algebra.Scaling.{cancel_le}
use Rattle.plane.proofs.Linear.OnePlace.{side_same}
use Rattle.plane.proofs.Windings.Turns.{IsBalanced, NotNegative, three, is_test, once_by, full_by}
use Rattle.plane.proofs.Windings.Turns.{edge_by, turned_back}
use Rattle.plane.proofs.Algebra.Ring.{Expr, at, num, plus, minus, times, vars, ring}

-- ---- the identities of a triangle
abbrev SIDE : Expr → Expr → Expr → Expr → Expr → Expr → Expr → Expr
SIDE lx ly hx hy x y n =
    minus (times (minus hx lx) (minus y (times ly n))) (times (minus hy ly) (minus x (times lx n)))

abbrev of_a : Expr
of_a = SIDE (at 2) (at 3) (at 4) (at 5) (at 6) (at 7) (at 8)

abbrev of_b : Expr
of_b = SIDE (at 4) (at 5) (at 0) (at 1) (at 6) (at 7) (at 8)

abbrev of_c : Expr
of_c = SIDE (at 0) (at 1) (at 2) (at 3) (at 6) (at 7) (at 8)

abbrev whole : Expr
whole = SIDE (at 0) (at 1) (at 2) (at 3) (at 4) (at 5) (num (pos 1))

-- the sides of the place, from the first arrow on
abbrev pub side_a : Tile → Vector → ℤ
side_a t z = side (arrow t.a t.b) z

abbrev pub side_b : Tile → Vector → ℤ
side_b t z = side (arrow t.b t.c) z

abbrev pub side_c : Tile → Vector → ℤ
side_c t z = side (arrow t.c t.a) z

abbrev pub area : Tile → ℤ
area t = side (arrow t.a t.b) (point t.c)

pub sides_sum : (t : Tile) (z : Vector) → (side_a t z +ℤ side_b t z) +ℤ side_c t z ≡ z.n *ℤ area t
unfolding side
sides_sum t z =
    ring (plus (plus of_c of_a) of_b) (times (at 8) whole)
    (vars (t.a.x ∷ t.a.y ∷ t.b.x ∷ t.b.y ∷ t.c.x ∷ t.c.y ∷ z.x ∷ z.y ∷ z.n ∷ [])) refl

pub sides_x : (t : Tile) (z : Vector)
    → z.x *ℤ area t ≡ ((side_b t z *ℤ t.a.x) +ℤ (side_c t z *ℤ t.b.x)) +ℤ (side_a t z *ℤ t.c.x)
unfolding side
sides_x t z =
    ring (times (at 6) whole)
    (plus (plus (times of_a (at 0)) (times of_b (at 2))) (times of_c (at 4)))
    (vars (t.a.x ∷ t.a.y ∷ t.b.x ∷ t.b.y ∷ t.c.x ∷ t.c.y ∷ z.x ∷ z.y ∷ z.n ∷ [])) refl

pub sides_y : (t : Tile) (z : Vector)
    → z.y *ℤ area t ≡ ((side_b t z *ℤ t.a.y) +ℤ (side_c t z *ℤ t.b.y)) +ℤ (side_a t z *ℤ t.c.y)
unfolding side
sides_y t z =
    ring (times (at 7) whole)
    (plus (plus (times of_a (at 1)) (times of_b (at 3))) (times of_c (at 5)))
    (vars (t.a.x ∷ t.a.y ∷ t.b.x ∷ t.b.y ∷ t.c.x ∷ t.c.y ∷ z.x ∷ z.y ∷ z.n ∷ [])) refl

pub sides_lead : (w : ℤ) (t : Tile) (z : Vector)
    → ((side_b t z *ℤ lead w t.a z) +ℤ (side_c t z *ℤ lead w t.b z)) +ℤ (side_a t z *ℤ lead w t.c z)
    ≡ pos 0
unfolding side lead sweep
sides_lead w t z =
    let l : Expr → Expr
    → Expr = λ x y. minus (times (plus (times (at 9) x) y) (at 8))
    (plus (times (at 9) (at 6)) (at 7)) in
    ring (plus (plus (times of_a (l (at 0) (at 1))) (times of_b (l (at 2) (at 3))))
    (times of_c (l (at 4) (at 5)))) (num (pos 0))
    (vars (t.a.x ∷ t.a.y ∷ t.b.x ∷ t.b.y ∷ t.c.x ∷ t.c.y ∷ z.x ∷ z.y ∷ z.n ∷ w ∷ [])) refl

pub area_next : (t : Tile) → side (arrow t.b t.c) (point t.a) ≡ area t
unfolding side
area_next t =
    ring (SIDE (at 2) (at 3) (at 4) (at 5) (at 0) (at 1) (num (pos 1))) whole
    (vars (t.a.x ∷ t.a.y ∷ t.b.x ∷ t.b.y ∷ t.c.x ∷ t.c.y ∷ [])) refl

pub area_last : (t : Tile) → side (arrow t.c t.a) (point t.b) ≡ area t
unfolding side
area_last t =
    ring (SIDE (at 4) (at 5) (at 0) (at 1) (at 2) (at 3) (num (pos 1))) whole
    (vars (t.a.x ∷ t.a.y ∷ t.b.x ∷ t.b.y ∷ t.c.x ∷ t.c.y ∷ [])) refl

abbrev mixed : Expr → Expr → Expr → Expr
mixed p q r = plus (plus (times (at 6) p) (times (at 7) q)) (times (at 8) r)

pub side_weighed : (t : Tile) (r s u : ℤ) → side_a t (weighed r t.a s t.b u t.c) ≡ u *ℤ area t
unfolding side
side_weighed t r s u =
    ring (SIDE (at 0) (at 1) (at 2) (at 3) (mixed (at 0) (at 2) (at 4)) (mixed (at 1) (at 3) (at 5))
    (plus (plus (at 6) (at 7)) (at 8))) (times (at 8) whole)
    (vars (t.a.x ∷ t.a.y ∷ t.b.x ∷ t.b.y ∷ t.c.x ∷ t.c.y ∷ r ∷ s ∷ u ∷ [])) refl

pub side_weighed_b : (t : Tile) (r s u : ℤ) → side_b t (weighed r t.a s t.b u t.c) ≡ r *ℤ area t
unfolding side
side_weighed_b t r s u =
    ring (SIDE (at 2) (at 3) (at 4) (at 5) (mixed (at 0) (at 2) (at 4)) (mixed (at 1) (at 3) (at 5))
    (plus (plus (at 6) (at 7)) (at 8))) (times (at 6) whole)
    (vars (t.a.x ∷ t.a.y ∷ t.b.x ∷ t.b.y ∷ t.c.x ∷ t.c.y ∷ r ∷ s ∷ u ∷ [])) refl

pub side_weighed_c : (t : Tile) (r s u : ℤ) → side_c t (weighed r t.a s t.b u t.c) ≡ s *ℤ area t
unfolding side
side_weighed_c t r s u =
    ring (SIDE (at 4) (at 5) (at 0) (at 1) (mixed (at 0) (at 2) (at 4)) (mixed (at 1) (at 3) (at 5))
    (plus (plus (at 6) (at 7)) (at 8))) (times (at 7) whole)
    (vars (t.a.x ∷ t.a.y ∷ t.b.x ∷ t.b.y ∷ t.c.x ∷ t.c.y ∷ r ∷ s ∷ u ∷ [])) refl

-- ---- in the triangle: no side is below 0
abbrev pub IsWithin : Tile → Vector → Type 0
IsWithin t z = NotNegative (side_a t z) (side_b t z) (side_c t z)

same_scaled : (x n k x' n' : ℤ) → n' ≡ n *ℤ k → x' ≡ x *ℤ k → x *ℤ n' ≡ x' *ℤ n
same_scaled x n k x' n' a b =
    let e = ring (times (at 0) (times (at 1) (at 2))) (times (times (at 0) (at 2)) (at 1))
    (vars (x ∷ n ∷ k ∷ [])) refl in
    ap (λ (v : ℤ). x *ℤ v) a ∙ e ∙ sym (ap (λ (v : ℤ). v *ℤ n) b)

pub within_triangle : (t : Tile) (z : Vector) → Place z → IsLeftTile t → IsWithin t z → InTile t z
within_triangle t z Z left h =
    let s = sides_sum t z in
    let p = product_positive z.n (area t) Z left in
    let e : (side_b t z +ℤ side_c t z) +ℤ side_a t z ≡ z.n *ℤ area t = omega (arith, ints, s) in
    record {
      of_a = side_b t z;
      of_b = side_c t z;
      of_c = side_a t z;
      a_least = h.1;
      b_least = h.2;
      c_least = h.0;
      some = omega (arith, ints, e, p);
      is = record {
        x = same_scaled z.x z.n (area t) _ _ e (sym (sides_x t z));
        y = same_scaled z.y z.n (area t) _ _ e (sym (sides_y t z));
      };
    }

least_from : (n m a b c : ℤ) → pos 0 <ℤ n → pos 0 <ℤ m → pos 0 ≤ℤ b → pos 0 <ℤ c
    → n *ℤ a ≡ m *ℤ (b *ℤ c) → pos 0 ≤ℤ a
least_from n m a b c N M hb hc e =
    let p = product_nonnegative b c hb (omega (arith, ints, hc)) in
    let q = product_nonnegative m (b *ℤ c) (omega (arith, ints, M)) p in
    cancel_le n (pos 0) a N (let z : n *ℤ pos 0 ≡ pos 0 = omega (arith, ints) in
    omega (arith, ints, z, q, e))

pub triangle_within : (t : Tile) (z : Vector) → Place z → IsLeftTile t → InTile t z → IsWithin t z
triangle_within t z Z left h =
    let v = weighed h.of_a t.a h.of_b t.b h.of_c t.c in
    let a = side_same (arrow t.a t.b) z v h.is
    ∙ ap (λ (s : ℤ). z.n *ℤ s) (side_weighed t h.of_a h.of_b h.of_c) in
    let b = side_same (arrow t.b t.c) z v h.is
    ∙ ap (λ (s : ℤ). z.n *ℤ s) (side_weighed_b t h.of_a h.of_b h.of_c) in
    let c = side_same (arrow t.c t.a) z v h.is
    ∙ ap (λ (s : ℤ). z.n *ℤ s) (side_weighed_c t h.of_a h.of_b h.of_c) in (
      least_from v.n z.n (side_a t z) h.of_c (area t) h.some Z h.c_least left a,
      least_from v.n z.n (side_b t z) h.of_a (area t) h.some Z h.a_least left b,
      least_from v.n z.n (side_c t z) h.of_b (area t) h.some Z h.b_least left c,
    )

-- ---- the winding
balanced : (w : ℤ) (t : Tile) (z : Vector) → Place z → IsLeftTile t
    → IsBalanced (side_a t z) (side_b t z) (side_c t z) (lead w t.a z) (lead w t.b z) (lead w t.c z)
balanced w t z Z left =
    let s = sides_sum t z in
    let p = product_positive z.n (area t) Z left in
    record { sides = omega (arith, ints, s, p); leads = sides_lead w t z }

winding_three : (w : ℤ) (t : Tile) (z : Vector)
    → winding w z t ≡ three (is_positive (lead w t.a z)) (is_positive (lead w t.b z))
    (is_positive (lead w t.c z)) (side_a t z) (side_b t z) (side_c t z)
unfolding turning
winding_three w t z = refl

-- a triangle goes round a place not at all, or once, and then holds it
pub winding_once : (w : ℤ) (t : Tile) (z : Vector) → Place z → IsLeftTile t
    → (winding w z t ≡ pos 0) ⊎ ((winding w z t ≡ pos 1) × IsWithin t z)
winding_once w t z Z left =
    once_by _ _ _ (side_a t z) (side_b t z) (side_c t z) (lead w t.a z) (lead w t.b z)
    (lead w t.c z) (winding w z t) (balanced w t z Z left)
    (is_test (lead w t.a z)) (is_test (lead w t.b z)) (is_test (lead w t.c z)) (winding_three w t z)

pub lead_level : (w : ℤ) (p q : Point) (z : Vector) → Place z → lead w p z ≡ lead w q z
    → sweep w (point p) ≡ sweep w (point q)
unfolding lead
lead_level w p q z Z h =
    let a = product_comm (sweep w (point p)) z.n in
    let b = product_comm (sweep w (point q)) z.n in
    let x = cancel_le z.n (sweep w (point p)) (sweep w (point q)) Z
    (omega (arith, ints, h, a, b)) in
    let y = cancel_le z.n (sweep w (point q)) (sweep w (point p)) Z
    (omega (arith, ints, h, a, b)) in
    omega (arith, ints, x, y)

-- it goes once round a place strictly within it
pub winding_full : (w : ℤ) (t : Tile) (z : Vector) → Place z → IsLeftTile t → IsSteep w t
    → pos 0 <ℤ side_a t z → pos 0 <ℤ side_b t z → pos 0 <ℤ side_c t z → winding w z t ≡ pos 1
winding_full w t z Z left steep a b c =
    full_by _ _ _ (side_a t z) (side_b t z) (side_c t z) (lead w t.a z) (lead w t.b z)
    (lead w t.c z) (winding w z t) (balanced w t z Z left) a b c
    (λ e. steep.ab (lead_level w t.a t.b z Z e)) (is_test (lead w t.a z)) (is_test (lead w t.b z))
    (is_test (lead w t.c z)) (winding_three w t z)

-- and once round a place of its first arrow, if that goes against the sweep
pub winding_edge : (w : ℤ) (t : Tile) (z : Vector) → side_a t z ≡ pos 0 → pos 0 <ℤ side_b t z
    → pos 0 <ℤ side_c t z
    → pos 0 <ℤ lead w t.a z → lead w t.b z ≤ℤ pos 0 → winding w z t ≡ pos 1
winding_edge w t z a b c la lb =
    edge_by _ _ _ (side_a t z) (side_b t z) (side_c t z) (lead w t.a z) (lead w t.b z)
    (lead w t.c z) (winding w z t) a b c la lb
    (is_test (lead w t.a z)) (is_test (lead w t.b z)) (is_test (lead w t.c z)) (winding_three w t z)

-- an arrow and its back
side_back : (e : Edge) (z : Vector) → side (back e) z ≡ pos 0 -ℤ side e z
unfolding side
side_back e z =
    ring (SIDE (at 2) (at 3) (at 0) (at 1) (at 4) (at 5) (at 6))
    (minus (num (pos 0)) (SIDE (at 0) (at 1) (at 2) (at 3) (at 4) (at 5) (at 6)))
    (vars (e.low.x ∷ e.low.y ∷ e.high.x ∷ e.high.y ∷ z.x ∷ z.y ∷ z.n ∷ [])) refl

pub turning_back : (w : ℤ) (z : Vector) (e : Edge) → turning w z (back e) ≡ pos 0 -ℤ turning w z e
unfolding turning
turning_back w z e =
    turned_back (is_positive (lead w e.low z)) (is_positive (lead w e.high z)) (side e z)
    (side (back e) z) (side_back e z)
