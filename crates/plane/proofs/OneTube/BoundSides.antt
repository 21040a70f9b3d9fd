-- The bounds of a tube: each is a side of one of its triangles, each corner has two of them, what
-- is close to a bound on its left is in
-- the tube, and what is close to it on its right is not.
use Rattle.std.proofs.Common.{◌≡◌, ◌⊎◌, inl, inr, List, [], ◌∷◌, ℤ, pos, ◌+ℤ◌, ◌*ℤ◌, ◌-ℤ◌, ◌<ℤ◌}
use Rattle.std.proofs.Common.{◌≤ℤ◌, refl, arith, ap, sym, ◌∙◌, subst}
use Rattle.std.proofs.lemmas.Int.{ints}
use Rattle.plane.specs.declared.kinds.Point.{Point}
use Rattle.plane.specs.Lists.{Has}
use Rattle.plane.specs.Forms.Vectors.{Vector, Place, Same, Between, mix, point, Edge, side}
use Rattle.plane.specs.Forms.Meets.{IsEnd}
use Rattle.plane.specs.Forms.Arcs.{HalfArc, wide, tall, bend, chord, along, bow, seen}
use Rattle.plane.specs.Tubes.CapStrips.{line, IsUnder, AtInner}
use Rattle.plane.specs.Tubes.Regions.{seen_point, seen_bays, NotUnder}
use Rattle.plane.specs.Tubes.Bays.{Bay, AreBays, IsTube}
use Rattle.plane.specs.Tubes.Windings.{arrow, back, Tile, InSomeTile, IsLeftTile, strips, tiles}
use Rattle.plane.specs.Tubes.Windings.{fence, bounds}
use Rattle.plane.proofs.Algebra.Laws.{product_positive, square_nonnegative, positive_factor}
use Rattle.plane.proofs.Algebra.Laws.{weight_at_most}
use Rattle.plane.proofs.Algebra.Scaling.{cancel_zero}
use Rattle.plane.proofs.Algebra.Ring.{Expr, at, num, plus, minus, times, vars, ring}
use Rattle.plane.proofs.Linear.Signs.{by_sign, mix_place, between_back}
use Rattle.plane.proofs.Linear.Vectors.{SIDE, side-mix}
use Rattle.plane.proofs.Windings.OneTriangle.{side_a, side_b, side_c, area, sides_sum, sides_x}
use Rattle.plane.proofs.Windings.OneTriangle.{sides_y, area_next, IsWithin}
use Rattle.plane.proofs.Caps.Seen.{seen-mix, seen_same}
use Rattle.plane.proofs.Caps.CapOver.{cancel_least, cancel_most}
use Rattle.plane.proofs.OneTube.TubeStrips.{tube_cap}
use Rattle.plane.proofs.OneTube.TubeLaws.{tube_region}
use Rattle.plane.proofs.OneTube.TubeEdges.{at_end}
use Rattle.plane.proofs.OneTube.ArcTubes.{tiles_in_tube}

-- ---- each bound is a side of a triangle
abbrev pub IsSideOf : Edge → Tile → Type 0
IsSideOf e t = (e ≡ arrow t.a t.b) ⊎ ((e ≡ arrow t.b t.c) ⊎ (e ≡ arrow t.c t.a))

fence_side : (p u : Point) (k : Bay) (ks : List Bay) (e : Edge) → Has e (fence p u (k ∷ ks))
    → (t : Tile) × Has t (strips p u (k ∷ ks)) × IsSideOf e t
fence_side p u k ks e (inl m) = (record { a = p; b = k.inner; c = k.outer }, inr (inl refl), inl m)
fence_side p u k ks e (inr (inl m)) = (record { a = u; b = p; c = k.outer }, inl refl, inr (inr m))
fence_side p u k [] e (inr (inr (inl m))) =
    (record { a = p; b = k.inner; c = k.outer }, inr (inl refl), inr (inl m))
fence_side p u k [] e (inr (inr (inr m))) = absurd m
fence_side p u k (d ∷ ks) e (inr (inr m)) =
    let s = fence_side k.inner k.outer d ks e m in (s.0, inr (inr s.1), s.2)

pub bound_side : (a : Point) (k : Bay) (ks : List Bay) (e : Edge) → Has e (bounds a (k ∷ ks))
    → (t : Tile) × Has t (tiles a (k ∷ ks)) × IsSideOf e t
bound_side a k ks e (inl m) = (record { a = a; b = k.inner; c = k.outer }, inl refl, inl m)
bound_side a k ks e (inr (inl m)) =
    (record { a = a; b = k.inner; c = k.outer }, inl refl, inr (inr m))
bound_side a k [] e (inr (inr (inl m))) =
    (record { a = a; b = k.inner; c = k.outer }, inl refl, inr (inl m))
bound_side a k [] e (inr (inr (inr m))) = absurd m
bound_side a k (d ∷ ks) e (inr (inr m)) =
    let s = fence_side k.inner k.outer d ks e m in (s.0, inr s.1, s.2)

-- ---- close to a side, on its left
abbrev rotated : Tile → Tile
rotated t = record { a = t.b; b = t.c; c = t.a }

rotated_left : (t : Tile) → IsLeftTile t → IsLeftTile (rotated t)
rotated_left t l = let e = area_next t in omega (arith, ints, l, e)

-- where two sides are 0, the place is their common corner
corner_b : (t : Tile) (z : Vector) → IsLeftTile t → side_a t z ≡ pos 0 → side_b t z ≡ pos 0
    → Same z (point t.b)
corner_b t z left ea eb =
    let s = sides_sum t z in
    let n : side_c t z ≡ z.n *ℤ area t = omega (arith, ints, s, ea, eb) in
    record {
      x = one z.x z.n (area t) (side_b t z) t.a.x (side_c t z) t.b.x
          (side_a t z) t.c.x left n (sides_x t z) ea eb;
      y = one z.y z.n (area t) (side_b t z) t.a.y (side_c t z) t.b.y (side_a t z) t.c.y left n
          (sides_y t z) ea eb;
    }
  where
    one : (x n k b p c q a r : ℤ) → pos 0 <ℤ k → c ≡ n *ℤ k
        → x *ℤ k ≡ ((b *ℤ p) +ℤ (c *ℤ q)) +ℤ (a *ℤ r) → a ≡ pos 0 → b ≡ pos 0 → x *ℤ pos 1 ≡ q *ℤ n
    one x n k b p c q a r K e f ea eb =
        let u : b *ℤ p ≡ pos 0 = ap (λ (v : ℤ). v *ℤ p) eb ∙ omega (arith, ints) in
        let v : a *ℤ r ≡ pos 0 = ap (λ (w : ℤ). w *ℤ r) ea ∙ omega (arith, ints) in
        let w : c *ℤ q ≡ (n *ℤ k) *ℤ q = ap (λ (y : ℤ). y *ℤ q) e in
        let i = ring (minus (times (at 0) (at 2)) (times (times (at 1) (at 2)) (at 3)))
        (times (at 2) (minus (times (at 0) (num (pos 1))) (times (at 3) (at 1))))
        (vars (x ∷ n ∷ k ∷ q ∷ [])) refl in
        let z = cancel_zero k ((x *ℤ pos 1) -ℤ (q *ℤ n)) K (omega (arith, ints, i, f, u, v, w)) in
        omega (arith, ints, z)

corner_a : (t : Tile) (z : Vector) → IsLeftTile t → side_a t z ≡ pos 0 → side_c t z ≡ pos 0
    → Same z (point t.a)
corner_a t z left ea ec =
    corner_b (rotated (rotated t)) z (rotated_left (rotated t) (rotated_left t left)) ec ea

-- a weight so large that what is above 0 outweighs the other
pub outweighs : (m a b : ℤ) → (pos 0 -ℤ b) ≤ℤ m → pos 0 ≤ℤ m → pos 0 <ℤ a
    → pos 0 ≤ℤ ((m *ℤ a) +ℤ (pos 1 *ℤ b))
outweighs m a b h l k = let w = weight_at_most m a l k in omega (arith, ints, w, h)

pub large : ℤ → ℤ → ℤ
large a b = pos 1 +ℤ ((a *ℤ a) +ℤ (b *ℤ b))

pub large_first : (a b : ℤ) → (pos 0 -ℤ a) ≤ℤ large a b
unfolding large
large_first a b =
    let x = square_nonnegative (a +ℤ pos 1) in
    let y = square_nonnegative a in let z = square_nonnegative b in
    let i = ring (times (plus (at 0) (num (pos 1))) (plus (at 0) (num (pos 1))))
    (plus (plus (times (at 0) (at 0)) (times (num (pos 2)) (at 0))) (num (pos 1)))
    (vars (a ∷ [])) refl in
    omega (arith, ints, x, y, z, i)

pub large_second : (a b : ℤ) → (pos 0 -ℤ b) ≤ℤ large a b
unfolding large
large_second a b =
    let x = square_nonnegative (b +ℤ pos 1) in
    let y = square_nonnegative a in let z = square_nonnegative b in
    let i = ring (times (plus (at 0) (num (pos 1))) (plus (at 0) (num (pos 1))))
    (plus (plus (times (at 0) (at 0)) (times (num (pos 2)) (at 0))) (num (pos 1)))
    (vars (b ∷ [])) refl in
    omega (arith, ints, x, y, z, i)

pub large_positive : (a b : ℤ) → pos 0 <ℤ large a b
unfolding large
large_positive a b =
    let y = square_nonnegative a in let z = square_nonnegative b in omega (arith, ints, y, z)

-- a place strictly on the left, drawn so near to the side that it is in the triangle
side_near : (t : Tile) (z p : Vector) → Place z → Place p → IsLeftTile t → IsWithin t z
    → side_a t z ≡ pos 0 → (Same z (point t.a) → ⊥) → (Same z (point t.b) → ⊥) → pos 0 <ℤ side_a t p
    → (m : ℤ) × (pos 0 <ℤ m) × IsWithin t (mix m z (pos 1) p)
side_near t z p Z P left w e no_a no_b l =
    let b = side_b t p in
    let c = side_c t p in
    let m = large b c in
    let k = large_positive b c in
    let weak : pos 0 ≤ℤ m = omega (arith, ints, k) in
    let up_b : pos 0 <ℤ side_b t z = by_sign (side_b t z)
    (λ (x : side_b t z <ℤ pos 0). let y = w.1 in
    absurd (omega (arith, ints, x, y))) (λ x. absurd (no_b (corner_b t z left e x))) (λ x. x) in
    let up_c : pos 0 <ℤ side_c t z = by_sign (side_c t z)
    (λ (x : side_c t z <ℤ pos 0). let y = w.2 in
    absurd (omega (arith, ints, x, y))) (λ x. absurd (no_a (corner_a t z left e x))) (λ x. x) in
    let fa = side-mix (arrow t.a t.b) m z (pos 1) p in
    let fb = side-mix (arrow t.b t.c) m z (pos 1) p in
    let fc = side-mix (arrow t.c t.a) m z (pos 1) p in
    let za : m *ℤ side_a t z ≡ pos 0 = ap (λ (v : ℤ). m *ℤ v) e ∙ omega (arith, ints) in
    let gb = outweighs m (side_b t z) b (large_first b c) weak up_b in
    let gc = outweighs m (side_c t z) c (large_second b c) weak up_c in (
      m,
      k,
      (
        omega (arith, ints, fa, za, l),
        omega (arith, ints, fb, gb),
        omega (arith, ints, fc, gc),
      ),
    )

turn_within : (t : Tile) (z : Vector) → IsWithin (rotated t) z → IsWithin t z
turn_within t z w = (w.2, w.0, w.1)

within_turn : (t : Tile) (z : Vector) → IsWithin t z → IsWithin (rotated t) z
within_turn t z w = (w.1, w.2, w.0)

-- z on a side but no end of it, p strictly left of that side: some place between z and p, near z,
-- is in the triangle
pub near_inside : (t : Tile) (e : Edge) (z p : Vector) → IsSideOf e t → Place z → Place p
    → IsLeftTile t → IsWithin t z → side e z ≡ pos 0 → (Same z (point e.low) → ⊥)
    → (Same z (point e.high) → ⊥) → pos 0 <ℤ side e p
    → (m : ℤ) × (pos 0 <ℤ m) × IsWithin t (mix m z (pos 1) p)
near_inside t e z p (inl s) Z P left w zero no_low no_high l =
    side_near t z p Z P left w (subst (λ (f : Edge). side f z ≡ pos 0) s zero)
    (subst (λ (f : Edge). Same z (point f.low) → ⊥) s no_low)
    (subst (λ (f : Edge). Same z (point f.high) → ⊥) s no_high)
    (subst (λ (f : Edge). pos 0 <ℤ side f p) s l)
near_inside t e z p (inr (inl s)) Z P left w zero no_low no_high l =
    let r = side_near (rotated t) z p Z P (rotated_left t left) (within_turn t z w)
    (subst (λ (f : Edge). side f z ≡ pos 0) s zero)
    (subst (λ (f : Edge). Same z (point f.low) → ⊥) s no_low)
    (subst (λ (f : Edge). Same z (point f.high) → ⊥) s no_high)
    (subst (λ (f : Edge). pos 0 <ℤ side f p) s l) in
    (r.0, r.1, turn_within t (mix r.0 z (pos 1) p) r.2)
near_inside t e z p (inr (inr s)) Z P left w zero no_low no_high l =
    let u = rotated t in
    let r = side_near (rotated u) z p Z P (rotated_left u (rotated_left t left))
    (within_turn u z (within_turn t z w)) (subst (λ (f : Edge). side f z ≡ pos 0) s zero)
    (subst (λ (f : Edge). Same z (point f.low) → ⊥) s no_low)
    (subst (λ (f : Edge). Same z (point f.high) → ⊥) s no_high)
    (subst (λ (f : Edge). pos 0 <ℤ side f p) s l) in
    (r.0, r.1, turn_within t (mix r.0 z (pos 1) p) (turn_within u (mix r.0 z (pos 1) p) r.2))

-- ---- each corner has two bounds
abbrev pub Some : {X : Type 0} → (X → Type 0) → List X → Type 0
Some P [] = ⊥
Some P (x ∷ xs) = P x ⊎ Some P xs

-- the test holds at two places of the list
abbrev pub Twice : {X : Type 0} → (X → Type 0) → List X → Type 0
Twice P [] = ⊥
Twice P (x ∷ xs) = (P x × Some P xs) ⊎ Twice P xs

abbrev pub Ends : Point → Edge → Type 0
Ends q e = IsEnd e q

pub has_some : {X : Type 0} (P : X → Type 0) (x : X) (xs : List X) → Has x xs → P x → Some P xs
has_some P x [] m p = absurd m
has_some P x (y ∷ ys) (inl e) p = inl (subst P e p)
has_some P x (y ∷ ys) (inr m) p = inr (has_some P x ys m p)

inner_some : (p u : Point) (ks : List Bay) → Some (Ends p) (fence p u ks)
inner_some p u [] = inl (inl refl)
inner_some p u (k ∷ ks) = inl (inl refl)

outer_some : (p u : Point) (ks : List Bay) → Some (Ends u) (fence p u ks)
outer_some p u [] = inl (inr refl)
outer_some p u (k ∷ ks) = inr (inl (inr refl))

fence_twice : (p u : Point) (ks : List Bay) (q : Point) → Some (Ends q) (fence p u ks)
    → (q ≡ p) ⊎ ((q ≡ u) ⊎ Twice (Ends q) (fence p u ks))
fence_twice p u [] q (inl (inl e)) = inl (sym e)
fence_twice p u [] q (inl (inr e)) = inr (inl (sym e))
fence_twice p u [] q (inr s) = absurd s
fence_twice p u (k ∷ ks) q (inl (inl e)) = inl (sym e)
fence_twice p u (k ∷ ks) q (inl (inr e)) =
    inr (inr (inl (
      inr e,
      inr (subst (λ (v : Point). Some (Ends v) (fence k.inner k.outer ks)) e
          (inner_some k.inner k.outer ks)),
    )))
fence_twice p u (k ∷ ks) q (inr (inl (inl e))) =
    inr (inr (inr
    (inl (
      inl e,
      subst (λ (v : Point). Some (Ends v) (fence k.inner k.outer ks)) e
          (outer_some k.inner k.outer ks),
    ))))
fence_twice p u (k ∷ ks) q (inr (inl (inr e))) = inr (inl (sym e))
fence_twice p u (k ∷ ks) q (inr (inr s)) = elim (fence_twice k.inner k.outer ks q s) [
  | inl e ↦ inr (inr (inl (inr (sym e), inr s)))
  | inr h ↦ elim h [
    | inl e ↦ inr (inr (inr (inl (inl (sym e), s))))
    | inr t ↦ inr (inr (inr (inr t)))
  ]
]

pub bounds_twice : (a : Point) (k : Bay) (ks : List Bay) (q : Point)
    → Some (Ends q) (bounds a (k ∷ ks)) → Twice (Ends q) (bounds a (k ∷ ks))
bounds_twice a k ks q s = elim (fence_twice a a (k ∷ ks) q s) [
  | inl e ↦ inl (inl (sym e), inl (inr (sym e)))
  | inr h ↦ elim h [ inl e ↦ inl (inl (sym e), inl (inr (sym e))) | inr t ↦ t ]
]

-- ---- sides on the half arc's picture
abbrev A : HalfArc → Vector → ℤ
A h z = along h z

side-picture : (h : HalfArc) (p q : Point) (z : Vector)
    → side (line (seen_point h p) (seen_point h q)) (seen h z)
    ≡ (chord h *ℤ (pos 0 -ℤ bend h)) *ℤ side (arrow p q) z
unfolding side along bow chord
side-picture h p q z =
    let W = at 0 in let T = at 1 in let FX = at 2 in let FY = at 3 in let D = at 4 in
    let al : Expr → Expr → Expr
    → Expr = λ x y n. plus (times W (minus x (times FX n))) (times T (minus y (times FY n))) in
    let bo : Expr → Expr → Expr
    → Expr = λ x y n. minus (num (pos 0))
    (times D (minus (times W (minus y (times FY n))) (times T (minus x (times FX n))))) in
    let one = num (pos 1) in
    let px = at 5 in
    let py = at 6 in
    let qx = at 7 in let qy = at 8 in let X = at 9 in let Y = at 10 in let N = at 11 in
    ring (SIDE (al px py one) (bo px py one) (al qx qy one) (bo qx qy one) (al X Y N) (bo X Y N) N)
    (times (times (plus (times W W) (times T T)) (minus (num (pos 0)) D)) (SIDE px py qx qy X Y N))
    (vars (wide h ∷ tall h ∷ h.from.x ∷ h.from.y ∷ bend h ∷ p.x ∷ p.y ∷ q.x ∷ q.y ∷ z.x ∷ z.y ∷ z.n
    ∷ [])) refl

-- what is not under the inner chain and not over the outer chain, from the corners p and u on
record IsInside (h : HalfArc) (p u : Point) (ks : List Bay) (z : Vector) : Type 0 where
  over : AtInner NotUnder (seen h z) (seen_point h p) (seen_bays h ks)
  under : IsUnder (seen h z) (seen_point h u) (seen_point h p) (seen_bays h ks)

-- the bound goes on along the chord or back, and in its column all places by the test are on its
-- left
abbrev Slopes : HalfArc → (Vector → Type 0) → Edge → Type 0
Slopes h R e =
    ((A h (point e.low) <ℤ A h (point e.high))
    × ((z : Vector) → Place z → R z → (A h (point e.low) *ℤ z.n) ≤ℤ A h z
    → A h z ≤ℤ (A h (point e.high) *ℤ z.n) → pos 0 ≤ℤ side e z))
    ⊎ ((A h (point e.high) <ℤ A h (point e.low))
    × ((z : Vector) → Place z → R z → (A h (point e.high) *ℤ z.n) ≤ℤ A h z
    → A h z ≤ℤ (A h (point e.low) *ℤ z.n) → pos 0 ≤ℤ side e z))

pub opposite : (a b : Point) (z : Vector) → side (arrow a b) z ≡ pos 0 -ℤ side (arrow b a) z
unfolding side
opposite a b z =
    ring (minus (times (minus (at 2) (at 0)) (minus (at 5) (times (at 1) (at 6))))
    (times (minus (at 3) (at 1)) (minus (at 4) (times (at 0) (at 6)))))
    (minus (num (pos 0))
    (minus (times (minus (at 0) (at 2)) (minus (at 5) (times (at 3) (at 6))))
    (times (minus (at 1) (at 3)) (minus (at 4) (times (at 2) (at 6))))))
    (vars (a.x ∷ a.y ∷ b.x ∷ b.y ∷ z.x ∷ z.y ∷ z.n ∷ [])) refl

module _ (h : HalfArc) (wide : pos 0 <ℤ (chord h *ℤ (pos 0 -ℤ bend h))) where
  over_side : (p q : Point) (z : Vector)
      → pos 0 ≤ℤ side (line (seen_point h p) (seen_point h q)) (seen h z)
      → pos 0 ≤ℤ side (arrow p q) z
  over_side p q z l =
      let e = side-picture h p q z in
      cancel_least (chord h *ℤ (pos 0 -ℤ bend h)) (side (arrow p q) z) wide
      (omega (arith, ints, e, l))

  under_side : (p q : Point) (z : Vector)
      → side (line (seen_point h p) (seen_point h q)) (seen h z) ≤ℤ pos 0
      → pos 0 ≤ℤ side (arrow q p) z
  under_side p q z l =
      let e = side-picture h p q z in
      let f = opposite q p z in
      let k = cancel_most (chord h *ℤ (pos 0 -ℤ bend h)) (side (arrow p q) z) wide
      (omega (arith, ints, e, l)) in
      omega (arith, ints, k, f)

  fence_left : (p u : Point) (ks : List Bay) (e : Edge) → A h (point u) <ℤ A h (point p)
      → AreBays h p ks → Has e (fence p u ks) → Slopes h (IsInside h p u ks) e
  fence_left p u [] e l are (inl m) =
      subst (Slopes h (IsInside h p u [])) (sym m)
      (inr (l, λ z Z i low high. under_side u p z (i.under (record { low = low; high = high }))))
  fence_left p u [] e l are (inr m) = absurd m
  fence_left p u (k ∷ ks) e l are (inl m) =
      let up = are.0.up in let on = are.0.on in
      subst (Slopes h (IsInside h p u (k ∷ ks))) (sym m)
      (inl (
        omega (arith, ints, up, on),
        λ z Z i low high. over_side p k.inner z (i.over.0 (record { low = low; high = high })),
      ))
  fence_left p u (k ∷ ks) e l are (inr (inl m)) =
      let up = are.0.up in
      subst (Slopes h (IsInside h p u (k ∷ ks))) (sym m)
      (inr (
        omega (arith, ints, up, l),
        λ z Z i low high. under_side u k.outer z (i.under.0 (record { low = low; high = high })),
      ))
  fence_left p u (k ∷ ks) e l are (inr (inr m)) =
      later (fence_left k.inner k.outer ks e are.0.on are.1 m)
    where
      later : Slopes h (IsInside h k.inner k.outer ks) e → Slopes h (IsInside h p u (k ∷ ks)) e
      later (inl (s, f)) =
          inl (s, λ z Z i low high. f z Z (record { over = i.over.1; under = i.under.1 }) low high)
      later (inr (s, f)) =
          inr (s, λ z Z i low high. f z Z (record { over = i.over.1; under = i.under.1 }) low high)

  bounds_left : (a : Point) (k : Bay) (ks : List Bay) (e : Edge) → AreBays h a (k ∷ ks)
      → Has e (bounds a (k ∷ ks)) → Slopes h (IsInside h a a (k ∷ ks)) e
  bounds_left a k ks e are (inl m) =
      let up = are.0.up in let on = are.0.on in
      subst (Slopes h (IsInside h a a (k ∷ ks))) (sym m)
      (inl (
        omega (arith, ints, up, on),
        λ z Z i low high. over_side a k.inner z (i.over.0 (record { low = low; high = high })),
      ))
  bounds_left a k ks e are (inr (inl m)) =
      subst (Slopes h (IsInside h a a (k ∷ ks))) (sym m)
      (inr (
        are.0.up,
        λ z Z i low high. under_side a k.outer z
            (i.under.0 (record { low = low; high = high })),
      ))
  bounds_left a k ks e are (inr (inr m)) = later (fence_left k.inner k.outer ks e are.0.on are.1 m)
    where
      later : Slopes h (IsInside h k.inner k.outer ks) e → Slopes h (IsInside h a a (k ∷ ks)) e
      later (inl (s, f)) =
          inl (s, λ z Z i low high. f z Z (record { over = i.over.1; under = i.under.1 }) low high)
      later (inr (s, f)) =
          inr (s, λ z Z i low high. f z Z (record { over = i.over.1; under = i.under.1 }) low high)

-- ---- a tube with its third point on the right
module _ (h : HalfArc) (b : Bay) (rest : List Bay) (tube : IsTube h (b ∷ rest))
    (right : bend h <ℤ pos 0) where
  tube_wide : pos 0 <ℤ (chord h *ℤ (pos 0 -ℤ bend h))
  tube_wide = product_positive (chord h) (pos 0 -ℤ bend h) (tube_cap h (b ∷ rest) tube).chord
      (omega (arith, ints, right))

  bound_left : (e : Edge) → Has e (bounds h.from (b ∷ rest))
      → Slopes h (λ z. InSomeTile (tiles h.from (b ∷ rest)) z) e
  bound_left e m = later (bounds_left h tube_wide h.from b rest e tube.are_bays m)
    where
      inside : (z : Vector) → Place z → InSomeTile (tiles h.from (b ∷ rest)) z
          → IsInside h h.from h.from (b ∷ rest) z
      inside z Z s =
          let r = tube_region h (b ∷ rest) z tube Z (tiles_in_tube h.from b rest z s) in
          record { over = r.over; under = r.under }

      later : Slopes h (IsInside h h.from h.from (b ∷ rest)) e
          → Slopes h (λ z. InSomeTile (tiles h.from (b ∷ rest)) z) e
      later (inl (s, f)) = inl (s, λ z Z i low high. f z Z (inside z Z i) low high)
      later (inr (s, f)) = inr (s, λ z Z i low high. f z Z (inside z Z i) low high)

  -- ---- close to a bound, on its right, is not in the tube
  -- near z the way from z to q keeps in the column
  near_low : (k : ℤ) (m : ℤ) (z q : Vector) → ((k *ℤ z.n) <ℤ A h z)
      → (pos 0 -ℤ (A h q -ℤ (k *ℤ q.n))) ≤ℤ m → pos 0 ≤ℤ m
      → (k *ℤ (mix m z (pos 1) q).n) ≤ℤ A h (mix m z (pos 1) q)
  near_low k m z q l g hm =
      let e : A h (mix m z (pos 1) q) ≡ (m *ℤ A h z)
      +ℤ (pos 1 *ℤ A h q) = ap (λ (v : Vector). v.x) (seen-mix h m z (pos 1) q) in
      let o = outweighs m (A h z -ℤ (k *ℤ z.n)) (A h q -ℤ (k *ℤ q.n)) g hm
      (omega (arith, ints, l)) in
      let i = ring
      (minus (plus (times (at 0) (at 1)) (times (num (pos 1)) (at 3)))
      (times (at 5) (plus (times (at 0) (at 2)) (times (num (pos 1)) (at 4)))))
      (plus (times (at 0) (minus (at 1) (times (at 5) (at 2))))
      (times (num (pos 1)) (minus (at 3) (times (at 5) (at 4)))))
      (vars (m ∷ A h z ∷ z.n ∷ A h q ∷ q.n ∷ k ∷ [])) refl in
      omega (arith, ints, e, o, i)

  near_high : (k : ℤ) (m : ℤ) (z q : Vector) → (A h z <ℤ (k *ℤ z.n))
      → (pos 0 -ℤ ((k *ℤ q.n) -ℤ A h q)) ≤ℤ m → pos 0 ≤ℤ m
      → A h (mix m z (pos 1) q) ≤ℤ (k *ℤ (mix m z (pos 1) q).n)
  near_high k m z q l g hm =
      let e : A h (mix m z (pos 1) q) ≡ (m *ℤ A h z)
      +ℤ (pos 1 *ℤ A h q) = ap (λ (v : Vector). v.x) (seen-mix h m z (pos 1) q) in
      let o = outweighs m ((k *ℤ z.n) -ℤ A h z) ((k *ℤ q.n) -ℤ A h q) g hm
      (omega (arith, ints, l)) in
      let i = ring
      (minus (times (at 5) (plus (times (at 0) (at 2)) (times (num (pos 1)) (at 4))))
      (plus (times (at 0) (at 1)) (times (num (pos 1)) (at 3))))
      (plus (times (at 0) (minus (times (at 5) (at 2)) (at 1)))
      (times (num (pos 1)) (minus (times (at 5) (at 4)) (at 3))))
      (vars (m ∷ A h z ∷ z.n ∷ A h q ∷ q.n ∷ k ∷ [])) refl in
      omega (arith, ints, e, o, i)

  -- a place strictly between the ends of an edge is so along the chord
  pub column_low : (e : Edge) (z : Vector) → Place z → (d : Between z (point e.low) (point e.high))
      → pos 0 <ℤ d.s → pos 0 <ℤ d.t → A h (point e.low) <ℤ A h (point e.high)
      → ((A h (point e.low) *ℤ z.n) <ℤ A h z) × (A h z <ℤ (A h (point e.high) *ℤ z.n))
  column_low e z Z d hs ht l =
      let m = mix d.s (point e.low) d.t (point e.high) in
      let f : A h z *ℤ m.n ≡ A h m *ℤ z.n = (seen_same h z m d.is).x in
      let g : A h m ≡ (d.s *ℤ A h (point e.low))
      +ℤ (d.t *ℤ A h (point e.high)) =
      ap (λ (v : Vector). v.x) (seen-mix h d.s (point e.low) d.t (point e.high)) in
      strict (A h z) z.n (A h m) d.s d.t (A h (point e.low)) (A h (point e.high)) Z hs ht l f g
    where
      strict : (az zn am s t a b : ℤ) → pos 0 <ℤ zn → pos 0 <ℤ s → pos 0 <ℤ t → a <ℤ b
          → az *ℤ ((s *ℤ pos 1) +ℤ (t *ℤ pos 1)) ≡ am *ℤ zn → am ≡ (s *ℤ a) +ℤ (t *ℤ b)
          → ((a *ℤ zn) <ℤ az) × (az <ℤ (b *ℤ zn))
      strict az zn am s t a b Z hs ht l f g =
          let n : (s *ℤ pos 1) +ℤ (t *ℤ pos 1) ≡ s +ℤ t = omega (arith, ints) in
          let f2 = ap (λ (v : ℤ). az *ℤ v) n in
          let g2 = ap (λ (v : ℤ). v *ℤ zn) g in
          let p = product_positive (t *ℤ (b -ℤ a)) zn
          (product_positive t (b -ℤ a) ht (omega (arith, ints, l))) Z in
          let q = product_positive (s *ℤ (b -ℤ a)) zn
          (product_positive s (b -ℤ a) hs (omega (arith, ints, l))) Z in
          let i = ring (times (plus (at 3) (at 4)) (minus (at 0) (times (at 5) (at 1))))
          (minus (times (at 0) (plus (at 3) (at 4)))
          (times (times (plus (at 3) (at 4)) (at 5)) (at 1)))
          (vars (az ∷ zn ∷ am ∷ s ∷ t ∷ a ∷ b ∷ [])) refl in
          let j = ring (times (plus (at 3) (at 4)) (minus (times (at 6) (at 1)) (at 0)))
          (minus (times (times (plus (at 3) (at 4)) (at 6)) (at 1))
          (times (at 0) (plus (at 3) (at 4))))
          (vars (az ∷ zn ∷ am ∷ s ∷ t ∷ a ∷ b ∷ [])) refl in
          let u = ring
          (minus (times (plus (times (at 3) (at 5)) (times (at 4) (at 6))) (at 1))
          (times (times (plus (at 3) (at 4)) (at 5)) (at 1)))
          (times (times (at 4) (minus (at 6) (at 5))) (at 1))
          (vars (az ∷ zn ∷ am ∷ s ∷ t ∷ a ∷ b ∷ [])) refl in
          let v = ring
          (minus (times (times (plus (at 3) (at 4)) (at 6)) (at 1))
          (times (plus (times (at 3) (at 5)) (times (at 4) (at 6))) (at 1)))
          (times (times (at 3) (minus (at 6) (at 5))) (at 1))
          (vars (az ∷ zn ∷ am ∷ s ∷ t ∷ a ∷ b ∷ [])) refl in
          let x = positive_factor (s +ℤ t) (az -ℤ (a *ℤ zn)) (omega (arith, ints, hs, ht))
          (omega (arith, ints, i, f, f2, g2, u, p)) in
          let y = positive_factor (s +ℤ t) ((b *ℤ zn) -ℤ az) (omega (arith, ints, hs, ht))
          (omega (arith, ints, j, f, f2, g2, v, q)) in
          (omega (arith, ints, x), omega (arith, ints, y))

  -- from low to high in the order of the chord
  right_up : (e : Edge) (lo hi : ℤ) (z q : Vector) → Place z → Place q → (lo *ℤ z.n) <ℤ A h z
      → A h z <ℤ (hi *ℤ z.n) → side e z ≡ pos 0 → side e q <ℤ pos 0
      → ((y : Vector) → Place y → InSomeTile (tiles h.from (b ∷ rest)) y → (lo *ℤ y.n) ≤ℤ A h y
      → A h y ≤ℤ (hi *ℤ y.n) → pos 0 ≤ℤ side e y)
      → (m : ℤ) × (pos 0 <ℤ m) × (InSomeTile (tiles h.from (b ∷ rest)) (mix m z (pos 1) q) → ⊥)
  right_up e lo hi z q Z Q low high zero l f =
      let c = A h q -ℤ (lo *ℤ q.n) in
      let d = (hi *ℤ q.n) -ℤ A h q in
      let m = large c d in
      let k = large_positive c d in
      let weak : pos 0 ≤ℤ m = omega (arith, ints, k) in
      let Y = mix_place m z (pos 1) q Z Q weak (omega (arith, ints)) (omega (arith, ints, k)) in
      let g = side-mix e m z (pos 1) q in
      let mz : m *ℤ side e z ≡ pos 0 = ap (λ (v : ℤ). m *ℤ v) zero ∙ omega (arith, ints) in (
        m,
        k,
        λ i. let x = f (mix m z (pos 1) q) Y i (near_low lo m z q low (large_first c d) weak)
            (near_high hi m z q high (large_second c d) weak) in omega (arith, ints, x, g, mz, l),
      )

  -- z on a bound but no end of it, q strictly on its right: some place between them, near z, is not
  -- in the tube
  pub right_near : (e : Edge) → Has e (bounds h.from (b ∷ rest)) → (z q : Vector) → Place z
      → Place q → Between z (point e.low) (point e.high) → (Same z (point e.low) → ⊥)
      → (Same z (point e.high) → ⊥)
      → side e z ≡ pos 0 → side e q <ℤ pos 0
      → (m : ℤ) × (pos 0 <ℤ m) × (InSomeTile (tiles h.from (b ∷ rest)) (mix m z (pos 1) q) → ⊥)
  right_near e has z q Z Q d no_low no_high zero l =
      let one : pos 0 <ℤ pos 1 = omega (arith, ints) in
      let k = between_back z (point e.low) (point e.high) d in
      elim (bound_left e has) [
        | inl (s, f) ↦ elim (at_end z (point e.low) (point e.high) one one d) [
          | inl w ↦ let c = column_low e z Z d w.0 w.1 s in
              right_up e (A h (point e.low)) (A h (point e.high)) z q Z Q c.0 c.1 zero l f
          | inr x ↦ absurd (elim x [ inl y ↦ no_low y | inr y ↦ no_high y ])
        ]
        | inr (s, f) ↦ elim (at_end z (point e.high) (point e.low) one one k) [
          | inl w ↦ let c = column_low (back e) z Z k w.0 w.1 s in
              right_up e (A h (point e.high)) (A h (point e.low)) z q Z Q c.0 c.1 zero l f
          | inr x ↦ absurd (elim x [ inl y ↦ no_high y | inr y ↦ no_low y ])
        ]
      ]
