-- A segment that meets no bound of a tube keeps in the tube: a triangle is left through a bound,
-- which it is not, or through a diagonal,
-- and behind the diagonal stands the next triangle.
use Rattle.std.proofs.Common.{◌≡◌, ◌⊎◌, inl, inr, List, [], ◌∷◌, ℤ, pos, ◌+ℤ◌, ◌*ℤ◌, ◌-ℤ◌, ◌<ℤ◌}
use Rattle.std.proofs.Common.{◌≤ℤ◌, refl, arith, ap, sym, ◌∙◌, subst}
use Rattle.std.proofs.lemmas.Int.{ints, by_lt_z}
use Rattle.plane.specs.declared.kinds.Point.{Point}
use Rattle.plane.specs.Lists.{Each, Has}
use Rattle.plane.specs.Forms.Vectors.{Vector, Place, Between, mix, point, Edge, side}
use Rattle.plane.specs.Tubes.Bays.{Bay}
use Rattle.plane.specs.Tubes.Windings.{arrow, Tile, round, InTile, InSomeTile, IsLeftTile, strips}
use Rattle.plane.specs.Tubes.Windings.{tiles, fence, bounds}
use Rattle.plane.specs.CurveRuns.Extended.{IsOnWay}
use Rattle.plane.proofs.Algebra.Laws.{product_nonnegative, product_positive}
use Rattle.plane.proofs.Algebra.Ring.{at, num, plus, minus, times, vars, ring}
use Rattle.plane.proofs.Linear.Vectors.{side-mix}
use Rattle.plane.proofs.Linear.Signs.{between_back}
use Rattle.plane.proofs.Windings.OneTriangle.{side_a, side_b, side_c, area, sides_sum, sides_x}
use Rattle.plane.proofs.Windings.OneTriangle.{sides_y, area_next, IsWithin, within_triangle}
use Rattle.plane.proofs.Windings.OneTriangle.{triangle_within}
use Rattle.plane.proofs.Windings.Ways.{way_mix, way_start, way_end, way_place}

-- ---- a segment cut by the lines of some edges
abbrev Good : List Edge → Vector → Type 0
Good fs z = Each (λ f. pos 0 ≤ℤ side f z) fs

mix_least : (s a t b : ℤ) → pos 0 ≤ℤ s → pos 0 ≤ℤ a → pos 0 ≤ℤ t → pos 0 ≤ℤ b
    → pos 0 ≤ℤ ((s *ℤ a) +ℤ (t *ℤ b))
mix_least s a t b hs ha ht hb =
    let u = product_nonnegative s a hs ha in
    let v = product_nonnegative t b ht hb in omega (arith, ints, u, v)

good_mix : (fs : List Edge) (s : ℤ) (y : Vector) (t : ℤ) (z : Vector) → pos 0 ≤ℤ s → pos 0 ≤ℤ t
    → Good fs y → Good fs z → Good fs (mix s y t z)
good_mix [] s y t z hs ht a b = tt
good_mix (f ∷ fs) s y t z hs ht a b = (
  subst (λ (v : ℤ). pos 0 ≤ℤ v) (sym (side-mix f s y t z))
      (mix_least s (side f y) t (side f z) hs a.0 ht b.0),
  good_mix fs s y t z hs ht a.1 b.1,
)

-- the last place of the way from z to q that is on the left of all edges
pub record IsExit (fs : List Edge) (z q : Vector) : Type 0 where
  pub at : Vector
  pub on : IsOnWay z q at
  pub good : Good fs at
  pub edge : Edge
  pub has : Has edge fs
  pub zero : side edge at ≡ pos 0
  pub beyond : side edge q <ℤ pos 0

zero_mix : (a b : ℤ) → ((pos 0 -ℤ b) *ℤ a) +ℤ (a *ℤ b) ≡ pos 0
zero_mix a b =
    ring (plus (times (minus (num (pos 0)) (at 1)) (at 0)) (times (at 0) (at 1))) (num (pos 0))
    (vars (a ∷ b ∷ [])) refl

-- where the far end of a mix is not below 0, nor is the mix
far_below : (s a t b v : ℤ) → pos 0 ≤ℤ s → pos 0 ≤ℤ a → pos 0 ≤ℤ t → v ≡ (s *ℤ a) +ℤ (t *ℤ b)
    → v <ℤ pos 0 → b <ℤ pos 0
far_below s a t b v hs ha ht e l =
    by_lt_z b (pos 0) (λ k. k) (λ (k : pos 0 ≤ℤ b). let u = mix_least s a t b hs ha ht k in
    absurd (omega (arith, ints, u, e, l)))

-- the cut at one more edge
cut_more : (f : Edge) (fs : List Edge) (z q y : Vector) → Good (f ∷ fs) z → IsOnWay z q y
    → Good fs y → side f y <ℤ pos 0 → IsExit (f ∷ fs) z q
cut_more f fs z q y g on gy l =
    let a = side f z in
    let b = side f y in
    let hs : pos 0 ≤ℤ (pos 0 -ℤ b) = omega (arith, ints, l) in
    let some : pos 0 <ℤ ((pos 0 -ℤ b) +ℤ a) = let k = g.0 in omega (arith, ints, l, k) in
    let m = mix (pos 0 -ℤ b) z a y in
    let e : side f m ≡ pos 0 = side-mix f (pos 0 -ℤ b) z a y ∙ zero_mix a b in
    let far = ap (λ (v : Vector). side f v) on.is ∙ side-mix f on.s z on.t q in
    record {
      at = m;
      on = way_mix z q z y (pos 0 -ℤ b) a hs g.0 some (way_start z q) on;
      good = (zero_least (side f m) e, good_mix fs (pos 0 -ℤ b) z a y hs g.0 g.1 gy);
      edge = f;
      has = inl refl;
      zero = e;
      beyond = far_below on.s (side f z) on.t (side f q) (side f y) on.s_least g.0 on.t_least far l;
    }
  where
    zero_least : (v : ℤ) → v ≡ pos 0 → pos 0 ≤ℤ v
    zero_least v e = omega (arith, ints, e)

pub exit : (fs : List Edge) (z q : Vector) → Good fs z → Good fs q ⊎ IsExit fs z q
exit [] z q g = inl tt
exit (f ∷ fs) z q g = elim (exit fs z q g.1) [
  | inl good ↦ by_lt_z (side f q) (pos 0)
      (λ (l : side f q <ℤ pos 0). inr (cut_more f fs z q q g (way_end z q) good l))
      (λ (l : pos 0 ≤ℤ side f q). inl (l, good))
  | inr x ↦ by_lt_z (side f x.at) (pos 0)
      (λ (l : side f x.at <ℤ pos 0). inr (cut_more f fs z q x.at g x.on x.good l))
      (λ (l : pos 0 ≤ℤ side f x.at). inr (record {
        at = x.at;
        on = x.on;
        good = (l, x.good);
        edge = x.edge;
        has = inr x.has;
        zero = x.zero;
        beyond = x.beyond;
      }))
]

-- ---- the sides of a triangle
abbrev rotated : Tile → Tile
rotated t = record { a = t.b; b = t.c; c = t.a }

rotated_left : (t : Tile) → IsLeftTile t → IsLeftTile (rotated t)
rotated_left t l = let e = area_next t in omega (arith, ints, l, e)

rotated_within : (t : Tile) (z : Vector) → IsWithin t z → IsWithin (rotated t) z
rotated_within t z w = (w.1, w.2, w.0)

-- a place of the triangle on the line of its first side is on that side
on_side_a : (t : Tile) (z : Vector) → Place z → IsLeftTile t → IsWithin t z → side_a t z ≡ pos 0
    → Between z (point t.a) (point t.b)
on_side_a t z Z left w e =
    let s = sides_sum t z in
    let p = product_positive z.n (area t) Z left in
    let b = side_b t z in
    let c = side_c t z in
    let n : (b *ℤ pos 1) +ℤ (c *ℤ pos 1) ≡ z.n *ℤ area t = omega (arith, ints, s, e) in
    record {
      s = b;
      t = c;
      s_least = w.1;
      t_least = w.2;
      some = omega (arith, ints, s, e, p);
      is = record {
        x = one z.x z.n (area t) ((b *ℤ pos 1) +ℤ (c *ℤ pos 1)) b t.a.x c t.b.x
            (side_a t z) t.c.x n (sides_x t z) e;
        y = one z.y z.n (area t) ((b *ℤ pos 1) +ℤ (c *ℤ pos 1)) b t.a.y c t.b.y
            (side_a t z) t.c.y n (sides_y t z) e;
      };
    }
  where
    one : (x n k m b p c q a r : ℤ) → m ≡ n *ℤ k → x *ℤ k ≡ ((b *ℤ p) +ℤ (c *ℤ q)) +ℤ (a *ℤ r)
        → a ≡ pos 0 → x *ℤ m ≡ ((b *ℤ p) +ℤ (c *ℤ q)) *ℤ n
    one x n k m b p c q a r e f z =
        let zero : a *ℤ r ≡ pos 0 = ap (λ (v : ℤ). v *ℤ r) z ∙ omega (arith, ints) in
        let g : x *ℤ k ≡ (b *ℤ p) +ℤ (c *ℤ q) = omega (arith, ints, f, zero) in
        ap (λ (v : ℤ). x *ℤ v) e
        ∙ ring (times (at 0) (times (at 1) (at 2))) (times (times (at 0) (at 2)) (at 1))
        (vars (x ∷ n ∷ k ∷ [])) refl ∙ ap (λ (v : ℤ). v *ℤ n) g

-- and back
pub side_a_within : (t : Tile) (z : Vector) → Place z → IsLeftTile t
    → Between z (point t.a) (point t.b) → IsWithin t z
side_a_within t z Z left h =
    let some = h.some in
    triangle_within t z Z left (record {
      of_a = h.s;
      of_b = h.t;
      of_c = pos 0;
      a_least = h.s_least;
      b_least = h.t_least;
      c_least = omega (arith, ints);
      some = omega (arith, ints, some);
      is = record {
        x = ap (λ (v : ℤ). z.x *ℤ v) (one h.s h.t) ∙ h.is.x
            ∙ ap (λ (v : ℤ). v *ℤ z.n) (two h.s t.a.x h.t t.b.x t.c.x);
        y = ap (λ (v : ℤ). z.y *ℤ v) (one h.s h.t) ∙ h.is.y
            ∙ ap (λ (v : ℤ). v *ℤ z.n) (two h.s t.a.y h.t t.b.y t.c.y);
      };
    })
  where
    one : (s t : ℤ) → (s +ℤ t) +ℤ pos 0 ≡ (s *ℤ pos 1) +ℤ (t *ℤ pos 1)
    one s t = omega (arith, ints)

    two : (s p t q r : ℤ) → (s *ℤ p) +ℤ (t *ℤ q) ≡ ((s *ℤ p) +ℤ (t *ℤ q)) +ℤ (pos 0 *ℤ r)
    two s p t q r =
        ring (plus (times (at 0) (at 1)) (times (at 2) (at 3)))
        (plus (plus (times (at 0) (at 1)) (times (at 2) (at 3))) (times (num (pos 0)) (at 4)))
        (vars (s ∷ p ∷ t ∷ q ∷ r ∷ [])) refl

pub on_side_b : (t : Tile) (z : Vector) → Place z → IsLeftTile t → IsWithin t z → side_b t z ≡ pos 0
    → Between z (point t.b) (point t.c)
on_side_b t z Z left w e = on_side_a (rotated t) z Z (rotated_left t left) (rotated_within t z w) e

pub on_side_c : (t : Tile) (z : Vector) → Place z → IsLeftTile t → IsWithin t z → side_c t z ≡ pos 0
    → Between z (point t.c) (point t.a)
on_side_c t z Z left w e = on_side_b (rotated t) z Z (rotated_left t left) (rotated_within t z w) e

pub side_b_within : (t : Tile) (z : Vector) → Place z → IsLeftTile t
    → Between z (point t.b) (point t.c) → IsWithin t z
side_b_within t z Z left h =
    let w = side_a_within (rotated t) z Z (rotated_left t left) h in (w.2, w.0, w.1)

pub side_c_within : (t : Tile) (z : Vector) → Place z → IsLeftTile t
    → Between z (point t.c) (point t.a) → IsWithin t z
side_c_within t z Z left h =
    let w = side_b_within (rotated t) z Z (rotated_left t left) h in (w.2, w.0, w.1)

-- ---- one triangle: where the way leaves it
module _ (p q : Vector) (P : Place p) (Q : Place q) where
  -- a place of the way on an edge, with the far end strictly on the other side of a line
  record Leaves (a b : Point) (e : Edge) : Type 0 where
    at : Vector
    on : IsOnWay p q at
    between : Between at (point a) (point b)
    beyond : side e q <ℤ pos 0

  leave : {R : Type 0} (t : Tile) → IsLeftTile t → (z : Vector) → IsOnWay p q z → IsWithin t z
      → (IsWithin t q → R)
      → (Leaves t.a t.b (arrow t.a t.b) → R) → (Leaves t.b t.c (arrow t.b t.c) → R)
      → (Leaves t.c t.a (arrow t.c t.a) → R) → R
  leave {R = R} t left z on w stays a b c = elim (exit (round t) z q (w.0, (w.1, (w.2, tt)))) [
    | inl g ↦ stays (g.0, g.1.0, g.1.1.0)
    | inr x ↦
        let way = subst (λ (v : Vector). IsOnWay p q v) (sym x.on.is)
        (way_mix p q z q x.on.s x.on.t x.on.s_least x.on.t_least x.on.some on (way_end p q)) in
        by_edge x.at way (way_place p q x.at P Q way)
        (x.good.0, x.good.1.0, x.good.1.1.0) x.edge x.has x.zero x.beyond
  ]
    where
      by_edge : (y : Vector) → IsOnWay p q y → Place y → IsWithin t y → (e : Edge) → Has e (round t)
          → side e y ≡ pos 0 → side e q <ℤ pos 0 → R
      by_edge y way Y within e (inl m) zero l =
          a (record {
            at = y;
            on = way;
            between = on_side_a t y Y left within (subst (λ (f : Edge). side f y ≡ pos 0) m zero);
            beyond = subst (λ (f : Edge). side f q <ℤ pos 0) m l;
          })
      by_edge y way Y within e (inr (inl m)) zero l =
          b (record {
            at = y;
            on = way;
            between = on_side_b t y Y left within (subst (λ (f : Edge). side f y ≡ pos 0) m zero);
            beyond = subst (λ (f : Edge). side f q <ℤ pos 0) m l;
          })
      by_edge y way Y within e (inr (inr (inl m))) zero l =
          c (record {
            at = y;
            on = way;
            between = on_side_c t y Y left within (subst (λ (f : Edge). side f y ≡ pos 0) m zero);
            beyond = subst (λ (f : Edge). side f q <ℤ pos 0) m l;
          })
      by_edge y way Y within e (inr (inr (inr m))) zero l = absurd m

  -- the way meets none of the arrows
  abbrev pub Misses : List Edge → Type 0
  Misses es = (y : Vector) → IsOnWay p q y → (e : Edge) → Has e es
      → Between y (point e.low) (point e.high) → ⊥

  opposite : (a b : Point) (z : Vector) → side (arrow a b) z ≡ pos 0 -ℤ side (arrow b a) z
  unfolding side
  opposite a b z =
      ring (minus (times (minus (at 2) (at 0)) (minus (at 5) (times (at 1) (at 6))))
      (times (minus (at 3) (at 1)) (minus (at 4) (times (at 0) (at 6)))))
      (minus (num (pos 0))
      (minus (times (minus (at 0) (at 2)) (minus (at 5) (times (at 3) (at 6))))
      (times (minus (at 1) (at 3)) (minus (at 4) (times (at 2) (at 6))))))
      (vars (a.x ∷ a.y ∷ b.x ∷ b.y ∷ z.x ∷ z.y ∷ z.n ∷ [])) refl

  both_sides : (a b : Point) → side (arrow a b) q <ℤ pos 0 → side (arrow b a) q <ℤ pos 0 → ⊥
  both_sides a b l k = let e = opposite a b q in omega (arith, ints, l, k, e)

  -- ---- the two triangles from the diagonal between v and u to that between the corners of the
  -- bay, and what stands behind it
  module _ (v u : Point) (k : Bay) (Rest : Vector → Type 0) where
    abbrev one : Tile
    one = record { a = u; b = v; c = k.outer }

    abbrev two : Tile
    two = record { a = v; b = k.inner; c = k.outer }

    module _ (two_left : IsLeftTile two) (miss_inner : (y : Vector) → IsOnWay p q y
        → Between y (point v) (point k.inner) → ⊥)
        (enter : (y : Vector) → Between y (point k.inner) (point k.outer) → Rest y)
        (far : (z : Vector) → IsOnWay p q z → Rest z
        → Rest q ⊎ Leaves k.inner k.outer (arrow k.outer k.inner)) where
      abbrev Two : Vector → Type 0
      Two z = IsWithin two z ⊎ Rest z

      from_rest : (z : Vector) → IsOnWay p q z → Rest z
          → (Leaves k.inner k.outer (arrow k.outer k.inner)
          → Two q ⊎ Leaves k.outer v (arrow k.outer v))
          → Two q ⊎ Leaves k.outer v (arrow k.outer v)
      from_rest z on h f = elim (far z on h) [ inl r ↦ inl (inr r) | inr x ↦ f x ]

      in_two : (z : Vector) → IsOnWay p q z → IsWithin two z
          → Two q ⊎ Leaves k.outer v (arrow k.outer v)
      in_two z on w =
          leave two two_left z on w (λ h. inl (inl h))
          (λ x. absurd (miss_inner x.at x.on x.between))
          (λ x. from_rest x.at x.on (enter x.at x.between)
          (λ y. absurd (both_sides k.inner k.outer x.beyond y.beyond)))
          (λ x. inr x)

      any_two : (z : Vector) → IsOnWay p q z → Two z → Two q ⊎ Leaves k.outer v (arrow k.outer v)
      any_two z on (inl w) = in_two z on w
      any_two z on (inr r) =
          from_rest z on r
          (λ x. in_two x.at x.on
          (side_b_within two x.at (way_place p q x.at P Q x.on) two_left x.between))

      module _ (one_left : IsLeftTile one) (miss_outer : (y : Vector) → IsOnWay p q y
          → Between y (point k.outer) (point u) → ⊥) where
        abbrev One : Vector → Type 0
        One z = IsWithin one z ⊎ Two z

        from_two : (z : Vector) → IsOnWay p q z → Two z
            → (Leaves k.outer v (arrow k.outer v) → One q ⊎ Leaves u v (arrow u v))
            → One q ⊎ Leaves u v (arrow u v)
        from_two z on h f = elim (any_two z on h) [ inl r ↦ inl (inr r) | inr x ↦ f x ]

        in_one : (z : Vector) → IsOnWay p q z → IsWithin one z → One q ⊎ Leaves u v (arrow u v)
        in_one z on w = leave one one_left z on w (λ h. inl (inl h)) (λ x. inr x)
            (λ x. from_two x.at x.on
            (inl (side_c_within two x.at (way_place p q x.at P Q x.on) two_left
            (between_back x.at (point v) (point k.outer) x.between)))
            (λ y. absurd (both_sides v k.outer x.beyond y.beyond)))
            (λ x. absurd (miss_outer x.at x.on x.between))

        any_one : (z : Vector) → IsOnWay p q z → One z → One q ⊎ Leaves u v (arrow u v)
        any_one z on (inl w) = in_one z on w
        any_one z on (inr r) =
            from_two z on r
            (λ x. in_one x.at x.on
            (side_b_within one x.at (way_place p q x.at P Q x.on) one_left
            (between_back x.at (point k.outer) (point v) x.between)))

  -- ---- the triangles from the diagonal between v and u on, with that diagonal
  abbrev Behind : Point → Point → List Bay → Vector → Type 0
  Behind v u ks z = InSomeTile (strips v u ks) z ⊎ Between z (point v) (point u)

  -- by the two triangles of the first bay
  first_bay : (v u : Point) (k : Bay) (ks : List Bay) (z : Vector) → Place z
      → Each (λ t. IsLeftTile t) (strips v u (k ∷ ks)) → Behind v u (k ∷ ks) z
      → IsWithin (record { a = u; b = v; c = k.outer }) z
      ⊎ (IsWithin (record { a = v; b = k.inner; c = k.outer }) z ⊎ Behind k.inner k.outer ks z)
  first_bay v u k ks z Z left (inl (t, inl e, i)) =
      inl (triangle_within (record { a = u; b = v; c = k.outer }) z Z left.0
      (subst (λ (t : Tile). InTile t z) e i))
  first_bay v u k ks z Z left (inl (t, inr (inl e), i)) =
      inr (inl (triangle_within (record { a = v; b = k.inner; c = k.outer }) z Z left.1.0
      (subst (λ (t : Tile). InTile t z) e i)))
  first_bay v u k ks z Z left (inl (t, inr (inr m), i)) = inr (inr (inl (t, m, i)))
  first_bay v u k ks z Z left (inr b) =
      inl (side_a_within (record { a = u; b = v; c = k.outer }) z Z left.0
      (between_back z (point v) (point u) b))

  -- a place behind the last diagonal of the bay, or in its triangles
  last_in : (v u : Point) (k : Bay) (ks : List Bay) (z : Vector) → Place z
      → IsLeftTile (record { a = v; b = k.inner; c = k.outer }) → Behind k.inner k.outer ks z
      → InSomeTile (strips v u (k ∷ ks)) z
  last_in v u k ks z Z left (inl (t, m, i)) = (t, inr (inr m), i)
  last_in v u k ks z Z left (inr b) =
      let t : Tile = record { a = v; b = k.inner; c = k.outer } in
      (t, inr (inl refl), within_triangle t z Z left (side_b_within t z Z left b))

  all_bays : (v u : Point) (k : Bay) (ks : List Bay) (z : Vector) → Place z
      → Each (λ t. IsLeftTile t) (strips v u (k ∷ ks))
      → IsWithin (record { a = u; b = v; c = k.outer }) z
      ⊎ (IsWithin (record { a = v; b = k.inner; c = k.outer }) z ⊎ Behind k.inner k.outer ks z)
      → Behind v u (k ∷ ks) z
  all_bays v u k ks z Z left (inl w) =
      inl (
        record { a = u; b = v; c = k.outer },
        inl refl,
        within_triangle (record { a = u; b = v; c = k.outer }) z Z left.0 w,
      )
  all_bays v u k ks z Z left (inr (inl w)) =
      inl (
        record {
          a = v;
          b = k.inner;
          c = k.outer;
        },
        inr (inl refl),
        within_triangle (record {
          a = v;
          b = k.inner;
          c = k.outer;
        }) z Z left.1.0 w,
      )
  all_bays v u k ks z Z left (inr (inr h)) = inl (last_in v u k ks z Z left.1.0 h)

  behind : (v u : Point) (ks : List Bay) → Each (λ t. IsLeftTile t) (strips v u ks)
      → Misses (fence v u ks) → (z : Vector) → IsOnWay p q z → Behind v u ks z
      → Behind v u ks q ⊎ Leaves v u (arrow u v)
  behind v u [] left miss z on (inl s) = absurd s.1
  behind v u [] left miss z on (inr b) = absurd (miss z on (arrow v u) (inl refl) b)
  behind v u (k ∷ ks) left miss z on h =
      let far = behind k.inner k.outer ks left.1.1 (λ y w e m b. miss y w e (inr (inr m)) b) in
      elim (any_one v u k (Behind k.inner k.outer ks) left.1.0
      (λ y w b. miss y w (arrow v k.inner) (inl refl) b) (λ y b. inr b) far left.0
      (λ y w b. miss y w (arrow k.outer u) (inr (inl refl)) b)
      z on (first_bay v u k ks z (way_place p q z P Q on) left h)) [
        | inl r ↦ inl (all_bays v u k ks q Q left r)
        | inr x ↦ inr (record {
          at = x.at;
          on = x.on;
          between = between_back x.at (point u) (point v) x.between;
          beyond = x.beyond;
        })
      ]

  -- ---- the whole tube: the first triangle, and what stands behind its diagonal
  pub kept_in : (a : Point) (ks : List Bay) → Each (λ t. IsLeftTile t) (tiles a ks)
      → Misses (bounds a ks) → InSomeTile (tiles a ks) p → InSomeTile (tiles a ks) q
  kept_in a [] left miss s = absurd s.1
  kept_in a (k ∷ ks) left miss s =
      let far = behind k.inner k.outer ks left.1 (λ y w e m b. miss y w e (inr (inr m)) b) in
      elim (any_two a a k (Behind k.inner k.outer ks) left.0
      (λ y w b. miss y w (arrow a k.inner) (inl refl) b) (λ y b. inr b) far p (way_start p q)
      (opened s)) [
        | inl r ↦ closed r
        | inr x ↦ absurd (miss x.at x.on (arrow k.outer a) (inr (inl refl)) x.between)
      ]
    where
      opened : InSomeTile (tiles a (k ∷ ks)) p
          → IsWithin (record { a = a; b = k.inner; c = k.outer }) p ⊎ Behind k.inner k.outer ks p
      opened (x, inl e, i) =
          inl (triangle_within (record { a = a; b = k.inner; c = k.outer }) p P left.0
          (subst (λ (t : Tile). InTile t p) e i))
      opened (x, inr m, i) = inr (inl (x, m, i))

      closed : IsWithin (record { a = a; b = k.inner; c = k.outer }) q ⊎ Behind k.inner k.outer ks q
          → InSomeTile (tiles a (k ∷ ks)) q
      closed (inl w) = (
        record { a = a; b = k.inner; c = k.outer },
        inl refl,
        within_triangle (record { a = a; b = k.inner; c = k.outer }) q Q left.0 w,
      )
      closed (inr (inl (x, m, i))) = (x, inr m, i)
      closed (inr (inr b)) = (
        record { a = a; b = k.inner; c = k.outer },
        inl refl,
        within_triangle (record { a = a; b = k.inner; c = k.outer }) q Q left.0
            (side_b_within (record { a = a; b = k.inner; c = k.outer }) q Q left.0 b),
      )
