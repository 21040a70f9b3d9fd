-- Means of places in a box are in the box.
use Rattle.std.proofs.Common.{◌≡◌, ℤ, pos, ◌+ℤ◌, ◌*ℤ◌, ◌-ℤ◌, ◌<ℤ◌, ◌≤ℤ◌, List, [], ◌∷◌, inl, inr}
use Rattle.std.proofs.Common.{arith, ap, ◌∙◌}
use Rattle.std.proofs.lemmas.Int.{ints}
use Rattle.plane.specs.declared.kinds.Point.{Point}
use Rattle.plane.specs.Forms.Vectors.{Vector, Place, Between, point}
use Rattle.plane.specs.Lists.{Each}
use Rattle.plane.specs.Rule.Straights.{IsOnStraight}
use Rattle.plane.specs.Tubes.Bays.{Bay, InTriangle, InBays, InGaps, InTube}
use Rattle.plane.specs.Forms.Boxes.{Box, InBox, GoesBeyond}
use Rattle.plane.proofs.Algebra.Scaling.{times_le}
use Rattle.plane.proofs.Algebra.Laws.{product_comm, sum-product}
use Rattle.plane.proofs.Caps.CapTriangles.{triangle_low, triangle_high}
use Rattle.plane.proofs.Linear.Straights.{straight_between}

-- with x and y exchanged
abbrev flip : Vector → Vector
flip v = record { x = v.y; y = v.x; n = v.n }

abbrev flip_point : Point → Point
flip_point p = record { x = p.y; y = p.x }

triangle_flip : (z : Vector) (p q r : Point) → InTriangle z (point p) (point q) (point r)
    → InTriangle (flip z) (point (flip_point p)) (point (flip_point q)) (point (flip_point r))
triangle_flip z p q r t = record {
  i = t.i;
  j = t.j;
  k = t.k;
  i_least = t.i_least;
  j_least = t.j_least;
  k_least = t.k_least;
  some = t.some;
  is = record { x = t.is.y; y = t.is.x };
}

-- a point in the box, by its coordinates
pub record HasPoint (b : Box) (p : Point) : Type 0 where
  pub left : b.low.x ≤ℤ p.x
  pub right : p.x ≤ℤ b.high.x
  pub under : b.low.y ≤ℤ p.y
  pub over : p.y ≤ℤ b.high.y

pub has_point : (b : Box) (p : Point) → InBox b (point p) → HasPoint b p
has_point b p h =
    let l = h.left in
    let r = h.right in
    let u = h.under in
    let o = h.over in
    record {
      left = omega (arith, ints, l);
      right = omega (arith, ints, r);
      under = omega (arith, ints, u);
      over = omega (arith, ints, o);
    }

pub point_in : (b : Box) (p : Point) → HasPoint b p → InBox b (point p)
point_in b p h =
    let l = h.left in
    let r = h.right in
    let u = h.under in
    let o = h.over in
    record {
      left = omega (arith, ints, l);
      right = omega (arith, ints, r);
      under = omega (arith, ints, u);
      over = omega (arith, ints, o);
    }

pub triangle_has : (b : Box) (z : Vector) (p q r : Point) → Place z → HasPoint b p → HasPoint b q
    → HasPoint b r → InTriangle z (point p) (point q) (point r) → InBox b z
triangle_has b z p q r hz hp hq hr t =
    let f = triangle_flip z p q r t in
    record {
      left = triangle_low b.low.x z p q r hz t hp.left hq.left hr.left;
      right = triangle_high b.high.x z p q r hz t hp.right hq.right hr.right;
      under = triangle_low b.low.y (flip z) (flip_point p) (flip_point q)
          (flip_point r) hz f hp.under hq.under hr.under;
      over = triangle_high b.high.y (flip z) (flip_point p) (flip_point q)
          (flip_point r) hz f hp.over hq.over hr.over;
    }

pub triangle_in_box : (b : Box) (z : Vector) (p q r : Point) → Place z → InBox b (point p)
    → InBox b (point q) → InBox b (point r) → InTriangle z (point p) (point q) (point r) → InBox b z
triangle_in_box b z p q r hz hp hq hr t =
    triangle_has b z p q r hz (has_point b p hp) (has_point b q hq) (has_point b r hr) t

-- a place of a straight is one of a triangle
straight_triangle : (z : Vector) (p q : Point) → Between z (point p) (point q)
    → InTriangle z (point p) (point q) (point q)
straight_triangle z p q h =
    let s = h.some in
    record {
      i = h.s;
      j = h.t;
      k = pos 0;
      i_least = h.s_least;
      j_least = h.t_least;
      k_least = omega (arith, ints);
      some = omega (arith, ints, s);
      is = record {
        x = ap (λ (n : ℤ). z.x *ℤ n) (omega (arith, ints)) ∙ h.is.x
            ∙ ap (λ (n : ℤ). n *ℤ z.n) (omega (arith, ints));
        y = ap (λ (n : ℤ). z.y *ℤ n) (omega (arith, ints)) ∙ h.is.y
            ∙ ap (λ (n : ℤ). n *ℤ z.n) (omega (arith, ints));
      };
    }

pub straight_in_box : (b : Box) (z : Vector) (p q : Point) → Place z → InBox b (point p)
    → InBox b (point q) → IsOnStraight (point p) (point q) z → InBox b z
straight_in_box b z p q hz hp hq on =
    let one : pos 0 <ℤ pos 1 = omega (arith, ints) in
    triangle_in_box b z p q q hz hp hq hq
    (straight_triangle z p q (straight_between (point p) (point q) z one one hz on))

-- ---- tubes
bays_have : (b : Box) (z : Vector) (v : Point) (bs : List Bay) → Place z → HasPoint b v
    → Each (λ k. HasPoint b k.outer × HasPoint b k.inner) bs → InBays v bs z → InBox b z
bays_have b z v [] hz hv each t = absurd t
bays_have b z v (k ∷ rest) hz hv each (inl t) =
    triangle_has b z v k.inner k.outer hz hv each.0.1 each.0.0 t
bays_have b z v (k ∷ rest) hz hv each (inr t) = bays_have b z k.inner rest hz each.0.1 each.1 t

gaps_have : (b : Box) (z : Vector) (bs : List Bay) → Place z
    → Each (λ k. HasPoint b k.outer × HasPoint b k.inner) bs → InGaps bs z → InBox b z
gaps_have b z [] hz each t = absurd t
gaps_have b z (k ∷ []) hz each t = absurd t
gaps_have b z (k ∷ (l ∷ rest)) hz each (inl t) =
    triangle_has b z k.inner k.outer l.outer hz each.0.1 each.0.0 each.1.0.0 t
gaps_have b z (k ∷ (l ∷ rest)) hz each (inr t) = gaps_have b z (l ∷ rest) hz each.1 t

pub tube_has : (b : Box) (z : Vector) (v : Point) (bs : List Bay) → Place z → HasPoint b v
    → Each (λ k. HasPoint b k.outer × HasPoint b k.inner) bs → InTube v bs z → InBox b z
tube_has b z v bs hz hv each (inl t) = bays_have b z v bs hz hv each t
tube_has b z v bs hz hv each (inr t) = gaps_have b z bs hz each t

points_have : (b : Box) (bs : List Bay)
    → Each (λ k. InBox b (point k.outer) × InBox b (point k.inner)) bs
    → Each (λ k. HasPoint b k.outer × HasPoint b k.inner) bs
points_have b [] each = tt
points_have b (k ∷ rest) each =
    ((has_point b k.outer each.0.0, has_point b k.inner each.0.1), points_have b rest each.1)

pub tube_in_box : (b : Box) (z : Vector) (v : Point) (bs : List Bay) → Place z → InBox b (point v)
    → Each (λ k. InBox b (point k.outer) × InBox b (point k.inner)) bs → InTube v bs z → InBox b z
tube_in_box b z v bs hz hv each t =
    tube_has b z v bs hz (has_point b v hv) (points_have b bs each) t

-- ---- a place that is near p is in a box that goes beyond p
pub times_same : (a b n : ℤ) → pos 0 <ℤ n → a ≤ℤ b → (a *ℤ n) ≤ℤ (b *ℤ n)
times_same a b n hn l =
    let k = times_le n a b (omega (arith, ints, hn)) l in
    let e = product_comm n a in let f = product_comm n b in omega (arith, ints, k, e, f)

spread_sum : (a b n : ℤ) → (a +ℤ b) *ℤ n ≡ (a *ℤ n) +ℤ (b *ℤ n)
spread_sum a b n = sum-product a b n

pub near_in : (b : Box) (p : Point) (x y : ℤ) (z : Vector) → Place z → GoesBeyond p x y b
    → (z.x -ℤ (p.x *ℤ z.n)) ≤ℤ (x *ℤ z.n) → (pos 0 -ℤ (z.x -ℤ (p.x *ℤ z.n))) ≤ℤ (x *ℤ z.n)
    → (z.y -ℤ (p.y *ℤ z.n)) ≤ℤ (y *ℤ z.n) → (pos 0 -ℤ (z.y -ℤ (p.y *ℤ z.n))) ≤ℤ (y *ℤ z.n)
    → InBox b z
near_in b p x y z hz g r l o u = record {
  left = low b.low.x p.x x z.x z.n hz g.left l;
  right = high b.high.x p.x x z.x z.n hz g.right r;
  under = low b.low.y p.y y z.y z.n hz g.under u;
  over = high b.high.y p.y y z.y z.n hz g.over o;
}
  where
    low : (a p x z n : ℤ) → pos 0 <ℤ n → (a +ℤ x) ≤ℤ p → (pos 0 -ℤ (z -ℤ (p *ℤ n))) ≤ℤ (x *ℤ n)
        → (a *ℤ n) ≤ℤ z
    low a p x z n hn k h =
        let e = spread_sum a x n in
        let f = times_same (a +ℤ x) p n hn k in omega (arith, ints, e, f, h)

    high : (a p x z n : ℤ) → pos 0 <ℤ n → (p +ℤ x) ≤ℤ a → (z -ℤ (p *ℤ n)) ≤ℤ (x *ℤ n)
        → z ≤ℤ (a *ℤ n)
    high a p x z n hn k h =
        let e = spread_sum p x n in
        let f = times_same (p +ℤ x) a n hn k in omega (arith, ints, e, f, h)
