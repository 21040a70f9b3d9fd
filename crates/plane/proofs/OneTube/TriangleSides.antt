-- A triangle of points by the three sides that a program computes.
use Rattle.std.proofs.Common.{◌≡◌, ℤ, pos, ◌+ℤ◌, ◌*ℤ◌, ◌-ℤ◌, ◌<ℤ◌, ◌≤ℤ◌, [], ◌∷◌, refl, arith, ap}
use Rattle.std.proofs.Common.{◌∙◌, sym}
use Rattle.std.proofs.lemmas.Int.{ints}
use Rattle.plane.specs.declared.kinds.Point.{Point}
use Rattle.plane.specs.Forms.Vectors.{Vector, Place, point, side}
use Rattle.plane.specs.Tubes.Bays.{InTriangle}
use Rattle.plane.specs.Tubes.CapStrips.{line}
use Rattle.plane.proofs.Linear.Vectors.{side-low, side-high}
use Rattle.plane.proofs.Algebra.Ring.{at, num, minus, vars, ring}
use Rattle.plane.proofs.Caps.CapCorners.{SIDE, triangle_up}
use Rattle.plane.proofs.Caps.CapTriangles.{triangle_least, side-turned}

side-back : (p q : Point) (z : Vector) → side (line q p) z ≡ pos 0 -ℤ side (line p q) z
unfolding side
side-back p q z =
    ring (SIDE (at 2) (at 3) (at 0) (at 1) (at 4) (at 5) (at 6))
    (minus (num (pos 0)) (SIDE (at 0) (at 1) (at 2) (at 3) (at 4) (at 5) (at 6)))
    (vars (p.x ∷ p.y ∷ q.x ∷ q.y ∷ z.x ∷ z.y ∷ z.n ∷ [])) refl

-- the place is on or left of each side of the triangle p q m
pub record IsLeftOfAll (p q m : Point) (z : Vector) : Type 0 where
  pub first : pos 0 ≤ℤ side (line p q) z
  pub second : pos 0 ≤ℤ side (line q m) z
  pub third : pos 0 ≤ℤ side (line m p) z

zero_least : (a : ℤ) → a ≡ pos 0 → pos 0 ≤ℤ a
zero_least a e = omega (arith, ints, e)

pub triangle_sides : (p q m : Point) (z : Vector) → Place z → pos 0 <ℤ side (line p q) (point m)
    → InTriangle z (point p) (point q) (point m) → IsLeftOfAll p q m z
triangle_sides p q m z hz d t =
    let e = side-turned p q m in
    let f = side-turned q m p in
    record {
      first = triangle_least (line p q) z p q m hz t (zero_least _ (side-low (line p q)))
          (zero_least _ (side-high (line p q))) (omega (arith, ints, d));
      second = triangle_least (line q m) z p q m hz t (omega (arith, ints, d, e))
          (zero_least _ (side-low (line q m))) (zero_least _ (side-high (line q m)));
      third = triangle_least (line m p) z p q m hz t (zero_least _ (side-high (line m p)))
          (omega (arith, ints, d, e, f)) (zero_least _ (side-low (line m p)));
    }

pub sides_triangle : (p q m : Point) (z : Vector) → Place z → pos 0 <ℤ side (line p q) (point m)
    → IsLeftOfAll p q m z → InTriangle z (point p) (point q) (point m)
sides_triangle p q m z hz d s =
    let a = s.second in
    let b = s.third in
    let e = side-back m p z in
    let f = side-back q m z in
    triangle_up p m q z hz d s.first (omega (arith, ints, b, e)) (omega (arith, ints, a, f))

-- the order of the corners does not matter
pub triangle_swapped : (z p q r : Vector) → InTriangle z p q r → InTriangle z p r q
triangle_swapped z p q r t = record {
  i = t.i;
  j = t.k;
  k = t.j;
  i_least = t.i_least;
  j_least = t.k_least;
  k_least = t.j_least;
  some = (let s = t.some in omega (arith, ints, s));
  is = record {
    x = moved z.x (t.i *ℤ p.n) (t.j *ℤ q.n) (t.k *ℤ r.n) (t.i *ℤ p.x) (t.j *ℤ q.x)
        (t.k *ℤ r.x) t.is.x;
    y = moved z.y (t.i *ℤ p.n) (t.j *ℤ q.n) (t.k *ℤ r.n) (t.i *ℤ p.y) (t.j *ℤ q.y)
        (t.k *ℤ r.y) t.is.y;
  };
}
  where
    moved : (x a b c d e f : ℤ) → x *ℤ ((a +ℤ b) +ℤ c) ≡ ((d +ℤ e) +ℤ f) *ℤ z.n
        → x *ℤ ((a +ℤ c) +ℤ b) ≡ ((d +ℤ f) +ℤ e) *ℤ z.n
    moved x a b c d e f h =
        let k : (a +ℤ c) +ℤ b ≡ (a +ℤ b) +ℤ c = omega (arith, ints) in
        let l : (d +ℤ f) +ℤ e ≡ (d +ℤ e) +ℤ f = omega (arith, ints) in
        ap (λ (v : ℤ). x *ℤ v) k ∙ h ∙ ap (λ (v : ℤ). v *ℤ z.n) (sym l)
