-- A bend lies beside its straight, and so do the parts that it makes.
use Rattle.std.proofs.Common.{◌≡◌, Bool, true, false, ℤ, pos, negsuc, ◌+ℤ◌, ◌*ℤ◌, ◌-ℤ◌, ◌<ℤ◌, ◌≤ℤ◌}
use Rattle.std.proofs.Common.{[], ◌∷◌, refl, arith, ap, sym, ◌∙◌}
use Rattle.std.proofs.lemmas.Int.{ints}
use Rattle.plane.specs.declared.kinds.Point.{Point}
use Rattle.plane.specs.Forms.Vectors.{Vector, Place, Same, point, mix}
use Rattle.plane.specs.Rule.Straights.{IsOnStraight, turn, dot}
use Rattle.plane.specs.Rule.Turns.{cross}
use Rattle.plane.specs.Forms.Bends.{IsBend, IsBeside, IsClose, square, aside_x, aside_y, ahead, off}
use Rattle.plane.proofs.Algebra.Laws.{product_positive, product_nonnegative, square_nonnegative}
use Rattle.plane.proofs.Algebra.Laws.{product_comm, positive_factor}
use Rattle.plane.proofs.Algebra.Scaling.{times_le, cancel_le, cancel_lt}
use Rattle.plane.proofs.ListLemmas.Points.{point_eq}
use Rattle.plane.proofs.Linear.Signs.{by_sign}
use Rattle.plane.proofs.Linear.Straights.{straight_between}
use Rattle.plane.proofs.Algebra.Ring.{Expr, at, num, plus, minus, times, vars, ring}
use Rattle.plane.proofs.BendLemmas.BendSizes.{square_most, square_least, turned_most, dotted_most}
use Rattle.plane.proofs.BendLemmas.BendSizes.{v_positive, twice_most, twice_least, bound}

-- the side to which a bend is turned
abbrev sign : Bool → ℤ
sign true = pos 1
sign false = negsuc 0

-- what rounding leaves of each coordinate
abbrev left_x : Bool → ℤ → ℤ → Point → Point → Point → ℤ
left_x left d h p q b =
    (((pos 8 *ℤ d) *ℤ (q.x -ℤ p.x)) +ℤ ((d -ℤ pos 2) *ℤ aside_x left p q)) -ℤ (h *ℤ (b.x -ℤ p.x))

abbrev left_y : Bool → ℤ → ℤ → Point → Point → Point → ℤ
left_y left d h p q b =
    (((pos 8 *ℤ d) *ℤ (q.y -ℤ p.y)) +ℤ ((d -ℤ pos 2) *ℤ aside_y left p q)) -ℤ (h *ℤ (b.y -ℤ p.y))

-- the two roundings as expressions: of d, the way, h and the bend's way
abbrev RX_LEFT : Expr
RX_LEFT = minus
    (plus (times (times (num (pos 8)) (at 0)) (at 1))
    (times (minus (at 0) (num (pos 2))) (minus (num (pos 0)) (at 2)))) (times (at 3) (at 4))

abbrev RY_LEFT : Expr
RY_LEFT = minus
    (plus (times (times (num (pos 8)) (at 0)) (at 2)) (times (minus (at 0) (num (pos 2))) (at 1)))
    (times (at 3) (at 5))

abbrev RX_RIGHT : Expr
RX_RIGHT = minus
    (plus (times (times (num (pos 8)) (at 0)) (at 1)) (times (minus (at 0) (num (pos 2))) (at 2)))
    (times (at 3) (at 4))

abbrev RY_RIGHT : Expr
RY_RIGHT = minus
    (plus (times (times (num (pos 8)) (at 0)) (at 2))
    (times (minus (at 0) (num (pos 2))) (minus (num (pos 0)) (at 1)))) (times (at 3) (at 5))

is_turned : (left : Bool) (d h : ℤ) (p q b : Point)
    → h *ℤ cross p q b ≡ ((d -ℤ pos 2) *ℤ (sign left *ℤ square p q))
    +ℤ (negsuc 0
    *ℤ (((q.x -ℤ p.x) *ℤ left_y left d h p q b) -ℤ ((q.y -ℤ p.y) *ℤ left_x left d h p q b)))
is_turned true d h p q b =
    let X = at 1 in let Y = at 2 in
    ring (times (at 3) (minus (times X (at 5)) (times Y (at 4))))
    (plus (times (minus (at 0) (num (pos 2)))
    (times (num (pos 1)) (plus (times X X) (times Y Y))))
    (times (num (negsuc 0)) (minus (times X RY_LEFT) (times Y RX_LEFT))))
    (vars (d ∷ (q.x -ℤ p.x) ∷ (q.y -ℤ p.y) ∷ h ∷ (b.x -ℤ p.x) ∷ (b.y -ℤ p.y) ∷ [])) refl
is_turned false d h p q b =
    let X = at 1 in let Y = at 2 in
    ring (times (at 3) (minus (times X (at 5)) (times Y (at 4))))
    (plus (times (minus (at 0) (num (pos 2)))
    (times (num (negsuc 0)) (plus (times X X) (times Y Y))))
    (times (num (negsuc 0)) (minus (times X RY_RIGHT) (times Y RX_RIGHT))))
    (vars (d ∷ (q.x -ℤ p.x) ∷ (q.y -ℤ p.y) ∷ h ∷ (b.x -ℤ p.x) ∷ (b.y -ℤ p.y) ∷ [])) refl

is_along : (left : Bool) (d h : ℤ) (p q b : Point)
    → h *ℤ (((q.x -ℤ p.x) *ℤ (b.x -ℤ p.x)) +ℤ ((q.y -ℤ p.y) *ℤ (b.y -ℤ p.y)))
    ≡ ((pos 8 *ℤ d) *ℤ square p q)
    -ℤ (((q.x -ℤ p.x) *ℤ left_x left d h p q b) +ℤ ((q.y -ℤ p.y) *ℤ left_y left d h p q b))
is_along true d h p q b =
    let X = at 1 in let Y = at 2 in
    ring (times (at 3) (plus (times X (at 4)) (times Y (at 5))))
    (minus (times (times (num (pos 8)) (at 0)) (plus (times X X) (times Y Y)))
    (plus (times X RX_LEFT) (times Y RY_LEFT)))
    (vars (d ∷ (q.x -ℤ p.x) ∷ (q.y -ℤ p.y) ∷ h ∷ (b.x -ℤ p.x) ∷ (b.y -ℤ p.y) ∷ [])) refl
is_along false d h p q b =
    let X = at 1 in let Y = at 2 in
    ring (times (at 3) (plus (times X (at 4)) (times Y (at 5))))
    (minus (times (times (num (pos 8)) (at 0)) (plus (times X X) (times Y Y)))
    (plus (times X RX_RIGHT) (times Y RY_RIGHT)))
    (vars (d ∷ (q.x -ℤ p.x) ∷ (q.y -ℤ p.y) ∷ h ∷ (b.x -ℤ p.x) ∷ (b.y -ℤ p.y) ∷ [])) refl

-- ---- one bend
module _ (d : ℤ) (left : Bool) (p q b : Point) (is : IsBend d left p q b) where
  abbrev x : ℤ
  x = q.x -ℤ p.x

  abbrev y : ℤ
  y = q.y -ℤ p.y

  abbrev h : ℤ
  h = is.root

  abbrev rx : ℤ
  rx = left_x left d h p q b

  abbrev ry : ℤ
  ry = left_y left d h p q b

  rx_least : pos 0 ≤ℤ rx
  rx_least = let k = is.x.most in omega (arith, ints, k)

  rx_most : rx <ℤ h
  rx_most = let k = is.x.least in omega (arith, ints, k)

  ry_least : pos 0 ≤ℤ ry
  ry_least = let k = is.y.most in omega (arith, ints, k)

  ry_most : ry <ℤ h
  ry_most = let k = is.y.least in omega (arith, ints, k)

  abbrev r : ℤ
  r = (x *ℤ ry) -ℤ (y *ℤ rx)

  abbrev s : ℤ
  s = (x *ℤ rx) +ℤ (y *ℤ ry)

  long : pos 16 ≤ℤ h
  long = let a = is.long in let w = is.wide in omega (arith, ints, a, w)

  r_small : (r *ℤ r) ≤ℤ (pos 2 *ℤ (square p q *ℤ (h *ℤ h)))
  r_small = turned_most x y rx ry h rx_least rx_most ry_least ry_most

  s_small : (s *ℤ s) ≤ℤ (pos 2 *ℤ (square p q *ℤ (h *ℤ h)))
  s_small = dotted_most x y rx ry h rx_least rx_most ry_least ry_most

  pub square_is_positive : pos 0 <ℤ square p q
  square_is_positive = v_positive (square p q) h is.root_most is.root_least long

  -- ---- how far it lies off
  pub near : (cross p q b *ℤ cross p q b) ≤ℤ ((d *ℤ d) *ℤ square p q)
  near =
      let w = is.wide in
      let l = is.long in
      bound (square p q) h is.root_most is.root_least long r r_small d (cross p q b) (sign left)
      (negsuc 0) (omega (arith, ints, w)) (omega (arith, ints, l, w)) (is_turned left d h p q b)
      (one left) refl (small left)
    where
      small : (k : Bool) → (pos 2 *ℤ ((sign k *ℤ negsuc 0) *ℤ r)) ≤ℤ (pos 3 *ℤ (h *ℤ h))
      small true =
          let m = twice_least (square p q) h is.root_most is.root_least long r r_small in
          omega (arith, ints, m)
      small false =
          let m = twice_most (square p q) h is.root_most is.root_least long r r_small in
          omega (arith, ints, m)

      one : (k : Bool) → sign k *ℤ sign k ≡ pos 1
      one true = refl
      one false = refl

  -- ---- how far it lies along
  abbrev along : ℤ
  along = (x *ℤ (b.x -ℤ p.x)) +ℤ (y *ℤ (b.y -ℤ p.y))

  -- what rounding moves along is at most twice the square of the length
  s_squared : (s *ℤ s) ≤ℤ ((pos 2 *ℤ square p q) *ℤ (pos 2 *ℤ square p q))
  s_squared =
      let v = square_is_positive in
      let a = times_le (square p q) (h *ℤ h) (square p q) (omega (arith, ints, v)) is.root_most in
      let n = square_nonnegative (square p q) in
      let e : (pos 2 *ℤ square p q) *ℤ (pos 2 *ℤ square p q)
      ≡ pos 4 *ℤ (square p q *ℤ square p q) =
      ring (times (times (num (pos 2)) (at 0)) (times (num (pos 2)) (at 0)))
      (times (num (pos 4)) (times (at 0) (at 0))) (vars (square p q ∷ [])) refl in
      let z = s_small in
      omega (arith, ints, z, a, e, n)

  abbrev eight : ℤ
  eight = (pos 8 *ℤ d) *ℤ square p q

  eight_least : (pos 64 *ℤ square p q) ≤ℤ eight
  eight_least =
      let v = square_is_positive in
      let w = is.wide in
      let a = times_le (square p q) (pos 64) (pos 8 *ℤ d) (omega (arith, ints, v))
      (omega (arith, ints, w)) in
      let b1 = product_comm (square p q) (pos 64) in
      let b2 = product_comm (square p q) (pos 8 *ℤ d) in
      omega (arith, ints, a, b1, b2)

  -- and four times 8 d v is at most h v
  eight_most : (pos 4 *ℤ eight) ≤ℤ (h *ℤ square p q)
  eight_most =
      let v = square_is_positive in
      let l = is.long in
      let a = times_le (square p q) (pos 32 *ℤ d) h (omega (arith, ints, v)) l in
      let b1 = product_comm (square p q) h in
      let e : square p q *ℤ (pos 32 *ℤ d)
      ≡ pos 4 *ℤ eight =
      ring (times (at 0) (times (num (pos 32)) (at 1)))
      (times (num (pos 4)) (times (times (num (pos 8)) (at 1)) (at 0)))
      (vars (square p q ∷ d ∷ [])) refl in
      omega (arith, ints, a, b1, e)

  along_least : pos 0 <ℤ along
  along_least =
      let v = square_is_positive in
      let m = square_most s (pos 2 *ℤ square p q) (omega (arith, ints, v)) s_squared in
      let e = is_along left d h p q b in
      let f = eight_least in
      let l = long in
      positive_factor h along (omega (arith, ints, l)) (omega (arith, ints, v, m, e, f))

  along_most : (pos 2 *ℤ along) <ℤ square p q
  along_most =
      let v = square_is_positive in
      let m = square_least s (pos 2 *ℤ square p q) (omega (arith, ints, v)) s_squared in
      let e = is_along left d h p q b in
      let f = eight_least in
      let g = eight_most in
      let l = long in
      let t : h *ℤ (pos 2 *ℤ along) ≡ pos 2
      *ℤ (h *ℤ along) =
      ring (times (at 0) (times (num (pos 2)) (at 1)))
      (times (num (pos 2)) (times (at 0) (at 1))) (vars (h ∷ along ∷ [])) refl in
      cancel_lt h (pos 2 *ℤ along) (square p q) (omega (arith, ints, l))
      (omega (arith, ints, v, m, e, f, g, t))

  -- ---- in the words of places
  ahead-point : ahead p q (point b) ≡ along
  ahead-point =
      let X = at 0 in
      let Y = at 1 in let U : Expr → Expr → Expr = λ u v. minus u (times v (num (pos 1))) in
      ring (plus (times X (U (at 2) (at 4))) (times Y (U (at 3) (at 5))))
      (plus (times X (minus (at 2) (at 4))) (times Y (minus (at 3) (at 5))))
      (vars (x ∷ y ∷ b.x ∷ b.y ∷ p.x ∷ p.y ∷ [])) refl

  off-point : off p q (point b) ≡ cross p q b
  off-point =
      let X = at 0 in
      let Y = at 1 in let U : Expr → Expr → Expr = λ u v. minus u (times v (num (pos 1))) in
      ring (minus (times X (U (at 3) (at 5))) (times Y (U (at 2) (at 4))))
      (minus (times X (minus (at 3) (at 5))) (times Y (minus (at 2) (at 4))))
      (vars (x ∷ y ∷ b.x ∷ b.y ∷ p.x ∷ p.y ∷ [])) refl

  pub begun : pos 0 <ℤ ahead p q (point b)
  begun = let e = ahead-point in let l = along_least in omega (arith, ints, e, l)

  pub half : (pos 2 *ℤ ahead p q (point b)) <ℤ square p q
  half = let e = ahead-point in let l = along_most in omega (arith, ints, e, l)

  pub beside_bend : IsBeside d p q (point b)
  beside_bend =
      let a = begun in
      let c = half in
      let n = near in
      let e : off p q (point b) *ℤ off p q (point b)
      ≡ cross p q b *ℤ cross p q b = ap (λ z. z *ℤ z) off-point in
      record {
        begun = omega (arith, ints, a);
        ended = omega (arith, ints, a, c);
        near = omega (arith, ints, n, e);
      }

-- ---- the other way round
square-back : (p q : Point) → square q p ≡ square p q
square-back p q =
    let S : Expr → Expr → Expr → Expr
    → Expr = λ a b c e. plus (times (minus c a) (minus c a)) (times (minus e b) (minus e b)) in
    ring (S (at 2) (at 3) (at 0) (at 1)) (S (at 0) (at 1) (at 2) (at 3))
    (vars (p.x ∷ p.y ∷ q.x ∷ q.y ∷ [])) refl

ahead-back : (p q : Point) (z : Vector) → ahead p q z ≡ (square p q *ℤ z.n) -ℤ ahead q p z
ahead-back p q z =
    let PX = at 0 in
    let PY = at 1 in
    let QX = at 2 in let QY = at 3 in let X = at 4 in let Y = at 5 in let N = at 6 in
    let A : Expr → Expr → Expr → Expr
    → Expr = λ a b c e. plus (times (minus c a) (minus X (times a N)))
    (times (minus e b) (minus Y (times b N))) in
    let S = plus (times (minus QX PX) (minus QX PX)) (times (minus QY PY) (minus QY PY)) in
    ring (A PX PY QX QY) (minus (times S N) (A QX QY PX PY))
    (vars (p.x ∷ p.y ∷ q.x ∷ q.y ∷ z.x ∷ z.y ∷ z.n ∷ [])) refl

off-back : (p q : Point) (z : Vector) → off p q z *ℤ off p q z ≡ off q p z *ℤ off q p z
off-back p q z =
    let PX = at 0 in
    let PY = at 1 in
    let QX = at 2 in let QY = at 3 in let X = at 4 in let Y = at 5 in let N = at 6 in
    let O : Expr → Expr → Expr → Expr
    → Expr = λ a b c e. minus (times (minus c a) (minus Y (times b N)))
    (times (minus e b) (minus X (times a N))) in
    ring (times (O PX PY QX QY) (O PX PY QX QY)) (times (O QX QY PX PY) (O QX QY PX PY))
    (vars (p.x ∷ p.y ∷ q.x ∷ q.y ∷ z.x ∷ z.y ∷ z.n ∷ [])) refl

pub beside_back : (d : ℤ) (p q : Point) (z : Vector) → IsBeside d q p z → IsBeside d p q z
beside_back d p q z is =
    let e = square-back p q in
    let a = ahead-back p q z in
    let o = off-back p q z in
    let b = is.begun in
    let c = is.ended in
    let n = is.near in
    let f : square q p *ℤ z.n ≡ square p q *ℤ z.n = ap (λ v. v *ℤ z.n) e in
    let g : ((d *ℤ d) *ℤ square q p) *ℤ (z.n *ℤ z.n)
    ≡ ((d *ℤ d) *ℤ square p q) *ℤ (z.n *ℤ z.n) = ap (λ v. ((d *ℤ d) *ℤ v) *ℤ (z.n *ℤ z.n)) e in
    record {
      begun = omega (arith, ints, a, c, f);
      ended = omega (arith, ints, a, b);
      near = omega (arith, ints, o, n, g);
    }

pub parted : (d : ℤ) (left right : Bool) (p q b c : Point) → IsBend d left p q b
    → IsBend d right q p c → ahead p q (point b) <ℤ ahead p q (point c)
parted d left right p q b c ib ic =
    let h = half d left p q b ib in
    let k = half d right q p c ic in
    let e = square-back p q in
    let a = ahead-back p q (point c) in
    let m : square p q *ℤ pos 1 ≡ square p q = omega (arith, ints) in
    omega (arith, ints, h, k, e, a, m)

-- ---- the ends
module _ (d : ℤ) (p q : Point) (least : pos 0 ≤ℤ d) where
  pub square_least_zero : pos 0 ≤ℤ square p q
  square_least_zero =
      let a = square_nonnegative (q.x -ℤ p.x) in
      let b = square_nonnegative (q.y -ℤ p.y) in omega (arith, ints, a, b)

  pub reach_least : pos 0 ≤ℤ ((d *ℤ d) *ℤ square p q)
  reach_least = product_nonnegative (d *ℤ d) (square p q) (square_nonnegative d) square_least_zero

  pub beside_first : IsBeside d p q (point p)
  beside_first =
      let s = square_least_zero in
      let r = reach_least in
      let vs = vars (p.x ∷ p.y ∷ q.x ∷ q.y ∷ []) in
      let PX = at 0 in let PY = at 1 in let QX = at 2 in let QY = at 3 in
      let U : Expr → Expr = λ u. minus u (times u (num (pos 1))) in
      let a : ahead p q (point p) ≡ pos 0 = ring
      (plus (times (minus QX PX) (U PX)) (times (minus QY PY) (U PY))) (num (pos 0)) vs refl in
      let o : off p q (point p) ≡ pos 0 = ring
      (minus (times (minus QX PX) (U PY)) (times (minus QY PY) (U PX))) (num (pos 0)) vs refl in
      let f : off p q (point p) *ℤ off p q (point p) ≡ pos 0 = ap (λ v. v *ℤ v) o in
      record {
        begun = omega (arith, ints, a);
        ended = omega (arith, ints, a, s);
        near = omega (arith, ints, f, r);
      }

pub beside_last : (d : ℤ) (p q : Point) → pos 0 ≤ℤ d → IsBeside d p q (point q)
beside_last d p q least = beside_back d p q (point q) (beside_first d q p least)

-- ---- all between
module _ (d : ℤ) (p q : Point) (least : pos 0 ≤ℤ d) where
  abbrev x2 : ℤ
  x2 = q.x -ℤ p.x

  abbrev y2 : ℤ
  y2 = q.y -ℤ p.y

  abbrev K : ℤ
  K = (d *ℤ d) *ℤ square p q

  ahead-mix : (s : ℤ) (a : Vector) (t : ℤ) (b : Vector)
      → ahead p q (mix s a t b) ≡ (s *ℤ ahead p q a) +ℤ (t *ℤ ahead p q b)
  ahead-mix s a t b =
      let F : Expr → Expr → Expr
      → Expr = λ u v n. plus (times (at 2) (minus u (times (at 4) n)))
      (times (at 3) (minus v (times (at 5) n))) in
      let M : Expr → Expr → Expr = λ u v. plus (times (at 0) u) (times (at 1) v) in
      ring (F (M (at 6) (at 9)) (M (at 7) (at 10)) (M (at 8) (at 11)))
      (M (F (at 6) (at 7) (at 8)) (F (at 9) (at 10) (at 11)))
      (vars (s ∷ t ∷ x2 ∷ y2 ∷ p.x ∷ p.y ∷ a.x ∷ a.y ∷ a.n ∷ b.x ∷ b.y ∷ b.n ∷ [])) refl

  off-mix : (s : ℤ) (a : Vector) (t : ℤ) (b : Vector)
      → off p q (mix s a t b) ≡ (s *ℤ off p q a) +ℤ (t *ℤ off p q b)
  off-mix s a t b =
      let F : Expr → Expr → Expr
      → Expr = λ u v n. minus (times (at 2) (minus v (times (at 5) n)))
      (times (at 3) (minus u (times (at 4) n))) in
      let M : Expr → Expr → Expr = λ u v. plus (times (at 0) u) (times (at 1) v) in
      ring (F (M (at 6) (at 9)) (M (at 7) (at 10)) (M (at 8) (at 11)))
      (M (F (at 6) (at 7) (at 8)) (F (at 9) (at 10) (at 11)))
      (vars (s ∷ t ∷ x2 ∷ y2 ∷ p.x ∷ p.y ∷ a.x ∷ a.y ∷ a.n ∷ b.x ∷ b.y ∷ b.n ∷ [])) refl

  -- two heights that are each at most c times a width: so is their product
  both_most : (c o1 n1 o2 n2 : ℤ) → pos 0 ≤ℤ c → pos 0 ≤ℤ n1 → pos 0 ≤ℤ n2
      → (o1 *ℤ o1) ≤ℤ (c *ℤ (n1 *ℤ n1)) → (o2 *ℤ o2) ≤ℤ (c *ℤ (n2 *ℤ n2))
      → (o1 *ℤ o2) ≤ℤ (c *ℤ (n1 *ℤ n2))
  both_most c o1 n1 o2 n2 hc h1 h2 k1 k2 =
      let nn = product_nonnegative n1 n2 h1 h2 in
      let low = product_nonnegative c (n1 *ℤ n2) hc nn in
      let q2 = square_nonnegative o2 in
      let m1 = product_nonnegative c (n1 *ℤ n1) hc (square_nonnegative n1) in
      let a = times_le (o2 *ℤ o2) (o1 *ℤ o1) (c *ℤ (n1 *ℤ n1)) q2 k1 in
      let b = times_le (c *ℤ (n1 *ℤ n1)) (o2 *ℤ o2) (c *ℤ (n2 *ℤ n2)) m1 k2 in
      let e1 : (o2 *ℤ o2) *ℤ (o1 *ℤ o1)
      ≡ (o1 *ℤ o2) *ℤ (o1 *ℤ o2) =
      ring (times (times (at 1) (at 1)) (times (at 0) (at 0)))
      (times (times (at 0) (at 1)) (times (at 0) (at 1))) (vars (o1 ∷ o2 ∷ [])) refl in
      let e2 = product_comm (o2 *ℤ o2) (c *ℤ (n1 *ℤ n1)) in
      let e3 : (c *ℤ (n1 *ℤ n1)) *ℤ (c *ℤ (n2 *ℤ n2))
      ≡ (c *ℤ (n1 *ℤ n2)) *ℤ (c *ℤ (n1 *ℤ n2)) =
      ring (times (times (at 0) (times (at 1) (at 1))) (times (at 0) (times (at 2) (at 2))))
      (times (times (at 0) (times (at 1) (at 2))) (times (at 0) (times (at 1) (at 2))))
      (vars (c ∷ n1 ∷ n2 ∷ [])) refl in
      square_most (o1 *ℤ o2) (c *ℤ (n1 *ℤ n2)) low (omega (arith, ints, a, b, e1, e2, e3))

  mix_most : (c s o1 n1 t o2 n2 : ℤ) → pos 0 ≤ℤ c → pos 0 ≤ℤ s → pos 0 ≤ℤ t → pos 0 ≤ℤ n1
      → pos 0 ≤ℤ n2 → (o1 *ℤ o1) ≤ℤ (c *ℤ (n1 *ℤ n1)) → (o2 *ℤ o2) ≤ℤ (c *ℤ (n2 *ℤ n2))
      → (((s *ℤ o1) +ℤ (t *ℤ o2)) *ℤ ((s *ℤ o1) +ℤ (t *ℤ o2))) ≤ℤ
      (c *ℤ (((s *ℤ n1) +ℤ (t *ℤ n2)) *ℤ ((s *ℤ n1) +ℤ (t *ℤ n2))))
  mix_most c s o1 n1 t o2 n2 hc hs ht h1 h2 k1 k2 =
      let m = both_most c o1 n1 o2 n2 hc h1 h2 k1 k2 in
      let a = times_le (s *ℤ s) (o1 *ℤ o1) (c *ℤ (n1 *ℤ n1)) (square_nonnegative s) k1 in
      let b = times_le (t *ℤ t) (o2 *ℤ o2) (c *ℤ (n2 *ℤ n2)) (square_nonnegative t) k2 in
      let g = times_le (s *ℤ t) (o1 *ℤ o2) (c *ℤ (n1 *ℤ n2)) (product_nonnegative s t hs ht) m in
      let S = at 0 in let T = at 1 in let U = at 2 in let V = at 3 in let two = num (pos 2) in
      let e1 : ((s *ℤ o1) +ℤ (t *ℤ o2)) *ℤ ((s *ℤ o1) +ℤ (t *ℤ o2))
      ≡ ((s *ℤ s) *ℤ (o1 *ℤ o1))
      +ℤ ((pos 2 *ℤ ((s *ℤ t) *ℤ (o1 *ℤ o2))) +ℤ ((t *ℤ t) *ℤ (o2 *ℤ o2))) =
      ring (times (plus (times S U) (times T V)) (plus (times S U) (times T V)))
      (plus (times (times S S) (times U U))
      (plus (times two (times (times S T) (times U V))) (times (times T T) (times V V))))
      (vars (s ∷ t ∷ o1 ∷ o2 ∷ [])) refl in
      let C = at 4 in
      let e2 : c *ℤ (((s *ℤ n1) +ℤ (t *ℤ n2)) *ℤ ((s *ℤ n1) +ℤ (t *ℤ n2)))
      ≡ ((s *ℤ s) *ℤ (c *ℤ (n1 *ℤ n1)))
      +ℤ ((pos 2 *ℤ ((s *ℤ t) *ℤ (c *ℤ (n1 *ℤ n2)))) +ℤ ((t *ℤ t) *ℤ (c *ℤ (n2 *ℤ n2)))) =
      ring (times C (times (plus (times S U) (times T V)) (plus (times S U) (times T V))))
      (plus (times (times S S) (times C (times U U)))
      (plus (times two (times (times S T) (times C (times U V))))
      (times (times T T) (times C (times V V))))) (vars (s ∷ t ∷ n1 ∷ n2 ∷ c ∷ [])) refl in
      omega (arith, ints, a, b, g, e1, e2)

  beside_mix : (s : ℤ) (a : Vector) (t : ℤ) (b : Vector) → pos 0 ≤ℤ s → pos 0 ≤ℤ t → Place a
      → Place b → IsBeside d p q a → IsBeside d p q b → IsBeside d p q (mix s a t b)
  beside_mix s a t b hs ht A B ia ib =
      let e = ahead-mix s a t b in
      let f = off-mix s a t b in
      let l1 = product_nonnegative s (ahead p q a) hs ia.begun in
      let l2 = product_nonnegative t (ahead p q b) ht ib.begun in
      let u1 = times_le s (ahead p q a) (square p q *ℤ a.n) hs ia.ended in
      let u2 = times_le t (ahead p q b) (square p q *ℤ b.n) ht ib.ended in
      let g : square p q *ℤ ((s *ℤ a.n) +ℤ (t *ℤ b.n))
      ≡ (s *ℤ (square p q *ℤ a.n)) +ℤ (t *ℤ (square p q *ℤ b.n)) =
      ring (times (at 4) (plus (times (at 0) (at 2)) (times (at 1) (at 3))))
      (plus (times (at 0) (times (at 4) (at 2))) (times (at 1) (times (at 4) (at 3))))
      (vars (s ∷ t ∷ a.n ∷ b.n ∷ square p q ∷ [])) refl in
      let m = mix_most K s (off p q a) a.n t (off p q b) b.n (reach_least d p q least) hs ht
      (omega (arith, ints, A)) (omega (arith, ints, B)) ia.near ib.near in
      let o : off p q (mix s a t b) *ℤ off p q (mix s a t b)
      ≡ ((s *ℤ off p q a) +ℤ (t *ℤ off p q b)) *ℤ ((s *ℤ off p q a) +ℤ (t *ℤ off p q b)) =
      ap (λ v. v *ℤ v) f in
      record {
        begun = omega (arith, ints, e, l1, l2);
        ended = omega (arith, ints, e, u1, u2, g);
        near = omega (arith, ints, o, m);
      }

  ahead-same : (z m : Vector) → Same z m → m.n *ℤ ahead p q z ≡ z.n *ℤ ahead p q m
  ahead-same z m same =
      let X = at 0 in
      let Y = at 1 in
      let PX = at 2 in
      let PY = at 3 in let ZX = at 4 in let ZY = at 5 in let N = at 6 in let M = at 7 in
      let a : m.n *ℤ ahead p q z ≡ (x2 *ℤ ((z.x *ℤ m.n) -ℤ (p.x *ℤ (z.n *ℤ m.n))))
      +ℤ (y2 *ℤ ((z.y *ℤ m.n) -ℤ (p.y *ℤ (z.n *ℤ m.n)))) =
      ring (times M (plus (times X (minus ZX (times PX N))) (times Y (minus ZY (times PY N)))))
      (plus (times X (minus (times ZX M) (times PX (times N M))))
      (times Y (minus (times ZY M) (times PY (times N M)))))
      (vars (x2 ∷ y2 ∷ p.x ∷ p.y ∷ z.x ∷ z.y ∷ z.n ∷ m.n ∷ [])) refl in
      let b : z.n *ℤ ahead p q m ≡ (x2 *ℤ ((m.x *ℤ z.n) -ℤ (p.x *ℤ (z.n *ℤ m.n))))
      +ℤ (y2 *ℤ ((m.y *ℤ z.n) -ℤ (p.y *ℤ (z.n *ℤ m.n)))) =
      ring (times N (plus (times X (minus ZX (times PX M))) (times Y (minus ZY (times PY M)))))
      (plus (times X (minus (times ZX N) (times PX (times N M))))
      (times Y (minus (times ZY N) (times PY (times N M)))))
      (vars (x2 ∷ y2 ∷ p.x ∷ p.y ∷ m.x ∷ m.y ∷ z.n ∷ m.n ∷ [])) refl in
      let c1 = ap (λ v. (x2 *ℤ (v -ℤ (p.x *ℤ (z.n *ℤ m.n))))
      +ℤ (y2 *ℤ ((z.y *ℤ m.n) -ℤ (p.y *ℤ (z.n *ℤ m.n))))) same.x in
      let c2 = ap (λ v. (x2 *ℤ ((m.x *ℤ z.n) -ℤ (p.x *ℤ (z.n *ℤ m.n))))
      +ℤ (y2 *ℤ (v -ℤ (p.y *ℤ (z.n *ℤ m.n))))) same.y in
      a ∙ c1 ∙ c2 ∙ sym b

  off-same : (z m : Vector) → Same z m → m.n *ℤ off p q z ≡ z.n *ℤ off p q m
  off-same z m same =
      let X = at 0 in
      let Y = at 1 in
      let PX = at 2 in
      let PY = at 3 in let ZX = at 4 in let ZY = at 5 in let N = at 6 in let M = at 7 in
      let a : m.n *ℤ off p q z ≡ (x2 *ℤ ((z.y *ℤ m.n) -ℤ (p.y *ℤ (z.n *ℤ m.n))))
      -ℤ (y2 *ℤ ((z.x *ℤ m.n) -ℤ (p.x *ℤ (z.n *ℤ m.n)))) =
      ring (times M (minus (times X (minus ZY (times PY N))) (times Y (minus ZX (times PX N)))))
      (minus (times X (minus (times ZY M) (times PY (times N M))))
      (times Y (minus (times ZX M) (times PX (times N M)))))
      (vars (x2 ∷ y2 ∷ p.x ∷ p.y ∷ z.x ∷ z.y ∷ z.n ∷ m.n ∷ [])) refl in
      let b : z.n *ℤ off p q m ≡ (x2 *ℤ ((m.y *ℤ z.n) -ℤ (p.y *ℤ (z.n *ℤ m.n))))
      -ℤ (y2 *ℤ ((m.x *ℤ z.n) -ℤ (p.x *ℤ (z.n *ℤ m.n)))) =
      ring (times N (minus (times X (minus ZY (times PY M))) (times Y (minus ZX (times PX M)))))
      (minus (times X (minus (times ZY N) (times PY (times N M))))
      (times Y (minus (times ZX N) (times PX (times N M)))))
      (vars (x2 ∷ y2 ∷ p.x ∷ p.y ∷ m.x ∷ m.y ∷ z.n ∷ m.n ∷ [])) refl in
      let c1 = ap (λ v. (x2 *ℤ (v -ℤ (p.y *ℤ (z.n *ℤ m.n))))
      -ℤ (y2 *ℤ ((z.x *ℤ m.n) -ℤ (p.x *ℤ (z.n *ℤ m.n))))) same.y in
      let c2 = ap (λ v. (x2 *ℤ ((m.y *ℤ z.n) -ℤ (p.y *ℤ (z.n *ℤ m.n))))
      -ℤ (y2 *ℤ (v -ℤ (p.x *ℤ (z.n *ℤ m.n))))) same.x in
      a ∙ c1 ∙ c2 ∙ sym b

  beside_same : (z m : Vector) → Place z → Place m → Same z m → IsBeside d p q m → IsBeside d p q z
  beside_same z m Z M same is =
      let e = ahead-same z m same in
      let f = off-same z m same in
      let l = product_nonnegative z.n (ahead p q m) (omega (arith, ints, Z)) is.begun in
      let u = times_le z.n (ahead p q m) (square p q *ℤ m.n) (omega (arith, ints, Z)) is.ended in
      let g : m.n *ℤ (square p q *ℤ z.n)
      ≡ z.n *ℤ (square p q *ℤ m.n) =
      ring (times (at 1) (times (at 2) (at 0))) (times (at 0) (times (at 2) (at 1)))
      (vars (z.n ∷ m.n ∷ square p q ∷ [])) refl in
      let zero : m.n *ℤ pos 0 ≡ pos 0 = omega (arith, ints) in
      let nn = product_positive z.n z.n Z Z in
      let mm = product_positive m.n m.n M M in
      let w = times_le (z.n *ℤ z.n) (off p q m *ℤ off p q m) (K *ℤ (m.n *ℤ m.n))
      (omega (arith, ints, nn)) is.near in
      let sq : (m.n *ℤ off p q z) *ℤ (m.n *ℤ off p q z)
      ≡ (z.n *ℤ off p q m) *ℤ (z.n *ℤ off p q m) = ap (λ v. v *ℤ v) f in
      let Q : (n o : ℤ) → (n *ℤ o) *ℤ (n *ℤ o)
      ≡ (n *ℤ n) *ℤ (o *ℤ o) =
      λ n o. ring (times (times (at 0) (at 1)) (times (at 0) (at 1)))
      (times (times (at 0) (at 0)) (times (at 1) (at 1))) (vars (n ∷ o ∷ [])) refl in
      let q1 = Q m.n (off p q z) in
      let q2 = Q z.n (off p q m) in
      let k : (z.n *ℤ z.n) *ℤ (K *ℤ (m.n *ℤ m.n))
      ≡ (m.n *ℤ m.n) *ℤ (K *ℤ (z.n *ℤ z.n)) =
      ring (times (times (at 0) (at 0)) (times (at 2) (times (at 1) (at 1))))
      (times (times (at 1) (at 1)) (times (at 2) (times (at 0) (at 0))))
      (vars (z.n ∷ m.n ∷ K ∷ [])) refl in
      record {
        begun = cancel_le m.n (pos 0) (ahead p q z) M (omega (arith, ints, e, l, zero));
        ended = cancel_le m.n (ahead p q z) (square p q *ℤ z.n) M (omega (arith, ints, e, u, g));
        near = cancel_le (m.n *ℤ m.n) (off p q z *ℤ off p q z) (K *ℤ (z.n *ℤ z.n)) mm
            (omega (arith, ints, w, sq, q1, q2, k));
      }

  pub beside_between : (a b z : Vector) → Place a → Place b → Place z → IsBeside d p q a
      → IsBeside d p q b → IsOnStraight a b z → IsBeside d p q z
  beside_between a b z A B Z ia ib on =
      let w = straight_between a b z A B Z on in
      let M = weighed w.s w.t w.s_least w.t_least w.some in
      beside_same z (mix w.s a w.t b) Z M w.is
      (beside_mix w.s a w.t b w.s_least w.t_least A B ia ib)
    where
      weighed : (s t : ℤ) → pos 0 ≤ℤ s → pos 0 ≤ℤ t → pos 0 <ℤ (s +ℤ t) → Place (mix s a t b)
      weighed s t hs ht some =
          let u = product_nonnegative s (a.n -ℤ pos 1) hs (omega (arith, ints, A)) in
          let v = product_nonnegative t (b.n -ℤ pos 1) ht (omega (arith, ints, B)) in
          let e1 : s *ℤ (a.n -ℤ pos 1) ≡ (s *ℤ a.n)
          -ℤ s = ring (times (at 0) (minus (at 1) (num (pos 1))))
          (minus (times (at 0) (at 1)) (at 0)) (vars (s ∷ a.n ∷ [])) refl in
          let e2 : t *ℤ (b.n -ℤ pos 1) ≡ (t *ℤ b.n)
          -ℤ t = ring (times (at 0) (minus (at 1) (num (pos 1))))
          (minus (times (at 0) (at 1)) (at 0)) (vars (t ∷ b.n ∷ [])) refl in
          omega (arith, ints, u, v, e1, e2, some)

-- ---- the foot
module _ (d : ℤ) (p q : Point) (z : Vector) (long : pos 0 <ℤ square p q) (Z : Place z)
    (is : IsBeside d p q z) where
  abbrev x3 : ℤ
  x3 = q.x -ℤ p.x

  abbrev y3 : ℤ
  y3 = q.y -ℤ p.y

  abbrev foot : Vector
  foot = record {
    x = (p.x *ℤ (square p q *ℤ z.n)) +ℤ (x3 *ℤ ahead p q z);
    y = (p.y *ℤ (square p q *ℤ z.n)) +ℤ (y3 *ℤ ahead p q z);
    n = square p q *ℤ z.n;
  }

  on_line : turn (point p) (point q) foot ≡ pos 0
  on_line =
      let PX = at 0 in
      let PY = at 1 in
      let QX = at 2 in let QY = at 3 in let W = at 4 in let G = at 5 in let one = num (pos 1) in
      let FX = plus (times PX W) (times (minus QX PX) G) in
      let FY = plus (times PY W) (times (minus QY PY) G) in
      let D : Expr → Expr → Expr → Expr → Expr = λ a m b n. minus (times a n) (times b m) in
      ring (minus (times (D QX one PX one) (D FY W PY one))
      (times (D QY one PY one) (D FX W PX one))) (num (pos 0))
      (vars (p.x ∷ p.y ∷ q.x ∷ q.y ∷ (square p q *ℤ z.n) ∷ ahead p q z ∷ [])) refl

  dot-foot : dot (point p) (point q) foot
      ≡ pos 0 -ℤ (square p q *ℤ (ahead p q z *ℤ ((square p q *ℤ z.n) -ℤ ahead p q z)))
  dot-foot =
      let PX = at 0 in
      let PY = at 1 in
      let QX = at 2 in let QY = at 3 in let W = at 4 in let G = at 5 in let one = num (pos 1) in
      let X = minus QX PX in let Y = minus QY PY in
      let FX = plus (times PX W) (times X G) in
      let FY = plus (times PY W) (times Y G) in
      let D : Expr → Expr → Expr → Expr → Expr = λ a m b n. minus (times a n) (times b m) in
      ring (plus (times (D PX one FX W) (D QX one FX W)) (times (D PY one FY W) (D QY one FY W)))
      (minus (num (pos 0)) (times (plus (times X X) (times Y Y)) (times G (minus W G))))
      (vars (p.x ∷ p.y ∷ q.x ∷ q.y ∷ (square p q *ℤ z.n) ∷ ahead p q z ∷ [])) refl

  between : dot (point p) (point q) foot ≤ℤ pos 0
  between =
      let b = is.begun in
      let c = is.ended in
      let e = dot-foot in
      let a = product_nonnegative (ahead p q z) ((square p q *ℤ z.n) -ℤ ahead p q z) b
      (omega (arith, ints, c)) in
      let m = product_nonnegative (square p q) (ahead p q z *ℤ ((square p q *ℤ z.n) -ℤ ahead p q z))
      (omega (arith, ints, long)) a in
      omega (arith, ints, e, m)

  abbrev dx : ℤ
  dx = (z.x *ℤ (square p q *ℤ z.n)) -ℤ (foot.x *ℤ z.n)

  abbrev dy : ℤ
  dy = (z.y *ℤ (square p q *ℤ z.n)) -ℤ (foot.y *ℤ z.n)

  dx-is : dx ≡ pos 0 -ℤ (y3 *ℤ (z.n *ℤ off p q z))
  dx-is =
      let PX = at 0 in
      let PY = at 1 in
      let X = at 2 in let Y = at 3 in let ZX = at 4 in let ZY = at 5 in let N = at 6 in
      let V = plus (times X X) (times Y Y) in
      let A = plus (times X (minus ZX (times PX N))) (times Y (minus ZY (times PY N))) in
      let O = minus (times X (minus ZY (times PY N))) (times Y (minus ZX (times PX N))) in
      ring (minus (times ZX (times V N)) (times (plus (times PX (times V N)) (times X A)) N))
      (minus (num (pos 0)) (times Y (times N O)))
      (vars (p.x ∷ p.y ∷ x3 ∷ y3 ∷ z.x ∷ z.y ∷ z.n ∷ [])) refl

  dy-is : dy ≡ x3 *ℤ (z.n *ℤ off p q z)
  dy-is =
      let PX = at 0 in
      let PY = at 1 in
      let X = at 2 in let Y = at 3 in let ZX = at 4 in let ZY = at 5 in let N = at 6 in
      let V = plus (times X X) (times Y Y) in
      let A = plus (times X (minus ZX (times PX N))) (times Y (minus ZY (times PY N))) in
      let O = minus (times X (minus ZY (times PY N))) (times Y (minus ZX (times PX N))) in
      ring (minus (times ZY (times V N)) (times (plus (times PY (times V N)) (times Y A)) N))
      (times X (times N O)) (vars (p.x ∷ p.y ∷ x3 ∷ y3 ∷ z.x ∷ z.y ∷ z.n ∷ [])) refl

  away : (dx *ℤ dx) +ℤ (dy *ℤ dy) ≡ ((z.n *ℤ z.n) *ℤ square p q) *ℤ (off p q z *ℤ off p q z)
  away =
      let a = ap (λ v. (v *ℤ v) +ℤ (dy *ℤ dy)) dx-is in
      let b = ap (λ v. ((pos 0 -ℤ (y3 *ℤ (z.n *ℤ off p q z)))
      *ℤ (pos 0 -ℤ (y3 *ℤ (z.n *ℤ off p q z)))) +ℤ (v *ℤ v)) dy-is in
      let X = at 0 in let Y = at 1 in let N = at 2 in let O = at 3 in
      let U = minus (num (pos 0)) (times Y (times N O)) in
      let W = times X (times N O) in
      a ∙ b ∙ ring (plus (times U U) (times W W))
      (times (times (times N N) (plus (times X X) (times Y Y))) (times O O))
      (vars (x3 ∷ y3 ∷ z.n ∷ off p q z ∷ [])) refl

  pub close : IsClose d p q z
  close =
      let zz = product_positive z.n z.n Z Z in
      let k = product_nonnegative (z.n *ℤ z.n) (square p q) (omega (arith, ints, zz))
      (omega (arith, ints, long)) in
      let m = times_le ((z.n *ℤ z.n) *ℤ square p q) (off p q z *ℤ off p q z)
      (((d *ℤ d) *ℤ square p q) *ℤ (z.n *ℤ z.n)) k is.near in
      let e : ((z.n *ℤ z.n) *ℤ square p q) *ℤ (((d *ℤ d) *ℤ square p q) *ℤ (z.n *ℤ z.n))
      ≡ (d *ℤ (z.n *ℤ (square p q *ℤ z.n))) *ℤ (d *ℤ (z.n *ℤ (square p q *ℤ z.n))) =
      let N = at 0 in let V = at 1 in let D = at 2 in
      ring (times (times (times N N) V) (times (times (times D D) V) (times N N)))
      (times (times D (times N (times V N))) (times D (times N (times V N))))
      (vars (z.n ∷ square p q ∷ d ∷ [])) refl in
      let a = away in
      record {
        foot = foot;
        place = product_positive (square p q) z.n long Z;
        of_straight = record { line = on_line; between = between };
        near = omega (arith, ints, m, e, a);
      }

-- points that differ are some way apart
pub apart_positive : (p q : Point) → (p ≡ q → ⊥) → pos 0 <ℤ square p q
apart_positive p q differ =
    by_sign (q.x -ℤ p.x)
    (λ (l : (q.x -ℤ p.x) <ℤ pos 0). let s = negative (q.x -ℤ p.x) l in
    let t = square_nonnegative (q.y -ℤ p.y) in omega (arith, ints, s, t))
    (λ (e : q.x -ℤ p.x ≡ pos 0).
    by_sign (q.y -ℤ p.y)
    (λ (l : (q.y -ℤ p.y) <ℤ pos 0). let s = negative (q.y -ℤ p.y) l in
    let t = square_nonnegative (q.x -ℤ p.x) in omega (arith, ints, s, t))
    (λ (f : q.y -ℤ p.y ≡ pos 0). absurd
    (differ (point_eq p q (omega (arith, ints, e)) (omega (arith, ints, f)))))
    (λ (l : pos 0 <ℤ (q.y -ℤ p.y)). let s = product_positive (q.y -ℤ p.y) (q.y -ℤ p.y) l l in
    let t = square_nonnegative (q.x -ℤ p.x) in omega (arith, ints, s, t)))
    (λ (l : pos 0 <ℤ (q.x -ℤ p.x)). let s = product_positive (q.x -ℤ p.x) (q.x -ℤ p.x) l l in
    let t = square_nonnegative (q.y -ℤ p.y) in omega (arith, ints, s, t))
  where
    negative : (a : ℤ) → a <ℤ pos 0 → pos 0 <ℤ (a *ℤ a)
    negative a l =
        let m = product_positive (pos 0 -ℤ a) (pos 0 -ℤ a) (omega (arith, ints, l))
        (omega (arith, ints, l)) in
        let e : (pos 0 -ℤ a) *ℤ (pos 0 -ℤ a)
        ≡ a *ℤ a = ring (times (minus (num (pos 0)) (at 0)) (minus (num (pos 0)) (at 0)))
        (times (at 0) (at 0)) (vars (a ∷ [])) refl in
        omega (arith, ints, m, e)

-- ---- the ends of the parts differ
ahead-first : (p q : Point) → ahead p q (point p) ≡ pos 0
ahead-first p q =
    let U : Expr → Expr = λ u. minus u (times u (num (pos 1))) in
    ring (plus (times (minus (at 2) (at 0)) (U (at 0))) (times (minus (at 3) (at 1)) (U (at 1))))
    (num (pos 0)) (vars (p.x ∷ p.y ∷ q.x ∷ q.y ∷ [])) refl

ahead-last : (p q : Point) → ahead p q (point q) ≡ square p q
ahead-last p q =
    let one = num (pos 1) in
    let X = minus (at 2) (at 0) in
    let Y = minus (at 3) (at 1) in
    ring (plus (times X (minus (at 2) (times (at 0) one)))
    (times Y (minus (at 3) (times (at 1) one)))) (plus (times X X) (times Y Y))
    (vars (p.x ∷ p.y ∷ q.x ∷ q.y ∷ [])) refl

first_part : (a z : ℤ) → a ≡ pos 0 → z ≡ a → pos 0 <ℤ z → ⊥
first_part a z e f l = omega (arith, ints, e, f, l)

last_part : (a s z : ℤ) → a ≡ s → z ≡ a → pos 0 <ℤ z → (pos 2 *ℤ z) <ℤ s → ⊥
last_part a s z e f l h = omega (arith, ints, e, f, l, h)

middle_part : (a b : ℤ) → a ≡ b → a <ℤ b → ⊥
middle_part a b e l = omega (arith, ints, e, l)

pub start_differs : (d : ℤ) (left : Bool) (p q b : Point) → IsBend d left p q b → b ≡ p → ⊥
start_differs d left p q b is e =
    first_part (ahead p q (point p)) (ahead p q (point b)) (ahead-first p q)
    (ap (λ (v : Point). ahead p q (point v)) e) (begun d left p q b is)

pub end_differs : (d : ℤ) (left : Bool) (p q b : Point) → IsBend d left p q b → b ≡ q → ⊥
end_differs d left p q b is e =
    last_part (ahead p q (point q)) (square p q) (ahead p q (point b)) (ahead-last p q)
    (ap (λ (v : Point). ahead p q (point v)) e) (begun d left p q b is) (half d left p q b is)

pub bends_differ : (d : ℤ) (left right : Bool) (p q b c : Point) → IsBend d left p q b
    → IsBend d right q p c → b ≡ c → ⊥
bends_differ d left right p q b c ib ic e =
    middle_part (ahead p q (point b)) (ahead p q (point c))
    (ap (λ (v : Point). ahead p q (point v)) e) (parted d left right p q b c ib ic)
