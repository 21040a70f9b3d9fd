-- Places on an edge, and what they say of a line: the side of an edge is the turn over its ends.
use Rattle.std.proofs.Common.{◌≡◌, ℤ, pos, ◌+ℤ◌, ◌*ℤ◌, ◌<ℤ◌, ◌≤ℤ◌, [], ◌∷◌, refl, arith, sym, ◌∙◌}
use Rattle.std.proofs.lemmas.Int.{ints}
use Rattle.plane.specs.declared.kinds.Point.{Point}
use Rattle.plane.specs.Rule.Turns.{cross}
use Rattle.plane.specs.Forms.Vectors.{Vector, Place, Same, mix, point, Edge, side}
use Rattle.plane.specs.Rule.Straights.{turn}
use Rattle.plane.specs.Forms.Meets.{OnStraight}
use Rattle.plane.proofs.Algebra.Ring.{Expr, at, num, minus, times, vars, ring}
use Rattle.plane.proofs.Algebra.Scaling.{cancel_zero, product_of_zero}
use Rattle.plane.proofs.Linear.Vectors.{SIDE, side-mix, side-point}
use Rattle.plane.proofs.Linear.OnePlace.{side_same}
use Rattle.plane.proofs.Linear.Straights.{straight_between, between_straight}

pub side-turn : (e : Edge) (z : Vector) → side e z ≡ turn (point e.low) (point e.high) z
unfolding side
side-turn e z =
    let LX = at 0 in
    let LY = at 1 in
    let HX = at 2 in let HY = at 3 in let X = at 4 in let Y = at 5 in let N = at 6 in
    let one = num (pos 1) in
    let d : Expr → Expr → Expr → Expr → Expr = λ a m b n. minus (times a n) (times b m) in
    ring (SIDE LX LY HX HY X Y N)
    (minus (times (d HX one LX one) (d Y N LY one)) (times (d HY one LY one) (d X N LX one)))
    (vars (e.low.x ∷ e.low.y ∷ e.high.x ∷ e.high.y ∷ z.x ∷ z.y ∷ z.n ∷ [])) refl

pub side-cross : (e : Edge) (p : Point) → side e (point p) ≡ cross e.low e.high p
side-cross e p = side-point e p

pub place_point : (p : Point) → Place (point p)
place_point p = omega (arith, ints)

-- a place on an edge is on its line
pub on_line : (e : Edge) (z : Vector) → OnStraight e z → side e z ≡ pos 0
on_line e z h = side-turn e z ∙ h.line

-- a place of t that is on the line of s, as a mean of t's ends: its weights balance the sides of
-- the ends
pub record IsBalanced (s t : Edge) (z : Vector) : Type 0 where
  pub i : ℤ
  pub j : ℤ
  pub i_least : pos 0 ≤ℤ i
  pub j_least : pos 0 ≤ℤ j
  pub some : pos 0 <ℤ (i +ℤ j)
  pub is : Same z (mix i (point t.low) j (point t.high))
  pub zero : (i *ℤ side s (point t.low)) +ℤ (j *ℤ side s (point t.high)) ≡ pos 0

pub balanced : (s t : Edge) (z : Vector) → Place z → side s z ≡ pos 0 → OnStraight t z
    → IsBalanced s t z
balanced s t z Z on_s on_t =
    let L = place_point t.low in
    let H = place_point t.high in
    let b = straight_between (point t.low) (point t.high) z L H Z on_t in
    let m = mix b.s (point t.low) b.t (point t.high) in
    let e = side_same s z m b.is in
    let f = product_of_zero m.n (side s z) on_s in
    record {
      i = b.s;
      j = b.t;
      i_least = b.s_least;
      j_least = b.t_least;
      some = b.some;
      is = b.is;
      zero = sym (side-mix s b.s (point t.low) b.t (point t.high))
          ∙ cancel_zero z.n (side s m) Z (sym e ∙ f);
    }

-- a mean of the ends is on the edge
pub mean_on : (e : Edge) (z : Vector) (i j : ℤ) → Place z → pos 0 ≤ℤ i → pos 0 ≤ℤ j
    → pos 0 <ℤ (i +ℤ j) → Same z (mix i (point e.low) j (point e.high)) → OnStraight e z
mean_on e z i j Z hi hj some is =
    between_straight (point e.low) (point e.high) z (place_point e.low) (place_point e.high) Z
    (record { s = i; t = j; s_least = hi; t_least = hj; some = some; is = is })
