-- Two boxes share a place exactly where they share an x and a y.
use Rattle.std.proofs.Common.{◌≡◌, ◌↔◌, Bool, true, false, IsTrue, T, refl, ℤ, pos, ◌*ℤ◌, ◌<ℤ◌}
use Rattle.std.proofs.Common.{◌≤ℤ◌, arith}
use Rattle.std.proofs.lemmas.Int.{ints, by_lt_z}
use Rattle.std.specs.Int.Signed.{le_z}
use Rattle.plane.specs.Forms.Boxes.{Box}
use Rattle.plane.specs.Rule.Places.{Vector}
use Rattle.plane.proofs.Algebra.Laws.{product_comm}
use Rattle.plane.proofs.Algebra.Scaling.{cancel_le}
use Rattle.near_pairs.specs.Boxes.{ShareANumber, ShareAPlace}

pub at_most : (a b n z : ℤ) → pos 0 <ℤ n → (a *ℤ n) ≤ℤ z → z ≤ℤ (b *ℤ n) → a ≤ℤ b
at_most a b n z h l m =
    let p = product_comm a n in
    let q = product_comm b n in
    cancel_le n a b h (omega (arith, ints, l, m, p, q))

-- the greater of the two lows is such a number, where one is
number_from : (a b c d : ℤ) → a ≤ℤ b → a ≤ℤ d → c ≤ℤ b → c ≤ℤ d → ShareANumber a b c d
number_from a b c d h k l m =
    by_lt_z a c
    (λ (q : a <ℤ c). (c, omega (arith, ints, q), l, omega (arith, ints), m))
    (λ (q : c ≤ℤ a). (a, omega (arith, ints), h, q, k))

pub clash : false ≡ true → ⊥
clash e = cc

-- the test of the greater low, once it is not above the first high
pub number_test : (a b c d low : ℤ) → a ≤ℤ low → c ≤ℤ low → IsTrue (le_z low b)
    → ((m : ℤ) → a ≤ℤ m → c ≤ℤ m → low ≤ℤ m) → IsTrue (le_z low d) ↔ ShareANumber a b c d
number_test a b c d low h k l least = (
  λ t. (low, h, record { le = t_of (le_z low b) l }, k, record { le = t_of (le_z low d) t }),
  λ s. is_true (le_z low d) (at_most_d s).le,
)
  where
    t_of : (t : Bool) → IsTrue t → T t
    t_of true e = tt
    t_of false e = absurd (clash e)

    is_true : (t : Bool) → T t → IsTrue t
    is_true true e = refl
    is_true false e = absurd e

    at_most_d : ShareANumber a b c d → low ≤ℤ d
    at_most_d (m, ma, mb, mc, md) = let q = least m ma mc in omega (arith, ints, q, md)

-- along one axis, from a place
shared_number : (a b c d n z : ℤ) → pos 0 <ℤ n → (a *ℤ n) ≤ℤ z → z ≤ℤ (b *ℤ n) → (c *ℤ n) ≤ℤ z
    → z ≤ℤ (d *ℤ n) → ShareANumber a b c d
shared_number a b c d n z place h k l m =
    number_from a b c d (at_most a b n z place h k) (at_most a d n z place h m)
    (at_most c b n z place l k) (at_most c d n z place l m)

pub shared_numbers : (a b : Box) → ShareAPlace a b
    → ShareANumber a.low.x a.high.x b.low.x b.high.x
    × ShareANumber a.low.y a.high.y b.low.y b.high.y
shared_numbers a b (z, place, p, q) = (
  shared_number a.low.x a.high.x b.low.x b.high.x z.n z.x place p.left p.right q.left q.right,
  shared_number a.low.y a.high.y b.low.y b.high.y z.n z.y place p.under p.over q.under q.over,
)

times_one : (a : ℤ) → (a *ℤ pos 1) ≡ a
times_one a = omega (arith, ints)

one_below : (a m : ℤ) → a ≤ℤ m → (a *ℤ pos 1) ≤ℤ m
one_below a m h = let e = times_one a in omega (arith, ints, e)

one_above : (a m : ℤ) → m ≤ℤ a → m ≤ℤ (a *ℤ pos 1)
one_above a m h = let e = times_one a in omega (arith, ints, e)

pub shared_place : (a b : Box) → ShareANumber a.low.x a.high.x b.low.x b.high.x
    → ShareANumber a.low.y a.high.y b.low.y b.high.y → ShareAPlace a b
shared_place a b (x, xa, xb, xc, xd) (y, ya, yb, yc, yd) =
    let z : Vector = record { x = x; y = y; n = pos 1 } in (
      z,
      omega (arith, ints),
      record {
        left = one_below a.low.x x xa;
        right = one_above a.high.x x xb;
        under = one_below a.low.y y ya;
        over = one_above a.high.y y yb;
      },
      record {
        left = one_below b.low.x x xc;
        right = one_above b.high.x x xd;
        under = one_below b.low.y y yc;
        over = one_above b.high.y y yd;
      },
    )
