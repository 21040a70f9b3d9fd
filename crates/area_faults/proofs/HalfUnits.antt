-- Numbers in half units: what a window's points are doubled and in sum.
use Rattle.std.proofs.Common.{◌≡◌, inl, inr, ap, ◌^◌, ℤ, pos, ◌+ℤ◌, ◌*ℤ◌, ◌-ℤ◌, ◌<ℤ◌, ◌≤ℤ◌, arith}
use Rattle.std.proofs.lemmas.Int.{ints}
use Rattle.plane.specs.declared.kinds.Curve.{Curve}
use Rattle.plane.specs.declared.kinds.Point.{Point}
use Rattle.plane.specs.Faces.RestRuns.{sum}
use Rattle.plane.specs.Forms.Vectors.{Before}
use Rattle.plane.specs.Numbers.{IsNear, IsWithin}
use Rattle.plane.specs.Rule.Doubled.{twice}
use Rattle.plane.specs.Rule.Turns.{AreNear}
use Rattle.plane.specs.Rule.Windows.{IsInside, IsNarrow, IsShort}

-- a point of the window in half units
pub record IsInHalves (low high p : Point) : Type 0 where
  pub left : (pos 2 *ℤ low.x) ≤ℤ p.x
  pub right : p.x ≤ℤ (pos 2 *ℤ high.x)
  pub bottom : (pos 2 *ℤ low.y) ≤ℤ p.y
  pub top : p.y ≤ℤ (pos 2 *ℤ high.y)

pub twice_inside : (low high p : Point) → IsInside low high p → IsInHalves low high (twice p)
twice_inside low high p h = record {
  left = up low.x p.x h.left;
  right = up p.x high.x h.right;
  bottom = up low.y p.y h.bottom;
  top = up p.y high.y h.top;
}
  where
    up : (a b : ℤ) → a ≤ℤ b → (pos 2 *ℤ a) ≤ℤ (pos 2 *ℤ b)
    up a b h = omega (arith, ints, h)

pub sum_inside : (low high : Point) (c : Curve) → IsInside low high c.from → IsInside low high c.to
    → IsInHalves low high (sum c)
sum_inside low high c h k = record {
  left = under low.x c.from.x c.to.x h.left k.left;
  right = over c.from.x c.to.x high.x h.right k.right;
  bottom = under low.y c.from.y c.to.y h.bottom k.bottom;
  top = over c.from.y c.to.y high.y h.top k.top;
}
  where
    under : (a b c : ℤ) → a ≤ℤ b → a ≤ℤ c → (pos 2 *ℤ a) ≤ℤ (b +ℤ c)
    under a b c h k = omega (arith, ints, h, k)

    over : (a b c : ℤ) → a ≤ℤ c → b ≤ℤ c → (a +ℤ b) ≤ℤ (pos 2 *ℤ c)
    over a b c h k = omega (arith, ints, h, k)

-- they are near each other
pub halves_near : (low high p q : Point) → IsNarrow low high → IsInHalves low high p
    → IsInHalves low high q → AreNear (2 ^ 41) p q
halves_near low high p q n h k = record {
  x = near low.x high.x p.x q.x n.x h.left h.right k.left k.right;
  y = near low.y high.y p.y q.y n.y h.bottom h.top k.bottom k.top;
}
  where
    near : (l h a b : ℤ) → (h -ℤ l) <ℤ pos (2 ^ 40) → (pos 2 *ℤ l) ≤ℤ a → a ≤ℤ (pos 2 *ℤ h)
        → (pos 2 *ℤ l) ≤ℤ b → b ≤ℤ (pos 2 *ℤ h) → IsNear (2 ^ 41) a b
    near l h a b n c d e f = record {
      above = omega (arith, ints, n, c, d, e, f);
      below = omega (arith, ints, n, c, d, e, f);
    }

-- points of a window have few digits
pub inside_short : (low high p : Point) → IsShort low → IsShort high → IsInside low high p
    → IsShort p
inside_short low high p s t h = record {
  x = between low.x high.x p.x s.x t.x h.left h.right;
  y = between low.y high.y p.y s.y t.y h.bottom h.top;
}
  where
    between : (l h z : ℤ) → IsWithin (10 ^ 18) l → IsWithin (10 ^ 18) h → l ≤ℤ z → z ≤ℤ h
        → IsWithin (10 ^ 18) z
    between l h z s t a b =
        let u = s.low in
        let v = t.high in
        record { low = omega (arith, ints, u, a); high = omega (arith, ints, v, b) }

-- points in half units are in order, and differ, as in whole units
pub twice_before : (p q : Point) → Before p q → Before (twice p) (twice q)
twice_before p q (inl l) = inl (omega (arith, ints, l))
twice_before p q (inr (e, l)) = inr (ap (λ (z : ℤ). pos 2 *ℤ z) e, omega (arith, ints, l))

pub before_twice : (p q : Point) → Before (twice p) (twice q) → Before p q
before_twice p q (inl l) = inl (omega (arith, ints, l))
before_twice p q (inr (e, l)) = inr (omega (arith, ints, e), omega (arith, ints, l))

pub twice_once : (p q : Point) → twice p ≡ twice q → p ≡ q
twice_once p q e =
    let x = ap (λ (v : Point). v.x) e in
    let y = ap (λ (v : Point). v.y) e in
    λ i. record { x = once p.x q.x x i; y = once p.y q.y y i }
  where
    once : (a b : ℤ) → pos 2 *ℤ a ≡ pos 2 *ℤ b → a ≡ b
    once a b e = omega (arith, ints, e)

-- of two points one comes first
pub before_once : (p q : Point) → Before p q → Before q p → ⊥
before_once p q (inl a) (inl b) = absurd (omega (arith, ints, a, b))
before_once p q (inl a) (inr (e, b)) = absurd (omega (arith, ints, a, e))
before_once p q (inr (e, a)) (inl b) = absurd (omega (arith, ints, e, b))
before_once p q (inr (e, a)) (inr (f, b)) = absurd (omega (arith, ints, a, b))
