-- Boxes that grow, and what they hold.
use Rattle.std.proofs.Common.{◌≡◌, List, [], ◌∷◌, ◌++◌, ℤ, pos, ◌*ℤ◌, ◌≤ℤ◌, arith}
use Rattle.std.proofs.lemmas.Int.{ints}
use Rattle.plane.specs.Forms.Boxes.{Box, InBox}
use Rattle.plane.specs.Forms.Meets.{Bad}
use Rattle.plane.specs.Forms.Vectors.{Place, Vector, point}
use Rattle.plane.specs.Rule.Straights.{IsOnStraight}
use Rattle.plane.specs.declared.kinds.Edge.{Edge}
use Rattle.plane.specs.declared.kinds.Point.{Point}
use Rattle.near_pairs.specs.Boxes.{ShareAPlace}
use Rattle.level_breaks.specs.Groups.{Covers, HoldsAll}

-- ---- points
pub one_point : (p : Point) → InBox (record { low = p; high = p }) (point p)
one_point p = record {
  left = omega (arith, ints);
  right = omega (arith, ints);
  under = omega (arith, ints);
  over = omega (arith, ints);
}

pub in_between : (low high p : Point) → low.x ≤ℤ p.x → low.y ≤ℤ p.y → p.x ≤ℤ high.x → p.y ≤ℤ high.y
    → InBox (record { low = low; high = high }) (point p)
in_between low high p a b c d = record {
  left = omega (arith, ints, a);
  right = omega (arith, ints, c);
  under = omega (arith, ints, b);
  over = omega (arith, ints, d);
}

pub bigger : (low high : Point) (a : Box) → low.x ≤ℤ a.low.x → low.y ≤ℤ a.low.y → a.high.x ≤ℤ high.x
    → a.high.y ≤ℤ high.y → Covers (record { low = low; high = high }) a
bigger low high a l u r o = record { left = l; right = r; under = u; over = o }

-- ---- what is covered
at_one : (a : ℤ) → a *ℤ pos 1 ≡ a
at_one a = omega (arith, ints)

pub covered : (b a : Box) (p : Point) → Covers b a → InBox a (point p) → InBox b (point p)
covered b a p k h =
    let l = k.left in
    let r = k.right in
    let u = k.under in
    let o = k.over in
    let hl = h.left in
    let hr = h.right in
    let hu = h.under in
    let ho = h.over in
    record {
      left = omega (arith, ints, l, hl);
      right = omega (arith, ints, r, hr);
      under = omega (arith, ints, u, hu);
      over = omega (arith, ints, o, ho);
    }

pub covers_itself : (a : Box) → Covers a a
covers_itself a = record {
  left = omega (arith, ints);
  right = omega (arith, ints);
  under = omega (arith, ints);
  over = omega (arith, ints);
}

pub covers_through : (c b a : Box) → Covers c b → Covers b a → Covers c a
covers_through c b a h k =
    let hl = h.left in
    let hr = h.right in
    let hu = h.under in
    let ho = h.over in
    let l = k.left in
    let r = k.right in
    let u = k.under in
    let o = k.over in
    record {
      left = omega (arith, ints, l, hl);
      right = omega (arith, ints, r, hr);
      under = omega (arith, ints, u, hu);
      over = omega (arith, ints, o, ho);
    }

pub all_covered : (b a : Box) (ps : List Point) → Covers b a → HoldsAll a ps → HoldsAll b ps
all_covered b a [] k h = tt
all_covered b a (p ∷ ps) k h = (covered b a p k h.0, all_covered b a ps k h.1)

pub all_of_both : (b : Box) (ps qs : List Point) → HoldsAll b ps → HoldsAll b qs
    → HoldsAll b (ps ++ qs)
all_of_both b [] qs h k = k
all_of_both b (p ∷ ps) qs h k = (h.0, all_of_both b ps qs h.1 k)

-- ---- edges that share a place
module _ (law : (b : Box) (z : Vector) (p q : Point) → Place z → InBox b (point p)
    → InBox b (point q) → IsOnStraight (point p) (point q) z → InBox b z) where
  pub bad_shares : (e f : Edge) (a b : Box) → InBox a (point e.low) → InBox a (point e.high)
      → InBox b (point f.low) → InBox b (point f.high) → Bad e f → ShareAPlace a b
  bad_shares e f a b el eh fl fh h = (
    h.at,
    h.place,
    law a h.at e.low e.high h.place el eh h.of_first,
    law b h.at f.low f.high h.place fl fh h.of_second,
  )
