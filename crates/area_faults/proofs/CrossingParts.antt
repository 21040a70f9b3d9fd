-- The numbers of two straights that cross, by their parts.
use Rattle.std.proofs.Common.{◌≡◌, ℤ, pos, ◌*ℤ◌, ◌-ℤ◌, ◌<ℤ◌, ◌≤ℤ◌, [], ◌∷◌, arith, refl, subst}
use Rattle.std.proofs.lemmas.Int.{ints, by_lt_z}
use Rattle.plane.specs.Rule.MeetingPlaces.{IsInUnit, IsRoundedMeeting, part, turning}
use Rattle.plane.specs.Rule.Places.{Vector, Place, point}
use Rattle.plane.specs.Rule.Straights.{IsOnStraight}
use Rattle.plane.specs.declared.kinds.Point.{Point}
use Rattle.plane.proofs.Algebra.Ring.{Expr, at, num, plus, minus, times, vars, ring}
use Rattle.area_faults.specs.Crossings.{IsOnBoth, IsRounded}

TURNING : Expr → Expr → Expr → Expr → Expr → Expr → Expr → Expr → Expr
TURNING ax ay bx by ex ey fx fy =
    minus (times (minus bx ax) (minus fy ey)) (times (minus by ay) (minus fx ex))

-- the turn and the dot product of two points and a place
TURN : Expr → Expr → Expr → Expr → Expr → Expr → Expr → Expr
TURN ax ay bx by zx zy zn =
    let O = num (pos 1) in
    minus (times (minus (times bx O) (times ax O)) (minus (times zy O) (times ay zn)))
    (times (minus (times by O) (times ay O)) (minus (times zx O) (times ax zn)))

DOT : Expr → Expr → Expr → Expr → Expr → Expr → Expr → Expr
DOT ax ay bx by zx zy zn =
    let O = num (pos 1) in
    plus (times (minus (times ax zn) (times zx O)) (minus (times bx zn) (times zx O)))
    (times (minus (times ay zn) (times zy O)) (minus (times by zn) (times zy O)))

pub turning_parts : (a b e f : Point) (ux uy vx vy r : ℤ) → ux ≡ b.x -ℤ a.x → uy ≡ b.y -ℤ a.y
    → vx ≡ f.x -ℤ e.x → vy ≡ f.y -ℤ e.y → r ≡ (ux *ℤ vy) -ℤ (uy *ℤ vx) → r ≡ turning a b e f
turning_parts a b e f ux uy vx vy r h k l m n = cc

pub part_parts : (a e f : Point) (ux uy vx vy r : ℤ) → ux ≡ e.x -ℤ a.x → uy ≡ e.y -ℤ a.y
    → vx ≡ f.x -ℤ e.x → vy ≡ f.y -ℤ e.y → r ≡ (ux *ℤ vy) -ℤ (uy *ℤ vx) → r ≡ part a e f
part_parts a e f ux uy vx vy r h k l m n = cc

pub rounded_meeting : (a b e f : Point) (p t x y : ℤ) → p ≡ part a e f → t ≡ turning a b e f
    → IsRounded a.x (b.x -ℤ a.x) p t x → IsRounded a.y (b.y -ℤ a.y) p t y → pos 0 <ℤ t
    → ((a b e f m : Point) (z : Vector) → Place z → pos 0 <ℤ turning a b e f
    → IsRoundedMeeting a b e f m → IsOnStraight (point a) (point b) z
    → IsOnStraight (point e) (point f) z → IsInUnit m z)
    → (z : Vector) → IsOnBoth a b e f z → IsInUnit (record { x = x; y = y }) z
rounded_meeting a b e f p t x y part_is turn_is rx ry left law z on =
    law a b e f (record { x = x; y = y }) z on.place (subst (λ (n : ℤ). pos 0 <ℤ n) turn_is left)
    (record {
      x_least = sx.least;
      x_most = sx.most;
      y_least = sy.least;
      y_most = sy.most;
    }) on.first on.second
  where
    sx : IsRounded a.x (b.x -ℤ a.x) (part a e f) (turning a b e f) x
    sx = subst (λ (n : ℤ). IsRounded a.x (b.x -ℤ a.x) (part a e f) n x) turn_is
        (subst (λ (n : ℤ). IsRounded a.x (b.x -ℤ a.x) n t x) part_is rx)

    sy : IsRounded a.y (b.y -ℤ a.y) (part a e f) (turning a b e f) y
    sy = subst (λ (n : ℤ). IsRounded a.y (b.y -ℤ a.y) (part a e f) n y) turn_is
        (subst (λ (n : ℤ). IsRounded a.y (b.y -ℤ a.y) n t y) part_is ry)

-- of straights that turn right, the second one the other way round turns left
pub turned : (a b e f : Point) → turning a b f e ≡ pos 0 -ℤ turning a b e f
unfolding TURNING
turned a b e f =
    ring (TURNING (at 0) (at 1) (at 2) (at 3) (at 6) (at 7) (at 4) (at 5))
    (minus (num (pos 0)) (TURNING (at 0) (at 1) (at 2) (at 3) (at 4) (at 5) (at 6) (at 7)))
    (vars (a.x ∷ a.y ∷ b.x ∷ b.y ∷ e.x ∷ e.y ∷ f.x ∷ f.y ∷ [])) refl

pub left_again : (a b e f : Point) (t : ℤ) → t ≡ turning a b e f → (turning a b e f ≡ pos 0 → ⊥)
    → t ≤ℤ pos 0 → pos 0 <ℤ turning a b f e
left_again a b e f t h cross l =
    let i = turned a b e f in
    by_lt_z (turning a b e f) (pos 0) (λ (k : turning a b e f <ℤ pos 0). omega (arith, ints, i, k))
    (λ (k : pos 0 ≤ℤ turning a b e f). absurd (cross (omega (arith, ints, h, l, k))))

-- places of both straights, the second one the other way round
straight_back : (e f : Point) (z : Vector) → IsOnStraight (point e) (point f) z
    → IsOnStraight (point f) (point e) z
unfolding TURN DOT
straight_back e f z on = record {
  line =
      let i = ring (TURN (at 2) (at 3) (at 0) (at 1) (at 4) (at 5) (at 6))
      (minus (num (pos 0)) (TURN (at 0) (at 1) (at 2) (at 3) (at 4) (at 5) (at 6)))
      (vars (e.x ∷ e.y ∷ f.x ∷ f.y ∷ z.x ∷ z.y ∷ z.n ∷ [])) refl in
      let h = on.line in
      omega (arith, ints, i, h);
  between =
      let i = ring (DOT (at 2) (at 3) (at 0) (at 1) (at 4) (at 5) (at 6))
      (DOT (at 0) (at 1) (at 2) (at 3) (at 4) (at 5) (at 6))
      (vars (e.x ∷ e.y ∷ f.x ∷ f.y ∷ z.x ∷ z.y ∷ z.n ∷ [])) refl in
      let h = on.between in
      omega (arith, ints, i, h);
}

pub both_back : (a b e f : Point) (z : Vector) → IsOnBoth a b e f z → IsOnBoth a b f e z
both_back a b e f z on = record {
  place = on.place;
  first = on.first;
  second = straight_back e f z on.second;
}
