-- Places on the left of all straights of a drawing: they are outer, and outer places are joined.
use Rattle.std.proofs.Common.{◌≡◌, ℕ, ◌<◌, length, ℤ, pos, ◌*ℤ◌, ◌-ℤ◌, ◌<ℤ◌, ◌≤ℤ◌, [], ◌∷◌, refl}
use Rattle.std.proofs.Common.{arith}
use Rattle.std.proofs.lemmas.Int.{ints, by_lt_z}
use Rattle.plane.specs.declared.kinds.CurveKind.TheVariants as kind
use Rattle.plane.specs.Forms.Vectors.{Between, mix}
use Rattle.plane.specs.Rule.Curves.{IsOn}
use Rattle.plane.specs.Rule.Partition.{IsOff, IsClear, Joined, IsOuter}
use Rattle.plane.specs.Rule.Places.{Vector, Place, point}
use Rattle.plane.specs.Rule.Plans.{Plan, curve}
use Rattle.plane.proofs.Algebra.Ring.{at, minus, times, num, vars, ring}
use Rattle.plane.proofs.Algebra.Scaling.{cancel_le, times_le}
use Rattle.plane.proofs.FewerCurves.OneFace.{hits_straight, on_straight}
use Rattle.plane.proofs.FewerCurves.Paths.{joined_back, joined_self, joined_step, joined_through}
use Rattle.plane.proofs.Linear.EdgePlaces.{place_point}
use Rattle.plane.proofs.Linear.Signs.{mix_place, span_high, span_low}
use Rattle.plane.proofs.Linear.Straights.{straight_between}

-- ---- means
swap : (a b c : ℤ) → a *ℤ (b *ℤ c) ≡ c *ℤ (b *ℤ a)
swap a b c =
    ring (times (at 0) (times (at 1) (at 2))) (times (at 2) (times (at 1) (at 0)))
    (vars (a ∷ b ∷ c ∷ [])) refl

turned : (a b : ℤ) → a *ℤ b ≡ b *ℤ a
turned a b = ring (times (at 0) (at 1)) (times (at 1) (at 0)) (vars (a ∷ b ∷ [])) refl

-- a mean of two places that are not on the left of a line is not on the left of it
pub mean_low : (l : ℤ) (z p q : Vector) → Place z → Place p → Place q → Between z p q
    → (l *ℤ p.n) ≤ℤ p.x → (l *ℤ q.n) ≤ℤ q.x → (l *ℤ z.n) ≤ℤ z.x
mean_low l z p q Z P Q b h k =
    let m = mix b.s p b.t q in
    let M = mix_place b.s p b.t q P Q b.s_least b.t_least b.some in
    let s = span_low l b.s b.t p.x p.n q.x q.n b.s_least b.t_least h k in
    let t = times_le z.n (l *ℤ m.n) m.x (omega (arith, ints, Z)) s in
    let e = b.is.x in
    let f = turned z.x m.n in
    let g = turned m.x z.n in
    let w = swap z.n l m.n in
    cancel_le m.n (l *ℤ z.n) z.x M (omega (arith, ints, t, e, f, g, w))

pub mean_high : (l : ℤ) (z p q : Vector) → Place z → Place p → Place q → Between z p q
    → p.x ≤ℤ (l *ℤ p.n) → q.x ≤ℤ (l *ℤ q.n) → z.x ≤ℤ (l *ℤ z.n)
mean_high l z p q Z P Q b h k =
    let m = mix b.s p b.t q in
    let M = mix_place b.s p b.t q P Q b.s_least b.t_least b.some in
    let s = span_high l b.s b.t p.x p.n q.x q.n b.s_least b.t_least h k in
    let t = times_le z.n m.x (l *ℤ m.n) (omega (arith, ints, Z)) s in
    let e = b.is.x in
    let f = turned z.x m.n in
    let g = turned m.x z.n in
    let w = swap z.n l m.n in
    cancel_le m.n z.x (l *ℤ z.n) M (omega (arith, ints, t, e, f, g, w))

-- not on both sides of a line and one that is one unit before it
apart : (l x n : ℤ) → pos 0 <ℤ n → (l *ℤ n) ≤ℤ x → x ≤ℤ ((l -ℤ pos 1) *ℤ n) → ⊥
apart l x n N h k =
    let e = ring (times (minus (at 0) (num (pos 1))) (at 1)) (minus (times (at 0) (at 1)) (at 1))
    (vars (l ∷ n ∷ [])) refl in
    absurd (omega (arith, ints, N, h, k, e))

pub record IsRightOf (l : ℤ) (r : Plan) : Type 0 where
  pub straight : (k : ℕ) → k < length r.curves → (curve r k).kind ≡ kind.Straight
  pub from : (k : ℕ) → k < length r.curves → l ≤ℤ (curve r k).from.x
  pub to : (k : ℕ) → k < length r.curves → l ≤ℤ (curve r k).to.x

module _ (l : ℤ) (r : Plan) (right : IsRightOf l r) where
  abbrev IsLeft : Vector → Type 0
  IsLeft z = z.x ≤ℤ ((l -ℤ pos 1) *ℤ z.n)

  one : (x : ℤ) → l ≤ℤ x → (l *ℤ pos 1) ≤ℤ x
  one x h = omega (arith, ints, h)

  never_on : (z : Vector) → Place z → IsLeft z → (k : ℕ) → k < length r.curves → IsOn (curve r k) z
      → ⊥
  never_on z Z h k m on =
      let c = curve r k in
      let b = straight_between (point c.from) (point c.to) z (place_point c.from)
      (place_point c.to) Z (on_straight c z (right.straight k m) on) in
      apart l z.x z.n Z
      (mean_low l z (point c.from) (point c.to) Z (place_point c.from) (place_point c.to) b
      (one c.from.x (right.from k m)) (one c.to.x (right.to k m))) h

  pub left_off : (z : Vector) → Place z → IsLeft z → IsOff r z
  left_off z Z h k m on = never_on z Z h k m on

  left_clear : (p q : Vector) → Place p → Place q → IsLeft p → IsLeft q → IsClear r p q
  left_clear p q P Q h k i m hit =
      let c = curve r i in
      let s = hits_straight c p q (right.straight i m) hit in
      let b = straight_between p q s.z P Q s.place s.of_segment in
      let d = straight_between (point c.from) (point c.to) s.z (place_point c.from)
      (place_point c.to) s.place s.of_curve in
      apart l s.z.x s.z.n s.place
      (mean_low l s.z (point c.from) (point c.to) s.place (place_point c.from) (place_point c.to) d
      (one c.from.x (right.from i m)) (one c.to.x (right.to i m)))
      (mean_high (l -ℤ pos 1) s.z p q s.place P Q b h k)

  pub left_joined : (p q : Vector) → Place p → Place q → IsLeft p → IsLeft q → Joined r p q
  left_joined p q P Q h k =
      joined_step r p p q P P Q (joined_self r p P (left_off p P h)) (left_clear p q P Q h k)
      (left_off q Q k)

  -- ---- a place on the left of all straights
  abbrev pub left_place : Vector
  left_place = record { x = l -ℤ pos 1; y = pos 0; n = pos 1 }

  pub left_there : Place left_place
  left_there = omega (arith, ints)

  left_is : IsLeft left_place
  left_is = omega (arith, ints)

  pub left_place_off : IsOff r left_place
  left_place_off = left_off left_place left_there left_is

  pub left_outer : IsOuter r left_place
  left_outer b = by_lt_z b l
      (λ (h : b <ℤ l).
      let q : Vector = record { x = b -ℤ pos 1; y = pos 0; n = pos 1 } in
      let Q : Place q = omega (arith, ints) in
      let k : IsLeft q = omega (arith, ints, h) in
      (q, Q, left_joined left_place q left_there Q left_is k, omega (arith, ints)))
      (λ (h : l ≤ℤ b). (
        left_place,
        left_there,
        left_joined left_place left_place left_there left_there left_is left_is,
        omega (arith, ints, h),
      ))

  -- ---- outer places are joined
  to_left : (z : Vector) → Place z → IsOuter r z → Joined r z left_place
  to_left z Z o =
      let (q, Q, j, h) = o (l -ℤ pos 1) in
      joined_through r z q left_place Z Q j
      (left_joined q left_place Q left_there (omega (arith, ints, h)) left_is)

  pub outer_joined : (p q : Vector) → Place p → Place q → IsOuter r p → IsOuter r q → Joined r p q
  outer_joined p q P Q h k =
      joined_through r p left_place q P left_there (to_left p P h)
      (joined_back r q left_place Q left_there (to_left q Q k))

-- what is joined to an outer place is outer
pub outer_along : (r : Plan) (p q : Vector) → Place p → Place q → Joined r p q → IsOuter r q
    → IsOuter r p
outer_along r p q P Q j o b = let (s, S, k, h) = o b in (s, S, joined_through r p q s P Q j k, h)
