-- Two edges of different lines, neither to one side of the other, have exactly one common place.
use Rattle.std.proofs.Common.{◌≡◌, ℕ, ℤ, pos, ◌+ℤ◌, ◌*ℤ◌, ◌-ℤ◌, ◌<ℤ◌, ◌≤ℤ◌, inl, inr, [], ◌∷◌, refl}
use Rattle.std.proofs.Common.{arith, sym, ◌∙◌, subst, ap}
use Rattle.std.proofs.lemmas.Int.{ints, by_lt_z}
use Rattle.plane.specs.declared.kinds.Point.{Point}
use Rattle.plane.specs.declared.kinds.Edge.{Edge}
use Rattle.plane.specs.Forms.Vectors.{Vector, Place, Same, mix, point, side}
use Rattle.plane.specs.Forms.Meets as edges
use Rattle.plane.proofs.Algebra.Ring.{Expr, at, num, plus, minus, times, vars, ring}
use Rattle.plane.proofs.Algebra.Scaling.{cancel_zero, product_of_zero}
use Rattle.plane.proofs.Linear.Signs.{by_sign, mix_place}
use Rattle.plane.proofs.Linear.Vectors.{SIDE, side-low, side-high}
use Rattle.plane.proofs.Linear.EdgePlaces.{place_point, on_line, mean_on, IsBalanced, balanced}
use Rattle.straight_predicates.specs.Meetings.{ShareEnd}
use Rattle.straight_predicates.proofs.OneSide.{IsAside}

-- ---- the variables: s is 0 1 2 3, t is 4 5 6 7
abbrev ends : Edge → Edge → ℕ → ℤ
ends s t = vars (s.low.x ∷ s.low.y ∷ s.high.x ∷ s.high.y ∷ t.low.x ∷ t.low.y ∷ t.high.x ∷ t.high.y
    ∷ [])

abbrev OVER_S : Expr → Expr → Expr
OVER_S x y = SIDE (at 0) (at 1) (at 2) (at 3) x y (num (pos 1))

abbrev OVER_T : Expr → Expr → Expr
OVER_T x y = SIDE (at 4) (at 5) (at 6) (at 7) x y (num (pos 1))

-- the sides of t's ends over s, and of s's ends over t
abbrev TL : Expr
TL = OVER_S (at 4) (at 5)

abbrev TH : Expr
TH = OVER_S (at 6) (at 7)

abbrev SL : Expr
SL = OVER_T (at 0) (at 1)

abbrev SH : Expr
SH = OVER_T (at 2) (at 3)

abbrev NONE : Expr
NONE = num (pos 0)

-- both differences are the cross product of the two directions
pub sides_differ : (s t : Edge)
    → side s (point t.high) -ℤ side s (point t.low) ≡ side t (point s.low) -ℤ side t (point s.high)
unfolding side
sides_differ s t = ring (minus TH TL) (minus SL SH) (ends s t) refl

-- the place where t rises through the line of s, as a mean of t's ends and of s's ends
abbrev rising : Edge → Edge → Vector
rising s t =
    mix (side s (point t.high)) (point t.low) (pos 0 -ℤ side s (point t.low)) (point t.high)

abbrev falling : Edge → Edge → Vector
falling s t =
    mix (pos 0 -ℤ side s (point t.high)) (point t.low) (side s (point t.low)) (point t.high)

rising_same : (s t : Edge)
    → Same (rising s t)
    (mix (pos 0 -ℤ side t (point s.high)) (point s.low) (side t (point s.low)) (point s.high))
unfolding side
rising_same s t =
    let low = minus NONE SH in
    let m : Expr → Expr → Expr = λ l h. plus (times TH l) (times (minus NONE TL) h) in
    let k : Expr → Expr → Expr = λ l h. plus (times low l) (times SL h) in
    let one = num (pos 1) in
    record {
      x = ring (times (m (at 4) (at 6)) (k one one)) (times (k (at 0) (at 2)) (m one one))
          (ends s t) refl;
      y = ring (times (m (at 5) (at 7)) (k one one)) (times (k (at 1) (at 3)) (m one one))
          (ends s t) refl;
    }

falling_same : (s t : Edge)
    → Same (falling s t)
    (mix (side t (point s.high)) (point s.low) (pos 0 -ℤ side t (point s.low)) (point s.high))
unfolding side
falling_same s t =
    let m : Expr → Expr → Expr = λ l h. plus (times (minus NONE TH) l) (times TL h) in
    let k : Expr → Expr → Expr = λ l h. plus (times SH l) (times (minus NONE SL) h) in
    let one = num (pos 1) in
    record {
      x = ring (times (m (at 4) (at 6)) (k one one)) (times (k (at 0) (at 2)) (m one one))
          (ends s t) refl;
      y = ring (times (m (at 5) (at 7)) (k one one)) (times (k (at 1) (at 3)) (m one one))
          (ends s t) refl;
    }

-- ---- a common place
pub record Common (s t : Edge) : Type 0 where
  pub z : Vector
  pub place : Place z
  pub on_first : edges.OnStraight s z
  pub on_second : edges.OnStraight t z

common_from : (s t : Edge) (i j k l : ℤ) → pos 0 ≤ℤ i → pos 0 ≤ℤ j → pos 0 <ℤ (i +ℤ j) → pos 0 ≤ℤ k
    → pos 0 ≤ℤ l → pos 0 <ℤ (k +ℤ l)
    → Same (mix i (point t.low) j (point t.high)) (mix k (point s.low) l (point s.high))
    → Common s t
common_from s t i j k l hi hj ij hk hl kl is =
    let z = mix i (point t.low) j (point t.high) in
    let Z = mix_place i (point t.low) j (point t.high) (place_point t.low)
    (place_point t.high) hi hj ij in
    record {
      z = z;
      place = Z;
      on_first = mean_on s z k l Z hk hl kl is;
      on_second = mean_on t z i j Z hi hj ij (record { x = refl; y = refl });
    }

common_rising : (s t : Edge) → side s (point t.low) ≤ℤ pos 0 → pos 0 ≤ℤ side s (point t.high)
    → side s (point t.low) <ℤ side s (point t.high)
    → (IsAside t s → ⊥) → Common s t
common_rising s t low high l clear =
    let d = sides_differ s t in
    let sl = side t (point s.low) in
    let sh = side t (point s.high) in
    let low_least : pos 0 ≤ℤ sl = by_lt_z sl (pos 0)
    (λ (k : sl <ℤ pos 0). let k' : sh <ℤ pos 0 = omega (arith, ints, d, l, k) in
    absurd (clear (inr (k, k')))) (λ k. k) in
    let high_most : sh ≤ℤ pos 0 = by_lt_z (pos 0) sh
    (λ (k : pos 0 <ℤ sh). let k' : pos 0 <ℤ sl = omega (arith, ints, d, l, k) in
    absurd (clear (inl (k', k)))) (λ k. k) in
    common_from s t (side s (point t.high)) (pos 0 -ℤ side s (point t.low)) (pos 0 -ℤ sh) sl
    high (omega (arith, ints, low)) (omega (arith, ints, l))
    (omega (arith, ints, high_most)) low_least (omega (arith, ints, d, l)) (rising_same s t)

common_falling : (s t : Edge) → pos 0 ≤ℤ side s (point t.low) → side s (point t.high) ≤ℤ pos 0
    → side s (point t.high) <ℤ side s (point t.low)
    → (IsAside t s → ⊥) → Common s t
common_falling s t low high l clear =
    let d = sides_differ s t in
    let sl = side t (point s.low) in
    let sh = side t (point s.high) in
    let low_most : sl ≤ℤ pos 0 = by_lt_z (pos 0) sl
    (λ (k : pos 0 <ℤ sl). let k' : pos 0 <ℤ sh = omega (arith, ints, d, l, k) in
    absurd (clear (inl (k, k')))) (λ k. k) in
    let high_least : pos 0 ≤ℤ sh = by_lt_z sh (pos 0)
    (λ (k : sh <ℤ pos 0). let k' : sl <ℤ pos 0 = omega (arith, ints, d, l, k) in
    absurd (clear (inr (k', k)))) (λ k. k) in
    common_from s t (pos 0 -ℤ side s (point t.high)) (side s (point t.low)) sh (pos 0 -ℤ sl)
    (omega (arith, ints, high)) low (omega (arith, ints, l)) high_least
    (omega (arith, ints, low_most)) (omega (arith, ints, d, l)) (falling_same s t)

-- the ends of t are not both on the line of s
abbrev pub IsAcross : Edge → Edge → Type 0
IsAcross s t = (side s (point t.low) ≡ pos 0) × (side s (point t.high) ≡ pos 0) → ⊥

pub common : (s t : Edge) → IsAcross s t → (IsAside s t → ⊥) → (IsAside t s → ⊥) → Common s t
common s t across clear clear' =
    let a = side s (point t.low) in
    let b = side s (point t.high) in
    by_sign a
    (λ (l : a <ℤ pos 0). by_lt_z b (pos 0)
    (λ (k : b <ℤ pos 0). absurd (clear (inr (l, k))))
    (λ (k : pos 0 ≤ℤ b). common_rising s t (omega (arith, ints, l)) k
    (omega (arith, ints, l, k)) clear'))
    (λ (e : a ≡ pos 0). by_sign b
    (λ (k : b <ℤ pos 0). common_falling s t (omega (arith, ints, e)) (omega (arith, ints, k))
    (omega (arith, ints, e, k)) clear')
    (λ (k : b ≡ pos 0). absurd (across (e, k)))
    (λ (k : pos 0 <ℤ b). common_rising s t (omega (arith, ints, e)) (omega (arith, ints, k))
    (omega (arith, ints, e, k)) clear'))
    (λ (l : pos 0 <ℤ a). by_lt_z (pos 0) b
    (λ (k : pos 0 <ℤ b). absurd (clear (inl (l, k))))
    (λ (k : b ≤ℤ pos 0). common_falling s t (omega (arith, ints, l)) k
    (omega (arith, ints, l, k)) clear'))

-- ---- a common end is the only common place
end_on_line : (e : Edge) (p : Point) → edges.IsEnd e p → side e (point p) ≡ pos 0
end_on_line e p (inl h) = subst (λ (q : Point). side e (point q) ≡ pos 0) h (side-low e)
end_on_line e p (inr h) = subst (λ (q : Point). side e (point q) ≡ pos 0) h (side-high e)

-- one weight alone
pub only_low : (z l h : Vector) (i j : ℤ) → pos 0 <ℤ i → j ≡ pos 0 → Same z (mix i l j h) → Same z l
only_low z l h i j hi e is = record {
  x = one z.x l.x h.x z.n l.n h.n i j hi e is.x;
  y = one z.y l.y h.y z.n l.n h.n i j hi e is.y;
}
  where
    one : (zx lx hx zn ln hn i j : ℤ) → pos 0 <ℤ i → j ≡ pos 0
        → zx *ℤ ((i *ℤ ln) +ℤ (j *ℤ hn)) ≡ ((i *ℤ lx) +ℤ (j *ℤ hx)) *ℤ zn → zx *ℤ ln ≡ lx *ℤ zn
    one zx lx hx zn ln hn i j hi e is =
        let E = vars (zx ∷ lx ∷ hx ∷ zn ∷ ln ∷ hn ∷ i ∷ j ∷ []) in
        let f = ring
        (minus (times (at 0) (plus (times (at 6) (at 4)) (times (at 7) (at 5))))
        (times (plus (times (at 6) (at 1)) (times (at 7) (at 2))) (at 3)))
        (plus (times (at 6) (minus (times (at 0) (at 4)) (times (at 1) (at 3))))
        (times (minus (times (at 0) (at 5)) (times (at 2) (at 3))) (at 7))) E refl in
        let g = product_of_zero ((zx *ℤ hn) -ℤ (hx *ℤ zn)) j e in
        let k : (zx *ℤ ln) -ℤ (lx *ℤ zn) ≡ pos 0 = cancel_zero i ((zx *ℤ ln) -ℤ (lx *ℤ zn)) hi
        (omega (arith, ints, f, g, is)) in
        omega (arith, ints, k)

pub swap_same : (z l h : Vector) (i j : ℤ) → Same z (mix i l j h) → Same z (mix j h i l)
swap_same z l h i j is = record {
  x = ap (λ (n : ℤ). z.x *ℤ n) (omega (arith, ints)) ∙ is.x
      ∙ ap (λ (n : ℤ). n *ℤ z.n) (omega (arith, ints));
  y = ap (λ (n : ℤ). z.y *ℤ n) (omega (arith, ints)) ∙ is.y
      ∙ ap (λ (n : ℤ). n *ℤ z.n) (omega (arith, ints));
}

pub only_end : (s t : Edge) → IsAcross s t → (p : Point) → edges.IsEnd s p → edges.IsEnd t p
    → (z : Vector) → Place z → edges.OnStraight s z → edges.OnStraight t z → Same z (point p)
only_end s t across p sp tp z Z on_s on_t =
    let b = balanced s t z Z (on_line s z on_s) on_t in
    let zero = end_on_line s p sp in
    at_end b zero tp
  where
    no_factor : (j h : ℤ) → (h ≡ pos 0 → ⊥) → j *ℤ h ≡ pos 0 → j ≡ pos 0
    no_factor j h n k = by_sign h
        (λ (l : h <ℤ pos 0). cancel_zero (pos 0 -ℤ h) j (omega (arith, ints, l))
        (ring (times (minus (num (pos 0)) (at 1)) (at 0))
        (minus (num (pos 0)) (times (at 0) (at 1))) (vars (j ∷ h ∷ [])) refl
        ∙ omega (arith, ints, k)))
        (λ (e : h ≡ pos 0). absurd (n e))
        (λ (l : pos 0 <ℤ h). cancel_zero h j l
        (ring (times (at 1) (at 0)) (times (at 0) (at 1)) (vars (j ∷ h ∷ [])) refl ∙ k))

    other_zero : (i j g h : ℤ) → g ≡ pos 0 → (h ≡ pos 0 → ⊥) → (i *ℤ g) +ℤ (j *ℤ h) ≡ pos 0
        → j ≡ pos 0
    other_zero i j g h e n zero =
        let f = product_of_zero i g e in
        let k : j *ℤ h ≡ pos 0 = omega (arith, ints, f, zero) in
        no_factor j h n k

    swap_sum : (a b : ℤ) → a +ℤ b ≡ pos 0 → b +ℤ a ≡ pos 0
    swap_sum a b e = omega (arith, ints, e)

    at_end : IsBalanced s t z → side s (point p) ≡ pos 0 → edges.IsEnd t p → Same z (point p)
    at_end b zero (inl e) =
        let low = subst (λ (q : Point). side s (point q) ≡ pos 0) (sym e) zero in
        let j0 = other_zero b.i b.j (side s (point t.low)) (side s (point t.high)) low
        (λ k. across (low, k)) b.zero in
        let some = b.some in
        subst (λ (q : Point). Same z (point q)) e
        (only_low z (point t.low) (point t.high) b.i b.j
        (omega (arith, ints, some, j0)) j0 b.is)
    at_end b zero (inr e) =
        let high = subst (λ (q : Point). side s (point q) ≡ pos 0) (sym e) zero in
        let i0 = other_zero b.j b.i (side s (point t.high)) (side s (point t.low)) high
        (λ k. across (k, high))
        (swap_sum (b.i *ℤ side s (point t.low)) (b.j *ℤ side s (point t.high)) b.zero) in
        let some = b.some in
        subst (λ (q : Point). Same z (point q)) e
        (only_low z (point t.high) (point t.low) b.j b.i (omega (arith, ints, some, i0)) i0
        (swap_same z (point t.low) (point t.high) b.i b.j b.is))

pub touch_across : (s t : Edge) → IsAcross s t → ShareEnd s t → edges.Touch s t
touch_across s t across (p, sp, tp) =
    record { at = p; of_first = sp; of_second = tp; only = only_end s t across p sp tp }

pub bad_without_end : (s t : Edge) → Common s t → (ShareEnd s t → ⊥) → edges.Bad s t
bad_without_end s t c n = record {
  at = c.z;
  place = c.place;
  of_first = c.on_first;
  of_second = c.on_second;
  no_end = λ e. n (e.at, e.of_first, e.of_second);
}
