-- Two edges that are not bad keep their order on the sweep.
-- It can only end where both end in one point.
use Rattle.std.proofs.Common.{◌≡◌, ℕ, ℤ, pos, ◌+ℤ◌, ◌*ℤ◌, ◌-ℤ◌, ◌<ℤ◌, ◌≤ℤ◌, ◌⊎◌, inl, inr, [], ◌∷◌}
use Rattle.std.proofs.Common.{refl, arith, ap, sym, ◌∙◌, subst}
use Rattle.std.proofs.lemmas.Int.{ints, by_lt_z}
use Rattle.plane.specs.declared.kinds.Point.{Point}
use Rattle.plane.specs.Forms.Vectors.{Vector, Place, point, mix, up, Edge, side, sweep, rise, gap}
use Rattle.plane.specs.Forms.Vectors.{foot, On}
use Rattle.plane.specs.Forms.Meets.{IsEnd}
use Rattle.plane.specs.Forms.Meets.{OnStraight, Fine}
use Rattle.plane.specs.Runs.Sweeps.{Lies}
use Rattle.plane.proofs.Algebra.Laws.{product_positive, product_nonnegative, positive_factor}
use Rattle.plane.proofs.Algebra.Ring.{at, num, plus, minus, times, vars, ring}
use Rattle.plane.proofs.Linear.Vectors.{side-mix, sweep-mix, side-up, rise-is, side-low, side-high}
use Rattle.plane.proofs.Linear.Vectors.{gap-three, gap-mix}
use Rattle.plane.proofs.Linear.Signs.{mix_place, foot-side, foot-sweep, foot-n, foot_place}
use Rattle.plane.proofs.Runs.Meeting.{same_sweep}
use Rattle.plane.proofs.Linear.Straights.{on_is}

pub straight_on : (w : ℤ) (e : Edge) (z : Vector) → pos 0 <ℤ rise w e → Place z → OnStraight e z
    → On w e z
straight_on w e z h P = (on_is w e z h P).1

pub on_straight : (w : ℤ) (e : Edge) (z : Vector) → pos 0 <ℤ rise w e → Place z → On w e z
    → OnStraight e z
on_straight w e z h P = (on_is w e z h P).0

-- the other edge at a foot
pub foot-gap : (w : ℤ) (a b : Edge) (y : Vector) → side b (foot w a y) ≡ gap w a b y
unfolding gap
foot-gap w a b y =
    side-mix b (rise w a) y (pos 0 -ℤ side a y) (up w)
    ∙ ap (λ v. (rise w a *ℤ side b y) +ℤ ((pos 0 -ℤ side a y) *ℤ v)) (side-up w b)
    ∙ ring (plus (times (at 0) (at 2)) (times (minus (num (pos 0)) (at 3)) (at 1)))
    (minus (times (at 0) (at 2)) (times (at 1) (at 3)))
    (vars (rise w a ∷ rise w b ∷ side b y ∷ side a y ∷ [])) refl

-- a value before z's and not after p's is before that of a place between them that is not p
mix_after : (l tp s n g h : ℤ) → pos 0 <ℤ n → l ≤ℤ tp → (tp *ℤ n) <ℤ s → pos 0 ≤ℤ g → pos 0 <ℤ h
    → (l *ℤ ((g *ℤ pos 1) +ℤ (h *ℤ n))) <ℤ ((g *ℤ tp) +ℤ (h *ℤ s))
mix_after l tp s n g h hn hl hs hg hh =
    let a = product_nonnegative g (tp -ℤ l) hg (omega (arith, ints, hl)) in
    let b = product_nonnegative n (tp -ℤ l) (omega (arith, ints, hn)) (omega (arith, ints, hl)) in
    let b2 = ring (times (at 3) (minus (at 1) (at 0)))
    (minus (times (at 1) (at 3)) (times (at 0) (at 3)))
    (vars (l ∷ tp ∷ s ∷ n ∷ g ∷ h ∷ [])) refl in
    let c = product_positive h (s -ℤ (l *ℤ n)) hh (omega (arith, ints, b, b2, hs)) in
    let e = ring
    (plus (times (at 4) (minus (at 1) (at 0)))
    (times (at 5) (minus (at 2) (times (at 0) (at 3)))))
    (minus (plus (times (at 4) (at 1)) (times (at 5) (at 2)))
    (times (at 0) (plus (times (at 4) (num (pos 1))) (times (at 5) (at 3)))))
    (vars (l ∷ tp ∷ s ∷ n ∷ g ∷ h ∷ [])) refl in
    omega (arith, ints, a, c, e)

mix_upto : (u tp s n g h : ℤ) → tp ≤ℤ u → s ≤ℤ (u *ℤ n) → pos 0 ≤ℤ g → pos 0 <ℤ h
    → ((g *ℤ tp) +ℤ (h *ℤ s)) ≤ℤ (u *ℤ ((g *ℤ pos 1) +ℤ (h *ℤ n)))
mix_upto u tp s n g h hu hs hg hh =
    let a = product_nonnegative g (u -ℤ tp) hg (omega (arith, ints, hu)) in
    let c = product_nonnegative h ((u *ℤ n) -ℤ s) (omega (arith, ints, hh))
    (omega (arith, ints, hs)) in
    let e = ring
    (plus (times (at 4) (minus (at 0) (at 1)))
    (times (at 5) (minus (times (at 0) (at 3)) (at 2))))
    (minus (times (at 0) (plus (times (at 4) (num (pos 1))) (times (at 5) (at 3))))
    (plus (times (at 4) (at 1)) (times (at 5) (at 2))))
    (vars (u ∷ tp ∷ s ∷ n ∷ g ∷ h ∷ [])) refl in
    omega (arith, ints, a, c, e)

mix_before : (u tp s n g h : ℤ) → tp ≤ℤ u → s <ℤ (u *ℤ n) → pos 0 ≤ℤ g → pos 0 <ℤ h
    → ((g *ℤ tp) +ℤ (h *ℤ s)) <ℤ (u *ℤ ((g *ℤ pos 1) +ℤ (h *ℤ n)))
mix_before u tp s n g h hu hs hg hh =
    let a = product_nonnegative g (u -ℤ tp) hg (omega (arith, ints, hu)) in
    let c = product_positive h ((u *ℤ n) -ℤ s) hh (omega (arith, ints, hs)) in
    let e = ring
    (plus (times (at 4) (minus (at 0) (at 1)))
    (times (at 5) (minus (times (at 0) (at 3)) (at 2))))
    (minus (times (at 0) (plus (times (at 4) (num (pos 1))) (times (at 5) (at 3))))
    (plus (times (at 4) (at 1)) (times (at 5) (at 2))))
    (vars (u ∷ tp ∷ s ∷ n ∷ g ∷ h ∷ [])) refl in
    omega (arith, ints, a, c, e)

-- the span of a foot
pub foot_late : (w : ℤ) (e : Edge) (y : Vector) (v : Point) → pos 0 <ℤ rise w e
    → (sweep w (point v) *ℤ y.n) <ℤ sweep w y
    → (sweep w (point v) *ℤ (foot w e y).n) <ℤ sweep w (foot w e y)
foot_late w e y v h l =
    rw (foot-sweep w e y, foot-n w e y)
    (weighted (rise w e) (sweep w (point v)) y.n (sweep w y) h l)
  where
    weighted : (r a n b : ℤ) → pos 0 <ℤ r → (a *ℤ n) <ℤ b → (a *ℤ (r *ℤ n)) <ℤ (r *ℤ b)
    weighted r a n b h l =
        let p = product_positive r (b -ℤ (a *ℤ n)) h (omega (arith, ints, l)) in
        let e = ring (times (at 0) (minus (at 3) (times (at 1) (at 2))))
        (minus (times (at 0) (at 3)) (times (at 1) (times (at 0) (at 2))))
        (vars (r ∷ a ∷ n ∷ b ∷ [])) refl in
        omega (arith, ints, p, e)

pub foot_upto : (w : ℤ) (e : Edge) (y : Vector) (v : Point) → pos 0 <ℤ rise w e
    → sweep w y ≤ℤ (sweep w (point v) *ℤ y.n)
    → sweep w (foot w e y) ≤ℤ (sweep w (point v) *ℤ (foot w e y).n)
foot_upto w e y v h l =
    rw (foot-sweep w e y, foot-n w e y)
    (weighted (rise w e) (sweep w (point v)) y.n (sweep w y) h l)
  where
    weighted : (r a n b : ℤ) → pos 0 <ℤ r → b ≤ℤ (a *ℤ n) → (r *ℤ b) ≤ℤ (a *ℤ (r *ℤ n))
    weighted r a n b h l =
        let p = product_nonnegative r ((a *ℤ n) -ℤ b) (omega (arith, ints, h))
        (omega (arith, ints, l)) in
        let e = ring (times (at 0) (minus (times (at 1) (at 2)) (at 3)))
        (minus (times (at 1) (times (at 0) (at 2))) (times (at 0) (at 3)))
        (vars (r ∷ a ∷ n ∷ b ∷ [])) refl in
        omega (arith, ints, p, e)

pub foot_early : (w : ℤ) (e : Edge) (y : Vector) (v : Point) → pos 0 <ℤ rise w e
    → sweep w y <ℤ (sweep w (point v) *ℤ y.n)
    → sweep w (foot w e y) <ℤ (sweep w (point v) *ℤ (foot w e y).n)
foot_early w e y v h l =
    rw (foot-sweep w e y, foot-n w e y)
    (weighted (rise w e) (sweep w (point v)) y.n (sweep w y) h l)
  where
    weighted : (r a n b : ℤ) → pos 0 <ℤ r → b <ℤ (a *ℤ n) → (r *ℤ b) <ℤ (a *ℤ (r *ℤ n))
    weighted r a n b h l =
        let p = product_positive r ((a *ℤ n) -ℤ b) h (omega (arith, ints, l)) in
        let e = ring (times (at 0) (minus (times (at 1) (at 2)) (at 3)))
        (minus (times (at 1) (times (at 0) (at 2))) (times (at 0) (at 3)))
        (vars (r ∷ a ∷ n ∷ b ∷ [])) refl in
        omega (arith, ints, p, e)

-- an event value that is before z's is not after an end that is not before z
not_after : (tp u s n : ℤ) → pos 0 <ℤ n → (tp *ℤ n) <ℤ s → s ≤ℤ (u *ℤ n) → tp ≤ℤ u
not_after tp u s n h k l = by_lt_z u tp
    (λ (i : u <ℤ tp).
    let x = product_positive n (tp -ℤ u) h (omega (arith, ints, i)) in
    let e = ring (times (at 2) (minus (at 0) (at 1)))
    (minus (times (at 0) (at 2)) (times (at 1) (at 2))) (vars (tp ∷ u ∷ n ∷ [])) refl in
    absurd (omega (arith, ints, x, e, k, l)))
    (λ i. i)

-- where z is taken in the sweep, against a point that was passed and two edges that have begun
-- there and have not ended before z
pub record Spans (w : ℤ) (a b : Edge) (p : Point) (z : Vector) : Type 0 where
  pub place : Place z
  pub rise_first : pos 0 <ℤ rise w a
  pub rise_second : pos 0 <ℤ rise w b
  pub low_first : sweep w (point a.low) ≤ℤ sweep w (point p)
  pub low_second : sweep w (point b.low) ≤ℤ sweep w (point p)
  pub after : (sweep w (point p) *ℤ z.n) <ℤ sweep w z
  pub high_first : sweep w z ≤ℤ (sweep w (point a.high) *ℤ z.n)
  pub high_second : sweep w z ≤ℤ (sweep w (point b.high) *ℤ z.n)

-- z is on the sweep line of a common high end
abbrev pub EndTogether : ℤ → Edge → Edge → Vector → Type 0
EndTogether w a b z = (a.high ≡ b.high) × (sweep w z ≡ sweep w (point a.high) *ℤ z.n)

-- where the order is lost, the two edges have a common place, and so a common high end
lost : (w : ℤ) (a b : Edge) (p : Point) (z : Vector) → Spans w a b p z → Fine a b
    → gap w a b (point p) <ℤ pos 0 → pos 0 ≤ℤ gap w a b z → EndTogether w a b z
lost w a b p z i fine below above =
    let g = gap w a b z in
    let h = pos 0 -ℤ gap w a b (point p) in
    let hh : pos 0 <ℤ h = omega (arith, ints, below) in
    let y = mix g (point p) h z in
    let hz = i.place in let ra = i.rise_first in let rb = i.rise_second in
    let py : Place y = mix_place g (point p) h z (omega (arith, ints)) hz above
    (omega (arith, ints, hh)) (omega (arith, ints, hh, above)) in
    let level : gap w a b y ≡ pos 0 = gap-mix w a b g (point p) h z
    ∙ ring (plus (times (at 0) (at 1)) (times (minus (num (pos 0)) (at 1)) (at 0)))
    (num (pos 0)) (vars (g ∷ gap w a b (point p) ∷ [])) refl in
    let sy = sweep-mix w g (point p) h z in
    let af = i.after in let ha = i.high_first in let hb = i.high_second in
    let la : (sweep w (point a.low) *ℤ y.n) <ℤ sweep w y = rw sy
    (mix_after (sweep w (point a.low)) (sweep w (point p))
    (sweep w z) z.n g h hz i.low_first af above hh) in
    let lb : (sweep w (point b.low) *ℤ y.n) <ℤ sweep w y = rw sy
    (mix_after (sweep w (point b.low)) (sweep w (point p))
    (sweep w z) z.n g h hz i.low_second af above hh) in
    let tua = not_after (sweep w (point p)) (sweep w (point a.high)) (sweep w z) z.n hz af ha in
    let tub = not_after (sweep w (point p)) (sweep w (point b.high)) (sweep w z) z.n hz af hb in
    let ua : sweep w y ≤ℤ (sweep w (point a.high) *ℤ y.n) = rw sy
    (mix_upto (sweep w (point a.high)) (sweep w (point p))
    (sweep w z) z.n g h tua ha above hh) in
    let ub : sweep w y ≤ℤ (sweep w (point b.high) *ℤ y.n) = rw sy
    (mix_upto (sweep w (point b.high)) (sweep w (point p))
    (sweep w z) z.n g h tub hb above hh) in
    let f = foot w a y in
    let pf = foot_place w a y ra py in
    let lfa = foot_late w a y a.low ra la in
    let lfb = foot_late w a y b.low ra lb in
    let oa : On w a f = record {
      line = foot-side w a y;
      low = weak _ _ lfa;
      high = foot_upto w a y a.high ra ua;
    } in
    let ob : On w b f = record {
      line = foot-gap w a b y ∙ level;
      low = weak _ _ lfb;
      high = foot_upto w a y b.high ra ub;
    } in
    let c = fine f pf (on_straight w a f ra pf oa) (on_straight w b f rb pf ob) in
    let at_c = same_sweep w f c.at c.is in
    let first : a.high ≡ c.at = high_of w a f c.at lfa at_c c.of_first in
    let second : b.high ≡ c.at = high_of w b f c.at lfb at_c c.of_second in
    let upto : (sweep w (point a.high) *ℤ z.n) ≤ℤ sweep w z = by_lt_z (sweep w z)
    (sweep w (point a.high) *ℤ z.n)
    (λ (l : sweep w z <ℤ (sweep w (point a.high) *ℤ z.n)).
    let early : sweep w y <ℤ (sweep w (point a.high) *ℤ y.n) = rw sy
    (mix_before (sweep w (point a.high)) (sweep w (point p))
    (sweep w z) z.n g h tua l above hh) in
    let ef = foot_early w a y a.high ra early in
    absurd (not_less _ _ ef (at_high w f a.high c.at first at_c)))
    (λ l. l) in
    (one_end a.high c.at b.high first second, equal_both _ _ ha upto)
  where
    weak : (x y : ℤ) → x <ℤ y → x ≤ℤ y
    weak x y h = omega (arith, ints)

    not_less : (x y : ℤ) → x <ℤ y → x ≡ y → ⊥
    not_less x y h e = omega (arith, ints)

    equal_both : (x y : ℤ) → x ≤ℤ y → y ≤ℤ x → x ≡ y
    equal_both x y h k = omega (arith, ints)

    one_end : (p q r : Point) → p ≡ q → r ≡ q → p ≡ r
    one_end p q r h k = h ∙ sym k

    at_high : (w : ℤ) (f : Vector) (h c : Point) → h ≡ c → sweep w f ≡ sweep w (point c) *ℤ f.n
        → sweep w f ≡ sweep w (point h) *ℤ f.n
    at_high w f h c e s = subst (λ q. sweep w f ≡ sweep w (point q) *ℤ f.n) (sym e) s

    high_of : (w : ℤ) (e : Edge) (f : Vector) (c : Point)
        → (sweep w (point e.low) *ℤ f.n) <ℤ sweep w f → sweep w f ≡ sweep w (point c) *ℤ f.n
        → IsEnd e c → e.high ≡ c
    high_of w e f c l s (inl q) =
        absurd (not_less _ _ (subst (λ q. (sweep w (point q) *ℤ f.n) <ℤ sweep w f) q l) (sym s))
    high_of w e f c l s (inr q) = q

pub gap_kept : (w : ℤ) (a b : Edge) (p : Point) (z : Vector) → Spans w a b p z → Fine a b
    → gap w a b (point p) <ℤ pos 0 → (gap w a b z <ℤ pos 0) ⊎ EndTogether w a b z
gap_kept w a b p z i fine below =
    by_lt_z (gap w a b z) (pos 0) (λ l. inl l)
    (λ (l : pos 0 ≤ℤ gap w a b z). inr (lost w a b p z i fine below l))

-- two edges that start together and turn apart
gap_fan : (w : ℤ) (a b : Edge) (p : Point) (z : Vector) → Spans w a b p z → a.low ≡ p → b.low ≡ p
    → pos 0 <ℤ side a (point b.high) → gap w a b z <ℤ pos 0
unfolding gap
gap_fan w a b p z i la lb turn =
    let za : side a (point p) ≡ pos 0 = subst (λ q. side a (point q) ≡ pos 0) la (side-low a) in
    let zb : side b (point p) ≡ pos 0 = subst (λ q. side b (point q) ≡ pos 0) lb (side-low b) in
    let r = rise-is w b in
    let rb = i.rise_second in
    let up : sweep w (point p) <ℤ sweep w (point b.high) = subst
    (λ q. sweep w (point q) <ℤ sweep w (point b.high)) lb (omega (arith, ints, r, rb)) in
    fan (rise w a) (rise w b) (side a (point p)) (side b (point p)) (side a (point b.high))
    (side b (point b.high)) (gap w a b z) (sweep w (point p)) (sweep w (point b.high))
    (sweep w z) z.n
    za zb (side-high b) turn rb up i.after (gap-three w a b z (point p) (point b.high))
  where
    fan : (ra rb ap bp aq bq d tp tq s n : ℤ) → ap ≡ pos 0 → bp ≡ pos 0 → bq ≡ pos 0 → pos 0 <ℤ aq
        → pos 0 <ℤ rb → tp <ℤ tq → (tp *ℤ n) <ℤ s
        → d *ℤ ((tq *ℤ pos 1) -ℤ (tp *ℤ pos 1))
        ≡ (((ra *ℤ bp) -ℤ (rb *ℤ ap)) *ℤ ((tq *ℤ n) -ℤ (s *ℤ pos 1)))
        +ℤ (((ra *ℤ bq) -ℤ (rb *ℤ aq)) *ℤ ((s *ℤ pos 1) -ℤ (tp *ℤ n)))
        → d <ℤ pos 0
    fan ra rb ap bp aq bq d tp tq s n ea eb ec turn hr up after e =
        let e2 = subst (λ x. d *ℤ ((tq *ℤ pos 1) -ℤ (tp *ℤ pos 1))
        ≡ (((ra *ℤ bp) -ℤ (rb *ℤ x)) *ℤ ((tq *ℤ n) -ℤ (s *ℤ pos 1)))
        +ℤ (((ra *ℤ bq) -ℤ (rb *ℤ aq)) *ℤ ((s *ℤ pos 1) -ℤ (tp *ℤ n)))) ea e in
        let e3 = subst (λ x. d *ℤ ((tq *ℤ pos 1) -ℤ (tp *ℤ pos 1))
        ≡ (((ra *ℤ x) -ℤ (rb *ℤ pos 0)) *ℤ ((tq *ℤ n) -ℤ (s *ℤ pos 1)))
        +ℤ (((ra *ℤ bq) -ℤ (rb *ℤ aq)) *ℤ ((s *ℤ pos 1) -ℤ (tp *ℤ n)))) eb e2 in
        let e4 = subst (λ x. d *ℤ ((tq *ℤ pos 1) -ℤ (tp *ℤ pos 1))
        ≡ (((ra *ℤ pos 0) -ℤ (rb *ℤ pos 0)) *ℤ ((tq *ℤ n) -ℤ (s *ℤ pos 1)))
        +ℤ (((ra *ℤ x) -ℤ (rb *ℤ aq)) *ℤ ((s *ℤ pos 1) -ℤ (tp *ℤ n)))) ec e3 in
        let i = ring
        (plus (times (minus (times (at 0) (num (pos 0))) (times (at 1) (num (pos 0))))
        (minus (times (at 4) (at 6)) (times (at 5) (num (pos 1)))))
        (times (minus (times (at 0) (num (pos 0))) (times (at 1) (at 2)))
        (minus (times (at 5) (num (pos 1))) (times (at 3) (at 6)))))
        (minus (num (pos 0)) (times (times (at 1) (at 2)) (minus (at 5) (times (at 3) (at 6)))))
        (vars (ra ∷ rb ∷ aq ∷ tp ∷ tq ∷ s ∷ n ∷ [])) refl in
        let j = ring (times (minus (at 2) (at 1)) (minus (num (pos 0)) (at 0)))
        (minus (num (pos 0))
        (times (at 0) (minus (times (at 2) (num (pos 1))) (times (at 1) (num (pos 1))))))
        (vars (d ∷ tp ∷ tq ∷ [])) refl in
        let k = product_positive (rb *ℤ aq) (s -ℤ (tp *ℤ n)) (product_positive rb aq hr turn)
        (omega (arith, ints, after)) in
        let y = positive_factor (tq -ℤ tp) (pos 0 -ℤ d) (omega (arith, ints, up))
        (chain _ _ _ _ j e4 i k) in
        omega (arith, ints, y)
      where
        chain : (x y z u : ℤ) → x ≡ pos 0 -ℤ y → y ≡ z → z ≡ pos 0 -ℤ u → pos 0 <ℤ u → pos 0 <ℤ x
        chain x y z u e f g h = omega (arith, ints, e, f, g, h)

-- an order at p is kept up to z, or z is on the sweep line of a common high end
pub order_kept : (w : ℤ) (E : ℕ → Edge) (p : Point) (z : Vector) (a b : ℕ) → Spans w (E a) (E b) p z
    → Fine (E a) (E b) → Lies w E p a b
    → (gap w (E a) (E b) z <ℤ pos 0) ⊎ EndTogether w (E a) (E b) z
order_kept w E p z a b i fine (inl l) = gap_kept w (E a) (E b) p z i fine l
order_kept w E p z a b i fine (inr (la, lb, t)) = inl (gap_fan w (E a) (E b) p z i la lb t)
