-- What is inside is under the outer chain, and what is outside is over the inner chain.
use Rattle.std.proofs.Common.{◌≡◌, ℤ, pos, ◌+ℤ◌, ◌*ℤ◌, ◌-ℤ◌, ◌<ℤ◌, ◌≤ℤ◌, ◌⊎◌, inl, inr, List, []}
use Rattle.std.proofs.Common.{◌∷◌, refl, arith, ap, subst, sym}
use Rattle.std.proofs.lemmas.Int.{ints, by_lt_z}
use Rattle.plane.specs.declared.kinds.Point.{Point}
use Rattle.plane.specs.Forms.Vectors.{Vector, Place, point, mix, side}
use Rattle.plane.specs.Tubes.Caps.{Cap, IsCap, shape}
use Rattle.plane.specs.Tubes.Bays.{Bay}
use Rattle.plane.specs.Tubes.CapStrips.{line, InColumn, IsUnder, AtInner}
use Rattle.plane.proofs.Caps.StripWords.{IsFence, IsDip, IsCapStrip}
use Rattle.plane.specs.Tubes.Regions.{NotUnder}
use Rattle.plane.proofs.Algebra.Laws.{product_positive, product_nonnegative, square_nonnegative}
use Rattle.plane.proofs.Linear.Signs.{mix_place}
use Rattle.plane.proofs.Algebra.Ring.{at, num, plus, minus, times, vars, ring}
use Rattle.plane.proofs.Caps.ChordCircle.{shape-mix, shape_rises}
use Rattle.plane.proofs.Caps.CapOver.{cancel_most, times_most, times_below}
use Rattle.plane.proofs.Caps.CapCorners.{SIDE}

-- ---- the place of the straight from p to q at the x of z
abbrev pub stand : Point → Point → Vector → Vector
stand p q z = mix ((q.x *ℤ z.n) -ℤ z.x) (point p) (z.x -ℤ (p.x *ℤ z.n)) (point q)

stand-n : (p q : Point) (z : Vector)
    → ((q.x *ℤ z.n) -ℤ z.x) +ℤ (z.x -ℤ (p.x *ℤ z.n)) ≡ (q.x -ℤ p.x) *ℤ z.n
stand-n p q z =
    ring (plus (minus (times (at 1) (at 3)) (at 2)) (minus (at 2) (times (at 0) (at 3))))
    (times (minus (at 1) (at 0)) (at 3)) (vars (p.x ∷ q.x ∷ z.x ∷ z.n ∷ [])) refl

pub stand-x : (p q : Point) (z : Vector) → (stand p q z).x *ℤ z.n ≡ z.x *ℤ (stand p q z).n
stand-x p q z =
    let s = minus (times (at 1) (at 3)) (at 2) in
    let t = minus (at 2) (times (at 0) (at 3)) in
    ring (times (plus (times s (at 0)) (times t (at 1))) (at 3))
    (times (at 2) (plus (times s (num (pos 1))) (times t (num (pos 1)))))
    (vars (p.x ∷ q.x ∷ z.x ∷ z.n ∷ [])) refl

pub stand-y : (p q : Point) (z : Vector)
    → (z.y *ℤ (stand p q z).n) -ℤ ((stand p q z).y *ℤ z.n) ≡ z.n *ℤ side (line p q) z
unfolding side
stand-y p q z =
    let PX = at 0 in
    let PY = at 1 in
    let QX = at 2 in let QY = at 3 in let X = at 4 in let Y = at 5 in let N = at 6 in
    let s = minus (times QX N) X in
    let t = minus X (times PX N) in
    ring (minus (times Y (plus (times s (num (pos 1))) (times t (num (pos 1)))))
    (times (plus (times s PY) (times t QY)) N)) (times N (SIDE PX PY QX QY X Y N))
    (vars (p.x ∷ p.y ∷ q.x ∷ q.y ∷ z.x ∷ z.y ∷ z.n ∷ [])) refl

pub record IsStanding (p q : Point) (z : Vector) : Type 0 where
  pub s_least : pos 0 ≤ℤ ((q.x *ℤ z.n) -ℤ z.x)
  pub t_least : pos 0 ≤ℤ (z.x -ℤ (p.x *ℤ z.n))
  pub some : pos 0 <ℤ (((q.x *ℤ z.n) -ℤ z.x) +ℤ (z.x -ℤ (p.x *ℤ z.n)))
  pub place : Place (stand p q z)

pub stands : (p q : Point) (z : Vector) → Place z → p.x <ℤ q.x → InColumn p q z → IsStanding p q z
stands p q z hz h k =
    let a : pos 0 ≤ℤ ((q.x *ℤ z.n) -ℤ z.x) = (let e = k.high in omega (arith, ints, e)) in
    let b : pos 0 ≤ℤ (z.x -ℤ (p.x *ℤ z.n)) = (let e = k.low in omega (arith, ints, e)) in
    let m = product_positive (q.x -ℤ p.x) z.n (omega (arith, ints, h)) hz in
    let d : pos 0 <ℤ (((q.x *ℤ z.n) -ℤ z.x) +ℤ (z.x -ℤ (p.x *ℤ z.n))) = subst
    (λ (v : ℤ). pos 0 <ℤ v) (sym (stand-n p q z)) m in
    let one : pos 0 <ℤ pos 1 = omega (arith, ints) in
    record {
      s_least = a;
      t_least = b;
      some = d;
      place = mix_place ((q.x *ℤ z.n) -ℤ z.x) (point p) (z.x -ℤ (p.x *ℤ z.n))
          (point q) one one a b d;
    }

no_rise : (x y : ℤ) → x <ℤ y → pos 0 ≤ℤ x → y ≤ℤ pos 0 → ⊥
no_rise x y a b d = omega (arith, ints, a, b, d)

-- ---- against a fence, and against an inner straight
pub fence_over : (c : Cap) (p q : Point) (z : Vector) → IsCap c → Place z → p.x <ℤ q.x
    → IsFence c p q → pos 0 ≤ℤ z.y → shape c z ≤ℤ pos 0 → InColumn p q z
    → side (line p q) z ≤ℤ pos 0
fence_over c p q z hc hz h f hy inside k = by_lt_z (pos 0) (side (line p q) z)
    (λ (l : pos 0 <ℤ side (line p q) z). absurd (against l))
    (λ l. l)
  where
    against : pos 0 <ℤ side (line p q) z → ⊥
    against l =
        let w = stands p q z hz h k in
        let clear = f.clear ((q.x *ℤ z.n) -ℤ z.x)
        (z.x -ℤ (p.x *ℤ z.n)) w.s_least w.t_least w.some in
        let ya = product_nonnegative ((q.x *ℤ z.n) -ℤ z.x) p.y w.s_least f.low in
        let yb = product_nonnegative (z.x -ℤ (p.x *ℤ z.n)) q.y w.t_least f.high in
        let lift = product_positive z.n (side (line p q) z) hz l in
        let e = stand-y p q z in
        let rises = shape_rises c (stand p q z) z hc w.place hz (stand-x p q z)
        (omega (arith, ints, ya, yb)) (omega (arith, ints, e, lift)) in
        let a = product_nonnegative (z.n *ℤ z.n) (shape c (stand p q z))
        (square_nonnegative z.n) clear in
        let b = times_most ((stand p q z).n *ℤ (stand p q z).n) (shape c z)
        (square_nonnegative (stand p q z).n) inside in
        no_rise _ _ rises a b

-- what is not outside is convex
pub most_mix : (c : Cap) (s : ℤ) (p : Vector) (t : ℤ) (q : Vector) → IsCap c → Place p → Place q
    → pos 0 ≤ℤ s → pos 0 ≤ℤ t
    → shape c p ≤ℤ pos 0 → shape c q ≤ℤ pos 0 → shape c (mix s p t q) ≤ℤ pos 0
most_mix c s p t q hc hp hq hs ht a b =
    let dx = (q.n *ℤ p.x) -ℤ (p.n *ℤ q.x) in
    let dy = (q.n *ℤ p.y) -ℤ (p.n *ℤ q.y) in
    let hp0 : pos 0 ≤ℤ p.n = omega (arith, ints, hp) in
    let hq0 : pos 0 ≤ℤ q.n = omega (arith, ints, hq) in
    let hg = hc.size in
    let hg0 : pos 0 ≤ℤ c.size = omega (arith, ints, hg) in
    let nn = product_positive p.n q.n hp hq in
    let sn = product_nonnegative s p.n hs hp0 in
    let tn = product_nonnegative t q.n ht hq0 in
    let far1 = product_nonnegative c.size (dx *ℤ dx) hg0 (square_nonnegative dx) in
    let far2 = square_nonnegative dy in
    let st = product_nonnegative s t hs ht in
    let d = product_nonnegative (s *ℤ t) ((c.size *ℤ (dx *ℤ dx)) +ℤ (dy *ℤ dy)) st
    (omega (arith, ints, far1, far2)) in
    let f = times_most s (q.n *ℤ shape c p) hs (times_most q.n (shape c p) hq0 a) in
    let g = times_most t (p.n *ℤ shape c q) ht (times_most p.n (shape c q) hp0 b) in
    let w = times_most ((s *ℤ p.n) +ℤ (t *ℤ q.n))
    ((s *ℤ (q.n *ℤ shape c p)) +ℤ (t *ℤ (p.n *ℤ shape c q))) (omega (arith, ints, sn, tn))
    (omega (arith, ints, f, g)) in
    cancel_most (p.n *ℤ q.n) (shape c (mix s p t q)) nn (sum _ _ _ (shape-mix c s p t q) w d)
  where
    sum : (x w d : ℤ) → x ≡ w -ℤ d → w ≤ℤ pos 0 → pos 0 ≤ℤ d → x ≤ℤ pos 0
    sum x w d e h k = omega (arith, ints)

pub chain_under : (c : Cap) (p q : Point) (z : Vector) → IsCap c → Place z → p.x <ℤ q.x
    → shape c (point p) ≤ℤ pos 0 → shape c (point q) ≤ℤ pos 0 → pos 0 ≤ℤ z.y → pos 0 ≤ℤ shape c z
    → InColumn p q z
    → pos 0 ≤ℤ side (line p q) z
chain_under c p q z hc hz h ip iq hy outside k = by_lt_z (side (line p q) z) (pos 0)
    (λ (l : side (line p q) z <ℤ pos 0). absurd (against l))
    (λ l. l)
  where
    against : side (line p q) z <ℤ pos 0 → ⊥
    against l =
        let w = stands p q z hz h k in
        let one : pos 0 <ℤ pos 1 = omega (arith, ints) in
        let inside = most_mix c ((q.x *ℤ z.n) -ℤ z.x) (point p) (z.x -ℤ (p.x *ℤ z.n))
        (point q) hc one one w.s_least w.t_least ip iq in
        let fall = times_below z.n (side (line p q) z) hz l in
        let e = stand-y p q z in
        let rises = shape_rises c z (stand p q z) hc hz w.place (sym (stand-x p q z)) hy
        (omega (arith, ints, e, fall)) in
        let a = times_most (z.n *ℤ z.n) (shape c (stand p q z)) (square_nonnegative z.n) inside in
        let b = product_nonnegative ((stand p q z).n *ℤ (stand p q z).n) (shape c z)
        (square_nonnegative (stand p q z).n) outside in
        no_rise _ _ rises b a

-- ---- along the strip
pub under_fences : (c : Cap) (z : Vector) (q p : Point) (bs : List Bay) → IsCap c → Place z
    → IsCapStrip c q p bs → pos 0 ≤ℤ z.y → shape c z ≤ℤ pos 0 → IsUnder z q p bs
under_fences c z q p [] hc hz h hy inside = λ k. fence_over c q p z hc hz h.1 h.2 hy inside k
under_fences c z q p (b ∷ rest) hc hz h hy inside = (
  (λ k. fence_over c q b.outer z hc hz (before h.1) h.2 hy inside k),
  under_fences c z b.outer b.inner rest hc hz h.4 hy inside,
)
  where
    before : (q ≡ p) ⊎ IsDip q p b.outer → q.x <ℤ b.outer.x
    before (inl e) =
        let k = ap (λ (v : Point). v.x) e in let u = h.0.up in omega (arith, ints, k, u)
    before (inr d) = let k = d.up in let u = h.0.up in omega (arith, ints, k, u)

pub strip_inner : (c : Cap) (q p : Point) (bs : List Bay) → IsCapStrip c q p bs
    → shape c (point p) ≤ℤ pos 0
strip_inner c q p [] h = h.3
strip_inner c q p (b ∷ rest) h = h.3

pub over_inner : (c : Cap) (z : Vector) (q p : Point) (bs : List Bay) → IsCap c → Place z
    → IsCapStrip c q p bs → pos 0 ≤ℤ z.y → pos 0 ≤ℤ shape c z → AtInner NotUnder z p bs
over_inner c z q p [] hc hz h hy outside = tt
over_inner c z q p (b ∷ rest) hc hz h hy outside =
    let a = h.0.up in
    let d = h.0.on in (
      (λ k. chain_under c p b.inner z hc hz (omega (arith, ints, a, d)) h.3
          (strip_inner c b.outer b.inner rest h.4) hy outside k),
      over_inner c z b.outer b.inner rest hc hz h.4 hy outside,
    )
