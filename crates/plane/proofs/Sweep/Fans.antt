-- Edges that start together: sorted ones that are not bad turn strictly left.
-- A list in strict order has no edge twice.
use Rattle.std.proofs.Common.{◌≡◌, ℕ, ◌<◌, ℤ, pos, ◌*ℤ◌, ◌-ℤ◌, ◌<ℤ◌, ◌≤ℤ◌, inl, inr, List, [], ◌∷◌}
use Rattle.std.proofs.Common.{refl, arith, sym, ◌∙◌, subst}
use Rattle.std.proofs.lemmas.Int.{ints, by_lt_z}
use Rattle.plane.specs.declared.kinds.Point.{Point}
use Rattle.plane.specs.Forms.Vectors.{Vector, Place, point, mix, Edge, side, sweep, rise, gap, On}
use Rattle.plane.specs.Lists.{Each, Neighbours, Has, Once}
use Rattle.plane.specs.Runs.Steps.{Step, after, Turns, live}
use Rattle.plane.specs.Forms.Meets.{IsEnd}
use Rattle.plane.specs.Forms.Meets.{Fine}
use Rattle.plane.specs.Runs.Sweeps.{FinePair, Front}
use Rattle.plane.proofs.Sweep.SweepWords.{Ready}
use Rattle.plane.proofs.Algebra.Laws.{product_positive, positive_factor}
use Rattle.plane.proofs.Algebra.Ring.{at, num, plus, minus, times, vars, ring}
use Rattle.plane.proofs.ListLemmas.Lists.{each_has, each_from, neighbours_both}
use Rattle.plane.proofs.Linear.Vectors.{side-mix, sweep-mix, rise-is, side-low}
use Rattle.plane.proofs.Runs.Meeting.{same_sweep, middle, middle_on}
use Rattle.plane.proofs.Sweep.Pairs.{on_straight}
use Rattle.plane.proofs.Sweep.Fronts.{front_cut, live_rise, strict_between}

-- ---- edges with one low end
fan_swap : (l h k : Point) → side (record { low = l; high = k }) (point h)
    ≡ pos 0 -ℤ side (record { low = l; high = h }) (point k)
unfolding side
fan_swap l h k =
    let LX = at 0 in
    let LY = at 1 in let HX = at 2 in let HY = at 3 in let KX = at 4 in let KY = at 5 in
    let one = num (pos 1) in
    ring (minus (times (minus KX LX) (minus HY (times LY one)))
    (times (minus KY LY) (minus HX (times LX one))))
    (minus (num (pos 0))
    (minus (times (minus HX LX) (minus KY (times LY one)))
    (times (minus HY LY) (minus KX (times LX one)))))
    (vars (l.x ∷ l.y ∷ h.x ∷ h.y ∷ k.x ∷ k.y ∷ [])) refl

pub turn_back : (a b : Edge) → a.low ≡ b.low
    → side b (point a.high) ≡ pos 0 -ℤ side a (point b.high)
turn_back a b h =
    subst (λ q. side (record { low = q; high = b.high }) (point a.high)
    ≡ pos 0 -ℤ side a (point b.high)) h (fan_swap a.low a.high b.high)

-- the middle of an edge is no end of it
pub middle_end : (w : ℤ) (e : Edge) (c : Point) → pos 0 <ℤ rise w e
    → sweep w (middle e) ≡ sweep w (point c) *ℤ (middle e).n → IsEnd e c → ⊥
middle_end w e c h m (inl q) =
    let r = rise-is w e in let s = sweep-mix w (pos 1) (point e.low) (pos 1) (point e.high) in
    let u = subst (λ p. sweep w (middle e) ≡ sweep w (point p) *ℤ (middle e).n) (sym q) m in
    omega (arith, ints, h, r, s, u)
middle_end w e c h m (inr q) =
    let r = rise-is w e in let s = sweep-mix w (pos 1) (point e.low) (pos 1) (point e.high) in
    let u = subst (λ p. sweep w (middle e) ≡ sweep w (point p) *ℤ (middle e).n) (sym q) m in
    omega (arith, ints, h, r, s, u)

-- two edges that start together in one direction: the middle of the shorter one is a common place
one_direction : (w : ℤ) (a b : Edge) → pos 0 <ℤ rise w a → pos 0 <ℤ rise w b → a.low ≡ b.low
    → side a (point b.high) ≡ pos 0 → sweep w (point b.high) ≤ℤ sweep w (point a.high) → Fine a b
    → ⊥
one_direction w a b ra rb low line short fine =
    let z = middle b in
    let r = rise-is w b in
    let s = sweep-mix w (pos 1) (point b.low) (pos 1) (point b.high) in
    let l = side-mix a (pos 1) (point b.low) (pos 1) (point b.high) in
    let start : side a (point b.low) ≡ pos 0 = subst (λ q. side a (point q) ≡ pos 0) low
    (side-low a) in
    let same : sweep w (point a.low) ≡ sweep w (point b.low) = subst
    (λ q. sweep w (point a.low) ≡ sweep w (point q)) low refl in
    let oa : On w a z = record {
      line = omega (arith, ints, l, start, line);
      low = omega (arith, ints, same, s, r, rb);
      high = omega (arith, ints, s, r, rb, short);
    } in
    let P : Place z = omega (arith, ints) in
    let c = fine z P (on_straight w a z ra P oa) (on_straight w b z rb P (middle_on w b rb)) in
    middle_end w b c.at rb (same_sweep w z c.at c.is) c.of_second

fine_back : (a b : Edge) → Fine a b → Fine b a
fine_back a b fine z hz ob oa =
    let c = fine z hz oa ob in
    record { at = c.at; of_first = c.of_second; of_second = c.of_first; is = c.is }

pub turns_apart : (w : ℤ) (a b : Edge) → pos 0 <ℤ rise w a → pos 0 <ℤ rise w b → a.low ≡ b.low
    → Fine a b → pos 0 ≤ℤ side a (point b.high) → pos 0 <ℤ side a (point b.high)
turns_apart w a b ra rb low fine h = by_lt_z (pos 0) (side a (point b.high))
    (λ l. l)
    (λ (l : side a (point b.high) ≤ℤ pos 0).
    let line : side a (point b.high) ≡ pos 0 = omega (arith, ints, l, h) in
    by_lt_z (sweep w (point a.high)) (sweep w (point b.high))
    (λ (i : sweep w (point a.high) <ℤ sweep w (point b.high)).
    let t = turn_back a b low in
    absurd (one_direction w b a rb ra (sym low) (omega (arith, ints, t, line))
    (omega (arith, ints, i)) (fine_back a b fine)))
    (λ (i : sweep w (point b.high) ≤ℤ sweep w (point a.high)). absurd
    (one_direction w a b ra rb low line i fine)))

pub sorted_turns : (w : ℤ) (m : ℕ) (E : ℕ → Edge) (v : Point) (xs : List ℕ)
    → ((e : ℕ) → Has e xs → (e < m) × ((E e).low ≡ v)) → ((e : ℕ) → e < m → pos 0 <ℤ rise w (E e))
    → Neighbours (λ a b. pos 0 ≤ℤ side (E a) (point (E b).high)) xs → Neighbours (FinePair E) xs
    → Neighbours (Turns E) xs
sorted_turns w m E v xs only up sorted fine =
    neighbours_both (λ a b. pos 0 ≤ℤ side (E a) (point (E b).high)) (FinePair E) (Turns E) xs
    (λ a b ka kb s f.
    let oa = only a ka in let ob = only b kb in
    turns_apart w (E a) (E b) (up a oa.0) (up b ob.0) (oa.1 ∙ sym ob.1) f s)
    sorted fine

-- ---- a list in strict order
gap-self : (w : ℤ) (a : Edge) (z : Vector) → gap w a a z ≡ pos 0
unfolding gap
gap-self w a z =
    ring (minus (times (at 0) (at 1)) (times (at 0) (at 1))) (num (pos 0))
    (vars (rise w a ∷ side a z ∷ [])) refl

pub gap_trans : (w : ℤ) (a b c : Edge) (z : Vector) → pos 0 <ℤ rise w a → pos 0 <ℤ rise w b
    → pos 0 <ℤ rise w c → gap w a b z <ℤ pos 0 → gap w b c z <ℤ pos 0 → gap w a c z <ℤ pos 0
unfolding gap
gap_trans w a b c z ha hb hc =
    sum (rise w a) (rise w b) (rise w c) (side a z) (side b z) (side c z) ha hb hc
  where
    sum : (ra rb rc sa sb sc : ℤ) → pos 0 <ℤ ra → pos 0 <ℤ rb → pos 0 <ℤ rc
        → ((ra *ℤ sb) -ℤ (rb *ℤ sa)) <ℤ pos 0 → ((rb *ℤ sc) -ℤ (rc *ℤ sb)) <ℤ pos 0
        → ((ra *ℤ sc) -ℤ (rc *ℤ sa)) <ℤ pos 0
    sum ra rb rc sa sb sc ha hb hc g h =
        let x = product_positive rc (pos 0 -ℤ ((ra *ℤ sb) -ℤ (rb *ℤ sa))) hc
        (omega (arith, ints, g)) in
        let y = product_positive ra (pos 0 -ℤ ((rb *ℤ sc) -ℤ (rc *ℤ sb))) ha
        (omega (arith, ints, h)) in
        let e = ring
        (plus (times (at 2)
        (minus (num (pos 0)) (minus (times (at 0) (at 4)) (times (at 1) (at 3)))))
        (times (at 0)
        (minus (num (pos 0)) (minus (times (at 1) (at 5)) (times (at 2) (at 4))))))
        (times (at 1) (minus (num (pos 0)) (minus (times (at 0) (at 5)) (times (at 2) (at 3)))))
        (vars (ra ∷ rb ∷ rc ∷ sa ∷ sb ∷ sc ∷ [])) refl in
        let k = positive_factor rb (pos 0 -ℤ ((ra *ℤ sc) -ℤ (rc *ℤ sa))) hb
        (omega (arith, ints, x, y, e)) in
        omega (arith, ints, k)

-- each edge is strictly below all later ones
pub all_strict : (w : ℤ) (E : ℕ → Edge) (z : Vector) (x : ℕ) (xs : List ℕ)
    → ((e : ℕ) → Has e (x ∷ xs) → pos 0 <ℤ rise w (E e))
    → Neighbours (λ a b. gap w (E a) (E b) z <ℤ pos 0) (x ∷ xs)
    → Each (λ y. gap w (E x) (E y) z <ℤ pos 0) xs
all_strict w E z x [] up h = tt
all_strict w E z x (y ∷ ys) up h =
    let rest = all_strict w E z y ys (λ e k. up e (inr k)) h.1 in (
      h.0,
      each_from (λ u. gap w (E x) (E u) z <ℤ pos 0) ys
          (λ u k. gap_trans w (E x) (E y) (E u) z (up x (inl refl)) (up y (inr (inl refl)))
          (up u (inr (inr k))) h.0 (each_has (λ u. gap w (E y) (E u) z <ℤ pos 0) ys u rest k)),
    )

pub once_strict : (w : ℤ) (E : ℕ → Edge) (z : Vector) (xs : List ℕ)
    → ((e : ℕ) → Has e xs → pos 0 <ℤ rise w (E e))
    → Neighbours (λ a b. gap w (E a) (E b) z <ℤ pos 0) xs → Once xs
once_strict w E z [] up h = tt
once_strict w E z (x ∷ xs) up h = (
  λ k. let g = each_has (λ y. gap w (E x) (E y) z <ℤ pos 0) xs x (all_strict w E z x xs up h) k in
      let s = gap-self w (E x) z in omega (arith, ints, g, s),
  once_strict w E z xs (λ e k. up e (inr k)) h.1,
)

-- no live list has an edge twice
pub front_once : (w : ℤ) (m : ℕ) (E : ℕ → Edge) (pts : List Point) (done : List Step) (v : Point)
    (coming : List Point)
    → Ready w m E pts → Front w m E pts done (v ∷ coming) → Once (live done)
front_once w m E pts [] v coming h f = tt
front_once w m E pts (s ∷ done) v coming h f =
    let c = front_cut w m E pts (s ∷ done) (v ∷ coming) h f in
    let l = c.cut s v (inl refl) (inl refl) in
    let z = mix (pos 1) (point s.at) (pos 1) (point v) in
    let q = sweep-mix w (pos 1) (point s.at) (pos 1) (point v) in
    once_strict w E z (after s) (live_rise w m E pts (s ∷ done) (v ∷ coming) h f)
    (strict_between w m E pts s done v coming z h f (record {
      place = omega (arith, ints);
      after = omega (arith, ints, l, q);
      upto = omega (arith, ints, l, q);
    })
    (omega (arith, ints, l, q)))
