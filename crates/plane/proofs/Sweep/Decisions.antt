-- Each two edges are decided: they are bad, or each common place is a common end.
-- So a sweep is a complete run or comes to a fault, with no test as a premise.
use Rattle.std.proofs.Common.{◌≡◌, ℕ, ◌<◌, ℤ, pos, ◌+ℤ◌, ◌*ℤ◌, ◌-ℤ◌, ◌<ℤ◌, ◌≤ℤ◌, ◌⊎◌, inl, inr}
use Rattle.std.proofs.Common.{List, [], ◌∷◌, refl, arith, ap, sym, ◌∙◌, subst}
use Rattle.std.proofs.lemmas.Int.{ints, by_lt_z}
use Rattle.plane.specs.declared.kinds.Point.{Point}
use Rattle.plane.specs.Forms.Vectors.{Vector, Place, point, mix, Edge, sweep, rise, gap, foot, On}
use Rattle.plane.specs.Runs.Steps.{Step}
use Rattle.plane.specs.Forms.Meets.{IsEnd}
use Rattle.plane.specs.Forms.Weights.{Weight}
use Rattle.plane.specs.Forms.Meets.{Fine, Bad}
use Rattle.plane.specs.Runs.Sweeps.{IsEventList, Front}
use Rattle.plane.proofs.Sweep.SweepWords.{Found}
use Rattle.plane.proofs.Algebra.Laws.{weight_at_most, product_comm}
use Rattle.plane.proofs.Algebra.Ring.{at, num, plus, minus, times, vars, ring}
use Rattle.plane.proofs.Linear.Vectors.{sweep-mix}
use Rattle.plane.proofs.Linear.Signs.{by_sign}
use Rattle.plane.proofs.Runs.Moments.{scaled}
use Rattle.plane.proofs.Runs.Meeting.{same_sweep}
use Rattle.plane.proofs.Sweep.Pairs.{straight_on, on_straight, foot_late, foot_early}
use Rattle.plane.proofs.Sweep.Deciding.{Overlap, meeting, decided_at, weighed, level_gap}
use Rattle.plane.proofs.Sweep.SweepEnd.{ready}
use Rattle.plane.proofs.Sweep.Finding.{run_or_found, bad_found}

-- edges with no common place
none_fine : (w : ℤ) (a b : Edge) → pos 0 <ℤ rise w a → pos 0 <ℤ rise w b
    → ((z : Vector) → Place z → On w a z → On w b z → ⊥) → Fine a b
none_fine w a b ra rb n z hz oa ob =
    absurd (n z hz (straight_on w a z ra hz oa) (straight_on w b z rb hz ob))

both_above : (g h u v : ℤ) → pos 0 <ℤ g → pos 0 <ℤ h → pos 0 ≤ℤ u → pos 0 ≤ℤ v → pos 0 <ℤ (u +ℤ v)
    → (g *ℤ u) +ℤ (h *ℤ v) ≡ pos 0 → ⊥
both_above g h u v hg hh hu hv some e =
    let a = weight_at_most u g hu hg in
    let b = weight_at_most v h hv hh in
    let i = product_comm g u in
    let j = product_comm h v in
    omega (arith, ints, a, b, i, j, some, e)

both_below : (g h u v : ℤ) → g <ℤ pos 0 → h <ℤ pos 0 → pos 0 ≤ℤ u → pos 0 ≤ℤ v → pos 0 <ℤ (u +ℤ v)
    → (g *ℤ u) +ℤ (h *ℤ v) ≡ pos 0 → ⊥
both_below g h u v hg hh hu hv some e =
    let i = ring
    (plus (times (minus (num (pos 0)) (at 0)) (at 2))
    (times (minus (num (pos 0)) (at 1)) (at 3)))
    (minus (num (pos 0)) (plus (times (at 0) (at 2)) (times (at 1) (at 3))))
    (vars (g ∷ h ∷ u ∷ v ∷ [])) refl in
    both_above (pos 0 -ℤ g) (pos 0 -ℤ h) u v (omega (arith, ints, hg))
    (omega (arith, ints, hh)) hu hv some (omega (arith, ints, i, e))

-- both gaps of one strict sign: no common place
one_sign : (w : ℤ) (a b : Edge) (p q : Point) → Overlap w a b p q
    → sweep w (point p) <ℤ sweep w (point q)
    → ((gap w a b (point p) <ℤ pos 0) × (gap w a b (point q) <ℤ pos 0))
    ⊎ ((pos 0 <ℤ gap w a b (point p)) × (pos 0 <ℤ gap w a b (point q))) → Fine a b
one_sign w a b p q o l signs = none_fine w a b o.rise_first o.rise_second (λ z hz oa ob.
    let from = o.from z hz oa ob in
    let to = o.to z hz oa ob in
    let x = scaled (sweep w (point p)) (sweep w (point q)) z.n hz l in
    let e = weighed w a b p q z oa.line ob.line in
    elim signs [
      | inl s ↦ both_below _ _ _ _ s.0 s.1 (omega (arith, ints, to)) (omega (arith, ints, from))
          (omega (arith, ints, x)) e
      | inr s ↦ both_above _ _ _ _ s.0 s.1 (omega (arith, ints, to)) (omega (arith, ints, from))
          (omega (arith, ints, x)) e
    ])

cross_zero : (g h : ℤ) → (h *ℤ g) +ℤ ((pos 0 -ℤ g) *ℤ h) ≡ pos 0
cross_zero g h =
    ring (plus (times (at 1) (at 0)) (times (minus (num (pos 0)) (at 0)) (at 1))) (num (pos 0))
    (vars (g ∷ h ∷ [])) refl

back_zero : (g h : ℤ) → ((pos 0 -ℤ h) *ℤ g) +ℤ (g *ℤ h) ≡ pos 0
back_zero g h =
    ring (plus (times (minus (num (pos 0)) (at 1)) (at 0)) (times (at 0) (at 1))) (num (pos 0))
    (vars (g ∷ h ∷ [])) refl

rising_only : (g h u v : ℤ) → (g *ℤ u) +ℤ (h *ℤ v) ≡ pos 0 → h *ℤ v ≡ (pos 0 -ℤ g) *ℤ u
rising_only g h u v e =
    let i = ring (times (minus (num (pos 0)) (at 0)) (at 1))
    (minus (num (pos 0)) (times (at 0) (at 1))) (vars (g ∷ u ∷ [])) refl in
    omega (arith, ints, i, e)

falling_only : (g h u v : ℤ) → (g *ℤ u) +ℤ (h *ℤ v) ≡ pos 0 → (pos 0 -ℤ h) *ℤ v ≡ g *ℤ u
falling_only g h u v e =
    let i = ring (times (minus (num (pos 0)) (at 0)) (at 1))
    (minus (num (pos 0)) (times (at 0) (at 1))) (vars (h ∷ v ∷ [])) refl in
    omega (arith, ints, i, e)

-- the gap changes its sign: one common place
changes : (w : ℤ) (a b : Edge) (p q : Point) → Overlap w a b p q
    → gap w a b (point p) ≤ℤ pos 0 → pos 0 ≤ℤ gap w a b (point q)
    → gap w a b (point p) <ℤ gap w a b (point q) → Fine a b ⊎ Bad a b
changes w a b p q o gp gq l =
    let g = gap w a b (point p) in
    let h = gap w a b (point q) in
    decided_at w a b p q h (pos 0 -ℤ g) o gq (omega (arith, ints, gp)) (omega (arith, ints, l))
    (cross_zero g h)
    (λ z hz oa ob. rising_only g h _ _ (weighed w a b p q z oa.line ob.line))

changes_back : (w : ℤ) (a b : Edge) (p q : Point) → Overlap w a b p q
    → pos 0 ≤ℤ gap w a b (point p) → gap w a b (point q) ≤ℤ pos 0
    → gap w a b (point q) <ℤ gap w a b (point p) → Fine a b ⊎ Bad a b
changes_back w a b p q o gp gq l =
    let g = gap w a b (point p) in
    let h = gap w a b (point q) in
    decided_at w a b p q (pos 0 -ℤ h) g o (omega (arith, ints, gq)) gp (omega (arith, ints, l))
    (back_zero g h)
    (λ z hz oa ob. falling_only g h _ _ (weighed w a b p q z oa.line ob.line))

-- both gaps are 0: the middle is common, and no end
runs_along : (w : ℤ) (a b : Edge) (p q : Point) → Overlap w a b p q
    → sweep w (point p) <ℤ sweep w (point q)
    → gap w a b (point p) ≡ pos 0 → gap w a b (point q) ≡ pos 0 → Bad a b
runs_along w a b p q o l gp gq =
    let y = mix (pos 1) (point p) (pos 1) (point q) in
    let f = foot w a y in
    let ra = o.rise_first in let rb = o.rise_second in
    let m = meeting w a b p q (pos 1) (pos 1) o (omega (arith, ints)) (omega (arith, ints))
    (omega (arith, ints)) (omega (arith, ints, gp, gq)) in
    let s = sweep-mix w (pos 1) (point p) (pos 1) (point q) in
    let low = o.first_p.low in
    let high = o.first_q.high in
    let after = foot_late w a y a.low ra (omega (arith, ints, s, low, l)) in
    let before = foot_early w a y a.high ra (omega (arith, ints, s, high, l)) in
    record {
      at = f;
      place = m.0;
      of_first = on_straight w a f ra m.0 m.1;
      of_second = on_straight w b f rb m.0 m.2;
      no_end = λ c. inner w a f c.at after before (same_sweep w f c.at c.is) c.of_first;
    }
  where
    inner : (w : ℤ) (a : Edge) (f : Vector) (c : Point)
        → (sweep w (point a.low) *ℤ f.n) <ℤ sweep w f → sweep w f <ℤ (sweep w (point a.high) *ℤ f.n)
        → sweep w f ≡ sweep w (point c) *ℤ f.n → IsEnd a c → ⊥
    inner w a f c after before h (inl q) =
        let e = subst (λ p. sweep w f ≡ sweep w (point p) *ℤ f.n) (sym q) h in
        omega (arith, ints, after, e)
    inner w a f c after before h (inr q) =
        let e = subst (λ p. sweep w f ≡ sweep w (point p) *ℤ f.n) (sym q) h in
        omega (arith, ints, before, e)

-- one sweep line
one_line : (w : ℤ) (a b : Edge) (p q : Point) → Overlap w a b p q
    → sweep w (point q) ≤ℤ sweep w (point p) → Fine a b ⊎ Bad a b
one_line w a b p q o l =
    let level : (z : Vector) → Place z → On w a z → On w b z
    → sweep w z ≡ sweep w (point p) *ℤ z.n =
    λ z hz oa ob. squeezed _ _ _ _ hz (o.from z hz oa ob) (o.to z hz oa ob) l in
    let apart : (gap w a b (point p) ≡ pos 0 → ⊥)
    → Fine a b ⊎ Bad a b =
    λ n. inl (none_fine w a b o.rise_first o.rise_second
    (λ z hz oa ob. n (level_gap w a b p z hz oa.line ob.line (level z hz oa ob)))) in
    by_sign (gap w a b (point p))
    (λ (g : gap w a b (point p) <ℤ pos 0). apart (λ e. omega (arith, ints, g, e)))
    (λ (g : gap w a b (point p) ≡ pos 0). decided_at w a b p q (pos 1) (pos 0) o
    (omega (arith, ints)) (omega (arith, ints)) (omega (arith, ints))
    (first_zero (gap w a b (point p)) (gap w a b (point q)) g)
    (λ z hz oa ob. let e = level z hz oa ob in first_only _ _ _ e))
    (λ (g : pos 0 <ℤ gap w a b (point p)). apart (λ e. omega (arith, ints, g, e)))
  where
    squeezed : (tp tq s n : ℤ) → pos 0 <ℤ n → (tp *ℤ n) ≤ℤ s → s ≤ℤ (tq *ℤ n) → tq ≤ℤ tp
        → s ≡ tp *ℤ n
    squeezed tp tq s n hn h k l = by_lt_z tq tp
        (λ (i : tq <ℤ tp). let x = scaled tq tp n hn i in absurd (omega (arith, ints, x, h, k)))
        (λ (i : tp ≤ℤ tq). let e : tp ≡ tq = omega (arith, ints, i, l) in
        let x = ap (λ v. v *ℤ n) e in omega (arith, ints, x, h, k))

    first_zero : (g h : ℤ) → g ≡ pos 0 → (pos 1 *ℤ g) +ℤ (pos 0 *ℤ h) ≡ pos 0
    first_zero g h e =
        let i = ring (plus (times (num (pos 1)) (at 0)) (times (num (pos 0)) (at 1))) (at 0)
        (vars (g ∷ h ∷ [])) refl in
        i ∙ e

    first_only : (s t u : ℤ) → s ≡ t → pos 1 *ℤ (s -ℤ t) ≡ pos 0 *ℤ (u -ℤ s)
    first_only s t u e =
        let i = ring
        (minus (times (num (pos 1)) (minus (at 0) (at 1)))
        (times (num (pos 0)) (minus (at 2) (at 0)))) (minus (at 0) (at 1))
        (vars (s ∷ t ∷ u ∷ [])) refl in
        omega (arith, ints, i, e)

pub overlap_decided : (w : ℤ) (a b : Edge) (p q : Point) → Overlap w a b p q → Fine a b ⊎ Bad a b
overlap_decided w a b p q o =
    let g = gap w a b (point p) in
    let h = gap w a b (point q) in
    by_lt_z (sweep w (point p)) (sweep w (point q))
    (λ (l : sweep w (point p) <ℤ sweep w (point q)).
    by_sign g
    (λ (x : g <ℤ pos 0). by_lt_z h (pos 0)
    (λ (y : h <ℤ pos 0). inl (one_sign w a b p q o l (inl (x, y))))
    (λ (y : pos 0 ≤ℤ h). changes w a b p q o (omega (arith, ints, x)) y
    (omega (arith, ints, x, y))))
    (λ (x : g ≡ pos 0). by_sign h
    (λ (y : h <ℤ pos 0). changes_back w a b p q o (omega (arith, ints, x)) (omega (arith, ints, y))
    (omega (arith, ints, x, y)))
    (λ (y : h ≡ pos 0). inr (runs_along w a b p q o l x y))
    (λ (y : pos 0 <ℤ h). changes w a b p q o (omega (arith, ints, x)) (omega (arith, ints, y))
    (omega (arith, ints, x, y))))
    (λ (x : pos 0 <ℤ g). by_lt_z (pos 0) h
    (λ (y : pos 0 <ℤ h). inl (one_sign w a b p q o l (inr (x, y))))
    (λ (y : h ≤ℤ pos 0). changes_back w a b p q o (omega (arith, ints, x)) y
    (omega (arith, ints, x, y)))))
    (λ (l : sweep w (point q) ≤ℤ sweep w (point p)). one_line w a b p q o l)

-- ---- any two edges
-- p where both have begun, q where the first of them ends
record Bounds (w : ℤ) (a b : Edge) (p q : Point) : Type 0 where
  low_first : sweep w (point a.low) ≤ℤ sweep w (point p)
  low_second : sweep w (point b.low) ≤ℤ sweep w (point p)
  high_first : sweep w (point q) ≤ℤ sweep w (point a.high)
  high_second : sweep w (point q) ≤ℤ sweep w (point b.high)
  from : (a.low ≡ p) ⊎ (b.low ≡ p)
  to : (a.high ≡ q) ⊎ (b.high ≡ q)

bounded : (w : ℤ) (a b : Edge) (p q : Point) → pos 0 <ℤ rise w a → pos 0 <ℤ rise w b
    → Bounds w a b p q → Fine a b ⊎ Bad a b
bounded w a b p q ra rb k =
    let from : (z : Vector) → Place z → On w a z → On w b z
    → (sweep w (point p) *ℤ z.n) ≤ℤ sweep w z = λ z hz oa ob. elim k.from [
      | inl e ↦ subst (λ c. (sweep w (point c) *ℤ z.n) ≤ℤ sweep w z) e oa.low
      | inr e ↦ subst (λ c. (sweep w (point c) *ℤ z.n) ≤ℤ sweep w z) e ob.low
    ] in
    let to : (z : Vector) → Place z → On w a z → On w b z
    → sweep w z ≤ℤ (sweep w (point q) *ℤ z.n) = λ z hz oa ob. elim k.to [
      | inl e ↦ subst (λ c. sweep w z ≤ℤ (sweep w (point c) *ℤ z.n)) e oa.high
      | inr e ↦ subst (λ c. sweep w z ≤ℤ (sweep w (point c) *ℤ z.n)) e ob.high
    ] in
    let la = k.low_first in
    let lb = k.low_second in let ha = k.high_first in let hb = k.high_second in
    by_lt_z (sweep w (point q)) (sweep w (point p))
    (λ (l : sweep w (point q) <ℤ sweep w (point p)). inl (none_fine w a b ra rb (λ z hz oa ob.
    let x = scaled (sweep w (point q)) (sweep w (point p)) z.n hz l in
    let u = from z hz oa ob in let v = to z hz oa ob in omega (arith, ints, x, u, v))))
    (λ (l : sweep w (point p) ≤ℤ sweep w (point q)). overlap_decided w a b p q (record {
      rise_first = ra;
      rise_second = rb;
      first_p = record { low = omega (arith, ints, la); high = omega (arith, ints, l, ha) };
      first_q = record { low = omega (arith, ints, la, l); high = omega (arith, ints, ha) };
      second_p = record { low = omega (arith, ints, lb); high = omega (arith, ints, l, hb) };
      second_q = record { low = omega (arith, ints, lb, l); high = omega (arith, ints, hb) };
      from = from;
      to = to;
    }))

pub meet_decided : (w : ℤ) (a b : Edge) → pos 0 <ℤ rise w a → pos 0 <ℤ rise w b → Fine a b ⊎ Bad a b
meet_decided w a b ra rb = by_lt_z (sweep w (point a.low)) (sweep w (point b.low))
    (λ (l : sweep w (point a.low) <ℤ sweep w (point b.low)). by_lt_z (sweep w (point a.high))
    (sweep w (point b.high))
    (λ (h : sweep w (point a.high) <ℤ sweep w (point b.high)).
    bounded w a b b.low a.high ra rb (record {
      low_first = omega (arith, ints, l);
      low_second = omega (arith, ints);
      high_first = omega (arith, ints);
      high_second = omega (arith, ints, h);
      from = inr refl;
      to = inl refl;
    }))
    (λ (h : sweep w (point b.high) ≤ℤ sweep w (point a.high)).
    bounded w a b b.low b.high ra rb (record {
      low_first = omega (arith, ints, l);
      low_second = omega (arith, ints);
      high_first = h;
      high_second = omega (arith, ints);
      from = inr refl;
      to = inr refl;
    })))
    (λ (l : sweep w (point b.low) ≤ℤ sweep w (point a.low)). by_lt_z (sweep w (point a.high))
    (sweep w (point b.high))
    (λ (h : sweep w (point a.high) <ℤ sweep w (point b.high)).
    bounded w a b a.low a.high ra rb (record {
      low_first = omega (arith, ints);
      low_second = l;
      high_first = omega (arith, ints);
      high_second = omega (arith, ints, h);
      from = inl refl;
      to = inl refl;
    }))
    (λ (h : sweep w (point b.high) ≤ℤ sweep w (point a.high)).
    bounded w a b a.low b.high ra rb (record {
      low_first = omega (arith, ints);
      low_second = l;
      high_first = h;
      high_second = omega (arith, ints);
      from = inl refl;
      to = inr refl;
    })))

-- ---- the end of a sweep with no test as a premise
meets : (w : ℤ) (m : ℕ) (E : ℕ → Edge) (pts : List Point) → Weight w pts → IsEventList m E pts
    → (a b : ℕ) → a < m → b < m → Fine (E a) (E b) ⊎ Bad (E a) (E b)
meets w m E pts h ev a b la lb =
    let r = ready w m E pts h ev in meet_decided w (E a) (E b) (r.rises a la) (r.rises b lb)

-- a complete sweep, or a fault
pub swept_or_found : (w : ℤ) (m : ℕ) (E : ℕ → Edge) (pts : List Point) → Weight w pts
    → IsEventList m E pts → ((end : List Step) × Front w m E pts end []) ⊎ Found w m E pts
swept_or_found w m E pts h ev = run_or_found w m E pts h ev (meets w m E pts h ev)

-- where two edges are bad, there is a fault
pub bad_is_found : (w : ℤ) (m : ℕ) (E : ℕ → Edge) (pts : List Point) (a b : ℕ) → Weight w pts
    → IsEventList m E pts → a < m → b < m → (a ≡ b → ⊥) → Bad (E a) (E b) → Found w m E pts
bad_is_found w m E pts a b h ev = bad_found w m E pts a b h ev (meets w m E pts h ev)
