-- A segment that hits no edge and runs to the right goes through linked cells.
-- It meets one event's sweep line after the other.
use Rattle.std.proofs.Common.{◌≡◌, ℕ, zero, suc, ◌+◌, ◌<◌, ◌≤◌, ℤ, pos, ◌+ℤ◌, ◌*ℤ◌, ◌-ℤ◌, ◌<ℤ◌}
use Rattle.std.proofs.Common.{◌≤ℤ◌, [], ◌∷◌, refl, arith, ap, sym, ◌∙◌, ◌⊎◌, inl, inr, subst}
use Rattle.std.proofs.lemmas.Int.{ints}
use Rattle.plane.specs.Lists.{Has}
use Rattle.plane.specs.declared.kinds.Point.{Point}
use Rattle.plane.specs.Forms.Vectors.{Vector, Place, mix, point, sweep, InSpan}
use Rattle.plane.specs.Faces.Replays.{Replay, IsOffEdges, reach}
use Rattle.plane.proofs.Runs.RunWords.{IsRun, IsLawful, IsStrip}
use Rattle.plane.specs.Faces.Cells.{Sector, raised, sector_at, Opens, Linked, stays, onward, IsFree}
use Rattle.plane.proofs.Algebra.Laws.{product_comm}
use Rattle.plane.proofs.Algebra.Scaling.{times_le, times_lt}
use Rattle.plane.proofs.Linear.Vectors.{sweep-mix}
use Rattle.plane.proofs.Linear.Signs.{mix_place, side_kept}
use Rattle.plane.proofs.Linear.Clear.{clear_start, clear_end, clear_back}
use Rattle.plane.proofs.Strips.CountBelow.{raised_agrees}
use Rattle.plane.proofs.Strips.OnSweepLine.{IsLevel, opens_at}
use Rattle.plane.proofs.Algebra.Ring.{at, num, plus, minus, times, vars, ring}

-- the sweep value of z is between the events k - 1 and k, both allowed
pub record IsClosed (r : Replay) (k : ℕ) (z : Vector) : Type 0 where
  pub from : (j : ℕ) → j < k → (reach r j *ℤ z.n) ≤ℤ sweep r.weight z
  pub to : (j : ℕ) → k ≤ j → j < r.steps → sweep r.weight z ≤ℤ (reach r j *ℤ z.n)

pub closed_strip : (r : Replay) (k : ℕ) (z : Vector) → IsStrip r k z → IsClosed r k z
closed_strip r k z h = record {
  from = h.from;
  to = λ (j : ℕ) a b. let c = h.to j a b in omega (arith, ints);
}

pub cells_eq : (c d : Sector) → c.strip ≡ d.strip → c.index ≡ d.index → c ≡ d
cells_eq c d a b = λ i. record { strip = a i; index = b i }

-- ---- the ends and the parts of a free segment
pub off_start : (r : Replay) (p q : Vector) → Place p → IsFree r p q → IsOffEdges r p
off_start r p q P h e l on = h e l record {
  z = p;
  place = P;
  between = record {
    s = pos 1;
    t = pos 0;
    s_least = omega (arith, ints);
    t_least = omega (arith, ints);
    some = omega (arith, ints);
    is = record { x = one p.x p.n q.x q.n; y = one p.y p.n q.y q.n };
  };
  on = on;
}
  where
    one : (x n y m : ℤ) → x *ℤ ((pos 1 *ℤ n) +ℤ (pos 0 *ℤ m)) ≡ ((pos 1 *ℤ x) +ℤ (pos 0 *ℤ y)) *ℤ n
    one x n y m =
        ring (times (at 0) (plus (times (num (pos 1)) (at 1)) (times (num (pos 0)) (at 3))))
        (times (plus (times (num (pos 1)) (at 0)) (times (num (pos 0)) (at 2))) (at 1))
        (vars (x ∷ n ∷ y ∷ m ∷ [])) refl

pub free_back : (r : Replay) (p q : Vector) → Place p → Place q → IsFree r p q → IsFree r q p
free_back r p q P Q h e l = clear_back r.weight (r.edge e) p q P Q (h e l)

pub off_end : (r : Replay) (p q : Vector) → Place p → Place q → IsFree r p q → IsOffEdges r q
off_end r p q P Q h = off_start r q p Q (free_back r p q P Q h)

-- ---- where a segment crosses an event's sweep line
-- the place of the segment from p to q with sweep value c
abbrev pub meet : ℤ → ℤ → Vector → Vector → Vector
meet w c p q = mix (sweep w q -ℤ (c *ℤ q.n)) p ((c *ℤ p.n) -ℤ sweep w p) q

pub meet_level : (w c : ℤ) (p q : Vector) → sweep w (meet w c p q) ≡ c *ℤ (meet w c p q).n
meet_level w c p q = sweep-mix w (sweep w q -ℤ (c *ℤ q.n)) p ((c *ℤ p.n) -ℤ sweep w p) q
    ∙ level c (sweep w p) p.n (sweep w q) q.n
  where
    level : (c a m b n : ℤ)
        → ((b -ℤ (c *ℤ n)) *ℤ a) +ℤ (((c *ℤ m) -ℤ a) *ℤ b)
        ≡ c *ℤ (((b -ℤ (c *ℤ n)) *ℤ m) +ℤ (((c *ℤ m) -ℤ a) *ℤ n))
    level c a m b n =
        let C = at 0 in let A = at 1 in let M = at 2 in let B = at 3 in let N = at 4 in
        let s = minus B (times C N) in
        let t = minus (times C M) A in
        ring (plus (times s A) (times t B)) (times C (plus (times s M) (times t N)))
        (vars (c ∷ a ∷ m ∷ b ∷ n ∷ [])) refl

module _ (r : Replay) (run : IsRun r) where
  pub reach_most : (j k : ℕ) → j ≤ k → k < r.steps → reach r j ≤ℤ reach r k
  reach_most j k h l =
      elim (either j k h) [
        | inl e ↦ (let f = ap (reach r) e in omega (arith, ints))
        | inr m ↦ (let f = run.rising j k m l in omega (arith, ints))
      ]
    where
      either : (j k : ℕ) → j ≤ k → (j ≡ k) ⊎ (j < k)
      either zero zero h = inl refl
      either zero (suc k) h = inr (omega arith)
      either (suc j) zero h = absurd (omega arith)
      either (suc j) (suc k) h =
          elim (either j k (omega arith)) [
            | inl e ↦ inl (ap (λ (n : ℕ). suc n) e)
            | inr m ↦ inr (omega arith)
          ]

  pub scaled_reach : (j k : ℕ) (n : ℤ) → pos 0 <ℤ n → j ≤ k → k < r.steps
      → (reach r j *ℤ n) ≤ℤ (reach r k *ℤ n)
  scaled_reach j k n N h l =
      let a = times_le n (reach r j) (reach r k) (omega (arith, ints)) (reach_most j k h l) in
      omega (arith, ints, a, product_comm n (reach r j), product_comm n (reach r k))

  pub scaled_rising : (j k : ℕ) (n : ℤ) → pos 0 <ℤ n → j < k → k < r.steps
      → (reach r j *ℤ n) <ℤ (reach r k *ℤ n)
  scaled_rising j k n N h l =
      let a = times_lt n (reach r j) (reach r k) N (run.rising j k h l) in
      omega (arith, ints, a, product_comm n (reach r j), product_comm n (reach r k))

  -- a place on an event's sweep line is at the end of the strip before it and in the strip after it
  pub level_closed : (k : ℕ) (o : Vector) → Place o → k < r.steps → IsLevel r k o → IsClosed r k o
  level_closed k o O h l = record {
    from = λ (j : ℕ) (a : j < k). let s = scaled_reach j k o.n O (omega arith) h in
        omega (arith, ints, s, l);
    to = λ (j : ℕ) (a : k ≤ j) (b : j < r.steps). let s = scaled_reach k j o.n O a b in
        omega (arith, ints, s, l);
  }

  pub level_strip : (k : ℕ) (o : Vector) → Place o → k < r.steps → IsLevel r k o
      → IsStrip r (suc k) o
  level_strip k o O h l = record {
    fits = omega arith;
    from = λ (j : ℕ) (a : j < suc k). let s = scaled_reach j k o.n O (omega arith) h in
        omega (arith, ints, s, l);
    to = λ (j : ℕ) (a : suc k ≤ j) (b : j < r.steps). let s =
        scaled_rising k j o.n O (omega arith) b in omega (arith, ints, s, l);
  }

module _ (r : Replay) (run : IsRun r) (law : IsLawful r) where
  -- an edge of the live list spans the closed strip
  pub spans_strip : (k e : ℕ) (z : Vector) → k ≤ r.steps → Has e (r.list k) → IsClosed r k z
      → InSpan r.weight (r.edge e) z
  spans_strip k e z h m c =
      let b = law.begun k e h m in
      let d = law.open_still k e h m in
      record {
        low = subst (λ (p : Point). (sweep r.weight (point p) *ℤ z.n) ≤ℤ sweep r.weight z) b.2
            (c.from b.0 b.1);
        high = subst (λ (p : Point). sweep r.weight z ≤ℤ (sweep r.weight (point p) *ℤ z.n)) d.3
            (c.to d.0 d.1 d.2);
      }

  -- a free segment within a closed strip keeps the count
  pub raised_kept : (k : ℕ) (p q : Vector) → k ≤ r.steps → Place p → Place q → IsFree r p q
      → IsClosed r k p → IsClosed r k q → raised r p (r.list k) ≡ raised r q (r.list k)
  raised_kept k p q h P Q free a b = raised_agrees r p q (r.list k)
      (λ e m. side_kept r.weight (r.edge e) p q P Q (spans_strip k e p h m a)
      (spans_strip k e q h m b) (free e (law.live k e h m)))

  -- ---- to the right
  pub linked_right : (d k m : ℕ) (p q : Vector) → m ≡ k + d → Place p → Place q → IsFree r p q
      → IsStrip r k p → IsStrip r m q → Linked r (sector_at r p k) (sector_at r q m)
  linked_right zero k m p q e P Q free a b =
      let f : m ≡ k = omega arith in
      let b2 : IsStrip r k q = subst (λ (j : ℕ). IsStrip r j q) f b in
      let g = raised_kept k p q a.fits P Q free (closed_strip r k p a) (closed_strip r k q b2) in
      stays _ _ (cells_eq _ _ (sym f) (g ∙ ap (λ (j : ℕ). raised r q (r.list j)) (sym f)))
  linked_right (suc d) k m p q e P Q free a b =
      let w = r.weight in
      let c = reach r k in
      let h : k < r.steps = (let x = b.fits in omega arith) in
      let ahead = a.to k (omega arith) h in
      let behind = b.from k (omega arith) in
      let s = sweep w q -ℤ (c *ℤ q.n) in
      let t = (c *ℤ p.n) -ℤ sweep w p in
      let hs : pos 0 ≤ℤ s = omega (arith, ints) in
      let ht : pos 0 ≤ℤ t = omega (arith, ints) in
      let some : pos 0 <ℤ (s +ℤ t) = omega (arith, ints) in
      let o = meet w c p q in
      let O : Place o = mix_place s p t q P Q hs ht some in
      let level : IsLevel r k o = meet_level w c p q in
      let start : IsFree r p o = λ (n : ℕ) l. clear_start w (r.edge n) p q P Q s t hs ht some
      (free n l) in
      let rest : IsFree r o q = λ (n : ℕ) l. clear_end w (r.edge n) p q P Q s t hs ht some
      (free n l) in
      let off = off_end r p o P O start in
      let g = raised_kept k p o a.fits P O start (closed_strip r k p a)
      (level_closed r run k o O h level) in
      let op = opens_at r run law k o h O off level in
      onward (sector_at r p k) (sector_at r o (suc k)) (sector_at r q m)
      (subst (λ (x : Sector). Opens r x (sector_at r o (suc k)))
      (cells_eq (sector_at r o k) (sector_at r p k) refl (sym g)) op)
      (linked_right d (suc k) m o q (omega arith) O Q rest (level_strip r run k o O h level) b)
