-- Two neighbours of a live list are in strict order between the event where they came together and
-- the one where they part.
-- At an event all edges below it are strictly below it, and all above strictly above.
use Rattle.std.proofs.Common.{◌≡◌, ℕ, ℤ, pos, ◌+ℤ◌, ◌*ℤ◌, ◌-ℤ◌, ◌<ℤ◌, ◌≤ℤ◌, ◌⊎◌, inl, inr, List, []}
use Rattle.std.proofs.Common.{◌∷◌, ◌++◌, refl, arith, ap, sym, ◌∙◌, subst}
use Rattle.std.proofs.lemmas.Int.{ints, by_lt_z}
use Rattle.plane.specs.declared.kinds.Point.{Point}
use Rattle.plane.specs.Forms.Vectors.{Vector, Place, point, Edge, side, sweep, rise, gap, lift}
use Rattle.plane.specs.Lists.{Each, Neighbours, Has}
use Rattle.plane.specs.Runs.Steps.{Step, before, after, onto, live, WeighedRun}
use Rattle.plane.proofs.Runs.MomentWords.{Moment, Began, Ends, Over}
use Rattle.plane.proofs.Algebra.Laws.{product_positive, product_nonnegative, zero-product}
use Rattle.plane.proofs.Algebra.Ring.{at, num, minus, times, vars, ring}
use Rattle.plane.proofs.ListLemmas.Lists.{each_has, each_from, neighbours_map, neighbours_both}
use Rattle.plane.proofs.ListLemmas.Lists.{neighbours_front, neighbours_back, down_from_last}
use Rattle.plane.proofs.ListLemmas.Lists.{up_from_first}
use Rattle.plane.proofs.Linear.Vectors.{side-high, side-lift}
use Rattle.plane.proofs.Linear.Signs.{gap_at_most, over_lower, gap_between}
use Rattle.plane.proofs.Runs.LiveEdges.{live_started, begins, ends, has_below_before}
use Rattle.plane.proofs.Runs.LiveEdges.{has_above_before}
use Rattle.plane.proofs.Runs.Moments.{moment, scaled}

-- ---- neighbours are in strict order between where they begin and where they end
pub strict_order : (w : ℤ) (E : ℕ → Edge) (done todo : List Step) (z : Vector) (a b : ℕ) → Place z
    → pos 0 <ℤ rise w (E a) → pos 0 <ℤ rise w (E b)
    → Began E done a b → Ends E todo a b
    → Each (λ s. (sweep w (point s.at) *ℤ z.n) <ℤ sweep w z) done
    → Each (λ s. sweep w z <ℤ (sweep w (point s.at) *ℤ z.n)) todo
    → gap w (E a) (E b) z <ℤ pos 0
strict_order w E done todo z a b hz ra rb p q early late =
    let gp = gap_at_most w (E a) (E b) (point p.step.at) ra rb p.lower p.upper in
    let gq = gap_at_most w (E a) (E b) (point q.step.at) ra rb q.lower q.upper in
    let pl = p.lower in let pu = p.upper in let ql = q.lower in let qu = q.upper in
    let one : (gap w (E a) (E b) (point p.step.at) <ℤ pos 0)
    ⊎ (gap w (E a) (E b) (point q.step.at) <ℤ pos 0) =
    elim p.apart [
      | inl l ↦ inl (omega (arith, ints, l, gp))
      | inr together ↦ elim q.apart [
        | inl l ↦ inr (omega (arith, ints, l, gq))
        | inr ends ↦
            let t : pos 0 <ℤ side (E a) (point (E b).high) = together.2 in
            let same : (E a).high ≡ (E b).high = ends.0 ∙ sym ends.1 in
            let z : side (E a) (point (E b).high)
            ≡ pos 0 = subst (λ c. side (E a) (point c) ≡ pos 0) same (side-high (E a)) in
            absurd (omega (arith, ints, t, z))
      ]
    ] in
    gap_between w (E a) (E b) p.step.at q.step.at z hz (omega (arith, ints, gp, pl, pu))
    (omega (arith, ints, gq, ql, qu)) one
    (each_has (λ s. (sweep w (point s.at) *ℤ z.n) <ℤ sweep w z) done p.step early p.passed)
    (each_has (λ s. sweep w z <ℤ (sweep w (point s.at) *ℤ z.n)) todo q.step late q.comes)

pub over_order : (w : ℤ) (E : ℕ → Edge) (done todo : List Step) (z : Vector) (xs : List ℕ) → Place z
    → ((e : ℕ) → Has e xs → pos 0 <ℤ rise w (E e))
    → Neighbours (Began E done) xs → Neighbours (Ends E todo) xs
    → Each (λ s. (sweep w (point s.at) *ℤ z.n) <ℤ sweep w z) done
    → Each (λ s. sweep w z <ℤ (sweep w (point s.at) *ℤ z.n)) todo
    → Neighbours (Over E z) xs
over_order w E done todo z xs hz rises ps qs early late =
    neighbours_both (Began E done) (Ends E todo) (Over E z) xs
    (λ a b ka kb p q h. over_lower w (E a) (E b) z (rises a ka) (rises b kb)
    (strict_order w E done todo z a b hz (rises a ka) (rises b kb) p q early late) h) ps qs

-- what is under a is under b
pub under_higher : (E : ℕ → Edge) (z : Vector) (a b : ℕ) → Over E z a b → side (E a) z ≤ℤ pos 0
    → side (E b) z <ℤ pos 0
under_higher E z a b h k =
    by_lt_z (side (E b) z) (pos 0) (λ l. l) (λ (l : pos 0 ≤ℤ side (E b) z). let x = h l in
    absurd (omega (arith, ints, x, k)))

-- ---- the edges that a step leaves alone keep their order while it happens
pub live_rises : (w : ℤ) (m : ℕ) (E : ℕ → Edge) (done todo : List Step) → Moment w m E done todo
    → (e : ℕ) → Has e (live done) → pos 0 <ℤ rise w (E e)
live_rises w m E done todo h e k = h.rises e (live_started m E done e h.done_good k).0

-- ---- at a step, all edges below its point are strictly below it, all above strictly above
pub untouched_began : (w : ℤ) (m : ℕ) (E : ℕ → Edge) (done todo : List Step) (s : Step)
    → Moment w m E done (s ∷ todo)
    → Neighbours (Began E done) s.below × Neighbours (Began E done) s.above
untouched_began w m E done todo s h =
    let R = Began E done in
    let all : Neighbours R (before s) = subst (λ xs. Neighbours R xs) h.todo_good.0
    (begins m E done h.done_good) in (
      neighbours_front R s.below (s.ending ++ s.above) all,
      neighbours_back R s.ending s.above (neighbours_back R s.below (s.ending ++ s.above) all),
    )

pub untouched_ends : (w : ℤ) (m : ℕ) (E : ℕ → Edge) (done todo : List Step) (s : Step)
    → Moment w m E done (s ∷ todo)
    → Neighbours (Ends E todo) s.below × Neighbours (Ends E todo) s.above
untouched_ends w m E done todo s h =
    let R = Ends E todo in
    let all : Neighbours R (after s) = ends m E (after s) todo h.todo_good.2 in (
      neighbours_front R s.below (s.starting ++ s.above) all,
      neighbours_back R s.starting s.above
          (neighbours_back R s.below (s.starting ++ s.above) all),
    )

pub untouched_rises : (w : ℤ) (m : ℕ) (E : ℕ → Edge) (done todo : List Step) (s : Step)
    → Moment w m E done (s ∷ todo)
    → ((e : ℕ) → Has e s.below → pos 0 <ℤ rise w (E e))
    × ((e : ℕ) → Has e s.above → pos 0 <ℤ rise w (E e))
untouched_rises w m E done todo s h =
    let all : (e : ℕ) → Has e (before s)
    → pos 0 <ℤ rise w (E e) =
    λ e k. live_rises w m E done (s ∷ todo) h e
    (subst (λ xs. Has e xs) (sym h.todo_good.0) k) in
    (λ e k. all e (has_below_before s e k), λ e k. all e (has_above_before s e k))

-- on the sweep line of the step, too, its lists below and above are in order
pub untouched_order : (w : ℤ) (m : ℕ) (E : ℕ → Edge) (done todo : List Step) (s : Step) (z : Vector)
    → WeighedRun w m E (onto done (s ∷ todo)) → Place z
    → sweep w z ≡ sweep w (point s.at) *ℤ z.n
    → Neighbours (Over E z) s.below × Neighbours (Over E z) s.above
untouched_order w m E done todo s z all hz e =
    let h = moment w m E done (s ∷ todo) all in
    let i = moment w m E (s ∷ done) todo all in
    let early : Each (λ t. (sweep w (point t.at) *ℤ z.n) <ℤ sweep w z) done = each_from
    (λ t. (sweep w (point t.at) *ℤ z.n) <ℤ sweep w z) done
    (λ t k. let x = scaled (sweep w (point t.at)) (sweep w (point s.at)) z.n hz
    (h.cut t s k (inl refl)) in omega (arith, ints, x, e)) in
    let late : Each (λ t. sweep w z <ℤ (sweep w (point t.at) *ℤ z.n)) todo = each_from
    (λ t. sweep w z <ℤ (sweep w (point t.at) *ℤ z.n)) todo
    (λ t k. let x = scaled (sweep w (point s.at)) (sweep w (point t.at)) z.n hz
    (i.cut s t (inl refl) k) in omega (arith, ints, x, e)) in
    let ps = untouched_began w m E done todo s h in
    let qs = untouched_ends w m E done todo s h in
    let rs = untouched_rises w m E done todo s h in (
      over_order w E done todo z s.below hz rs.0 ps.0 qs.0 early late,
      over_order w E done todo z s.above hz rs.1 ps.1 qs.1 early late,
    )

pub event_sides : (w : ℤ) (m : ℕ) (E : ℕ → Edge) (done todo : List Step) (s : Step)
    → WeighedRun w m E (onto done (s ∷ todo))
    → Each (λ e. pos 0 <ℤ side (E e) (point s.at)) s.below
    × Each (λ e. side (E e) (point s.at) <ℤ pos 0) s.above
event_sides w m E done todo s all =
    let z = point s.at in
    let h = moment w m E done (s ∷ todo) all in
    let g = h.todo_good.1 in
    let o = untouched_order w m E done todo s z all (omega (arith, ints)) (omega (arith, ints)) in (
      down_from_last (λ e. pos 0 <ℤ side (E e) z) s.below
          (neighbours_map (Over E z) (λ a b. pos 0 <ℤ side (E b) z → pos 0 <ℤ side (E a) z) s.below
          (λ a b ka kb f (l : pos 0 <ℤ side (E b) z). f (omega (arith, ints, l))) o.0)
          g.nearest_below,
      up_from_first (λ e. side (E e) z <ℤ pos 0) s.above
          (neighbours_map (Over E z) (λ a b. side (E a) z <ℤ pos 0 → side (E b) z <ℤ pos 0) s.above
          (λ a b ka kb f (l : side (E a) z <ℤ pos 0). under_higher E z a b f
          (omega (arith, ints, l))) o.1) g.nearest_above,
    )

-- ---- heights on the sweep line of a point
lifted : (w : ℤ) (e : Edge) (z : Vector) (v : Point) → sweep w z ≡ sweep w (point v) *ℤ z.n
    → side e z ≡ (z.n *ℤ side e (point v)) +ℤ (lift z (point v) *ℤ rise w e)
lifted w e z v h =
    let c : pos 1 *ℤ sweep w z ≡ z.n *ℤ sweep w (point v) = flip (sweep w z)
    (sweep w (point v)) z.n h in
    let d = side-lift w e z (point v) c in
    omega (arith, ints, d)
  where
    flip : (a b n : ℤ) → a ≡ b *ℤ n → pos 1 *ℤ a ≡ n *ℤ b
    flip a b n h =
        let e = ring (times (at 1) (at 2)) (times (at 2) (at 1)) (vars (a ∷ b ∷ n ∷ [])) refl in
        omega (arith, ints, h, e)

pub higher_side : (w : ℤ) (e : Edge) (z : Vector) (v : Point) → sweep w z ≡ sweep w (point v) *ℤ z.n
    → Place z → pos 0 <ℤ rise w e
    → pos 0 <ℤ lift z (point v) → pos 0 ≤ℤ side e (point v) → pos 0 <ℤ side e z
higher_side w e z v h hz hr hl hs =
    let a = product_positive (lift z (point v)) (rise w e) hl hr in
    let b = product_nonnegative z.n (side e (point v)) (omega (arith, ints, hz)) hs in
    let c = lifted w e z v h in
    omega (arith, ints, a, b, c)

pub lower_side : (w : ℤ) (e : Edge) (z : Vector) (v : Point) → sweep w z ≡ sweep w (point v) *ℤ z.n
    → Place z → pos 0 <ℤ rise w e
    → lift z (point v) <ℤ pos 0 → side e (point v) ≤ℤ pos 0 → side e z <ℤ pos 0
lower_side w e z v h hz hr hl hs =
    signs (lift z (point v)) (rise w e) z.n (side e (point v)) (side e z)
    (product_positive (pos 0 -ℤ lift z (point v)) (rise w e) (omega (arith, ints, hl)) hr)
    (product_nonnegative z.n (pos 0 -ℤ side e (point v)) (omega (arith, ints, hz))
    (omega (arith, ints, hs)))
    (lifted w e z v h)
  where
    signs : (l r n s t : ℤ) → pos 0 <ℤ ((pos 0 -ℤ l) *ℤ r) → pos 0 ≤ℤ (n *ℤ (pos 0 -ℤ s))
        → t ≡ (n *ℤ s) +ℤ (l *ℤ r) → t <ℤ pos 0
    signs l r n s t a b c =
        let x = ring (times (minus (num (pos 0)) (at 0)) (at 1))
        (minus (num (pos 0)) (times (at 0) (at 1))) (vars (l ∷ r ∷ n ∷ s ∷ [])) refl in
        let y = ring (times (at 2) (minus (num (pos 0)) (at 3)))
        (minus (num (pos 0)) (times (at 2) (at 3))) (vars (l ∷ r ∷ n ∷ s ∷ [])) refl in
        omega (arith, ints, a, b, c, x, y)

pub level_side : (w : ℤ) (e : Edge) (z : Vector) (v : Point) → sweep w z ≡ sweep w (point v) *ℤ z.n
    → lift z (point v) ≡ pos 0 → side e z ≡ z.n *ℤ side e (point v)
level_side w e z v h hl =
    let c = lifted w e z v h in
    let d = ap (λ l. l *ℤ rise w e) hl ∙ zero-product (rise w e) in
    omega (arith, ints, c, d)
