-- The order of the live list at a place of its moment.
-- A place off the edges divides the list into the edges below it and those above it.
use Rattle.std.proofs.Common.{◌≡◌, ℕ, ◌<◌, ℤ, pos, ◌*ℤ◌, ◌<ℤ◌, ◌≤ℤ◌, inl, inr, List, [], ◌∷◌, ◌++◌}
use Rattle.std.proofs.Common.{refl, arith, ap, sym, ◌∙◌, subst}
use Rattle.std.proofs.lemmas.Int.{ints, by_lt_z}
use Rattle.plane.specs.declared.kinds.Point.{Point}
use Rattle.plane.specs.Forms.Vectors.{Vector, Place, point, Edge, side, sweep, rise, lift, On}
use Rattle.plane.specs.Forms.Vectors.{InSpan}
use Rattle.plane.specs.Lists.{Each, First, Neighbours, Has}
use Rattle.plane.specs.Runs.Steps.{Step, after, onto, live, WeighedRun, IsAt, Divides}
use Rattle.plane.proofs.Runs.MomentWords.{Moment, Over}
use Rattle.plane.specs.Forms.Meets.{IsEnd}
use Rattle.plane.proofs.Algebra.Laws.{product_comm, zero-product}
use Rattle.plane.proofs.ListLemmas.Lists.{each_has, each_map, each_from, each_append, first_append}
use Rattle.plane.proofs.ListLemmas.Lists.{first_from, neighbours_map, up_from_first}
use Rattle.plane.proofs.Linear.Vectors.{rise-is}
use Rattle.plane.proofs.Linear.Signs.{by_sign}
use Rattle.plane.proofs.Runs.LiveEdges.{live_started, live_ends, begins, ends, side_through_low}
use Rattle.plane.proofs.Runs.LiveEdges.{side_through_high}
use Rattle.plane.proofs.Runs.Moments.{moment, todo_onto, scaled}
use Rattle.plane.proofs.Runs.Order.{over_order, under_higher, live_rises, untouched_rises}
use Rattle.plane.proofs.Runs.Order.{untouched_order, event_sides, higher_side, lower_side}
use Rattle.plane.proofs.Runs.Order.{level_side}

-- ---- lists in order at a place
first_all : (P : ℕ → Type 0) (xs : List ℕ) → ((x : ℕ) → P x) → First P xs
first_all P [] f = tt
first_all P (x ∷ xs) f = f x

pub all_over : (E : ℕ → Edge) (z : Vector) (xs ys : List ℕ) → Each (λ e. pos 0 <ℤ side (E e) z) xs
    → Neighbours (Over E z) ys → Neighbours (Over E z) (xs ++ ys)
all_over E z [] ys h k = k
all_over E z (x ∷ xs) ys h k =
    (first_all (Over E z x) (xs ++ ys) (λ y l. h.0), all_over E z xs ys h.1 k)

all_under : (E : ℕ → Edge) (z : Vector) (xs : List ℕ) → Each (λ e. side (E e) z <ℤ pos 0) xs
    → Neighbours (Over E z) xs
all_under E z [] h = tt
all_under E z (x ∷ xs) h = (
  first_from (Over E z x) xs
      (each_map (λ e. side (E e) z <ℤ pos 0) (Over E z x) xs
      (λ e (k : side (E e) z <ℤ pos 0) l. absurd (omega (arith, ints, k, l))) h.1),
  all_under E z xs h.1,
)

pub then_under : (E : ℕ → Edge) (z : Vector) (xs ys : List ℕ) → Neighbours (Over E z) xs
    → Each (λ e. side (E e) z <ℤ pos 0) ys → Neighbours (Over E z) (xs ++ ys)
then_under E z [] ys h k = all_under E z ys k
then_under E z (x ∷ xs) ys h k = (
  first_append (Over E z x) xs ys h.0
      (first_from (Over E z x) ys
      (each_map (λ e. side (E e) z <ℤ pos 0) (Over E z x) ys
      (λ e (l : side (E e) z <ℤ pos 0) i. absurd (omega (arith, ints, l, i))) k)),
  then_under E z xs ys h.1 k,
)

-- what stands before an edge that is not over z is under z
pub raised : (E : ℕ → Edge) (z : Vector) (x b : ℕ) (xs : List ℕ) → Neighbours (Over E z) (x ∷ xs)
    → Has b xs → pos 0 ≤ℤ side (E b) z → pos 0 <ℤ side (E x) z
raised E z x b [] h k l = absurd k
raised E z x b (y ∷ ys) h (inl e) l = h.0 (subst (λ c. pos 0 ≤ℤ side (E c) z) e l)
raised E z x b (y ∷ ys) h (inr k) l =
    let r = raised E z y b ys h.1 k l in h.0 (omega (arith, ints, r))

-- at most one edge of a list in order goes through z
pub one_through : (E : ℕ → Edge) (z : Vector) (a b : ℕ) (xs : List ℕ) → Neighbours (Over E z) xs
    → Has a xs → Has b xs → side (E a) z ≡ pos 0 → side (E b) z ≡ pos 0 → a ≡ b
one_through E z a b [] h ka kb za zb = absurd ka
one_through E z a b (x ∷ xs) h (inl ea) (inl eb) za zb = ea ∙ sym eb
one_through E z a b (x ∷ xs) h (inl ea) (inr kb) za zb =
    let r = subst (λ c. pos 0 <ℤ side (E c) z) (sym ea)
    (raised E z x b xs h kb (omega (arith, ints, zb))) in
    absurd (omega (arith, ints, r, za))
one_through E z a b (x ∷ xs) h (inr ka) (inl eb) za zb =
    let r = subst (λ c. pos 0 <ℤ side (E c) z) (sym eb)
    (raised E z x a xs h ka (omega (arith, ints, za))) in
    absurd (omega (arith, ints, r, zb))
one_through E z a b (x ∷ xs) h (inr ka) (inr kb) za zb = one_through E z a b xs h.1 ka kb za zb

-- a list in order, none of whose edges goes through z, is divided by z
pub divides : (E : ℕ → Edge) (z : Vector) (xs : List ℕ) → Neighbours (Over E z) xs
    → ((e : ℕ) → Has e xs → side (E e) z ≡ pos 0 → ⊥) → Divides E z xs
divides E z [] h off = record { lower = []; upper = []; is = refl; under = tt; over = tt }
divides E z (x ∷ xs) h off =
    let r = divides E z xs h.1 (λ e k. off e (inr k)) in
    by_sign (side (E x) z)
    (λ (l : side (E x) z <ℤ pos 0). record {
      lower = [];
      upper = x ∷ xs;
      is = refl;
      under = tt;
      over = up_from_first (λ e. side (E e) z <ℤ pos 0) (x ∷ xs)
          (neighbours_map (Over E z) (λ a b. side (E a) z <ℤ pos 0 → side (E b) z <ℤ pos 0) (x ∷ xs)
          (λ a b ka kb f (i : side (E a) z <ℤ pos 0). under_higher E z a b f
          (omega (arith, ints, i))) h) l;
    })
    (λ l. absurd (off x (inl refl) l))
    (λ (l : pos 0 <ℤ side (E x) z). record {
      lower = x ∷ r.lower;
      upper = r.upper;
      is = ap (λ ys. x ∷ ys) r.is;
      under = (l, r.under);
      over = r.over;
    })

-- ---- a place off the edges divides the live list
pub live_span : (w : ℤ) (m : ℕ) (E : ℕ → Edge) (done todo : List Step) (z : Vector) (e : ℕ)
    → Moment w m E done todo → IsAt w done todo z → Has e (live done) → InSpan w (E e) z
live_span w m E done todo z e h i k =
    let (s, ks, qs) = (live_started m E done e h.done_good k).1 in
    let (t, kt, qt) = live_ends m E (live done) todo e h.todo_good k in
    let late = subst (λ p. sweep w z <ℤ (sweep w (point p) *ℤ z.n)) (sym qt)
    (each_has (λ u. sweep w z <ℤ (sweep w (point u.at) *ℤ z.n)) todo t i.coming kt) in
    record {
      low = subst (λ p. (sweep w (point p) *ℤ z.n) ≤ℤ sweep w z) (sym qs)
          (each_has (λ u. (sweep w (point u.at) *ℤ z.n) ≤ℤ sweep w z) done s i.passed ks);
      high = omega (arith, ints, late);
    }

-- strictly between two steps the whole live list is in order
pub inner_order : (w : ℤ) (m : ℕ) (E : ℕ → Edge) (done todo : List Step) (s : Step) (z : Vector)
    → WeighedRun w m E (onto (s ∷ done) todo) → IsAt w (s ∷ done) todo z → Place z
    → (sweep w (point s.at) *ℤ z.n) <ℤ sweep w z → Neighbours (Over E z) (after s)
inner_order w m E done todo s z all i hz l =
    let h = moment w m E (s ∷ done) todo all in
    let g = moment w m E done (s ∷ todo) all in
    over_order w E (s ∷ done) todo z (after s) hz (live_rises w m E (s ∷ done) todo h)
    (begins m E (s ∷ done) h.done_good) (ends m E (after s) todo h.todo_good) (
      l,
      each_from (λ t. (sweep w (point t.at) *ℤ z.n) <ℤ sweep w z) done
          (λ t k. let x = scaled (sweep w (point t.at)) (sweep w (point s.at)) z.n hz
          (g.cut t s k (inl refl)) in omega (arith, ints, x, l)),
    )
    i.coming

-- an end of an edge is a place of it
pub end_on : (w : ℤ) (e : Edge) (z : Vector) (v : Point) → pos 0 <ℤ rise w e → Place z
    → sweep w z ≡ sweep w (point v) *ℤ z.n → lift z (point v) ≡ pos 0 → IsEnd e v
    → side e (point v) ≡ pos 0 → On w e z
end_on w e z v hr hz h level end zero =
    let r = rise-is w e in
    let up = scaled (sweep w (point e.low)) (sweep w (point e.high)) z.n hz
    (omega (arith, ints, r, hr)) in
    let line : side e z ≡ pos 0 = level_side w e z v h level ∙ ap (λ s. z.n *ℤ s) zero
    ∙ product_comm z.n (pos 0) ∙ zero-product z.n in
    elim end [
      | inl q ↦ let k = subst (λ p. sweep w z ≡ sweep w (point p) *ℤ z.n) (sym q) h in
          record { line = line; low = omega (arith, ints, k); high = omega (arith, ints, k, up) }
      | inr q ↦ let k = subst (λ p. sweep w z ≡ sweep w (point p) *ℤ z.n) (sym q) h in
          record { line = line; low = omega (arith, ints, k, up); high = omega (arith, ints, k) }
    ]

pub end_side : (E : ℕ → Edge) (e : ℕ) (v : Point) → IsEnd (E e) v → side (E e) (point v) ≡ pos 0
end_side E e v (inl q) = side_through_low E e v q
end_side E e v (inr q) = side_through_high E e v q

pub place_order : (w : ℤ) (m : ℕ) (E : ℕ → Edge) (done todo : List Step) (z : Vector)
    → WeighedRun w m E (onto done todo) → IsAt w done todo z → Place z
    → ((e : ℕ) → e < m → On w (E e) z → ⊥) → Neighbours (Over E z) (live done)
place_order w m E [] todo z all i hz off = tt
place_order w m E (s ∷ done) todo z all i hz off =
    let h = moment w m E done (s ∷ todo) all in
    let g = h.todo_good.1 in
    by_lt_z (sweep w (point s.at) *ℤ z.n) (sweep w z)
    (λ (l : (sweep w (point s.at) *ℤ z.n) <ℤ sweep w z). inner_order w m E done todo s z all i hz l)
    (λ (l : sweep w z ≤ℤ (sweep w (point s.at) *ℤ z.n)).
    let p = i.passed.0 in
    let e : sweep w z ≡ sweep w (point s.at) *ℤ z.n = omega (arith, ints, l, p) in
    let o = untouched_order w m E done todo s z all hz e in
    let sides = event_sides w m E done todo s all in
    let rs = untouched_rises w m E done todo s h in
    let zero : (x : ℕ) → Has x s.starting
    → side (E x) (point s.at) ≡ pos 0 =
    λ x k. side_through_low E x s.at (g.starting_only x k).1 in
    let up : (x : ℕ) → Has x s.starting
    → pos 0 <ℤ rise w (E x) = λ x k. h.rises x (g.starting_only x k).0 in
    by_sign (lift z (point s.at))
    (λ (d : lift z (point s.at) <ℤ pos 0). then_under E z s.below (s.starting ++ s.above) o.0
    (each_append (λ x. side (E x) z <ℤ pos 0) s.starting s.above
    (each_from (λ x. side (E x) z <ℤ pos 0) s.starting (λ x k. let q = zero x k in
    lower_side w (E x) z s.at e hz (up x k) d (omega (arith, ints, q))))
    (each_from (λ x. side (E x) z <ℤ pos 0) s.above
    (λ x k. let q = each_has (λ y. side (E y) (point s.at) <ℤ pos 0) s.above x sides.1 k in
    lower_side w (E x) z s.at e hz (rs.1 x k) d (omega (arith, ints, q))))))
    (λ (d : lift z (point s.at) ≡ pos 0).
    let (x, k, end) = all.events s (todo_onto s done (s ∷ todo) (inl refl)) in
    absurd (off x k (end_on w (E x) z s.at (h.rises x k) hz e d end (end_side E x s.at end))))
    (λ (d : pos 0 <ℤ lift z (point s.at)). all_over E z s.below (s.starting ++ s.above)
    (each_from (λ x. pos 0 <ℤ side (E x) z) s.below
    (λ x k. let q = each_has (λ y. pos 0 <ℤ side (E y) (point s.at)) s.below x sides.0 k in
    higher_side w (E x) z s.at e hz (rs.0 x k) d (omega (arith, ints, q))))
    (all_over E z s.starting s.above
    (each_from (λ x. pos 0 <ℤ side (E x) z) s.starting (λ x k. let q = zero x k in
    higher_side w (E x) z s.at e hz (up x k) d (omega (arith, ints, q))))
    o.1)))

pub place_divides : (w : ℤ) (m : ℕ) (E : ℕ → Edge) (done todo : List Step) (z : Vector)
    → WeighedRun w m E (onto done todo) → IsAt w done todo z → Place z
    → ((e : ℕ) → e < m → On w (E e) z → ⊥) → Divides E z (live done)
place_divides w m E done todo z all i hz off =
    let h = moment w m E done todo all in
    divides E z (live done) (place_order w m E done todo z all i hz off)
    (λ e k zero. let span = live_span w m E done todo z e h i k in
    off e (live_started m E done e h.done_good k).0 (record {
      line = zero;
      low = span.low;
      high = span.high;
    }))
