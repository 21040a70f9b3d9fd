-- In a run, an event on an edge is an end of it, and edges meet only in common ends.
-- No two edges are the same, and no live list repeats an edge.
use Rattle.std.proofs.Common.{◌≡◌, ℕ, ◌<◌, ℤ, pos, ◌*ℤ◌, ◌-ℤ◌, ◌<ℤ◌, ◌≤ℤ◌, ◌⊎◌, inl, inr, List, []}
use Rattle.std.proofs.Common.{◌∷◌, refl, arith, ap, sym, ◌∙◌, subst}
use Rattle.std.proofs.lemmas.Int.{ints, by_lt_z}
use Rattle.plane.specs.declared.kinds.Point.{Point}
use Rattle.plane.specs.Forms.Vectors.{Vector, Place, point, Same, Edge, side, sweep, rise, lift, On}
use Rattle.plane.specs.Forms.Vectors.{mix, foot}
use Rattle.plane.specs.Lists.{Neighbours, Has, Once}
use Rattle.plane.specs.Runs.Steps.{Step, after, AtSome, onto, live, WeighedRun, IsAt}
use Rattle.plane.proofs.Runs.MomentWords.{Moment, Over}
use Rattle.plane.specs.Forms.Meets.{IsEnd, CommonEnd}
use Rattle.plane.proofs.Algebra.Laws.{product_positive, product_comm}
use Rattle.plane.proofs.Algebra.Ring.{at, num, plus, minus, times, vars, ring}
use Rattle.plane.proofs.ListLemmas.Lists.{each_has, each_from, has_three}
use Rattle.plane.proofs.Linear.Vectors.{rise-is, side-mix, sweep-mix, side-low, side-high}
use Rattle.plane.proofs.Linear.Signs.{by_sign, foot-side, foot-sweep, foot-n, foot_place}
use Rattle.plane.proofs.Runs.LiveEdges.{is_live, side_through_low, side_through_high}
use Rattle.plane.proofs.Runs.Moments.{moment, scaled, locate}
use Rattle.plane.proofs.Runs.Order.{live_rises, untouched_rises, untouched_order, event_sides}
use Rattle.plane.proofs.Runs.Order.{higher_side, lower_side, level_side}
use Rattle.plane.proofs.Runs.Places.{one_through, raised, inner_order}

-- ---- an event on an edge is an end of it
pub event_is_end : (w : ℤ) (m : ℕ) (E : ℕ → Edge) (done todo : List Step) (s : Step) (e : ℕ)
    → WeighedRun w m E (onto done (s ∷ todo)) → e < m → On w (E e) (point s.at) → IsEnd (E e) s.at
event_is_end w m E done todo s e all l on =
    let h = moment w m E done (s ∷ todo) all in
    let i = moment w m E (s ∷ done) todo all in
    let g = h.todo_good.1 in
    let low = on.low in let high = on.high in
    let sides = event_sides w m E done todo s all in
    let not_done : AtSome (E e).high done → ⊥ = λ (t, k, q).
    let x = h.cut t s k (inl refl) in
    let y = subst (λ p. sweep w (point s.at) ≤ℤ (sweep w (point p) *ℤ pos 1)) q high in
    omega (arith, ints, x, y) in
    let not_later : AtSome (E e).low todo → ⊥ = λ (t, k, q).
    let x = i.cut s t (inl refl) k in
    let y = subst (λ p. (sweep w (point p) *ℤ pos 1) ≤ℤ sweep w (point s.at)) q low in
    omega (arith, ints, x, y) in
    let here : AtSome (E e).low done → IsEnd (E e) s.at = λ k.
    let old = subst (λ xs. Has e xs) h.todo_good.0 (is_live m E done e l h.done_good k not_done) in
    elim (has_three e s.below s.ending s.above old) [
      | inl b ↦ let x = each_has (λ y. pos 0 <ℤ side (E y) (point s.at)) s.below e sides.0 b in
          let z = on.line in absurd (omega (arith, ints, x, z))
      | inr r ↦ elim r [
        | inl b ↦ inr (g.ending_only e b).1
        | inr b ↦ let x = each_has (λ y. side (E y) (point s.at) <ℤ pos 0) s.above e sides.1 b in
            let z = on.line in absurd (omega (arith, ints, x, z))
      ]
    ] in
    elim (h.ends e l).0 [
      | inl k ↦ here k
      | inr k ↦ elim (split_at (E e).low s todo k) [
        | inl q ↦ inl q
        | inr later ↦ absurd (not_later later)
      ]
    ]
  where
    split_at : (p : Point) (s : Step) (todo : List Step) → AtSome p (s ∷ todo)
        → (p ≡ s.at) ⊎ AtSome p todo
    split_at p s todo (t, inl k, q) = inl (q ∙ ap (λ (u : Step). u.at) k)
    split_at p s todo (t, inr k, q) = inr (t, k, q)

-- ---- places of an edge at a moment
pub low_done : (w : ℤ) (m : ℕ) (E : ℕ → Edge) (done todo : List Step) (z : Vector) (e : ℕ)
    → Moment w m E done todo → IsAt w done todo z → e < m → On w (E e) z → AtSome (E e).low done
low_done w m E done todo z e h i l on = elim (h.ends e l).0 [
  | inl k ↦ k
  | inr later ↦ absurd (no later)
]
  where
    no : AtSome (E e).low todo → ⊥
    no (t, k, q) =
        let x = each_has (λ u. sweep w z <ℤ (sweep w (point u.at) *ℤ z.n)) todo t i.coming k in
        let y = subst (λ p. (sweep w (point p) *ℤ z.n) ≤ℤ sweep w z) q on.low in
        omega (arith, ints, x, y)

-- an edge with a place on the sweep line of a step, but not through its point, lies below or above
-- the step
pub untouched : (w : ℤ) (m : ℕ) (E : ℕ → Edge) (done todo : List Step) (s : Step) (z : Vector)
    (e : ℕ)
    → WeighedRun w m E (onto done (s ∷ todo)) → IsAt w (s ∷ done) todo z → Place z → e < m
    → sweep w z ≡ sweep w (point s.at) *ℤ z.n → On w (E e) z → (side (E e) (point s.at) ≡ pos 0 → ⊥)
    → Has e s.below ⊎ Has e s.above
untouched w m E done todo s z e all i hz l h on off =
    let u = moment w m E done (s ∷ todo) all in
    let v = moment w m E (s ∷ done) todo all in
    let g = u.todo_good.1 in
    let early : AtSome (E e).low done = earlier (E e).low s done
    (λ q. off (side_through_low E e s.at q)) (low_done w m E (s ∷ done) todo z e v i l on) in
    let high = on.high in
    let not_done : AtSome (E e).high done → ⊥ = λ (t, k, q).
    let x = scaled (sweep w (point t.at)) (sweep w (point s.at)) z.n hz (u.cut t s k (inl refl)) in
    let y = subst (λ p. sweep w z ≤ℤ (sweep w (point p) *ℤ z.n)) q high in
    omega (arith, ints, x, y, h) in
    let old = subst (λ xs. Has e xs) u.todo_good.0
    (is_live m E done e l u.done_good early not_done) in
    elim (has_three e s.below s.ending s.above old) [
      | inl b ↦ inl b
      | inr r ↦ elim r [
        | inl b ↦ absurd (off (side_through_high E e s.at (g.ending_only e b).1))
        | inr b ↦ inr b
      ]
    ]
  where
    earlier : (p : Point) (s : Step) (done : List Step) → (p ≡ s.at → ⊥) → AtSome p (s ∷ done)
        → AtSome p done
    earlier p s done n (t, inl k, q) = absurd (n (q ∙ ap (λ (u : Step). u.at) k))
    earlier p s done n (t, inr k, q) = (t, k, q)

-- z is the place of a point on its sweep line that it does not lie above or below
pub same_place : (w : ℤ) (z : Vector) (v : Point) → sweep w z ≡ sweep w (point v) *ℤ z.n
    → lift z (point v) ≡ pos 0 → Same z (point v)
unfolding sweep lift
same_place w z v h level =
    let a : (pos 1 *ℤ z.x) ≡ z.n *ℤ v.x = omega (arith, ints, level) in
    let b = ring (at 0) (times (num (pos 1)) (at 0)) (vars (z.x ∷ [])) refl in
    let c = ap (λ x. w *ℤ x) (b ∙ a) in
    let d = ring (minus (times (plus (times (at 0) (at 1)) (at 2)) (at 3)) (times (at 2) (at 3)))
    (times (at 0) (times (at 3) (at 1))) (vars (w ∷ v.x ∷ v.y ∷ z.n ∷ [])) refl in
    let e = product_comm z.n v.x in
    record { x = omega (arith, ints, a, e); y = omega (arith, ints, c, d, h) }

pub factor_zero : (n s : ℤ) → pos 0 <ℤ n → n *ℤ s ≡ pos 0 → s ≡ pos 0
factor_zero n s h e = by_sign s
    (λ (l : s <ℤ pos 0). let x = product_positive n (pos 0 -ℤ s) h (omega (arith, ints, l)) in
    let y = ring (times (at 0) (minus (num (pos 0)) (at 1)))
    (minus (num (pos 0)) (times (at 0) (at 1))) (vars (n ∷ s ∷ [])) refl in
    absurd (omega (arith, ints, x, y, e)))
    (λ l. l)
    (λ (l : pos 0 <ℤ s). let x = product_positive n s h l in absurd (omega (arith, ints, x, e)))

pub unscaled : (a b n : ℤ) → pos 0 <ℤ n → (a *ℤ n) ≤ℤ (b *ℤ n) → a ≤ℤ b
unscaled a b n h k =
    by_lt_z b a (λ (l : b <ℤ a). let x = scaled b a n h l in
    absurd (omega (arith, ints, x, k))) (λ l. l)

-- ---- two edges with a common place have a common end there
pub on_point : (w : ℤ) (e : Edge) (z : Vector) (v : Point) → Place z
    → sweep w z ≡ sweep w (point v) *ℤ z.n → lift z (point v) ≡ pos 0 → On w e z → On w e (point v)
on_point w e z v hz h level on =
    let line = on.line in let low = on.low in let high = on.high in
    let a = unscaled (sweep w (point e.low)) (sweep w (point v)) z.n hz
    (omega (arith, ints, low, h)) in
    let b = unscaled (sweep w (point v)) (sweep w (point e.high)) z.n hz
    (omega (arith, ints, high, h)) in
    record {
      line = factor_zero z.n (side e (point v)) hz (sym (level_side w e z v h level) ∙ line);
      low = omega (arith, ints, a);
      high = omega (arith, ints, b);
    }

meet_at : (w : ℤ) (m : ℕ) (E : ℕ → Edge) (done todo : List Step) (z : Vector) (a b : ℕ)
    → WeighedRun w m E (onto done todo) → IsAt w done todo z → a < m → b < m → (a ≡ b → ⊥)
    → Place z → On w (E a) z → On w (E b) z → CommonEnd (E a) (E b) z
meet_at w m E [] todo z a b all i la lb differ hz oa ob =
    absurd (nothing (low_done w m E [] todo z a (moment w m E [] todo all) i la oa))
  where
    nothing : {p : Point} → AtSome p [] → ⊥
    nothing (t, k, q) = k
meet_at w m E (s ∷ done) todo z a b all i la lb differ hz oa ob =
    let u = moment w m E done (s ∷ todo) all in
    let v = moment w m E (s ∷ done) todo all in
    by_lt_z (sweep w (point s.at) *ℤ z.n) (sweep w z)
    (λ (l : (sweep w (point s.at) *ℤ z.n) <ℤ sweep w z).
    let not_done : (e : ℕ) → On w (E e) z → AtSome (E e).high (s ∷ done) → ⊥ = λ e on (t, k, q).
    let y = subst (λ p. sweep w z ≤ℤ (sweep w (point p) *ℤ z.n)) q on.high in
    let x = at_most_last w z s done t hz l (λ t k. u.cut t s k (inl refl)) k in
    omega (arith, ints, x, y) in
    let is : (e : ℕ) → e < m → On w (E e) z
    → Has e (after s) =
    λ e k on. is_live m E (s ∷ done) e k v.done_good
    (low_done w m E (s ∷ done) todo z e v i k on) (not_done e on) in
    absurd (differ
    (one_through E z a b (after s) (inner_order w m E done todo s z all i hz l) (is a la oa)
    (is b lb ob) oa.line ob.line)))
    (λ (l : sweep w z ≤ℤ (sweep w (point s.at) *ℤ z.n)).
    let p = i.passed.0 in
    let e : sweep w z ≡ sweep w (point s.at) *ℤ z.n = omega (arith, ints, l, p) in
    let o = untouched_order w m E done todo s z all hz e in
    let rs = untouched_rises w m E done todo s u in
    let sides = event_sides w m E done todo s all in
    by_sign (lift z (point s.at))
    (λ (d : lift z (point s.at) <ℤ pos 0).
    let under : (x : ℕ) → x < m → On w (E x) z → side (E x) (point s.at) ≤ℤ pos 0 → ⊥ = λ x k on c.
    let y = lower_side w (E x) z s.at e hz (v.rises x k) d c in
    let line = on.line in omega (arith, ints, y, line) in
    let is : (x : ℕ) → x < m → On w (E x) z → Has x s.below = λ x k on.
    elim (untouched w m E done todo s z x all i hz k e on
    (λ (c : side (E x) (point s.at) ≡ pos 0). under x k on (omega (arith, ints, c)))) [
      | inl y ↦ y
      | inr y ↦ let c = each_has (λ y. side (E y) (point s.at) <ℤ pos 0) s.above x sides.1 y in
          absurd (under x k on (omega (arith, ints, c)))
    ] in
    absurd (differ (one_through E z a b s.below o.0 (is a la oa) (is b lb ob) oa.line ob.line)))
    (λ (d : lift z (point s.at) ≡ pos 0). record {
      at = s.at;
      of_first = event_is_end w m E done todo s a all la (on_point w (E a) z s.at hz e d oa);
      of_second = event_is_end w m E done todo s b all lb (on_point w (E b) z s.at hz e d ob);
      is = same_place w z s.at e d;
    })
    (λ (d : pos 0 <ℤ lift z (point s.at)).
    let over : (x : ℕ) → x < m → On w (E x) z → pos 0 ≤ℤ side (E x) (point s.at) → ⊥ = λ x k on c.
    let y = higher_side w (E x) z s.at e hz (v.rises x k) d c in
    let line = on.line in omega (arith, ints, y, line) in
    let is : (x : ℕ) → x < m → On w (E x) z → Has x s.above = λ x k on.
    elim (untouched w m E done todo s z x all i hz k e on
    (λ (c : side (E x) (point s.at) ≡ pos 0). over x k on (omega (arith, ints, c)))) [
      | inl y ↦ let c = each_has (λ y. pos 0 <ℤ side (E y) (point s.at)) s.below x sides.0 y in
          absurd (over x k on (omega (arith, ints, c)))
      | inr y ↦ y
    ] in
    absurd (differ (one_through E z a b s.above o.1 (is a la oa) (is b lb ob) oa.line ob.line))))
  where
    at_most_last : (w : ℤ) (z : Vector) (s : Step) (done : List Step) (t : Step) → Place z
        → (sweep w (point s.at) *ℤ z.n) <ℤ sweep w z
        → ((t : Step) → Has t done → sweep w (point t.at) <ℤ sweep w (point s.at))
        → Has t (s ∷ done) → (sweep w (point t.at) *ℤ z.n) <ℤ sweep w z
    at_most_last w z s done t hz l f (inl q) =
        subst (λ (u : Step). (sweep w (point u.at) *ℤ z.n) <ℤ sweep w z) (sym q) l
    at_most_last w z s done t hz l f (inr k) =
        let x = scaled (sweep w (point t.at)) (sweep w (point s.at)) z.n hz (f t k) in
        omega (arith, ints, x, l)

pub meet_in_ends : (w : ℤ) (m : ℕ) (E : ℕ → Edge) (steps : List Step) (z : Vector) (a b : ℕ)
    → WeighedRun w m E steps → a < m → b < m → (a ≡ b → ⊥)
    → Place z → On w (E a) z → On w (E b) z → CommonEnd (E a) (E b) z
meet_in_ends w m E steps z a b all la lb differ hz oa ob =
    let (done, todo, same, i) = locate w z [] steps hz all.rising tt in
    meet_at w m E done todo z a b (subst (λ ss. WeighedRun w m E ss) same all) i la lb differ hz oa
    ob

-- ---- two edges have at most one common end
pub same_sweep : (w : ℤ) (z : Vector) (v : Point) → Same z (point v)
    → sweep w z ≡ sweep w (point v) *ℤ z.n
unfolding sweep
same_sweep w z v same =
    let x = same.x in let y = same.y in
    let a = ring (times (num (pos 1)) (at 0)) (at 0) (vars (z.x ∷ [])) refl in
    let x2 : z.x ≡ v.x *ℤ z.n = omega (arith, ints, x) in
    let c = ap (λ q. w *ℤ q) x2 in
    let d = ring (times (plus (times (at 0) (at 1)) (at 2)) (at 3))
    (plus (times (at 0) (times (at 1) (at 3))) (times (at 2) (at 3)))
    (vars (w ∷ v.x ∷ v.y ∷ z.n ∷ [])) refl in
    omega (arith, ints, c, d, y)

-- the middle of an edge
abbrev pub middle : Edge → Vector
middle e = mix (pos 1) (point e.low) (pos 1) (point e.high)

pub middle_on : (w : ℤ) (e : Edge) → pos 0 <ℤ rise w e → On w e (middle e)
middle_on w e h =
    let r = rise-is w e in
    let s = sweep-mix w (pos 1) (point e.low) (pos 1) (point e.high) in
    let l = side-mix e (pos 1) (point e.low) (pos 1) (point e.high) in
    let a = side-low e in let b = side-high e in
    record {
      line = omega (arith, ints, l, a, b);
      low = omega (arith, ints, h, r, s);
      high = omega (arith, ints, h, r, s);
    }

pub ends_differ : (w : ℤ) (m : ℕ) (E : ℕ → Edge) (steps : List Step) (a b : ℕ)
    → WeighedRun w m E steps → a < m → b < m → (a ≡ b → ⊥) → E a ≡ E b → ⊥
ends_differ w m E steps a b all la lb differ same =
    let h = all.rises a la in
    let r = rise-is w (E a) in
    let z = middle (E a) in
    let oa = middle_on w (E a) h in
    let c = meet_in_ends w m E steps z a b all la lb differ (omega (arith, ints)) oa
    (subst (λ e. On w e z) same oa) in
    let s = sweep-mix w (pos 1) (point (E a).low) (pos 1) (point (E a).high) in
    let t = same_sweep w z c.at c.is in
    elim c.of_first [
      | inl q ↦ let u = subst (λ p. sweep w z ≡ sweep w (point p) *ℤ z.n) (sym q) t in
          omega (arith, ints, h, r, s, u)
      | inr q ↦ let u = subst (λ p. sweep w z ≡ sweep w (point p) *ℤ z.n) (sym q) t in
          omega (arith, ints, h, r, s, u)
    ]

-- ---- no live list repeats an edge
once_from : (E : ℕ → Edge) (f : ℕ → Vector) (xs : List ℕ)
    → ((x : ℕ) → Has x xs → side (E x) (f x) ≡ pos 0)
    → ((x : ℕ) → Has x xs → Neighbours (Over E (f x)) xs) → Once xs
once_from E f [] zero order = tt
once_from E f (x ∷ xs) zero order =
    let z : side (E x) (f x) ≡ pos 0 = zero x (inl refl) in (
      λ k. let r = raised E (f x) x x xs (order x (inl refl)) k (omega (arith, ints, z)) in
          omega (arith, ints, r, z),
      once_from E f xs (λ y k. zero y (inr k)) (λ y k. (order y (inr k)).1),
    )

most : (w : ℤ) (s : Step) (done : List Step) (u : Step)
    → ((v : Step) → Has v done → sweep w (point v.at) <ℤ sweep w (point s.at)) → Has u (s ∷ done)
    → sweep w (point u.at) ≤ℤ sweep w (point s.at)
most w s done u f (inl q) =
    subst (λ (v : Step). sweep w (point v.at) ≤ℤ sweep w (point s.at)) (sym q) (omega (arith, ints))
most w s done u f (inr k) = let l = f u k in omega (arith, ints, l)

least : (w : ℤ) (t : Step) (todo : List Step) (u : Step)
    → ((v : Step) → Has v todo → sweep w (point t.at) <ℤ sweep w (point v.at)) → Has u (t ∷ todo)
    → sweep w (point t.at) ≤ℤ sweep w (point u.at)
least w t todo u f (inl q) =
    subst (λ (v : Step). sweep w (point t.at) ≤ℤ sweep w (point v.at)) (sym q) (omega (arith, ints))
least w t todo u f (inr k) = let l = f u k in omega (arith, ints, l)

-- a foot of an edge is on the sweep line that it was taken for
foot_after : (w : ℤ) (e : Edge) (z : Vector) (v : Point) → pos 0 <ℤ rise w e
    → (sweep w (point v) *ℤ z.n) <ℤ sweep w z
    → (sweep w (point v) *ℤ (foot w e z).n) <ℤ sweep w (foot w e z)
foot_after w e z v h l =
    rw (foot-sweep w e z, foot-n w e z)
    (weighted (rise w e) (sweep w (point v)) z.n (sweep w z) h l)
  where
    weighted : (r a n b : ℤ) → pos 0 <ℤ r → (a *ℤ n) <ℤ b → (a *ℤ (r *ℤ n)) <ℤ (r *ℤ b)
    weighted r a n b h l =
        let p = product_positive r (b -ℤ (a *ℤ n)) h (omega (arith, ints, l)) in
        let e = ring (times (at 0) (minus (at 3) (times (at 1) (at 2))))
        (minus (times (at 0) (at 3)) (times (at 1) (times (at 0) (at 2))))
        (vars (r ∷ a ∷ n ∷ b ∷ [])) refl in
        omega (arith, ints, p, e)

foot_before : (w : ℤ) (e : Edge) (z : Vector) (v : Point) → pos 0 <ℤ rise w e
    → sweep w z <ℤ (sweep w (point v) *ℤ z.n)
    → sweep w (foot w e z) <ℤ (sweep w (point v) *ℤ (foot w e z).n)
foot_before w e z v h l =
    rw (foot-sweep w e z, foot-n w e z)
    (weighted (rise w e) (sweep w (point v)) z.n (sweep w z) h l)
  where
    weighted : (r a n b : ℤ) → pos 0 <ℤ r → b <ℤ (a *ℤ n) → (r *ℤ b) <ℤ (a *ℤ (r *ℤ n))
    weighted r a n b h l =
        let p = product_positive r ((a *ℤ n) -ℤ b) h (omega (arith, ints, l)) in
        let e = ring (times (at 0) (minus (times (at 1) (at 2)) (at 3)))
        (minus (times (at 1) (times (at 0) (at 2))) (times (at 0) (at 3)))
        (vars (r ∷ a ∷ n ∷ b ∷ [])) refl in
        omega (arith, ints, p, e)

pub live_once : (w : ℤ) (m : ℕ) (E : ℕ → Edge) (done todo : List Step)
    → WeighedRun w m E (onto done todo) → Once (live done)
live_once w m E [] todo all = tt
live_once w m E (s ∷ done) [] all =
    let h = moment w m E (s ∷ done) [] all in
    subst (λ xs. Once xs) (sym h.todo_good) tt
live_once w m E (s ∷ done) (t ∷ todo) all =
    let h = moment w m E (s ∷ done) (t ∷ todo) all in
    let i = moment w m E (t ∷ s ∷ done) todo all in
    let g = moment w m E done (s ∷ t ∷ todo) all in
    let z = mix (pos 1) (point s.at) (pos 1) (point t.at) in
    let st = h.cut s t (inl refl) (inl refl) in
    let zs = sweep-mix w (pos 1) (point s.at) (pos 1) (point t.at) in
    let f : ℕ → Vector = λ e. foot w (E e) z in
    let rises = live_rises w m E (s ∷ done) (t ∷ todo) h in
    once_from E f (after s) (λ x k. foot-side w (E x) z)
    (λ x k. inner_order w m E done (t ∷ todo) s (f x) all
    (record {
      passed = each_from (λ u. (sweep w (point u.at) *ℤ (f x).n) ≤ℤ sweep w (f x)) (s ∷ done)
          (λ u l.
          let d = most w s done u (λ v j. g.cut v s j (inl refl)) l in
          let q = foot_after w (E x) z u.at (rises x k) (omega (arith, ints, st, zs, d)) in
          omega (arith, ints, q));
      coming = each_from (λ u. sweep w (f x) <ℤ (sweep w (point u.at) *ℤ (f x).n)) (t ∷ todo)
          (λ u l.
          let d = least w t todo u (λ v j. i.cut t v (inl refl) j) l in
          foot_before w (E x) z u.at (rises x k) (omega (arith, ints, st, zs, d)));
    })
    (foot_place w (E x) z (rises x k) (omega (arith, ints)))
    (foot_after w (E x) z s.at (rises x k) (omega (arith, ints, st, zs))))
