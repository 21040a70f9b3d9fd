-- Where some two edges are bad, the sweep comes to a fault.
-- A live edge through an event that is not its end is a bad pair with each edge that ends or starts
-- there.
use Rattle.std.proofs.Common.{◌≡◌, ℕ, ◌<◌, ℤ, pos, ◌<ℤ◌, ◌≤ℤ◌, ◌⊎◌, inl, inr, List, [], ◌∷◌, refl}
use Rattle.std.proofs.Common.{arith, sym, subst}
use Rattle.std.proofs.lemmas.Int.{ints, by_lt_z}
use Rattle.plane.specs.declared.kinds.Point.{Point}
use Rattle.plane.specs.Forms.Vectors.{point, Edge, side, sweep, rise, Same}
use Rattle.plane.specs.Lists.{Neighbours, Has}
use Rattle.plane.specs.Runs.Steps.{Step, after, live}
use Rattle.plane.specs.Forms.Weights.{Weight}
use Rattle.plane.specs.Forms.Meets.{IsEnd}
use Rattle.plane.specs.Forms.Meets.{OnStraight, Fine, Bad}
use Rattle.plane.specs.Runs.Sweeps.{IsEventList, FinePair, Front, Clear, SomeNeighbours, OnLive}
use Rattle.plane.proofs.Sweep.SweepWords.{Ready, Found}
use Rattle.plane.proofs.Linear.Vectors.{rise-is, side-low, side-high}
use Rattle.plane.proofs.Runs.LiveEdges.{live_started}
use Rattle.plane.proofs.Runs.Meeting.{same_sweep}
use Rattle.plane.proofs.Sweep.Pairs.{straight_on, on_straight}
use Rattle.plane.proofs.Sweep.Fronts.{Cut, front_cut, first_only, falls}
use Rattle.plane.proofs.Sweep.Steps.{at_done, known, next}
use Rattle.plane.proofs.Sweep.SweepEnd.{ready, start, complete_fine, fine_not_bad}
use Rattle.plane.proofs.Sweep.NextStep.{walk, step_of, walked_made, fan_of}

-- ---- deciding along a list
pub neighbours_or : (R S : ℕ → ℕ → Type 0) (xs : List ℕ)
    → ((a b : ℕ) → Has a xs → Has b xs → R a b ⊎ S a b) → Neighbours R xs ⊎ SomeNeighbours S xs
neighbours_or R S [] f = inl tt
neighbours_or R S (x ∷ []) f = inl (tt, tt)
neighbours_or R S (x ∷ (y ∷ ys)) f = elim (f x y (inl refl) (inr (inl refl))) [
  | inl r ↦ elim (neighbours_or R S (y ∷ ys) (λ a b k l. f a b (inr k) (inr l)))
      [ inl rest ↦ inl (r, rest) | inr s ↦ inr (inr s) ]
  | inr s ↦ inr (inl s)
]

pub each_or : (P Q : ℕ → Type 0) (xs : List ℕ) → ((e : ℕ) → Has e xs → P e ⊎ Q e)
    → ((e : ℕ) → Has e xs → P e) ⊎ ((e : ℕ) × Has e xs × Q e)
each_or P Q [] f = inl (λ e k. absurd k)
each_or P Q (x ∷ xs) f = elim (f x (inl refl)) [
  | inl p ↦ elim (each_or P Q xs (λ e k. f e (inr k))) [
    | inl rest ↦ inl (λ e k. elim k [ inl q ↦ subst P (sym q) p | inr l ↦ rest e l ])
    | inr (e, k, q) ↦ inr (e, inr k, q)
  ]
  | inr q ↦ inr (x, inl refl, q)
]

-- ---- a live edge through the next event
end_test : (w : ℤ) (m : ℕ) (E : ℕ → Edge) (pts : List Point) (done : List Step) (v : Point)
    (coming : List Point)
    → Ready w m E pts → Front w m E pts done (v ∷ coming)
    → (e : ℕ) → Has e (live done) → (OnStraight (E e) (point v) → (E e).high ≡ v)
    ⊎ (OnStraight (E e) (point v) × ((E e).high ≡ v → ⊥))
end_test w m E pts done v coming h f e k =
    let c = front_cut w m E pts done (v ∷ coming) h f in
    let st = live_started m E done e f.replayed k in
    let up = h.rises e st.0 in
    by_lt_z (sweep w (point v)) (sweep w (point (E e).high))
    (λ (l : sweep w (point v) <ℤ sweep w (point (E e).high)).
    by_lt_z (side (E e) (point v)) (pos 0)
    (λ (i : side (E e) (point v) <ℤ pos 0). inl
    (λ on. absurd
    (below_not _ i (straight_on w (E e) (point v) up (omega (arith, ints)) on).line)))
    (λ (i : pos 0 ≤ℤ side (E e) (point v)). by_lt_z (pos 0) (side (E e) (point v))
    (λ (j : pos 0 <ℤ side (E e) (point v)). inl
    (λ on. absurd
    (above_not _ j (straight_on w (E e) (point v) up (omega (arith, ints)) on).line)))
    (λ (j : side (E e) (point v) ≤ℤ pos 0).
    let low = at_done w m E done v (E e).low coming c st.1 in
    inr (
      on_straight w (E e) (point v) up (omega (arith, ints))
          (record {
            line = omega (arith, ints, i, j);
            low = omega (arith, ints, low);
            high = omega (arith, ints, l);
          }),
      λ q. less_not _ _ l (subst (λ p. sweep w (point v) ≡ sweep w (point p)) (sym q) refl),
    ))))
    (λ (l : sweep w (point (E e).high) ≤ℤ sweep w (point v)). inl
    (λ on. first_only w v (E e).high coming c.rising (f.late e k) l))
  where
    above_not : (z : ℤ) → pos 0 <ℤ z → z ≡ pos 0 → ⊥
    above_not z h k = omega (arith, ints)

    below_not : (z : ℤ) → z <ℤ pos 0 → z ≡ pos 0 → ⊥
    below_not z h k = omega (arith, ints)

    less_not : (x y : ℤ) → x <ℤ y → x ≡ y → ⊥
    less_not x y h e = omega (arith, ints)

pub clear_or : (w : ℤ) (m : ℕ) (E : ℕ → Edge) (pts : List Point) (done : List Step) (v : Point)
    (coming : List Point)
    → Ready w m E pts → Front w m E pts done (v ∷ coming)
    → Clear E (live done) v ⊎ OnLive E (live done) v
clear_or w m E pts done v coming h f =
    elim (each_or (λ e. OnStraight (E e) (point v) → (E e).high ≡ v)
    (λ e. OnStraight (E e) (point v) × ((E e).high ≡ v → ⊥)) (live done)
    (end_test w m E pts done v coming h f)) [
      | inl all ↦ inl all
      | inr (e, k, o) ↦ inr (record { edge = e; lives = k; on = o.0; no_end = o.1 })
    ]

-- ---- whether an edge starts at the next event is seen from the sweep values
start_test : (w : ℤ) (m : ℕ) (E : ℕ → Edge) (done : List Step) (v : Point) (coming : List Point)
    → Cut w m E done (v ∷ coming) → (e : ℕ) → e < m → ((E e).low ≡ v) ⊎ ((E e).low ≡ v → ⊥)
start_test w m E done v coming c e l = elim (c.low e l) [
  | inl k ↦ let x = at_done w m E done v (E e).low coming c k in
      inr (λ q. less_not _ _ x (subst (λ p. sweep w (point (E e).low) ≡ sweep w (point p)) q refl))
  | inr k ↦ by_lt_z (sweep w (point v)) (sweep w (point (E e).low))
      (λ (x : sweep w (point v) <ℤ sweep w (point (E e).low)). inr
      (λ q. less_not _ _ x (subst (λ p. sweep w (point p) ≡ sweep w (point (E e).low)) q refl)))
      (λ (x : sweep w (point (E e).low) ≤ℤ sweep w (point v)). inl
      (first_only w v (E e).low coming c.rising k x))
]
  where
    less_not : (x y : ℤ) → x <ℤ y → x ≡ y → ⊥
    less_not x y h e = omega (arith, ints)

-- ---- the sweep goes on to its end, or comes to a fault
pub go_on : (w : ℤ) (m : ℕ) (E : ℕ → Edge) (pts : List Point) (done : List Step)
    (coming : List Point)
    → Ready w m E pts → ((a b : ℕ) → a < m → b < m → Fine (E a) (E b) ⊎ Bad (E a) (E b))
    → Front w m E pts done coming → ((end : List Step) × Front w m E pts end []) ⊎ Found w m E pts
go_on w m E pts done [] h meets f = inl (done, f)
go_on w m E pts done (v ∷ coming) h meets f = elim (clear_or w m E pts done v coming h f) [
  | inr o ↦ inr (record { done = done; event = v; coming = coming; front = f; fault = inl o })
  | inl clear ↦
      let c = front_cut w m E pts done (v ∷ coming) h f in
      let r = walk E v (live done) in
      let fan = fan_of m E v (start_test w m E done v coming c) in
      let made = walked_made m E v (live done) r fan (falls w m E pts done v coming h f) in
      let s = step_of v r fan in
      let is : (e : ℕ) → Has e (after s)
      → e < m = known m E (live done) s made
      (λ e k. (live_started m E done e f.replayed k).0) in
      elim (neighbours_or (FinePair E) (λ a b. Bad (E a) (E b)) (after s)
      (λ a b ka kb. meets a b (is a ka) (is b kb))) [
        | inr bad ↦ inr (record {
          done = done;
          event = v;
          coming = coming;
          front = f;
          fault = inr (record { step = s; at = refl; made = made; pair = bad });
        })
        | inl fine ↦ go_on w m E pts (s ∷ done) coming h meets
            (next w m E pts done s coming h f clear made fine)
      ]
]

-- a complete sweep, or a fault
pub run_or_found : (w : ℤ) (m : ℕ) (E : ℕ → Edge) (pts : List Point) → Weight w pts
    → IsEventList m E pts → ((a b : ℕ) → a < m → b < m → Fine (E a) (E b) ⊎ Bad (E a) (E b))
    → ((end : List Step) × Front w m E pts end []) ⊎ Found w m E pts
run_or_found w m E pts h ev meets =
    go_on w m E pts [] pts (ready w m E pts h ev) meets (start w m E pts)

pub bad_found : (w : ℤ) (m : ℕ) (E : ℕ → Edge) (pts : List Point) (a b : ℕ) → Weight w pts
    → IsEventList m E pts → ((a b : ℕ) → a < m → b < m → Fine (E a) (E b) ⊎ Bad (E a) (E b))
    → a < m → b < m → (a ≡ b → ⊥) → Bad (E a) (E b) → Found w m E pts
bad_found w m E pts a b h ev meets la lb differ bad = elim (run_or_found w m E pts h ev meets) [
  | inl (end, f) ↦ absurd
      (fine_not_bad (E a) (E b) (complete_fine w m E pts end a b h ev f la lb differ) bad)
  | inr found ↦ found
]

-- ---- each fault names a bad pair
-- a live edge through an event that is not its end, and any edge that starts or ends there
pub on_live_bad : (w : ℤ) (m : ℕ) (E : ℕ → Edge) (pts : List Point) (done : List Step) (v : Point)
    (coming : List Point)
    → Ready w m E pts → Front w m E pts done (v ∷ coming)
    → (o : OnLive E (live done) v) → (d : ℕ) → d < m → IsEnd (E d) v
    → (o.edge ≡ d → ⊥) × Bad (E o.edge) (E d)
on_live_bad w m E pts done v coming h f o d l end =
    let e = o.edge in
    let c = front_cut w m E pts done (v ∷ coming) h f in
    let low = at_done w m E done v (E e).low coming c
    (live_started m E done e f.replayed o.lives).1 in
    let no : (p : Point) → sweep w (point p) ≡ sweep w (point v) → IsEnd (E e) p
    → ⊥ = λ p at i. no_end w E done v coming e p m c low (f.late e o.lives) o.no_end at i in (
      λ q. no v refl (subst (λ x. IsEnd (E x) v) (sym q) end),
      record {
        at = point v;
        place = omega (arith, ints);
        of_first = o.on;
        of_second = end_place w (E d) v (h.rises d l) end;
        no_end = λ k. no k.at (level w v k.at k.is) k.of_first;
      },
    )
  where
    no_end : (w : ℤ) (E : ℕ → Edge) (done : List Step) (v : Point) (coming : List Point) (e : ℕ)
        (p : Point) (m : ℕ)
        → Cut w m E done (v ∷ coming) → sweep w (point (E e).low) <ℤ sweep w (point v)
        → Has (E e).high (v ∷ coming)
        → ((E e).high ≡ v → ⊥) → sweep w (point p) ≡ sweep w (point v) → IsEnd (E e) p → ⊥
    no_end w E done v coming e p m c low late n at (inl q) =
        let x = subst (λ r. sweep w (point r) <ℤ sweep w (point v)) q low in
        omega (arith, ints, x, at)
    no_end w E done v coming e p m c low late n at (inr q) =
        n (first_only w v (E e).high coming c.rising late
        (subst (λ r. sweep w (point r) ≤ℤ sweep w (point v)) (sym q) (omega (arith, ints, at))))

    level : (w : ℤ) (v p : Point) → Same (point v) (point p) → sweep w (point p) ≡ sweep w (point v)
    level w v p same = let x = same_sweep w (point v) p same in omega (arith, ints, x)

    end_place : (w : ℤ) (e : Edge) (v : Point) → pos 0 <ℤ rise w e → IsEnd e v
        → OnStraight e (point v)
    end_place w e v up (inl q) =
        let r = rise-is w e in let s = side-low e in
        subst (λ p. OnStraight e (point p)) q
        (on_straight w e (point e.low) up (omega (arith, ints)) (record {
          line = s;
          low = omega (arith, ints);
          high = omega (arith, ints, r, up);
        }))
    end_place w e v up (inr q) =
        let r = rise-is w e in let s = side-high e in
        subst (λ p. OnStraight e (point p)) q
        (on_straight w e (point e.high) up (omega (arith, ints)) (record {
          line = s;
          low = omega (arith, ints, r, up);
          high = omega (arith, ints);
        }))
