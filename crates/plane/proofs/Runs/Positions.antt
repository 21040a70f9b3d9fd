-- From positions in the live list to the lists of a step, and from indices to neighbours.
-- The rules of a step that are tested by index make a good step.
use Rattle.std.proofs.Common.{◌≡◌, ℕ, zero, suc, ◌+◌, ◌<◌, ◌≤◌, pos, ◌<ℤ◌, List, [], ◌∷◌, ◌++◌}
use Rattle.std.proofs.Common.{length, take, drop, get_or, refl, arith, ap, sym, ◌∙◌, subst}
use Rattle.std.proofs.lemmas.Int.{ints}
use Rattle.std.proofs.lemmas.List.{take-append-drop}
use Rattle.plane.specs.declared.kinds.Point.{Point}
use Rattle.plane.specs.Forms.Vectors.{Edge, point, side}
use Rattle.plane.specs.Lists.{First, Last, Neighbours, Has, Once}
use Rattle.plane.specs.Runs.Steps.{before, GoodStep, Turns}
use Rattle.plane.specs.Runs.Positions.{step_at, turn_at}
use Rattle.plane.proofs.Linear.EdgePlaces.{side-cross}

-- ---- the last of the first p, the first of the rest
pub last_of_take : {X : Type 0} (P : X → Type 0) (d : X) (xs : List X) (p : ℕ) → p ≤ length xs
    → ((k : ℕ) → p ≡ suc k → P (get_or xs k d)) → Last P (take p xs)
last_of_take P d [] zero l h = tt
last_of_take P d (x ∷ xs) zero l h = tt
last_of_take P d [] (suc p) l h = absurd (omega (arith, l))
last_of_take P d (x ∷ []) (suc zero) l h = h zero refl
last_of_take P d (x ∷ (y ∷ ys)) (suc zero) l h = h zero refl
last_of_take P d (x ∷ []) (suc (suc p)) l h = absurd (omega (arith, l))
last_of_take P d (x ∷ (y ∷ ys)) (suc (suc p)) l h =
    last_of_take P d (y ∷ ys) (suc p) (omega (arith, l)) (λ k e. h (suc k) (omega (arith, e)))

pub take_has_last : {X : Type 0} (P : X → Type 0) (d : X) (xs : List X) (k : ℕ) → suc k ≤ length xs
    → Last P (take (suc k) xs) → P (get_or xs k d)
take_has_last P d [] k l h = absurd (omega (arith, l))
take_has_last P d (x ∷ []) zero l h = h
take_has_last P d (x ∷ (y ∷ ys)) zero l h = h
take_has_last P d (x ∷ []) (suc k) l h = absurd (omega (arith, l))
take_has_last P d (x ∷ (y ∷ ys)) (suc k) l h = take_has_last P d (y ∷ ys) k (omega (arith, l)) h

pub first_of_drop : {X : Type 0} (P : X → Type 0) (d : X) (xs : List X) (n : ℕ)
    → (n < length xs → P (get_or xs n d)) → First P (drop n xs)
first_of_drop P d [] zero h = tt
first_of_drop P d [] (suc n) h = tt
first_of_drop P d (x ∷ xs) zero h = h (omega arith)
first_of_drop P d (x ∷ xs) (suc n) h = first_of_drop P d xs n (λ l. h (omega (arith, l)))

pub first_of_drops : {X : Type 0} (P : X → Type 0) (d : X) (xs : List X) (p n j : ℕ) → j ≡ p + n
    → (j < length xs → P (get_or xs j d)) → First P (drop n (drop p xs))
first_of_drops P d [] zero n j e h = first_of_drop P d [] n (λ l. absurd (omega (arith, l)))
first_of_drops P d [] (suc p) n j e h = first_of_drop P d [] n (λ l. absurd (omega (arith, l)))
first_of_drops P d (x ∷ xs) zero n j e h =
    let q : n ≡ j = omega (arith, e) in
    first_of_drop P d (x ∷ xs) n
    (subst (λ i. i < length (x ∷ xs) → P (get_or (x ∷ xs) i d)) (sym q) h)
first_of_drops P d (x ∷ xs) (suc p) n zero e h = absurd (omega (arith, e))
first_of_drops P d (x ∷ xs) (suc p) n (suc j) e h =
    first_of_drops P d xs p n j (omega (arith, e)) (λ l. h (omega (arith, l)))

pub drops_have_first : {X : Type 0} (P : X → Type 0) (d : X) (xs : List X) (n : ℕ) → n < length xs
    → First P (drop n xs) → P (get_or xs n d)
drops_have_first P d [] n l h = absurd (omega (arith, l))
drops_have_first P d (x ∷ xs) zero l h = h
drops_have_first P d (x ∷ xs) (suc n) l h = drops_have_first P d xs n (omega (arith, l)) h

-- ---- neighbours by index
pub neighbours_by_index : {X : Type 0} (R : X → X → Type 0) (d : X) (xs : List X)
    → ((i : ℕ) → suc i < length xs → R (get_or xs i d) (get_or xs (suc i) d)) → Neighbours R xs
neighbours_by_index R d [] h = tt
neighbours_by_index R d (x ∷ []) h = (tt, tt)
neighbours_by_index R d (x ∷ (y ∷ ys)) h =
    (h zero (omega arith), neighbours_by_index R d (y ∷ ys) (λ i l. h (suc i) (omega (arith, l))))

pub neighbours_at : {X : Type 0} (R : X → X → Type 0) (d : X) (xs : List X) (i : ℕ)
    → suc i < length xs → Neighbours R xs → R (get_or xs i d) (get_or xs (suc i) d)
neighbours_at R d [] i l h = absurd (omega (arith, l))
neighbours_at R d (x ∷ []) i l h = absurd (omega (arith, l))
neighbours_at R d (x ∷ (y ∷ ys)) zero l h = h.0
neighbours_at R d (x ∷ (y ∷ ys)) (suc i) l h = neighbours_at R d (y ∷ ys) i (omega (arith, l)) h.1

-- ---- the step at a position
pub before-step_at : (v : Point) (now : List ℕ) (p n : ℕ) (starting : List ℕ)
    → before (step_at v now p n starting) ≡ now
before-step_at v now p n starting =
    ap (λ ys. take p now ++ ys) (take-append-drop n (drop p now)) ∙ take-append-drop p now

-- the rules of a step, tested by index, make a good step
pub good_step_at : (m : ℕ) (E : ℕ → Edge) (v : Point) (now : List ℕ) (p n : ℕ) (starting : List ℕ)
    → p ≤ length now
    → ((e : ℕ) → Has e (take n (drop p now)) → (e < m) × ((E e).high ≡ v))
    → ((e : ℕ) → e < m → (E e).high ≡ v → Has e (take n (drop p now)))
    → Once (take n (drop p now))
    → ((e : ℕ) → Has e starting → (e < m) × ((E e).low ≡ v))
    → ((e : ℕ) → e < m → (E e).low ≡ v → Has e starting)
    → ((i : ℕ) → suc i < length starting
    → Turns E (get_or starting i 0) (get_or starting (suc i) 0))
    → ((k : ℕ) → p ≡ suc k → pos 0 <ℤ side (E (get_or now k 0)) (point v))
    → (p + n < length now → side (E (get_or now (p + n) 0)) (point v) <ℤ pos 0)
    → GoodStep m E (step_at v now p n starting)
good_step_at m E v now p n starting fits ends all_end once starts all_start turns under over =
    record {
      ending_only = ends;
      ending_all = all_end;
      ending_once = once;
      starting_only = starts;
      starting_all = all_start;
      turns = neighbours_by_index (Turns E) 0 starting turns;
      nearest_below = last_of_take (λ e. pos 0 <ℤ side (E e) (point v)) 0 now p fits under;
      nearest_above = first_of_drops (λ e. side (E e) (point v) <ℤ pos 0) 0 now p n (p + n) refl over;
    }

-- the same rules with the turns of integer points in place of sides
pub good_step_by_turns : (m : ℕ) (E : ℕ → Edge) (v : Point) (now : List ℕ) (p n : ℕ)
    (starting : List ℕ)
    → p ≤ length now
    → ((e : ℕ) → Has e (take n (drop p now)) → (e < m) × ((E e).high ≡ v))
    → ((e : ℕ) → e < m → (E e).high ≡ v → Has e (take n (drop p now)))
    → Once (take n (drop p now))
    → ((e : ℕ) → Has e starting → (e < m) × ((E e).low ≡ v))
    → ((e : ℕ) → e < m → (E e).low ≡ v → Has e starting)
    → ((i : ℕ) → suc i < length starting
    → pos 0 <ℤ turn_at E (get_or starting i 0) (E (get_or starting (suc i) 0)).high)
    → ((k : ℕ) → p ≡ suc k → pos 0 <ℤ turn_at E (get_or now k 0) v)
    → (p + n < length now → turn_at E (get_or now (p + n) 0) v <ℤ pos 0)
    → GoodStep m E (step_at v now p n starting)
good_step_by_turns m E v now p n starting fits ends all_end once starts all_start turns under over =
    good_step_at m E v now p n starting fits ends all_end once starts all_start
    (λ i l. let a = side-cross (E (get_or starting i 0)) (E (get_or starting (suc i) 0)).high in
    let b = turns i l in omega (arith, ints, a, b))
    (λ k e. let a = side-cross (E (get_or now k 0)) v in let b = under k e in
    omega (arith, ints, a, b))
    (λ l. let a = side-cross (E (get_or now (p + n) 0)) v in let b = over l in
    omega (arith, ints, a, b))
