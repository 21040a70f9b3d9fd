-- Domains that lead back to themselves.
use Rattle.std.proofs.Common.{◌≡◌, ℕ, zero, suc, ◌+◌, ◌-◌, ◌*◌, ◌<◌, ◌≤◌, ◌⊎◌, inl, inr, Bool, true}
use Rattle.std.proofs.Common.{false, cond, ◌||◌, ◌&&◌, ◌==◌, List, [], ◌∷◌, length, get_or, Option}
use Rattle.std.proofs.Common.{Some, None, refl, ap, sym, ◌∙◌, arith, true≢false, eq-eqb, nat_lt}
use Rattle.std.proofs.Common.{take, set}
use Rattle.std.proofs.lemmas.Bool.{cases_eq, ne_eqb}
use Rattle.std.proofs.lemmas.List.Folds.{list_any_at, list_any_more}
use Rattle.std.proofs.lemmas.List.{get_or-set_same, get_or-set_other}
use Rattle.std.proofs.Math.Bool.{or-false}
use Rattle.std.specs.List.{list_any}
use Rattle.std.specs.Option.{unwrap_or, option_map_or, is_some}
use Rattle.resolver.specs.Scopes.{reached, comes_to, longest}
use Rattle.resolver.specs.Aliases.{step_in, StepsWithin, IsJump}
use Rattle.resolver.proofs.ListLemmas.Reaching.{reached_add, step_within}

-- a value is taken below m, or nowhere there
pub sought : (f : ℕ → ℕ) (v m : ℕ)
    → ((k : ℕ) × (k < m) × (f k ≡ v)) ⊎ ((k : ℕ) → k < m → f k ≡ v → ⊥)
sought f v zero = inr (λ k lt e. absurd (omega (arith, lt)))
sought f v (suc m) =
    elim (sought f v m) as (λ _. ((k : ℕ) × (k < suc m) × (f k ≡ v))
    ⊎ ((k : ℕ) → k < suc m → f k ≡ v → ⊥)) [
      | inl w ↦ inl (w.0, omega (arith, w.1), w.2)
      | inr nowhere ↦ elim (cases_eq (f m) v) as
          (λ _. ((k : ℕ) × (k < suc m) × (f k ≡ v)) ⊎ ((k : ℕ) → k < suc m → f k ≡ v → ⊥)) [
            | inl e ↦ inl (m, omega arith, e)
            | inr ne ↦ inr
                (λ k lt e. elim (cases_eq k m) as (λ _. ⊥) [
                  | inl at ↦ ne (ap f (sym at) ∙ e)
                  | inr other ↦ nowhere k (omega (arith, lt, other)) e
                ])
          ]
    ]

-- the values without v, moved together
pub without : ℕ → ℕ → ℕ
without v x = cond (nat_lt x v) x (x - 1)

pub without_once : (v x y : ℕ) → (x ≡ v → ⊥) → (y ≡ v → ⊥) → without v x ≡ without v y → x ≡ y
unfolding without
without_once v x y nx ny e = grind (arith, e, nx, ny)

pub without_below : (v x n : ℕ) → (x ≡ v → ⊥) → x < suc n → v < suc n → without v x < n
unfolding without
without_below v x n nx lx lv = grind (arith, nx, lx, lv)

-- of n + 1 numbers below n two are equal
pub two_equal : (n : ℕ) (f : ℕ → ℕ) → ((k : ℕ) → k ≤ n → f k < n)
    → (p : ℕ) × (q : ℕ) × (p < q) × (q ≤ n) × (f p ≡ f q)
two_equal zero f h = absurd (omega (arith, h 0 (omega arith)))
two_equal (suc n) f h =
    elim (sought f (f (suc n)) (suc n)) as
    (λ _. (p : ℕ) × (q : ℕ) × (p < q) × (q ≤ suc n) × (f p ≡ f q)) [
      | inl w ↦ (w.0, suc n, w.1, omega arith, w.2)
      | inr nowhere ↦
          let g : ℕ → ℕ = λ k. without (f (suc n)) (f k) in
          let below : (k : ℕ) → k ≤ n
          → g k < n = λ k le. without_below (f (suc n)) (f k) n (nowhere k (omega (arith, le)))
          (h k (omega (arith, le))) (h (suc n) (omega arith)) in
          let w = two_equal n g below in (
            w.0,
            w.1,
            w.2,
            omega (arith, w.3),
            without_once (f (suc n)) (f w.0) (f w.1) (nowhere w.0 (omega (arith, w.2, w.3)))
                (nowhere w.1 (omega (arith, w.3))) w.4,
          )
    ]

pub or-right : (a b : Bool) → b ≡ true → (a || b) ≡ true
or-right true b e = refl
or-right false b e = e

-- where a way has ended it stays
pub stays : (step : ℕ → Option ℕ) (m from : ℕ) → step from ≡ None → reached step m from ≡ from
unfolding reached
stays step zero from e = refl
stays step (suc m) from e = ap (λ (o : Option ℕ). reached step m (unwrap_or o from)) e
    ∙ stays step m from e

pub reached_within : (steps : List (Option ℕ)) (k from : ℕ) → StepsWithin steps
    → from < length steps → reached (step_in steps) k from < length steps
unfolding reached
reached_within steps zero from w lt = lt
reached_within steps (suc k) from w lt =
    reached_within steps k (unwrap_or (step_in steps from) from) w
    (step_within (step_in steps from) from (length steps) lt (w from))

-- steps from a domain that come to one whose way goes on are found
pub back_is_found : (step : ℕ → Option ℕ) (i m from : ℕ) → is_some (step i) ≡ true
    → reached step (suc m) from ≡ i → comes_to step i (suc m) from ≡ true
unfolding comes_to reached
back_is_found step i zero from s e = last (step from) refl e
  where
    last : (o : Option ℕ) → step from ≡ o → unwrap_or o from ≡ i
        → option_map_or (λ next. (next == i) || false) o false ≡ true
    last None q e = absurd (true≢false (sym s ∙ ap is_some (ap step (sym e) ∙ q)))
    last (Some next) q e = ap (λ (b : Bool). b || false) (eq-eqb next i e)
back_is_found step i (suc m) from s e =
    more (λ next h. back_is_found step i m next s h) (step from) refl e
  where
    more : ((next : ℕ) → reached step (suc m) next ≡ i → comes_to step i (suc m) next ≡ true)
        → (o : Option ℕ) → step from ≡ o → reached step (suc m) (unwrap_or o from) ≡ i
        → option_map_or (λ next. (next == i) || comes_to step i (suc m) next) o false ≡ true
    more again None q e =
        absurd (true≢false (sym s
        ∙ ap is_some (ap step (sym (sym (stays step (suc m) from q) ∙ e)) ∙ q)))
    more again (Some next) q e = or-right (next == i) (comes_to step i (suc m) next) (again next e)

-- what is found in some steps is found in more
pub more_steps : (step : ℕ → Option ℕ) (i k d from : ℕ) → comes_to step i k from ≡ true
    → comes_to step i (k + d) from ≡ true
unfolding comes_to
more_steps step i zero d from e = absurd (true≢false (sym e))
more_steps step i (suc k) d from e =
    let up : suc k + d ≡ suc (k + d) = omega arith in
    ap (λ (n : ℕ). comes_to step i n from) up
    ∙ more (λ next h. more_steps step i k d next h) (step from) e
  where
    more : ((next : ℕ) → comes_to step i k next ≡ true → comes_to step i (k + d) next ≡ true)
        → (o : Option ℕ)
        → option_map_or (λ next. (next == i) || comes_to step i k next) o false ≡ true
        → option_map_or (λ next. (next == i) || comes_to step i (k + d) next) o false ≡ true
    more again None e = absurd (true≢false (sym e))
    more again (Some next) e =
        elim (next == i) as (λ b. (b || comes_to step i k next) ≡ true
        → (b || comes_to step i (k + d) next) ≡ true) [
          | true ↦ λ h. refl
          | false ↦ λ h. again next h
        ] e

-- what is found was reached
pub found_is_back : (step : ℕ → Option ℕ) (i k from : ℕ) → comes_to step i k from ≡ true
    → (m : ℕ) × (suc m ≤ k) × (reached step (suc m) from ≡ i)
unfolding comes_to reached
found_is_back step i zero from e = absurd (true≢false (sym e))
found_is_back step i (suc k) from e =
    next_is (λ next h. found_is_back step i k next h) (step from) refl e
  where
    next_is : ((next : ℕ) → comes_to step i k next ≡ true
        → (m : ℕ) × (suc m ≤ k) × (reached step (suc m) next ≡ i))
        → (o : Option ℕ) → step from ≡ o
        → option_map_or (λ next. (next == i) || comes_to step i k next) o false ≡ true
        → (m : ℕ) × (suc m ≤ suc k) × (reached step m (unwrap_or (step from) from) ≡ i)
    next_is again None q e = absurd (true≢false (sym e))
    next_is again (Some next) q e =
        elim (cases_eq next i) as (λ _. (m : ℕ) × (suc m ≤ suc k)
        × (reached step m (unwrap_or (step from) from) ≡ i)) [
          | inl at ↦ (0, omega arith, ap (λ (o : Option ℕ). unwrap_or o from) q ∙ at)
          | inr other ↦
              let w = again next
              (sym (ap (λ (b : Bool). b || comes_to step i k next) (ne_eqb next i other)) ∙ e) in (
                suc w.0,
                omega (arith, w.1),
                ap
                    (λ (o : Option ℕ). reached step (suc w.0) (unwrap_or o from)) q ∙ w.2,
              )
        ]

pub found_goes_on : (step : ℕ → Option ℕ) (i k from : ℕ) → comes_to step i k from ≡ true
    → is_some (step from) ≡ true
unfolding comes_to
found_goes_on step i zero from e = absurd (true≢false (sym e))
found_goes_on step i (suc k) from e = some (step from) e
  where
    some : (o : Option ℕ)
        → option_map_or (λ next. (next == i) || comes_to step i k next) o false ≡ true
        → is_some o ≡ true
    some None e = absurd (true≢false (sym e))
    some (Some next) e = refl

-- round and round
pub rounds_back : (step : ℕ → Option ℕ) (i m k : ℕ) → reached step m i ≡ i
    → reached step (k * m) i ≡ i
unfolding reached
rounds_back step i m zero e =
    let none : 0 * m ≡ 0 = omega arith in ap (λ (n : ℕ). reached step n i) none
rounds_back step i m (suc k) e =
    let more : suc k * m ≡ m + k * m = grind arith in
    ap (λ (n : ℕ). reached step n i) more ∙ reached_add step m (k * m) i
    ∙ ap (reached step (k * m)) e ∙ rounds_back step i m k e

-- the end of a way that has not ended leads back to itself
pub end_is_round : (steps : List (Option ℕ)) (far i from : ℕ) → StepsWithin steps
    → length steps ≤ far → from < length steps → reached (step_in steps) far from ≡ i
    → is_some (step_in steps i) ≡ true
    → comes_to (step_in steps) i far i ≡ true
end_is_round steps far i from w le lt e s =
    let step : ℕ → Option ℕ = step_in steps in
    let same = two_equal (length steps) (λ k. reached step k from)
    (λ k _. reached_within steps k from w lt) in
    let p : ℕ = same.0 in
    let q : ℕ = same.1 in
    let m : ℕ = (q - p) - 1 in
    let round : far + suc m ≡ q + (far - p) = omega (arith, same.2, same.3, le) in
    let whole : p + (far - p) ≡ far = omega (arith, same.2, same.3, le) in
    let back : reached step (suc m) i ≡ i =
    ap (reached step (suc m)) (sym e) ∙ sym (reached_add step far (suc m) from)
    ∙ ap (λ (n : ℕ). reached step n from) round
    ∙ reached_add step q (far - p) from ∙ ap (reached step (far - p)) (sym same.4)
    ∙ sym (reached_add step p (far - p) from) ∙ ap (λ (n : ℕ). reached step n from) whole ∙ e in
    let rest : suc m + (far - suc m) ≡ far = omega (arith, same.2, same.3, le) in
    ap (λ (n : ℕ). comes_to step i n i) (sym rest)
    ∙ more_steps step i (suc m) (far - suc m) i (back_is_found step i m i s back)

-- a domain that leads back to itself is the end of a way
pub round_is_end : (steps : List (Option ℕ)) (far i : ℕ) → StepsWithin steps → i < length steps
    → comes_to (step_in steps) i far i ≡ true
    → (from : ℕ) × (from < length steps) × (reached (step_in steps) far from ≡ i)
round_is_end steps far i w lt e =
    let step : ℕ → Option ℕ = step_in steps in
    let back = found_is_back step i far i e in
    let total : far * back.0 + far ≡ far * suc back.0 = grind arith in (
      reached step (far * back.0) i,
      reached_within steps (far * back.0) i w lt,
      sym (reached_add step (far * back.0) far i) ∙ ap (λ (n : ℕ). reached step n i) total
          ∙ rounds_back step i (suc back.0) far back.2,
    )

pub any_where : (p : ℕ → Bool) (xs : List ℕ) → list_any p xs ≡ true
    → (j : ℕ) × (j < length xs) × (p (get_or xs j 0) ≡ true)
any_where p [] e = absurd (true≢false (sym e))
any_where p (x ∷ xs) e = first (any_where p xs) (p x) refl e
  where
    first : (list_any p xs ≡ true → (j : ℕ) × (j < length xs) × (p (get_or xs j 0) ≡ true))
        → (b : Bool) → p x ≡ b → (b || list_any p xs) ≡ true
        → (j : ℕ) × (j < length (x ∷ xs)) × (p (get_or (x ∷ xs) j 0) ≡ true)
    first later true q e = (0, omega arith, q)
    first later false q e = let w = later e in (suc w.0, omega (arith, w.1), w.2)

pub both_ways : (a b c : Bool) → (a ≡ true → b ≡ true → c ≡ true)
    → (c ≡ true → (a ≡ true) × (b ≡ true)) → (a && b) ≡ c
both_ways true true c f g = sym (f refl refl)
both_ways true false true f g = absurd (true≢false (sym (g refl).1))
both_ways true false false f g = refl
both_ways false b true f g = absurd (true≢false (sym (g refl).0))
both_ways false b false f g = refl

pub equal_from : (a b : ℕ) → (a == b) ≡ true → a ≡ b
equal_from a b e =
    elim (cases_eq a b) as (λ _. a ≡ b) [
      | inl at ↦ at
      | inr other ↦ absurd (true≢false (sym e ∙ ne_eqb a b other))
    ]

-- the ends whose ways go on are the domains that lead back to themselves
pub ends_are_rounds : (steps : List (Option ℕ)) (ends : List ℕ) (i : ℕ) → StepsWithin steps
    → IsJump (step_in steps) longest (length steps) ends → length steps ≤ longest → i < length steps
    → (list_any (λ e. e == i) ends && is_some (step_in steps i))
    ≡ comes_to (step_in steps) i longest i
ends_are_rounds steps ends i w j few lt =
    both_ways (list_any (λ e. e == i) ends) (is_some (step_in steps i))
    (comes_to (step_in steps) i longest i)
    (λ a s. let at = any_where (λ e. e == i) ends a in
    let from : at.0 < length steps = omega (arith, at.1, j.long) in
    end_is_round steps longest i at.0 w few from (sym (j.lands at.0 from)
    ∙ equal_from (get_or ends at.0 0) i at.2) s)
    (λ e. let at = round_is_end steps longest i w lt e in
    let place : at.0 < length ends = omega (arith, at.1, j.long) in (
      list_any_at (λ e. e == i) ends at.0 0 place
          (eq-eqb (get_or ends at.0 0) i (j.lands at.0 at.1 ∙ at.2)),
      found_goes_on (step_in steps) i longest i e,
    ))

-- one more end is marked
pub mark_step : (steps : List (Option ℕ)) (marks : List Bool) (ends : List ℕ) (k : ℕ) (b : Bool)
    → length marks ≡ length steps → k < length ends → get_or ends k 0 < length steps
    → b ≡ is_some (step_in steps (get_or ends k 0))
    → ((i : ℕ) → i < length steps → get_or marks i false
    ≡ (list_any (λ e. e == i) (take k ends) && is_some (step_in steps i)))
    → (i : ℕ) → i < length steps → get_or (set marks (get_or ends k 0) b) i false
    ≡ (list_any (λ e. e == i) (take (k + 1) ends) && is_some (step_in steps i))
mark_step steps marks ends k b long lt within at marked i small =
    let more : list_any (λ e. e == i) (take (k + 1) ends)
    ≡ (list_any (λ e. e == i) (take k ends) || (get_or ends k 0 == i)) =
    list_any_more (λ e. e == i) ends k 0 lt in
    elim (cases_eq (get_or ends k 0) i) as
    (λ _. get_or (set marks (get_or ends k 0) b) i false
    ≡ (list_any (λ e. e == i) (take (k + 1) ends) && is_some (step_in steps i))) [
      | inl e ↦
          let here : (list_any (λ e. e == i) (take k ends) || (get_or ends k 0 == i))
          ≡ true = or-right (list_any (λ e. e == i) (take k ends)) (get_or ends k 0 == i)
          (eq-eqb (get_or ends k 0) i e) in
          ap (λ (x : ℕ). get_or (set marks x b) i false) e
          ∙ get_or-set_same marks i b false (omega (arith, small, long)) ∙ at
          ∙ ap (λ (x : ℕ). is_some (step_in steps x)) e
          ∙ sym (ap (λ (x : Bool). x && is_some (step_in steps i)) (more ∙ here))
      | inr ne ↦
          let other : (list_any (λ e. e == i) (take k ends) || (get_or ends k 0 == i))
          ≡ list_any (λ e. e == i) (take k ends) =
          ap (λ (x : Bool). list_any (λ e. e == i) (take k ends) || x)
          (ne_eqb (get_or ends k 0) i ne) ∙ or-false (list_any (λ e. e == i) (take k ends)) in
          get_or-set_other marks (get_or ends k 0) i b false (λ q. ne (sym q)) ∙ marked i small
          ∙ sym (ap (λ (x : Bool). x && is_some (step_in steps i)) (more ∙ other))
    ]
