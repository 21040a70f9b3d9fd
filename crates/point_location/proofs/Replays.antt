-- One event more of a replay, and the least edge at an event.
use Rattle.std.proofs.Common.{◌≡◌, ℕ, zero, suc, ◌+◌, ◌-◌, ◌^◌, ◌<◌, ◌≤◌, min, ◌⊎◌, inl, inr, List}
use Rattle.std.proofs.Common.{[], ◌∷◌, length, take, drop, get_or, refl, arith, ap, sym, ◌∙◌, subst}
use Rattle.std.proofs.Common.{add-one}
use Rattle.std.proofs.lemmas.List.{get_or-drop, get_or-take, length-drop, length-take}
use Rattle.std.proofs.lemmas.List.{length-take-le}
use Rattle.plane.specs.declared.kinds.Point.{Point}
use Rattle.plane.specs.Forms.Vectors.{Before}
use Rattle.plane.specs.Lists.{Has}
use Rattle.plane.specs.Runs.Moves.{Fit, Move, live_from, no_move, step_of}
use Rattle.plane.specs.Runs.Steps.{after}
use Rattle.point_location.specs.Replaying.{EndsOrStarts, IsApplied}
use Rattle.straight_predicates.proofs.Orders.{by_lt}
use Rattle.point_location.proofs.PlaneLaws.{has_at}
use Rattle.point_location.proofs.Moments.{fits_at, live_next}

module _ (vs : List Move) (fit : Fit [] vs) (k : ℕ) (live : List ℕ) (a : IsApplied vs k live)
    (l : k < length vs) (v : Move) (is : get_or vs k no_move ≡ v) where
  pub block_fits : v.position + v.ending ≤ length live
  block_fits =
      subst (λ (xs : List ℕ). v.position + v.ending ≤ length xs) (sym a.values)
      (subst (λ (u : Move). u.position + u.ending ≤ length (live_from [] (take k vs))) is
      (fits_at [] vs k fit l))

  next_is : live_from [] (take (suc k) vs) ≡ after (step_of live v)
  next_is = live_next [] vs k l ∙ ap (λ (u : Move). after (step_of (live_from [] (take k vs)) u)) is
      ∙ ap (λ (xs : List ℕ). after (step_of xs v)) (sym a.values)

  pub applied_next : (live' : List ℕ) → live' ≡ after (step_of live v) → IsApplied vs (k + 1) live'
  applied_next live' e = record {
    known = omega (arith, l);
    values = e ∙ sym next_is ∙ ap (λ (n : ℕ). live_from [] (take n vs)) (sym (add-one k));
  }

-- one more that comes before the point
pub passed_next : (vs : List Move) (from k : ℕ) (at : Point)
    → ((j : ℕ) → from ≤ j → j < k → Before (get_or vs j no_move).at at)
    → Before (get_or vs k no_move).at at
    → (j : ℕ) → from ≤ j → j < k + 1 → Before (get_or vs j no_move).at at
passed_next vs from k at f b j l h = elim (less_or_last j k (omega (arith, h))) [
  | inl n ↦ f j l n
  | inr e ↦ subst (λ (i : ℕ). Before (get_or vs i no_move).at at) (sym e) b
]
  where
    less_or_last : (j k : ℕ) → j < suc k → (j < k) ⊎ (j ≡ k)
    less_or_last zero zero l = inr refl
    less_or_last zero (suc k) l = inl (omega arith)
    less_or_last (suc j) zero l = absurd (omega (arith, l))
    less_or_last (suc j) (suc k) l =
        elim (less_or_last j k (omega (arith, l))) [
          | inl h ↦ inl (omega (arith, h))
          | inr q ↦ inr (ap (λ (n : ℕ). suc n) q)
        ]

-- ---- the least of two lists
place_of : (e : ℕ) (xs : List ℕ) → Has e xs → (i : ℕ) × (i < length xs) × (get_or xs i 0 ≡ e)
place_of e [] h = absurd h
place_of e (x ∷ xs) (inl q) = (0, omega arith, sym q)
place_of e (x ∷ xs) (inr h) = let (i, l, q) = place_of e xs h in (suc i, omega (arith, l), q)

module _ (live : List ℕ) (v : Move) (part starting : List ℕ)
    (p : part ≡ take v.ending (drop v.position live)) (s : starting ≡ v.starting) (r least : ℕ)
    (each : (i : ℕ) → i < length part → r ≤ get_or part i 0) (bound : least ≤ r) (also : (i : ℕ)
    → i < length starting → least ≤ get_or starting i 0) where
  pub least_of_all : (e : ℕ) → EndsOrStarts (step_of live v) e → least ≤ e
  least_of_all e (inl h) =
      let (i, l, q) = place_of e part (subst (λ (xs : List ℕ). Has e xs) (sym p) h) in
      let a = each i l in omega (arith, a, q, bound)
  least_of_all e (inr h) =
      let (i, l, q) = place_of e starting (subst (λ (xs : List ℕ). Has e xs) (sym s) h) in
      let a = also i l in omega (arith, a, q)

  pub least_is_one : (r ≡ 2 ^ 32 - 1) ⊎ Has r part → (least ≡ r) ⊎ Has least starting
      → (e : ℕ) × (e < 2 ^ 32 - 1) × EndsOrStarts (step_of live v) e
      → EndsOrStarts (step_of live v) least
  least_is_one of_part (inr h) some = inr (subst (λ (xs : List ℕ). Has least xs) s h)
  least_is_one (inr h) (inl q) some =
      inl (subst (λ (xs : List ℕ). Has least xs) p (subst (λ (d : ℕ). Has d part) (sym q) h))
  least_is_one (inl w) (inl q) (e, b, h) =
      absurd (let a = least_of_all e h in omega (arith, a, b, w, q))

pub part_is : (live : List ℕ) (p n : ℕ) → take ((p + n) - p) (drop p live) ≡ take n (drop p live)
part_is live p n = ap (λ (k : ℕ). take k (drop p live)) (same p n)
  where
    same : (p n : ℕ) → (p + n) - p ≡ n
    same p n = omega arith

-- the number at a place of a part
module _ (live : List ℕ) (from upto place : ℕ) (l : from ≤ place) (u : place < upto)
    (w : upto ≤ length live) where
  pub in_part : place - from < length (take (upto - from) (drop from live))
  in_part =
      let a = length-drop from live in
      let b = length-take-le (upto - from) (drop from live) (omega (arith, a, w)) in
      omega (arith, b, l, u)

  pub at_part : (value : ℕ) → value ≡ get_or live place 0
      → value ≡ get_or (take (upto - from) (drop from live)) (place - from) 0
  at_part value e =
      let n : from + (place - from) ≡ place = omega (arith, l) in
      e ∙ ap (λ (i : ℕ). get_or live i 0) (sym n)
      ∙ sym (get_or-take (upto - from) (drop from live) (place - from) 0 (omega (arith, l, u))
      ∙ get_or-drop from live (place - from) 0)

-- one number more
pub least_next : (numbers : List ℕ) (i least new bound : ℕ) → i < length numbers
    → (least ≡ bound) ⊎ Has least numbers → new ≡ min least (get_or numbers i 0)
    → (new ≡ bound) ⊎ Has new numbers
least_next numbers i least new bound l h e = elim (either least (get_or numbers i 0) new e) [
  | inl q ↦ subst (λ (n : ℕ). (n ≡ bound) ⊎ Has n numbers) (sym q) h
  | inr q ↦ inr (subst (λ (n : ℕ). Has n numbers) (sym q) (has_at numbers i 0 l))
]
  where
    either : (a b n : ℕ) → n ≡ min a b → (n ≡ a) ⊎ (n ≡ b)
    either a b n e =
        by_lt a b (λ (l : a < b). inl (omega (arith, l, e)))
        (λ (l : b ≤ a). inr (omega (arith, l, e)))

pub least_each : (numbers : List ℕ) (k least new : ℕ)
    → ((i : ℕ) → i < k → least ≤ get_or numbers i 0) → new ≡ min least (get_or numbers k 0)
    → (i : ℕ) → i < k + 1 → new ≤ get_or numbers i 0
least_each numbers k least new f e i l =
    by_lt i k (λ (b : i < k). let h = f i b in
    omega (arith, h, e)) (λ (b : k ≤ i). let q : k ≡ i = omega (arith, l, b) in
    subst (λ (j : ℕ). new ≤ get_or numbers j 0) q (omega (arith, e)))

-- the least of a part, place by place
module _ (live : List ℕ) (from upto place : ℕ) where
  pub part_next : from ≤ place → place < upto → upto ≤ length live → (value least new bound : ℕ)
      → value ≡ get_or live place 0
      → (least ≡ bound) ⊎ Has least (take (upto - from) (drop from live))
      → new ≡ min least value → (new ≡ bound) ⊎ Has new (take (upto - from) (drop from live))
  part_next l u w value least new bound e h m =
      least_next (take (upto - from) (drop from live)) (place - from) least new bound
      (in_part live from upto place l u w) h
      (m ∙ ap (λ (v : ℕ). min least v) (at_part live from upto place l u w value e))

  pub part_each : from ≤ place → place < upto → upto ≤ length live → (value least new : ℕ)
      → value ≡ get_or live place 0
      → ((i : ℕ) → i < place - from → least ≤ get_or (take (upto - from) (drop from live)) i 0)
      → new ≡ min least value → (i : ℕ) → i < (place + 1) - from
      → new ≤ get_or (take (upto - from) (drop from live)) i 0
  part_each l u w value least new e f m i b =
      least_each (take (upto - from) (drop from live)) (place - from) least new f (m
      ∙ ap (λ (v : ℕ). min least v) (at_part live from upto place l u w value e)) i
      (omega (arith, b, l))

  pub part_at_end : upto ≤ place → (least : ℕ)
      → ((i : ℕ) → i < place - from → least ≤ get_or (take (upto - from) (drop from live)) i 0)
      → (i : ℕ) → i < length (take (upto - from) (drop from live))
      → least ≤ get_or (take (upto - from) (drop from live)) i 0
  part_at_end t least f i b =
      f i (let n = length-take (upto - from) (drop from live) in omega (arith, n, b, t))
