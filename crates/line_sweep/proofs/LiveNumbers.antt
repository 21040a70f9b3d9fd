-- Live lists of numbers that are below a bound.
use Rattle.std.proofs.Common.{◌≡◌, ◌⊎◌, ℕ, zero, suc, ◌+◌, ◌<◌, ◌≤◌, List, [], ◌∷◌, ◌++◌, length}
use Rattle.std.proofs.Common.{take, drop, get_or, inl, inr, arith, ap, sym, subst}
use Rattle.std.proofs.lemmas.List.{length-append, length-take-le}
use Rattle.plane.specs.Lists.{Has}
use Rattle.straight_predicates.specs.EdgeLists.{AreBelow}
use Rattle.line_sweep.proofs.PlaneLaws.{has_append, has_at}

pub has_take : (e n : ℕ) (xs : List ℕ) → Has e (take n xs) → Has e xs
has_take e zero xs h = absurd h
has_take e (suc n) [] h = absurd h
has_take e (suc n) (x ∷ xs) (inl q) = inl q
has_take e (suc n) (x ∷ xs) (inr h) = inr (has_take e n xs h)

pub has_drop : (e n : ℕ) (xs : List ℕ) → Has e (drop n xs) → Has e xs
has_drop e zero xs h = h
has_drop e (suc n) [] h = absurd h
has_drop e (suc n) (x ∷ xs) h = inr (has_drop e n xs h)

pub all_below : (m : ℕ) (xs : List ℕ) → AreBelow m xs → (e : ℕ) → Has e xs → e < m
all_below m [] b e h = absurd h
all_below m (x ∷ xs) b e (inl q) = subst (λ (n : ℕ). n < m) (sym q) (b 0 (omega arith))
all_below m (x ∷ xs) b e (inr h) = all_below m xs (λ i l. b (suc i) (omega (arith, l))) e h

pub below_all : (m : ℕ) (xs : List ℕ) → ((e : ℕ) → Has e xs → e < m) → AreBelow m xs
below_all m xs f i l = f (get_or xs i 0) (has_at xs i 0 l)

pub replaced : (m : ℕ) (old new more : List ℕ) (from upto : ℕ)
    → new ≡ take from old ++ (more ++ drop upto old) → AreBelow m old
    → ((e : ℕ) → Has e more → e < m) → AreBelow m new
replaced m old new more from upto q b f = below_all m new (λ e h. by e (subst (Has e) q h))
  where
    by : (e : ℕ) → Has e (take from old ++ (more ++ drop upto old)) → e < m
    by e h = elim (has_append e (take from old) (more ++ drop upto old) h) [
      | inl k ↦ all_below m old b e (has_take e from old k)
      | inr k ↦ elim (has_append e more (drop upto old) k) [
        | inl l ↦ f e l
        | inr l ↦ all_below m old b e (has_drop e upto old l)
      ]
    ]

-- one number more of a list
pub one_more : (xs old new : List ℕ) (k d : ℕ) → k < length xs → new ≡ old ++ get_or xs k d ∷ []
    → ((e : ℕ) → Has e old → Has e xs) → (e : ℕ) → Has e new → Has e xs
one_more xs old new k d l q f e h = by (has_append e old (get_or xs k d ∷ []) (subst (Has e) q h))
  where
    by : Has e old ⊎ Has e (get_or xs k d ∷ []) → Has e xs
    by (inl a) = f e a
    by (inr (inl b)) = subst (λ (n : ℕ). Has n xs) (sym b) (has_at xs k d l)
    by (inr (inr b)) = absurd b

-- what is put in at a place ends within the list
pub put_within : (old new lent room rest : List ℕ) (from : ℕ) → lent ≡ room
    → new ≡ take from old ++ (lent ++ rest) → from ≤ length old → from + length room ≤ length new
put_within old new lent room rest from e q l =
    let a = ap length q in
    let b = length-append (take from old) (lent ++ rest) in
    let c = length-append lent rest in
    let d = length-take-le from old l in
    let f = ap length e in
    omega (arith, a, b, c, d, f)
