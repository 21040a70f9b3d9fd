-- What stands at a place of a list, and just before it.
-- In a list in two parts it stands in the one or in the other.
use Rattle.std.proofs.Common.{◌≡◌, ℕ, zero, suc, ◌+◌, ◌<◌, ◌≤◌, List, [], ◌∷◌, ◌++◌, length, ℤ, pos}
use Rattle.std.proofs.Common.{◌<ℤ◌, refl, arith, sym, ◌∙◌, ◌⊎◌, inl, inr, subst}
use Rattle.plane.specs.Lists.{Has}
use Rattle.plane.specs.Faces.Halves.{At}
use Rattle.plane.proofs.Strips.Heights.{Parts}

pub at_front : (xs ys : List ℕ) (i e : ℕ) → At xs i e → At (xs ++ ys) i e
at_front [] ys i e h = absurd h
at_front (x ∷ xs) ys zero e h = h
at_front (x ∷ xs) ys (suc i) e h = at_front xs ys i e h

pub at_back : (xs ys : List ℕ) (n i e : ℕ) → n ≡ length xs + i → At ys i e → At (xs ++ ys) n e
at_back [] ys n i e l h = subst (λ (j : ℕ). At ys j e) (let m : i ≡ n = omega arith in m) h
at_back (x ∷ xs) ys zero i e l h = absurd (omega arith)
at_back (x ∷ xs) ys (suc n) i e l h = at_back xs ys n i e (omega arith) h

pub at_append : (xs ys : List ℕ) (n e : ℕ) → At (xs ++ ys) n e
    → At xs n e ⊎ ((i : ℕ) × (n ≡ length xs + i) × At ys i e)
at_append [] ys n e h = inr (n, omega arith, h)
at_append (x ∷ xs) ys zero e h = inl h
at_append (x ∷ xs) ys (suc n) e h =
    elim (at_append xs ys n e h) [
      | inl a ↦ inl a
      | inr a ↦ inr (let l = a.1 in (a.0, omega (arith, l), a.2))
    ]

pub at_less : (xs : List ℕ) (i e : ℕ) → At xs i e → i < length xs
at_less [] i e h = absurd h
at_less (x ∷ xs) zero e h = omega arith
at_less (x ∷ xs) (suc i) e h = let l = at_less xs i e h in omega (arith, l)

pub at_some : (xs : List ℕ) (i : ℕ) → i < length xs → (e : ℕ) × At xs i e
at_some [] i h = absurd (omega arith)
at_some (x ∷ xs) zero h = (x, refl)
at_some (x ∷ xs) (suc i) h = at_some xs i (omega arith)

pub at_has : (xs : List ℕ) (i e : ℕ) → At xs i e → Has e xs
at_has [] i e h = absurd h
at_has (x ∷ xs) zero e h = inl h
at_has (x ∷ xs) (suc i) e h = inr (at_has xs i e h)

pub has_at : (xs : List ℕ) (e : ℕ) → Has e xs → (i : ℕ) × At xs i e
has_at [] e h = absurd h
has_at (x ∷ xs) e (inl h) = (0, h)
has_at (x ∷ xs) e (inr h) = let a = has_at xs e h in (suc a.0, a.1)

pub at_one : (xs : List ℕ) (i d e : ℕ) → At xs i d → At xs i e → d ≡ e
at_one [] i d e h k = absurd h
at_one (x ∷ xs) zero d e h k = h ∙ sym k
at_one (x ∷ xs) (suc i) d e h k = at_one xs i d e h k

pub parts_under : (f : ℕ → ℤ) (n i e : ℕ) (xs : List ℕ) → Parts f n xs → At xs i e → i < n
    → pos 0 <ℤ f e
parts_under f n i e [] h k l = absurd k
parts_under f zero i e (x ∷ xs) h k l = absurd (omega arith)
parts_under f (suc n) zero e (x ∷ xs) h k l = subst (λ (d : ℕ). pos 0 <ℤ f d) (sym k) h.0
parts_under f (suc n) (suc i) e (x ∷ xs) h k l = parts_under f n i e xs h.1 k (omega arith)

pub parts_over : (f : ℕ → ℤ) (n i e : ℕ) (xs : List ℕ) → Parts f n xs → At xs i e → n ≤ i
    → f e <ℤ pos 0
parts_over f n i e [] h k l = absurd k
parts_over f zero zero e (x ∷ xs) h k l = subst (λ (d : ℕ). f d <ℤ pos 0) (sym k) h.0
parts_over f zero (suc i) e (x ∷ xs) h k l = parts_over f zero i e xs h.1 k (omega arith)
parts_over f (suc n) zero e (x ∷ xs) h k l = absurd (omega arith)
parts_over f (suc n) (suc i) e (x ∷ xs) h k l = parts_over f n i e xs h.1 k (omega arith)
