-- Sums over all numbers below a bound and over lists without repeats.
use Rattle.std.proofs.Common.{◌≡◌, ℕ, zero, suc, ◌<◌, Bool, cond, eqb, List, [], ◌∷◌, ℤ, pos, ◌+ℤ◌}
use Rattle.std.proofs.Common.{inl, inr, refl, arith, ap, sym, ◌∙◌, subst}
use Rattle.std.proofs.lemmas.Int.{ints}
use Rattle.std.proofs.lemmas.Bool.Decides.{eqb_tells}
use Rattle.plane.specs.Lists.{Has, Once}
use Rattle.plane.specs.Tubes.Windings.{total}
use Rattle.plane.proofs.Strips.OneStrip.{by_last}

abbrev pub total_below : ℕ → (ℕ → ℤ) → ℤ
total_below zero g = pos 0
total_below (suc m) g = g m +ℤ total_below m g

-- the same values, but 0 at x
abbrev without : ℕ → (ℕ → ℤ) → ℕ → ℤ
without x g e = cond (eqb e x) (pos 0) (g e)

without_same : (x e : ℕ) (g : ℕ → ℤ) → e ≡ x → without x g e ≡ pos 0
without_same x e g h = elim (eqb_tells e x) [
  | inl k ↦ ap (λ (t : Bool). cond t (pos 0) (g e)) k.0
  | inr k ↦ absurd (k.1 h)
]

without_other : (x e : ℕ) (g : ℕ → ℤ) → (e ≡ x → ⊥) → without x g e ≡ g e
without_other x e g h = elim (eqb_tells e x) [
  | inl k ↦ absurd (h k.1)
  | inr k ↦ ap (λ (t : Bool). cond t (pos 0) (g e)) k.0
]

below_same : (m : ℕ) (g h : ℕ → ℤ) → ((e : ℕ) → e < m → g e ≡ h e)
    → total_below m g ≡ total_below m h
below_same zero g h f = refl
below_same (suc m) g h f =
    let i = below_same m g h (λ e l. f e (omega arith)) in
    let k = f m (omega arith) in
    omega (arith, ints, i, k)

below_none : (m : ℕ) (g : ℕ → ℤ) → ((e : ℕ) → e < m → g e ≡ pos 0) → total_below m g ≡ pos 0
below_none zero g f = refl
below_none (suc m) g f =
    let i = below_none m g (λ e l. f e (omega arith)) in
    let k = f m (omega arith) in
    omega (arith, ints, i, k)

below_take : (m x : ℕ) (g : ℕ → ℤ) → x < m → total_below m g ≡ g x +ℤ total_below m (without x g)
below_take zero x g l = absurd (omega arith)
below_take (suc m) x g l = by_last x m l
    (λ (k : x < m).
    let i = below_take m x g k in
    let o = without_other x m g (λ (e : m ≡ x). absurd (omega arith)) in
    omega (arith, ints, i, o))
    (λ (k : x ≡ m).
    let z = without_same x m g (sym k) in
    let s = below_same m g (without x g)
    (λ e (j : e < m). sym (without_other x e g (λ (q : e ≡ x). absurd (omega arith)))) in
    let h = ap g k in
    omega (arith, ints, z, s, h))

pub total_same : (g h : ℕ → ℤ) (xs : List ℕ) → ((e : ℕ) → Has e xs → g e ≡ h e)
    → total g xs ≡ total h xs
total_same g h [] f = refl
total_same g h (x ∷ xs) f =
    let i = total_same g h xs (λ e k. f e (inr k)) in
    let k = f x (inl refl) in
    omega (arith, ints, i, k)

-- values that are 0 but at the elements of the list
pub total_once : (m : ℕ) (g : ℕ → ℤ) (xs : List ℕ) → Once xs → ((e : ℕ) → Has e xs → e < m)
    → ((e : ℕ) → e < m → (Has e xs → ⊥) → g e ≡ pos 0) → total_below m g ≡ total g xs
total_once m g [] once fits none = below_none m g (λ e l. none e l (λ h. h))
total_once m g (x ∷ xs) once fits none =
    let t = below_take m x g (fits x (inl refl)) in
    let i = total_once m (without x g) xs once.1 (λ e h. fits e (inr h))
    (λ e l h. elim (eqb_tells e x) [
      | inl k ↦ without_same x e g k.1
      | inr k ↦ without_other x e g k.1
          ∙ none e l (λ (j : Has e (x ∷ xs)). elim j [ inl q ↦ k.1 q | inr q ↦ h q ])
    ]) in
    let s = total_same (without x g) g xs
    (λ e h. without_other x e g (λ (q : e ≡ x). once.0 (subst (λ (y : ℕ). Has y xs) q h))) in
    omega (arith, ints, t, i, s)
