-- What lists that are joined end to end hold, and what a list of values of a function.
use Rattle.std.proofs.Common.{◌≡◌, inl, inr, ℕ, List, [], ◌∷◌, map, refl, sym, subst}
use Rattle.std.specs.List.{flat_map}
use Rattle.std.proofs.lemmas.List.Concat.{flat_map-cons}
use Rattle.plane.specs.Lists.{Has}
use Rattle.faces.proofs.PlaneLaws.{has_append, has_back, has_front}

pub has_flat : {X : Type 0} (f : X → List ℕ) (xs : List X) (y : X) (x : ℕ) → Has y xs → Has x (f y)
    → Has x (flat_map f xs)
has_flat f [] y x h k = absurd h
has_flat f (z ∷ xs) y x (inl e) k =
    subst (Has x) (sym (flat_map-cons f z xs))
    (has_front x (f z) (flat_map f xs) (subst (λ w. Has x (f w)) e k))
has_flat f (z ∷ xs) y x (inr h) k =
    subst (Has x) (sym (flat_map-cons f z xs))
    (has_back x (f z) (flat_map f xs) (has_flat f xs y x h k))

pub flat_has : {X : Type 0} (f : X → List ℕ) (xs : List X) (x : ℕ) → Has x (flat_map f xs)
    → (y : X) × Has y xs × Has x (f y)
flat_has f [] x h = absurd h
flat_has {X = X} f (z ∷ xs) x h =
    elim (has_append x (f z) (flat_map f xs) (subst (Has x) (flat_map-cons f z xs) h)) [
      | inl k ↦ (z, inl refl, k)
      | inr k ↦ (let w = flat_has f xs x k in (w.0, inr w.1, w.2))
    ]

pub map_has : {X : Type 0} (f : ℕ → X) (ns : List ℕ) (x : X) → Has x (map f ns)
    → (n : ℕ) × Has n ns × (f n ≡ x)
map_has f [] x h = absurd h
map_has f (n ∷ ns) x (inl e) = (n, inl refl, sym e)
map_has f (n ∷ ns) x (inr h) = (let w = map_has f ns x h in (w.0, inr w.1, w.2))
