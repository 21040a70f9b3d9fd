-- Attributes in a list of their own, and in a plain list.
use Rattle.std.proofs.Common.{◌≡◌, ◌<◌, ℕ, List, [], ◌∷◌, length, map, get_or, ap, refl, sym, ◌∙◌}
use Rattle.std.proofs.Common.{subst, arith}
use Rattle.std.proofs.lemmas.List.{length-map}
use Rattle.std.specs.List.{All}
use Rattle.std.proofs.lemmas.List.{get_or-map}
use Rattle.resolver.specs.Resolved.{Attribute}
use Rattle.resolver.specs.Values.{attributes_in}
use Rattle.resolver.specs.Sound.{listed}

pub listed_in : (as_ : List Attribute) → listed (attributes_in as_) ≡ as_
listed_in [] = refl
listed_in (a ∷ as_) = ap (λ (x : List Attribute). a ∷ x) (listed_in as_)

-- what holds of each element's value holds of the value of one that was read
pub all_read : {A B : Type 0} (P : B → Type 0) (f : A → B) (xs : List A) (i : ℕ) (x : A)
    → i < length xs → x ≡ get_or xs i x → All P (map f xs) → P (f x)
all_read {A} {B} P f xs i x l e h =
    let lt : i < length (map f xs) = omega (arith, length-map xs f) in
    subst P (get_or-map f xs i x (f x) l ∙ ap f (sym e)) (h i (f x) lt)
