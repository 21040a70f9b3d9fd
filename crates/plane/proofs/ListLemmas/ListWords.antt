-- The words for lists against those of the library.
use Rattle.std.proofs.Common.{zero, suc, inl, inr, List, [], ◌∷◌, All, Contains, arith, sym}
use Rattle.std.proofs.lemmas.List.Elements.{All-nil, All-cons, All-head, All-tail, All-contains}
use Rattle.plane.specs.Lists.{Each, Has}
use Rattle.plane.proofs.ListLemmas.Lists.{each_from}

pub all_from_each : {X : Type 0} (P : X → Type 0) (xs : List X) → Each P xs → All P xs
all_from_each P [] h = All-nil P
all_from_each P (x ∷ xs) h = All-cons P x xs h.0 (all_from_each P xs h.1)

pub each_from_all : {X : Type 0} (P : X → Type 0) (xs : List X) → All P xs → Each P xs
each_from_all P [] h = tt
each_from_all P (x ∷ xs) h = (All-head P x xs h, each_from_all P xs (All-tail P x xs h))

pub contains_from_has : {X : Type 0} (x : X) (xs : List X) → Has x xs → Contains xs x
contains_from_has x [] h = absurd h
contains_from_has x (y ∷ ys) (inl e) = (zero, omega arith, sym e)
contains_from_has x (y ∷ ys) (inr h) =
    let (k, l, e) = contains_from_has x ys h in (suc k, omega (arith, l), e)

pub has_from_contains : {X : Type 0} (x : X) (xs : List X) → Contains xs x → Has x xs
has_from_contains x xs h =
    All-contains (λ y. Has y xs) xs x
    (all_from_each (λ y. Has y xs) xs (each_from (λ y. Has y xs) xs (λ y k. k))) h
