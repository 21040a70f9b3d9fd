-- What a walk over a list adds, element by element.
use Rattle.std.proofs.Common.{◌≡◌, ℕ, zero, suc, ◌+◌, ◌<◌, List, [], ◌∷◌, ◌++◌, length, refl, arith}
use Rattle.std.proofs.Common.{drop, get_or, map, sym, ap, ◌∙◌, append_assoc}
use Rattle.std.specs.List.{flat_map}
use Rattle.ident_refs.proofs.Splits.{split}

-- what an element adds is added
pub flat_step : {X Y Z : Type 0} (f : X → Y) (g : Y → List Z) (i : ℕ) (xs : List X) (x : X)
    (found new start : List Z)
    → i < length xs → x ≡ get_or xs i x
    → new ≡ found ++ g (f x) → found ++ flat_map g (drop i (map f xs)) ≡ start
    → new ++ flat_map g (drop (i + 1) (map f xs)) ≡ start
flat_step {X} {Y} {Z} f g i xs x found new start lt at n inv =
    let s = split f i xs x lt at in
    ap (λ (fs : List Z). fs ++ flat_map g (drop (i + 1) (map f xs))) n
    ∙ append_assoc found (g (f x)) _
    ∙ ap (λ (ys : List Y). found ++ flat_map g ys) (sym s.0) ∙ inv

pub got_again : {X : Type 0} (xs : List X) (i : ℕ) (d : X) → i < length xs
    → get_or xs i d ≡ get_or xs i (get_or xs i d)
got_again [] i d lt = absurd (omega (arith, lt))
got_again (y ∷ xs) zero d lt = refl
got_again (y ∷ xs) (suc i) d lt = got_again xs i d (omega (arith, lt))

-- the same for an element by its place
pub flat_step_at : {X Y Z : Type 0} (f : X → Y) (g : Y → List Z) (i : ℕ) (xs : List X) (d : X)
    (found new start : List Z)
    → i < length xs
    → new ≡ found ++ g (f (get_or xs i d)) → found ++ flat_map g (drop i (map f xs)) ≡ start
    → new ++ flat_map g (drop (i + 1) (map f xs)) ≡ start
flat_step_at f g i xs d found new start lt n inv =
    flat_step f g i xs (get_or xs i d) found new start lt (got_again xs i d lt) n inv
