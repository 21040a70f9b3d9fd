-- What holds of each of some things, as they are seen, holds of one.
use Rattle.std.proofs.Common.{◌≡◌, ℕ, ◌<◌, List, length, map, get_or, ap, sym, subst, ◌∙◌}
use Rattle.std.proofs.Math.ListN.{get_or-map}
use Rattle.std.proofs.lemmas.List.{length-map}
use Rattle.std.specs.List.{All}

pub of_item : {X Y : Type 0} (view : X → Y) (P : Y → Type 0) (xs : List X) (i : ℕ) (x : X)
    → All P (map view xs) → i < length xs → x ≡ get_or xs i x → P (view x)
of_item view P xs i x h lt at =
    let small : i < length (map view xs) = subst (λ (n : ℕ). i < n) (sym (length-map xs view)) lt in
    subst P (get_or-map view xs i x ∙ ap view (sym at)) (h i (view x) small)
