-- What holds of all elements, at one of them.
use Rattle.std.proofs.Common.{◌≡◌, ℕ, ◌<◌, ◌≤◌, List, length, map, get_or, sym, ap, subst, ◌∙◌}
use Rattle.std.proofs.Common.{arith}
use Rattle.std.specs.List.{All}
use Rattle.std.proofs.lemmas.List.{get_or-map, length-map}
use Rattle.table_layout.specs.Layouts.{Table}
use Rattle.itf_reader.specs.Few.{HasFew}

pub all_mapped : {X Y : Type 0} (P : Y → Type 0) (f : X → Y) (xs : List X) (i : ℕ) (x : X)
    → All P (map f xs) → i < length xs → x ≡ get_or xs i x → P (f x)
all_mapped P f xs i x h lt at =
    let n = length-map xs f in
    subst P (get_or-map f xs i x (f x) lt ∙ ap f (sym at)) (h i (f x) (omega (arith, n, lt)))

pub few_columns : (t : Table) (n : ℕ) → n ≡ length t.columns → HasFew t → n ≤ 4194306
few_columns t n e h = omega (arith, h, e)
