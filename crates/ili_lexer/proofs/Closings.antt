-- The end of an explanation, one byte further on.
use Rattle.std.proofs.Common.{◌≡◌, ℕ, ◌+◌, ◌<◌, suc, get_or, List, ◌∷◌, length, drop, false, Option}
use Rattle.std.proofs.Common.{Some, None, refl, ap, arith, add-one, drop-cons, codes}
use Rattle.std.specs.Option.{option_map}
use Rattle.ili_lexer.specs.Fronts.{begins, closing}

moved : (i : ℕ) (o : Option ℕ)
    → option_map (λ n. i + n) (option_map (λ n. 1 + n) o) ≡ option_map (λ n. suc i + n) o
moved i None = refl
moved i (Some n) = ap (λ (n : ℕ). Some n) (omega arith)

closing-cons : (i b : ℕ) (bs : List ℕ) → begins (b ∷ bs) (codes "//") ≡ false
    → option_map (λ n. i + n) (closing (b ∷ bs)) ≡ option_map (λ n. suc i + n) (closing bs)
closing-cons i b bs h = rw h (moved i (closing bs))

pub closing_step : (text : List ℕ) (i : ℕ) → i < length text
    → begins (drop i text) (codes "//") ≡ false
    → option_map (λ n. i + n) (closing (drop i text))
    ≡ option_map (λ n. (i + 1) + n) (closing (drop (i + 1) text))
closing_step text i h =
    rw (add-one, drop-cons text i 0) (closing-cons i (get_or text i 0) (drop (suc i) text))
