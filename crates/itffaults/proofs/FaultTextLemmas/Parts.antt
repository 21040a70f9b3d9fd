-- Parts that are added one behind the other.
use Rattle.std.proofs.Common.{◌≡◌, List, ℕ, ◌++◌, append_assoc, ap, ◌∙◌}

pub two_parts : (old mid new a b : List ℕ) → mid ≡ old ++ a → new ≡ mid ++ b → new ≡ old ++ (a ++ b)
two_parts old mid new a b e f = f ∙ ap (λ (s : List ℕ). s ++ b) e ∙ append_assoc old a b

pub three_parts : (old m n new a b c : List ℕ) → m ≡ old ++ a → n ≡ m ++ b → new ≡ n ++ c
    → new ≡ old ++ ((a ++ b) ++ c)
three_parts old m n new a b c e f g = two_parts old n new (a ++ b) c (two_parts old m n a b e f) g

pub four_parts : (old m n o new a b c d : List ℕ) → m ≡ old ++ a → n ≡ m ++ b → o ≡ n ++ c
    → new ≡ o ++ d → new ≡ old ++ (((a ++ b) ++ c) ++ d)
four_parts old m n o new a b c d e f g h =
    two_parts old o new ((a ++ b) ++ c) d (three_parts old m n o a b c e f g) h
