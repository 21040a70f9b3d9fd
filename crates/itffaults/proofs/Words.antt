-- The three words of a call.
use Rattle.std.proofs.Common.{◌≡◌, ◌≤◌, ◌<◌, ℕ, List, [], ◌∷◌, length, get_or, arith}

pub three_words : (ws : List (List ℕ)) (a b c : List ℕ) → 3 ≤ length ws → length ws < 4
    → a ≡ get_or ws 0 a → b ≡ get_or ws 1 b → c ≡ get_or ws 2 c → ws ≡ a ∷ b ∷ c ∷ []
three_words [] a b c l u ha hb hc = absurd (omega arith)
three_words (x ∷ []) a b c l u ha hb hc = absurd (omega arith)
three_words (x ∷ y ∷ []) a b c l u ha hb hc = absurd (omega arith)
three_words (x ∷ y ∷ z ∷ []) a b c l u ha hb hc = cc
three_words (x ∷ y ∷ z ∷ w ∷ ws) a b c l u ha hb hc = absurd (omega arith)

pub three_spelled : (ws : List (List ℕ)) (a b c m t e : List ℕ) → ws ≡ a ∷ b ∷ c ∷ [] → m ≡ a
    → t ≡ b → e ≡ c → ws ≡ m ∷ t ∷ e ∷ []
three_spelled ws a b c m t e h hm ht he = cc
