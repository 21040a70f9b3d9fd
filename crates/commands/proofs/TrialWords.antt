-- The words of a trial, one by one.
use Rattle.std.specs.Prelude.{codes}
use Rattle.std.specs.Cmp.Lexicographic.{pointwise}
use Rattle.std.proofs.Common.{◌≡◌, ◌≤◌, ◌<◌, ℕ, Bool, true, false, not, nat_eq, List, [], ◌∷◌}
use Rattle.std.proofs.Common.{length, get_or, arith, refl, sym, subst, ◌∙◌}
use Rattle.std.proofs.lemmas.Fmt.{decimal_injective}
use Rattle.commands.specs.Commands.{FileNames, IsCompile, IsSpelled, IsTrial}
use Rattle.commands.specs.TrialFiles.{IsSize}
use Rattle.commands.proofs.CommandLemmas.{same_word}

pub three_words : (ws : List (List ℕ)) (a b c : List ℕ) → 3 ≤ length ws → length ws < 4
    → a ≡ get_or ws 0 a → b ≡ get_or ws 1 b → c ≡ get_or ws 2 c → ws ≡ a ∷ b ∷ c ∷ []
three_words [] a b c l u ha hb hc = absurd (omega arith)
three_words (x ∷ []) a b c l u ha hb hc = absurd (omega arith)
three_words (x ∷ y ∷ []) a b c l u ha hb hc = absurd (omega arith)
three_words (x ∷ y ∷ z ∷ []) a b c l u ha hb hc = cc
three_words (x ∷ y ∷ z ∷ w ∷ ws) a b c l u ha hb hc = absurd (omega arith)

pub trial_spelled : (ws : List (List ℕ)) (a b c command size name : List ℕ) → ws ≡ a ∷ b ∷ c ∷ []
    → command ≡ a → command ≡ codes "trial" → size ≡ b → name ≡ c
    → ws ≡ codes "trial" ∷ size ∷ name ∷ []
trial_spelled ws a b c command size name h ha hk hb hc = cc

-- words that do not differ are equal
no_difference : (b : Bool) → false ≡ not b → b ≡ true
no_difference true h = refl
no_difference false h = cc

pub no_other_word : (a b : List ℕ) → false ≡ not (pointwise nat_eq a b) → a ≡ b
no_other_word a b h = same_word a b (no_difference (pointwise nat_eq a b) h)

-- ---- one trial, and no other command
one_number : (word : List ℕ) (m n : ℕ) → IsSize word m → IsSize word n → m ≡ n
one_number word m n h k =
    decimal_injective m n (omega (arith, h.most)) (omega (arith, k.most)) (sym h.spelled
    ∙ k.spelled)

pub one_trial : (words : List (List ℕ)) (m n : ℕ) (a b : List ℕ) → IsTrial words m a
    → IsTrial words n b → (m ≡ n) × (a ≡ b)
one_trial words m n a b h k =
    let e : codes "trial" ∷ h.word ∷ a ∷ [] ≡ codes "trial" ∷ k.word ∷ b ∷ [] = sym h.spelled
    ∙ k.spelled in
    let w : h.word ≡ k.word = cc in
    (one_number k.word m n (subst (λ (x : List ℕ). IsSize x m) w h.is_size) k.is_size, cc)

pub no_compile : (words : List (List ℕ)) (n : ℕ) (a m : List ℕ) → IsTrial words n a
    → IsCompile words m → ⊥
no_compile words n a m h k =
    let e : codes "trial" ∷ h.word ∷ a ∷ [] ≡ codes "compile" ∷ m ∷ [] = sym h.spelled
    ∙ k.spelled in
    absurd (cc)

pub no_names : (words : List (List ℕ)) (n : ℕ) (a command : List ℕ) (c : FileNames)
    → IsTrial words n a → IsSpelled command words c → ⊥
no_names words n a command c h k =
    let e : codes "trial" ∷ h.word ∷ a ∷ []
    ≡ command ∷ c.model ∷ c.transfer ∷ c.third ∷ [] = sym h.spelled ∙ k.spelled in
    absurd (cc)
