-- The words of a command, one by one.
use Rattle.std.specs.Prelude.{codes}
use Rattle.std.specs.Cmp.Lexicographic.{pointwise}
use Rattle.std.proofs.lemmas.Slice.Eq.{bytes_eq-Decides}
use Rattle.commands.specs.Commands.{FileNames, IsCompile, IsSpelled}
use Rattle.std.proofs.Common.{◌≡◌, ◌≤◌, ◌<◌, ℕ, true, nat_eq, List, [], ◌∷◌, length, get_or, sym}
use Rattle.std.proofs.Common.{◌∙◌, arith}

pub same_word : (a b : List ℕ) → pointwise nat_eq a b ≡ true → a ≡ b
same_word a b h = (bytes_eq-Decides a b).0 h

pub two_words : (ws : List (List ℕ)) (a b : List ℕ) → 2 ≤ length ws → length ws < 3
    → a ≡ get_or ws 0 a → b ≡ get_or ws 1 b → ws ≡ a ∷ b ∷ []
two_words [] a b l u ha hb = absurd (omega arith)
two_words (x ∷ []) a b l u ha hb = absurd (omega arith)
two_words (x ∷ y ∷ []) a b l u ha hb = cc
two_words (x ∷ y ∷ z ∷ ws) a b l u ha hb = absurd (omega arith)

pub compile_spelled : (ws : List (List ℕ)) (a b word model : List ℕ) → ws ≡ a ∷ b ∷ [] → word ≡ a
    → word ≡ codes "compile" → model ≡ b → ws ≡ codes "compile" ∷ model ∷ []
compile_spelled ws a b word model h ha hk hm = cc

pub four_words : (ws : List (List ℕ)) (a b c d : List ℕ) → 4 ≤ length ws → length ws < 5
    → a ≡ get_or ws 0 a → b ≡ get_or ws 1 b → c ≡ get_or ws 2 c → d ≡ get_or ws 3 d
    → ws ≡ a ∷ b ∷ c ∷ d ∷ []
four_words [] a b c d l u ha hb hc hd = absurd (omega arith)
four_words (x ∷ []) a b c d l u ha hb hc hd = absurd (omega arith)
four_words (x ∷ y ∷ []) a b c d l u ha hb hc hd = absurd (omega arith)
four_words (x ∷ y ∷ z ∷ []) a b c d l u ha hb hc hd = absurd (omega arith)
four_words (x ∷ y ∷ z ∷ w ∷ []) a b c d l u ha hb hc hd = cc
four_words (x ∷ y ∷ z ∷ w ∷ v ∷ ws) a b c d l u ha hb hc hd = absurd (omega arith)

pub files_spelled : (ws : List (List ℕ)) (a b c d word named m t e : List ℕ)
    → ws ≡ a ∷ b ∷ c ∷ d ∷ [] → word ≡ a → word ≡ named → m ≡ b → t ≡ c → e ≡ d
    → ws ≡ named ∷ m ∷ t ∷ e ∷ []
files_spelled ws a b c d word named m t e h ha hk hm ht he = cc

-- the words spell one command only
pub one_spelling : (words : List (List ℕ)) (command : List ℕ) (c d : FileNames)
    → IsSpelled command words c → IsSpelled command words d → c ≡ d
one_spelling words command c d h k =
    let e : command ∷ c.model ∷ c.transfer ∷ c.third ∷ []
    ≡ command ∷ d.model ∷ d.transfer ∷ d.third ∷ [] = sym h.spelled ∙ k.spelled in
    let m : c.model ≡ d.model = cc in
    let t : c.transfer ≡ d.transfer = cc in
    let f : c.third ≡ d.third = cc in
    λ i. record { model = m i; transfer = t i; third = f i }

pub one_word : (words : List (List ℕ)) (a b : List ℕ) (c d : FileNames) → IsSpelled a words c
    → IsSpelled b words d → a ≡ b
one_word words a b c d h k =
    let e : a ∷ c.model ∷ c.transfer ∷ c.third ∷ []
    ≡ b ∷ d.model ∷ d.transfer ∷ d.third ∷ [] = sym h.spelled ∙ k.spelled in
    cc

pub one_compile : (words : List (List ℕ)) (m n : List ℕ) → IsCompile words m → IsCompile words n
    → m ≡ n
one_compile words m n h k =
    let e : codes "compile" ∷ m ∷ [] ≡ codes "compile" ∷ n ∷ [] = sym h.spelled ∙ k.spelled in cc

pub not_both : (words : List (List ℕ)) (m command : List ℕ) (c : FileNames) → IsCompile words m
    → IsSpelled command words c → ⊥
not_both words m command c h k =
    let e : codes "compile" ∷ m ∷ [] ≡ command ∷ c.model ∷ c.transfer ∷ c.third ∷ [] = sym h.spelled
    ∙ k.spelled in
    absurd (cc)
