-- Numbers that came, with a flag for each.
use Rattle.std.proofs.Common.{◌≡◌, ◌<◌, ◌+◌, ℕ, suc, zero, Bool, true, false, cond, List, [], ◌∷◌}
use Rattle.std.proofs.Common.{◌++◌, length, set, get_or, refl, ap, sym, ◌∙◌, arith, if◌then◌else◌}
use Rattle.std.proofs.Common.{nat_eq}
use Rattle.std.proofs.lemmas.Bool.{eqb-true, eqb-false}
use Rattle.itf_reader.specs.Forms.{has_topic, has_table}
use Rattle.itf_reader.specs.Numbers.{has_number, AreFlags}
use Rattle.itf_reader.specs.MachineViews.{topics_alone, tables_alone}
use Rattle.itf_reader.proofs.Counted.{swap, one}

pub topic_has : (n : ℕ) (ns : List ℕ) → has_number n ns ≡ has_topic n (topics_alone ns)
topic_has n [] = refl
topic_has n (m ∷ ns) = ap (λ (b : Bool). if nat_eq m n then true else b) (topic_has n ns)

pub table_has : (n : ℕ) (ns : List ℕ) → has_number n ns ≡ has_table n (tables_alone ns)
table_has n [] = refl
table_has n (m ∷ ns) = ap (λ (b : Bool). if nat_eq m n then true else b) (table_has n ns)

has-push : (n m : ℕ) (ns : List ℕ)
    → has_number n (ns ++ (m ∷ [])) ≡ cond (nat_eq m n) true (has_number n ns)
has-push n m [] = one (nat_eq m n)
has-push n m (k ∷ ns) = ap (λ (b : Bool). if nat_eq k n then true else b) (has-push n m ns)
    ∙ swap (nat_eq k n) (nat_eq m n) (has_number n ns)

get_set_same : (flags : List Bool) (m : ℕ) (b : Bool) → m < length flags
    → get_or (set flags m b) m false ≡ b
get_set_same [] m b h = absurd (omega (arith, h))
get_set_same (c ∷ flags) zero b h = refl
get_set_same (c ∷ flags) (suc m) b h = get_set_same flags m b (omega (arith, h))

get_set_other : (flags : List Bool) (m n : ℕ) (b : Bool) → (m ≡ n → ⊥)
    → get_or (set flags m b) n false ≡ get_or flags n false
get_set_other [] m n b h = refl
get_set_other (c ∷ flags) zero zero b h = absurd (h refl)
get_set_other (c ∷ flags) zero (suc n) b h = refl
get_set_other (c ∷ flags) (suc m) zero b h = refl
get_set_other (c ∷ flags) (suc m) (suc n) b h = get_set_other flags m n b (λ e. h (ap suc e))

-- one number more
pub flags_push : (ns : List ℕ) (flags : List Bool) (m : ℕ) → m < length flags → AreFlags ns flags
    → AreFlags (ns ++ (m ∷ [])) (set flags m true)
flags_push ns flags m l h n =
    elim (nat_eq m n) as (λ b. nat_eq m n ≡ b
    → get_or (set flags m true) n false ≡ has_number n (ns ++ (m ∷ []))) [
      | true ↦ λ e.
          ap (λ (k : ℕ). get_or (set flags m true) k false) (sym (eqb-true m n e))
          ∙ (get_set_same flags m true l
          ∙ sym (has-push n m ns ∙ ap (λ (b : Bool). cond b true (has_number n ns)) e))
      | false ↦ λ e. get_set_other flags m n true (eqb-false m n e)
          ∙ (h n ∙ sym (has-push n m ns ∙ ap (λ (b : Bool). cond b true (has_number n ns)) e))
    ] refl

-- ---- forgetting
abbrev pub AreWithin : List ℕ → List Bool → Type 0
AreWithin ns flags = (n : ℕ) → get_or flags n false ≡ true → has_number n ns ≡ true

pub within : (ns : List ℕ) (flags : List Bool) → AreFlags ns flags → AreWithin ns flags
within ns flags h n e = sym (h n) ∙ e

pub forgot : (ns all : List ℕ) (flags : List Bool) (m : ℕ) → m < length flags → all ≡ ns ++ (m ∷ [])
    → AreWithin all flags → AreWithin ns (set flags m false)
forgot ns all flags m l q h n e =
    elim (nat_eq m n) as (λ b. nat_eq m n ≡ b → has_number n ns ≡ true) [
      | true ↦ λ k. absurd
          (not_set (sym (ap (λ (i : ℕ). get_or (set flags m false) i false) (sym (eqb-true m n k))
          ∙ get_set_same flags m false l) ∙ e))
      | false ↦ λ k. still (nat_eq m n) (has_number n ns) k (sym (ap (has_number n) q ∙ has-push n m ns)
          ∙ h n (sym (get_set_other flags m n false (eqb-false m n k)) ∙ e))
    ] refl
  where
    not_set : false ≡ true → ⊥
    not_set e = absurd cc

    still : (a b : Bool) → a ≡ false → cond a true b ≡ true → b ≡ true
    still true b e h = absurd cc
    still false b e h = h

get_past : (flags : List Bool) (m : ℕ) → length flags < m + 1 → get_or flags m false ≡ false
get_past [] m h = refl
get_past (c ∷ flags) zero h = absurd (omega (arith, h))
get_past (c ∷ flags) (suc m) h = get_past flags m (omega (arith, h))

-- a number without a flag
pub forgot_past : (ns all : List ℕ) (flags : List Bool) (m : ℕ) → length flags < m + 1
    → all ≡ ns ++ (m ∷ []) → AreWithin all flags → AreWithin ns flags
forgot_past ns all flags m l q h n e =
    elim (nat_eq m n) as (λ b. nat_eq m n ≡ b → has_number n ns ≡ true) [
      | true ↦ λ k. absurd
          (not_set (sym (ap (λ (i : ℕ). get_or flags i false) (sym (eqb-true m n k))
          ∙ get_past flags m l) ∙ e))
      | false ↦ λ k. still (nat_eq m n) (has_number n ns) k (sym (ap (has_number n) q ∙ has-push n m ns)
          ∙ h n e)
    ] refl
  where
    not_set : false ≡ true → ⊥
    not_set e = absurd cc

    still : (a b : Bool) → a ≡ false → cond a true b ≡ true → b ≡ true
    still true b e h = absurd cc
    still false b e h = h

pub all_forgot : (flags : List Bool) → AreWithin [] flags → AreFlags [] flags
all_forgot flags h n =
    elim (get_or flags n false) as (λ b. get_or flags n false ≡ b → get_or flags n false ≡ false) [
      | true ↦ λ e. absurd (not_in (h n e))
      | false ↦ λ e. e
    ] refl
  where
    not_in : false ≡ true → ⊥
    not_in e = absurd cc

get-push : (flags : List Bool) (n : ℕ)
    → get_or (flags ++ (false ∷ [])) n false ≡ get_or flags n false
get-push [] zero = refl
get-push [] (suc n) = refl
get-push (c ∷ flags) zero = refl
get-push (c ∷ flags) (suc n) = get-push flags n

-- a flag that is not set changes nothing
pub grown_same : (flags now new : List Bool) (n : ℕ) → get_or now n false ≡ get_or flags n false
    → new ≡ now ++ (false ∷ []) → get_or new n false ≡ get_or flags n false
grown_same flags now new n h e = ap (λ (l : List Bool). get_or l n false) e ∙ (get-push now n ∙ h)
