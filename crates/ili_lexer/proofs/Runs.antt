-- Facts of bytes at the front of a text.
use Rattle.std.proofs.Common.{◌≡◌, ℕ, ◌+◌, ◌≤◌, suc, zero, List, [], ◌∷◌, ◌++◌, length, take, drop}
use Rattle.std.proofs.Common.{Bool, true, false, refl, subst, arith, nat_eq}
use Rattle.std.proofs.lemmas.Bool.{eqb-true, and_parts}
use Rattle.std.specs.Prelude.{if◌then◌else◌}
use Rattle.std.specs.List.{prefix_len, AllPass}
use Rattle.std.proofs.lemmas.List.Elements.{All-nil, All-cons, All-head, All-tail}
use Rattle.ili_lexer.specs.Fronts.{begins}

-- a choice whose test is known
pub chosen : {A : Type 0} (t : Bool) (x y : A) → t ≡ true → (if t then x else y) ≡ x
chosen true x y h = refl
chosen false x y h = absurd (cc)

pub passed_over : {A : Type 0} (t : Bool) (x y z : A) → t ≡ false → y ≡ z → (if t then x else y) ≡ z
passed_over true x y z h e = absurd (cc)
passed_over false x y z h e = e

-- a choice has what both sides have
pub both_sides : {A : Type 0} (P : A → Type 0) (t : Bool) (x y : A) → (t ≡ true → P x)
    → (t ≡ false → P y) → P (if t then x else y)
both_sides P true x y f g = f refl
both_sides P false x y f g = g refl

-- a byte that passes is none that does not
pub other_byte : (p : ℕ → Bool) (b c : ℕ) → p b ≡ true → p c ≡ false → nat_eq c b ≡ false
other_byte p b c h g = go (nat_eq c b) refl
  where
    go : (t : Bool) → nat_eq c b ≡ t → t ≡ false
    go false e = refl
    go true e =
        let same = eqb-true c b e in
        absurd (let x : p b ≡ false = subst (λ (b : ℕ). p b ≡ false) same g in cc)

pub other_than : (p : ℕ → Bool) (b c : ℕ) → p b ≡ true → p c ≡ false → nat_eq b c ≡ false
other_than p b c h g = go (nat_eq b c) refl
  where
    go : (t : Bool) → nat_eq b c ≡ t → t ≡ false
    go false e = refl
    go true e =
        let same = eqb-true b c e in
        absurd (let x : p c ≡ true = subst (λ (b : ℕ). p b ≡ true) same h in cc)

pub no_front : (c b : ℕ) (word bs : List ℕ) → nat_eq c b ≡ false
    → begins (b ∷ bs) (c ∷ word) ≡ false
no_front c b word bs h = rw h refl

pub first_two : (c d : ℕ) (text : List ℕ) → begins text (c ∷ d ∷ []) ≡ true
    → text ≡ c ∷ d ∷ drop 2 text
first_two c d [] h = absurd (cc)
first_two c d (a ∷ []) h = absurd (let k : false ≡ true = (and_parts (nat_eq c a) _ h).1 in cc)
first_two c d (a ∷ b ∷ bs) h =
    let p = and_parts (nat_eq c a) _ h in
    let q = and_parts (nat_eq d b) _ p.1 in
    let e = eqb-true c a p.0 in
    let f = eqb-true d b q.0 in cc

pub first_one : (c : ℕ) (text : List ℕ) → begins text (c ∷ []) ≡ true → text ≡ c ∷ drop 1 text
first_one c [] h = absurd (cc)
first_one c (a ∷ bs) h = let e = eqb-true c a (and_parts (nat_eq c a) _ h).0 in cc

-- a run of bytes that pass
pub run_passes : (p : ℕ → Bool) (n : ℕ) (xs : List ℕ) → n ≤ prefix_len p xs → AllPass p (take n xs)
run_passes p zero xs h = All-nil (λ x. p x ≡ true)
run_passes p (suc n) [] h = All-nil (λ x. p x ≡ true)
run_passes p (suc n) (x ∷ xs) h = go (run_passes p n xs) (p x) refl h
  where
    go : (n ≤ prefix_len p xs → AllPass p (take n xs)) → (t : Bool) → p x ≡ t
        → suc n ≤ (if t then 1 + prefix_len p xs else 0) → AllPass p (x ∷ take n xs)
    go f true e k = All-cons (λ x. p x ≡ true) x (take n xs) e (f (omega (arith, k)))
    go f false e k = absurd (omega (arith, k))

-- a run goes on where all before pass
pub run_append : (p : ℕ → Bool) (xs ys : List ℕ) → AllPass p xs
    → prefix_len p (xs ++ ys) ≡ length xs + prefix_len p ys
run_append p [] ys h = omega arith
run_append p (x ∷ xs) ys h =
    rw (All-head (λ x. p x ≡ true) x xs h)
    (omega (arith, run_append p xs ys (All-tail (λ x. p x ≡ true) x xs h)))

pub run_stops : (p : ℕ → Bool) (x : ℕ) (xs : List ℕ) → p x ≡ false → prefix_len p (x ∷ xs) ≡ 0
run_stops p x xs h = rw h refl
