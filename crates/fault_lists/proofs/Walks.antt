-- Lists that a walk fills in the order of numbers.
use Rattle.std.proofs.Common.{◌≡◌, ◌↔◌, inl, inr, ℕ, ◌+◌, ◌<◌, ◌≤◌, List, [], ◌∷◌, ◌++◌, length}
use Rattle.std.proofs.Common.{map, refl, sym, subst, arith, get_or}
use Rattle.std.specs.List.{Contains}
use Rattle.std.specs.List.Sorted.{IsStrictlyIncreasing}
use Rattle.std.proofs.lemmas.List.Elements.{Contains-append_left, Contains-push}
use Rattle.std.proofs.lemmas.List.Elements.{Contains-push_cases, Contains-get_or}
use Rattle.std.proofs.lemmas.Bool.{cases_lt}
use Rattle.std.proofs.lemmas.List.{map-append, length-map, length-append, get_or-map}
use Rattle.std.proofs.lemmas.List.{get_or_append_left}
use Rattle.std.proofs.Math.Seq.{get_or-append_seam}
use Rattle.fault_lists.specs.FaceLists.{HasExactly}

-- What is so and has a lesser number than that.
abbrev pub HasBelow : {A : Type 0} → (A → Type 0) → (A → ℕ) → ℕ → List A → Type 0
HasBelow {A} Is number bound xs = HasExactly {A = A} (λ x. Is x × (number x < bound)) number xs

numbers_push : (ns : List ℕ) (m : ℕ) → IsStrictlyIncreasing ns
    → ((k : ℕ) → k < length ns → get_or ns k 0 < m) → IsStrictlyIncreasing (ns ++ m ∷ [])
numbers_push ns m rise less k h = elim (cases_lt (k + 1) (length ns)) [
  | inl l ↦
      let here : k < length ns = omega (arith, l) in
      rw (get_or_append_left ns (m ∷ []) 0 k here, get_or_append_left ns (m ∷ []) 0 (k + 1) l)
      (rise k l)
  | inr l ↦
      let e : k + 1 ≡ length ns = omega (arith, h, l, length-append ns (m ∷ [])) in
      let here : k < length ns = omega (arith, e) in
      rw (get_or_append_left ns (m ∷ []) 0 k here, e, get_or-append_seam ns m [] 0) (less k here)
]

module _ {A : Type 0} (Is : A → Type 0) (number : A → ℕ) where
  pub none_below : HasBelow Is number 0 []
  none_below = record {
    is = λ x. ((λ h. absurd (nothing x h)), (λ h. absurd (let b = h.1 in omega (arith, b))));
    rise = λ k h. absurd (omega (arith, h));
  }
    where
      nothing : (x : A) → Contains [] x → ⊥
      nothing x (k, l, e) = omega (arith, l)

  pub rising_push : (xs : List A) (x : A) → IsStrictlyIncreasing (map number xs)
      → ((y : A) → Contains xs y → number y < number x)
      → IsStrictlyIncreasing (map number (xs ++ x ∷ []))
  rising_push xs x rise less =
      subst (λ ns. IsStrictlyIncreasing ns) (sym (map-append number xs (x ∷ [])))
      (numbers_push (map number xs) (number x) rise each)
    where
      each : (k : ℕ) → k < length (map number xs) → get_or (map number xs) k 0 < number x
      each k l =
          let l' : k < length xs = omega (arith, l, length-map xs number) in
          subst (λ n. n < number x) (sym (get_or-map number xs k x 0 l'))
          (less (get_or xs k x) (Contains-get_or xs k x l'))

  -- one more
  pub one_below : (n : ℕ) (xs : List A) (x : A) → HasBelow Is number n xs → Is x → number x ≡ n
      → ((y : A) → Is y → number y ≡ n → y ≡ x) → HasBelow Is number (n + 1) (xs ++ x ∷ [])
  one_below n xs x h is e only = record {
    is = λ y. (
      (λ c. elim (Contains-push_cases xs x y c) [
        | inl old ↦ (let (i, l) = (h.is y).0 old in (i, omega (arith, l)))
        | inr new ↦ subst (λ v. Is v × (number v < n + 1)) new (is, omega (arith, e))
      ]),
      (λ b. by_number y b.0 b.1),
    );
    rise = rising_push xs x h.rise (λ y c. let l = ((h.is y).0 c).1 in omega (arith, l, e));
  }
    where
      by_number : (y : A) → Is y → number y < n + 1 → Contains (xs ++ x ∷ []) y
      by_number y i l =
          elim (cases_lt (number y) n) [
            | inl less ↦ Contains-append_left xs (x ∷ []) y
                ((h.is y).1 (i, less))
            | inr more ↦ subst (λ v. Contains (xs ++ x ∷ []) v)
                (sym (only y i (omega (arith, l, more)))) (Contains-push xs x)
          ]

  -- no more
  pub same_below : (n m : ℕ) (xs : List A) → HasBelow Is number n xs → n ≤ m
      → ((y : A) → Is y → n ≤ number y → number y < m → ⊥) → HasBelow Is number m xs
  same_below n m xs h le none = record {
    is = λ y. (
      (λ c. let (i, l) = (h.is y).0 c in (i, omega (arith, l, le))),
      (λ b. by_number y b.0 b.1),
    );
    rise = h.rise;
  }
    where
      by_number : (y : A) → Is y → number y < m → Contains xs y
      by_number y i l =
          elim (cases_lt (number y) n) [
            | inl less ↦ (h.is y).1 (i, less)
            | inr more ↦ absurd (none y i more l)
          ]

  -- all
  pub all_below : (n : ℕ) (xs : List A) → HasBelow Is number n xs → ((y : A) → Is y → number y < n)
      → HasExactly Is number xs
  all_below n xs h all = record {
    is = λ y. ((λ c. ((h.is y).0 c).0), (λ i. (h.is y).1 (i, all y i)));
    rise = h.rise;
  }

  -- the same by other words
  pub exactly_where : {Other : A → Type 0} (xs : List A) → ((y : A) → Is y ↔ Other y)
      → HasExactly Is number xs → HasExactly Other number xs
  exactly_where xs same h = record {
    is = λ y. ((λ c. (same y).0 ((h.is y).0 c)), (λ o. (h.is y).1 ((same y).1 o)));
    rise = h.rise;
  }

  -- what a walk begins with and adds
  pub none_yet : (xs : List A) → xs ≡ [] → HasBelow Is number 0 xs
  none_yet xs e = subst (λ ys. HasBelow Is number 0 ys) (sym e) none_below

  pub one_more : (n : ℕ) (xs ys : List A) (x : A) → HasBelow Is number n xs → ys ≡ xs ++ x ∷ []
      → Is x → number x ≡ n → ((y : A) → Is y → number y ≡ n → y ≡ x)
      → HasBelow Is number (n + 1) ys
  one_more n xs ys x h e is at only =
      subst (λ zs. HasBelow Is number (n + 1) zs) (sym e) (one_below n xs x h is at only)

  pub no_more : (n : ℕ) (xs ys : List A) → HasBelow Is number n xs → ys ≡ xs
      → ((y : A) → Is y → number y ≡ n → ⊥) → HasBelow Is number (n + 1) ys
  no_more n xs ys h e none =
      subst (λ zs. HasBelow Is number (n + 1) zs) (sym e)
      (same_below n (n + 1) xs h (omega arith)
      (λ y i low high. none y i (omega (arith, low, high))))

-- ---- lists of numbers
module _ (Is : ℕ → Type 0) where
  pub number_told : (n : ℕ) (xs ys : List ℕ) → HasBelow Is (λ j. j) n xs → ys ≡ xs ++ n ∷ [] → Is n
      → HasBelow Is (λ j. j) (n + 1) ys
  number_told n xs ys h e is = one_more Is (λ j. j) n xs ys n h e is refl (λ y i l. l)

  pub number_passed : (n : ℕ) (xs ys : List ℕ) → HasBelow Is (λ j. j) n xs → ys ≡ xs → (Is n → ⊥)
      → HasBelow Is (λ j. j) (n + 1) ys
  number_passed n xs ys h e none =
      no_more Is (λ j. j) n xs ys h e (λ y i l. none (subst (λ k. Is k) l i))
