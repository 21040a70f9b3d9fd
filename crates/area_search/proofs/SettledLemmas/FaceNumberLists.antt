-- Numbers for faces, one face more at a time.
use Rattle.std.proofs.Common.{◌≡◌, ◌⊎◌, inl, inr, ℕ, zero, suc, ◌+◌, ◌<◌, List, [], ◌∷◌, ◌++◌}
use Rattle.std.proofs.Common.{length, slice_index, refl, sym, ap, subst, ◌∙◌, arith, replicate}
use Rattle.std.proofs.lemmas.Bool.{cases_eq}
use Rattle.plane.specs.Lists.{Has}
use Rattle.area_search.specs.declared.settled.case_sides.Beside.{Beside}
use Rattle.area_search.specs.Settled.FaceNumbers.{AreFaceNumbers, faces_met}
use Rattle.area_search.proofs.PlaneLaws.{has_append, has_back, has_front}
use Rattle.area_search.proofs.Small.{less_or}

-- the faces beside one curve more
pub met_more : (bs : List Beside) (b : Beside)
    → faces_met (bs ++ b ∷ []) ≡ (faces_met bs ++ b.first ∷ []) ++ b.second ∷ []
met_more [] b = refl
met_more (c ∷ bs) b =
    ap (λ (fs : List ℕ). c.first ∷ c.second ∷ fs) (met_more bs b)

all_zero : (n f : ℕ) → slice_index (replicate n 0) f ≡ 0
all_zero zero f = refl
all_zero (suc n) zero = refl
all_zero (suc n) (suc f) = all_zero n f

-- no face is met
pub none_met : (n : ℕ) (names : List ℕ) → names ≡ replicate n 0 → AreFaceNumbers [] names 1
none_met n names e =
    let z : (f : ℕ) → slice_index names f ≡ 0 =
    λ f. ap (λ (xs : List ℕ). slice_index xs f) e ∙ all_zero n f in
    record {
      some = omega arith;
      zero = z 0;
      below = λ f l. let q = z f in omega (arith, q);
      once = λ f g k l q apart. absurd (apart (z f));
      named = λ f h q. absurd h;
      used = λ k l. inl (omega (arith, l));
    }

module _ (met names : List ℕ) (count face : ℕ) (are : AreFaceNumbers met names count) where
  abbrev more : List ℕ
  more = met ++ face ∷ []

  front : (f : ℕ) → Has f met → Has f more
  front f h = has_front f met (face ∷ []) h

  -- the face has its number, or it is 0
  pub kept_numbers : (slice_index names face ≡ 0 → face ≡ 0) → AreFaceNumbers more names count
  kept_numbers own = record {
    some = are.some;
    zero = are.zero;
    below = are.below;
    once = are.once;
    named = λ f h q. elim (has_append f met (face ∷ []) h) [
      | inl k ↦ are.named f k q
      | inr (inl e) ↦ e ∙ own (sym (ap (slice_index names) e) ∙ q)
      | inr (inr k) ↦ absurd k
    ];
    used = λ k l. elim (are.used k l) [
      | inl e ↦ inl e
      | inr (f, h, q) ↦ inr (f, front f h, q)
    ];
  }

  -- the face gets the next number
  module _ (unnamed : slice_index names face ≡ 0) (inner : face ≡ 0 → ⊥) (new : List ℕ)
      (size : length new ≡ length names) (its : slice_index new face ≡ count)
      (others : (g : ℕ) → (g ≡ face → ⊥) → slice_index new g ≡ slice_index names g) where
    pub next_numbers : AreFaceNumbers more new (count + 1)
    next_numbers = record {
      some = omega arith;
      zero = others 0 (λ e. inner (sym e)) ∙ are.zero;
      below = λ f l. elim (cases_eq f face) [
        | inl e ↦ (let q = ap (slice_index new) e ∙ its in omega (arith, q))
        | inr apart ↦ (let q = others f apart in let b = are.below f (omega (arith, l, size)) in
            omega (arith, q, b))
      ];
      once = once;
      named = λ f h q. elim (cases_eq f face) [
        | inl e ↦ (let s = are.some in let p = sym (ap (slice_index new) e ∙ its) ∙ q in
            absurd (omega (arith, s, p)))
        | inr apart ↦ elim (has_append f met (face ∷ []) h) [
          | inl k ↦ are.named f k (sym (others f apart) ∙ q)
          | inr (inl e) ↦ absurd (apart e)
          | inr (inr k) ↦ absurd k
        ]
      ];
      used = λ k l. less_or k count ((k ≡ 0) ⊎ ((f : ℕ) × Has f more × (slice_index new f ≡ k))) l
          (λ m. used k m)
          (λ e. inr (face, has_back face met (face ∷ []) (inl refl), its ∙ sym e));
    }
      where
        once : (f g : ℕ) → f < length new → g < length new
            → slice_index new f ≡ slice_index new g → (slice_index new f ≡ 0 → ⊥) → f ≡ g
        once f g k l e apart = elim (cases_eq f face) [
          | inl a ↦ elim (cases_eq g face) [
            | inl b ↦ a ∙ sym b
            | inr b ↦
                let q = sym (ap (slice_index new) a ∙ its) ∙ e ∙ others g b in
                let c = are.below g (omega (arith, l, size)) in
                absurd (omega (arith, q, c))
          ]
          | inr a ↦ elim (cases_eq g face) [
            | inl b ↦
                let q = sym (others f a) ∙ e ∙ ap (slice_index new) b ∙ its in
                let c = are.below f (omega (arith, k, size)) in
                absurd (omega (arith, q, c))
            | inr b ↦ are.once f g (omega (arith, k, size)) (omega (arith, l, size))
                (sym (others f a) ∙ e ∙ others g b) (λ z. apart (others f a ∙ z))
          ]
        ]

        used : (k : ℕ) → k < count → (k ≡ 0) ⊎ ((f : ℕ) × Has f more × (slice_index new f ≡ k))
        used k m = elim (are.used k m) [
          | inl e ↦ inl e
          | inr (f, h, q) ↦ elim (cases_eq f face) [
            | inl e ↦ inl (sym q ∙ ap (slice_index names) e ∙ unnamed)
            | inr apart ↦ inr (f, front f h, others f apart ∙ q)
          ]
        ]
