use Rattle.std.proofs.Common.{◌≡◌, ◌≢◌, ℕ, zero, suc, ◌<◌, arith, sym, ◌∙◌, inl, inr, cond, eqb}
use Rattle.std.proofs.lemmas.Bool.{cases_eq}
use Rattle.std.proofs.lemmas.Bool.Decides.{nat_tests}
use Rattle.half_edges.proofs.Linking.{found}

-- y, but x where y is n
abbrev redirect : ℕ → ℕ → ℕ → ℕ
redirect n x y = cond (eqb y n) x y

redirect_hit : (n x y : ℕ) → y ≡ n → redirect n x y ≡ x
redirect_hit n x y e = grind (arith, nat_tests)

redirect_miss : (n x y : ℕ) → y ≢ n → redirect n x y ≡ y
redirect_miss n x y ne = grind (arith, nat_tests)

-- two of n + 1 numbers below n are the same
pub record HasTwins (f : ℕ → ℕ) (n : ℕ) : Type 0 where
  pub one : ℕ
  pub other : ℕ
  pub ordered : one < other
  pub within : other < n
  pub same : f one ≡ f other

pub pigeons : (n : ℕ) (f : ℕ → ℕ) → ((k : ℕ) → k < suc n → f k < n) → HasTwins f (suc n)
pigeons zero f small = absurd (let l = small 0 (omega arith) in omega arith)
pigeons (suc n) f small = elim (found f (suc n) (f (suc n))) [
  | inl w ↦ record {
    one = w.0;
    other = suc n;
    ordered = w.1.0;
    within = omega arith;
    same = sym w.1.1;
  }
  | inr far ↦
      let x = f (suc n) in
      let top : x < suc n = small (suc n) (omega arith) in
      let t = pigeons n (λ k. redirect n x (f k)) (λ k l.
      let s : f k < suc n = small k (omega arith) in
      elim (cases_eq (f k) n) [
        | inl e ↦ let ne = far k l in let r = redirect_hit n x (f k) e in
            rw r (elim (cases_eq x n) [
              | inl d ↦ absurd (ne (d ∙ sym e))
              | inr d ↦ omega arith
            ])
        | inr ne ↦ let r = redirect_miss n x (f k) ne in rw r (omega arith)
      ]) in
      let i = t.one in
      let j = t.other in
      let ordered = t.ordered in
      let within = t.within in
      record {
        one = i;
        other = j;
        ordered = ordered;
        within = omega arith;
        same = elim (cases_eq (f i) n) [
          | inl e ↦ elim (cases_eq (f j) n) [
            | inl d ↦ e ∙ sym d
            | inr d ↦ absurd
                (far j within (sym (redirect_hit n x (f i) e)
                ∙ (t.same ∙ redirect_miss n x (f j) d)))
          ]
          | inr e ↦ elim (cases_eq (f j) n) [
            | inl d ↦ absurd
                (far i (omega arith) (sym (redirect_hit n x (f j) d)
                ∙ (sym t.same ∙ redirect_miss n x (f i) e)))
            | inr d ↦ sym (redirect_miss n x (f i) e) ∙ (t.same ∙ redirect_miss n x (f j) d)
          ]
        ];
      }
]
