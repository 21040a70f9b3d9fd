-- Steps through names, one after the other.
use Rattle.std.proofs.Common.{◌≡◌, ℕ, suc, zero, ◌+◌, ◌*◌, ◌^◌, ◌<◌, List, length, Option, Some}
use Rattle.std.proofs.Common.{None, refl, sym, ap, ◌∙◌, subst, arith, get_or, add-one}
use Rattle.std.proofs.Math.Nat.{pow-suc}
use Rattle.std.specs.Option.{unwrap_or, IfSome}
use Rattle.resolver.specs.Scopes.{reached, longest}
use Rattle.resolver.specs.Aliases.{IsJump, step_in, StepsWithin}

pub reached_add : (step : ℕ → Option ℕ) (a b i : ℕ)
    → reached step (a + b) i ≡ reached step b (reached step a i)
unfolding reached
reached_add step zero b i = let e : 0 + b ≡ b = omega arith in ap (λ (n : ℕ). reached step n i) e
reached_add step (suc a) b i =
    let e : suc a + b ≡ suc (a + b) = omega arith in
    ap (λ (n : ℕ). reached step n i) e ∙ reached_add step a b (unwrap_or (step i) i)

pub reached-one : (step : ℕ → Option ℕ) (i : ℕ) → reached step 1 i ≡ unwrap_or (step i) i
unfolding reached
reached-one step i = refl

pub longest_is : longest ≡ 2 ^ 22
unfolding longest
longest_is = refl

-- a jump that is taken twice goes twice as far
pub jump_double : (step : ℕ → Option ℕ) (count n : ℕ) (jumps far : List ℕ)
    → IsJump step count n jumps → length far ≡ length jumps
    → ((i : ℕ) → i < length jumps → get_or far i 0 ≡ get_or jumps (get_or jumps i 0) 0)
    → IsJump step (count + count) n far
jump_double step count n jumps far j long lands = record {
  long = long ∙ j.long;
  within = λ i lt. subst (λ (k : ℕ). k < n)
      (sym (lands i (subst (λ (m : ℕ). i < m) (sym j.long) lt)))
      (j.within (get_or jumps i 0) (j.within i lt));
  lands = λ i lt. lands i (subst (λ (m : ℕ). i < m) (sym j.long) lt)
      ∙ j.lands (get_or jumps i 0) (j.within i lt) ∙ ap (reached step count) (j.lands i lt)
      ∙ sym (reached_add step count count i);
}

pub jump_next : (step : ℕ → Option ℕ) (k n : ℕ) (jumps read far : List ℕ) → read ≡ jumps
    → IsJump step (2 ^ k) n jumps → length far ≡ length read
    → ((i : ℕ) → i < length read → get_or far i 0 ≡ get_or read (get_or read i 0) 0)
    → IsJump step (2 ^ (k + 1)) n far
jump_next step k n jumps read far e j long lands =
    let more : 2 ^ (k + 1) ≡ 2 ^ k * 2 = ap (λ (q : ℕ). 2 ^ q) (add-one k) ∙ pow-suc 2 k in
    let twice : 2 ^ k + 2 ^ k ≡ 2 ^ (k + 1) = omega (arith, more) in
    subst (λ (c : ℕ). IsJump step c n far) twice
    (jump_double step (2 ^ k) n read far
    (subst (λ (js : List ℕ). IsJump step (2 ^ k) n js) (sym e) j) long lands)

pub jump_last : (step : ℕ → Option ℕ) (k n : ℕ) (jumps : List ℕ) → k ≡ 22
    → IsJump step (2 ^ k) n jumps → IsJump step longest n jumps
jump_last step k n jumps e j =
    subst (λ (c : ℕ). IsJump step c n jumps) (ap (λ (q : ℕ). 2 ^ q) e ∙ sym longest_is) j

pub step_within : (o : Option ℕ) (i n : ℕ) → i < n → IfSome o (λ k. k < n) → unwrap_or o i < n
step_within None i n lt h = lt
step_within (Some k) i n lt h = h

pub jump_one : (steps : List (Option ℕ)) (jumps : List ℕ) (p : ℕ) → p ≡ length steps
    → StepsWithin steps → length jumps ≡ p
    → ((i : ℕ) → i < p → get_or jumps i 0 ≡ unwrap_or (step_in steps i) i)
    → IsJump (step_in steps) 1 (length steps) jumps
jump_one steps jumps p e w long lands = record {
  long = long ∙ e;
  within = λ i lt. subst (λ (k : ℕ). k < length steps)
      (sym (lands i (subst (λ (m : ℕ). i < m) (sym e) lt)))
      (step_within (step_in steps i) i (length steps) lt (w i));
  lands = λ i lt. lands i (subst (λ (m : ℕ). i < m) (sym e) lt)
      ∙ sym (reached-one (step_in steps) i);
}
