-- Parts of lists, and the edges beside a place.
use Rattle.std.proofs.Common.{◌≡◌, ℕ, zero, suc, ◌+◌, ◌<◌, ◌≤◌, Option, Some, None, List, [], ◌∷◌}
use Rattle.std.proofs.Common.{length, take, drop, refl, arith, ap, sym, ◌∙◌}
use Rattle.std.proofs.Math.Seq.{drop-nil}
use Rattle.plane.specs.Runs.Gaps.{edge_at, edge_before, first_or, last_or}

-- ---- the ends of the parts of a list
last_is : (es : List ℕ) (p : ℕ) (l : Option ℕ) → 0 < p → p ≤ length es
    → last_or l (take p es) ≡ edge_before es p
last_is [] p l a b = absurd (omega (arith, a, b))
last_is (e ∷ es) zero l a b = absurd (omega (arith, a))
last_is (e ∷ es) (suc zero) l a b = refl
last_is (e ∷ es) (suc (suc p)) l a b = last_is es (suc p) (Some e) (omega arith) (omega (arith, b))

pub last_before : (es : List ℕ) (p : ℕ) → p ≤ length es
    → last_or None (take p es) ≡ edge_before es p
last_before es zero l = refl
last_before es (suc p) l = last_is es (suc p) None (omega arith) l

pub first_after : (es : List ℕ) (p : ℕ) → first_or None (drop p es) ≡ edge_at es p
first_after [] zero = refl
first_after [] (suc p) = refl
first_after (e ∷ es) zero = refl
first_after (e ∷ es) (suc p) = first_after es p

pub drop_twice : {X : Type 0} (i n : ℕ) (xs : List X) → drop n (drop i xs) ≡ drop (i + n) xs
drop_twice zero n xs = ap (λ (k : ℕ). drop k xs) (none n)
  where
    none : (n : ℕ) → n ≡ 0 + n
    none n = omega arith
drop_twice (suc i) n [] = drop-nil n ∙ sym (drop-nil (suc i + n))
drop_twice (suc i) n (x ∷ xs) = drop_twice i n xs ∙ ap (λ (k : ℕ). drop k (x ∷ xs)) (shift i n)
  where
    shift : (i n : ℕ) → suc (i + n) ≡ suc i + n
    shift i n = omega arith
