-- Numbers from one to before another, and pairs of them.
use Rattle.std.proofs.Common.{◌≡◌, ◌↔◌, ℕ, ◌+◌, ◌<◌, ◌≤◌, Bool, true, false, IsTrue, refl, arith}
use Rattle.std.proofs.Common.{subst}
use Rattle.plane.specs.Forms.Boxes.{Box}
use Rattle.near_pairs.specs.Boxes.{ShareAPlace, box_of}
use Rattle.straight_predicates.proofs.Orders.{by_lt}
use Rattle.level_breaks.specs.Stretches.{IsPlaced, IsStretch, SomeOf, SomePair}
use Rattle.level_breaks.specs.declared.halves.Stretch.{Stretch}
use Rattle.level_breaks.proofs.Choices.{clash}

-- ---- in a loop
pub none_more_from : (P : ℕ → Type 0) (a n : ℕ) → ((k : ℕ) → a ≤ k → k < n → P k → ⊥) → (P n → ⊥)
    → (k : ℕ) → a ≤ k → k < n + 1 → P k → ⊥
none_more_from P a n f g k m l p =
    by_lt k n (λ (s : k < n). f k m s p) (λ (s : n ≤ k). g (subst P (omega (arith, l, s)) p))

pub some_here : (P : ℕ → Type 0) (a b n : ℕ) → a ≤ n → n < b → P n → IsTrue true ↔ SomeOf P a b
some_here P a b n l m p = ((λ t. (n, l, m, p)), (λ s. refl))

pub none_here : (P : ℕ → Type 0) (a b n : ℕ) → b ≤ n → ((k : ℕ) → a ≤ k → k < n → P k → ⊥)
    → IsTrue false ↔ SomeOf P a b
none_here P a b n l f = ((λ t. clash t), (λ (k, m, s, p). absurd (f k m (omega (arith, l, s)) p)))

pub placed_more : (P : ℕ → Type 0) (a n : ℕ) → IsPlaced P a n → P n → IsPlaced P a (n + 1)
placed_more P a n f p k m l =
    by_lt k n (λ (s : k < n). f k m s) (λ (s : n ≤ k). subst P (omega (arith, l, s)) p)

pub placed_to : (P : ℕ → Type 0) (a b n : ℕ) → b ≤ n → IsPlaced P a n → IsPlaced P a b
placed_to P a b n l f k m s = f k m (omega (arith, l, s))

pub placed_again : (P Q : ℕ → Type 0) (a b : ℕ) → ((k : ℕ) → P k → Q k) → IsPlaced P a b
    → IsPlaced Q a b
placed_again P Q a b g f k m l = g k (f k m l)

pub placed_one : (P : ℕ → Type 0) (a : ℕ) → IsPlaced P a (a + 1) → P a
placed_one P a f = f a (omega arith) (omega arith)

-- ---- no place, no pair
pub apart : (sought : ℕ → ℕ → Type 0) (inf : Box → ℕ → Type 0) (ins : Box → ℕ → Type 0) (m n : ℕ)
    (s t : Stretch)
    → IsStretch inf m s → IsStretch ins n t
    → ((i j : ℕ) (a b : Box) → i < m → j < n → sought i j → inf a i → ins b j → ShareAPlace a b)
    → (ShareAPlace (box_of s.reach) (box_of t.reach) → ⊥) → IsTrue false ↔ SomePair sought s t
apart sought inf ins m n s t h k law none = (
  (λ x. clash x),
  (λ (i, fi, li, (j, fj, lj, p)).
      let hi = h.there in
      let kj = k.there in
      absurd (none
      (law i j (box_of s.reach) (box_of t.reach) (omega (arith, hi, li))
      (omega (arith, kj, lj)) p (h.placed i fi li) (k.placed j fj lj)))),
)

-- ---- all of both
pub whole_pair : (r : Bool) (P : ℕ → ℕ → Type 0) (s t : Stretch) (m n : ℕ) → s.from ≡ 0 → s.to ≡ m
    → t.from ≡ 0 → t.to ≡ n → (IsTrue r ↔ SomePair P s t)
    → IsTrue r ↔ SomeOf (λ i. SomeOf (P i) 0 n) 0 m
whole_pair r P s t m n a b d e h =
    subst (λ (x : ℕ). IsTrue r ↔ SomeOf (λ i. SomeOf (P i) 0 n) 0 x) b
    (subst (λ (x : ℕ). IsTrue r ↔ SomeOf (λ i. SomeOf (P i) 0 n) x s.to) a
    (subst (λ (x : ℕ). IsTrue r ↔ SomeOf (λ i. SomeOf (P i) 0 x) s.from s.to) e
    (subst (λ (x : ℕ). IsTrue r ↔ SomeOf (λ i. SomeOf (P i) x t.to) s.from s.to) d h)))
