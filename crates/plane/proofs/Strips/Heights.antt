-- Heights on a sweep line, as sides of edges there.
-- Between two neighbours of an ordered list there is always room.
use Rattle.std.proofs.Common.{◌≡◌, ℕ, zero, suc, ◌≤◌, List, [], ◌∷◌, length, ℤ, pos, ◌+ℤ◌, ◌*ℤ◌}
use Rattle.std.proofs.Common.{◌-ℤ◌, ◌<ℤ◌, ◌≤ℤ◌, refl, arith, inl, inr}
use Rattle.std.proofs.lemmas.Int.{ints, by_lt_z}
use Rattle.plane.specs.Lists.{Has, Neighbours}
use Rattle.plane.proofs.Algebra.Laws.{product_positive, weight_at_most}
use Rattle.plane.proofs.Algebra.Scaling.{cancel_lt, product_negative}
use Rattle.plane.proofs.Algebra.Ring.{at, num, plus, minus, times, vars, ring}

-- an edge seen from a place of a sweep line: its side there and its rise
pub record Wall : Type 0 where
  pub side : ℤ
  pub rise : ℤ

-- the side at the height t / d over that place, times d
abbrev pub from_height : ℤ → ℤ → Wall → ℤ
from_height d t a = (d *ℤ a.side) +ℤ (t *ℤ a.rise)

-- a is strictly below b
abbrev pub IsLower : Wall → Wall → Type 0
IsLower a b = ((a.rise *ℤ b.side) -ℤ (b.rise *ℤ a.side)) <ℤ pos 0

-- f is above 0 at the first i elements and below 0 at the others
abbrev pub Parts : {X : Type 0} → (X → ℤ) → ℕ → List X → Type 0
Parts f i [] = Unit {0}
Parts f zero (a ∷ rest) = (f a <ℤ pos 0) × Parts f zero rest
Parts f (suc i) (a ∷ rest) = (pos 0 <ℤ f a) × Parts f i rest

tied : (d t a b m n : ℤ)
    → a *ℤ ((d *ℤ n) +ℤ (t *ℤ b)) ≡ (d *ℤ ((a *ℤ n) -ℤ (b *ℤ m))) +ℤ (b *ℤ ((d *ℤ m) +ℤ (t *ℤ a)))
tied d t a b m n =
    let D = at 0 in let T = at 1 in let A = at 2 in let B = at 3 in let M = at 4 in let N = at 5 in
    ring (times A (plus (times D N) (times T B)))
    (plus (times D (minus (times A N) (times B M))) (times B (plus (times D M) (times T A))))
    (vars (d ∷ t ∷ a ∷ b ∷ m ∷ n ∷ [])) refl

-- what is under a wall is under the higher ones
under_next : (d t : ℤ) (a b : Wall) → pos 0 <ℤ d → pos 0 <ℤ a.rise → pos 0 <ℤ b.rise → IsLower a b
    → from_height d t a <ℤ pos 0 → from_height d t b <ℤ pos 0
under_next d t a b D A B l h =
    let p = product_negative d ((a.rise *ℤ b.side) -ℤ (b.rise *ℤ a.side)) D l in
    let q = product_negative b.rise (from_height d t a) B h in
    let e = tied d t a.rise b.rise a.side b.side in
    let z : a.rise *ℤ pos 0 ≡ pos 0 = omega (arith, ints) in
    cancel_lt a.rise (from_height d t b) (pos 0) A (sum_below _ _ _ _ e z p q)
  where
    sum_below : (x y u v : ℤ) → x ≡ u +ℤ v → y ≡ pos 0 → u <ℤ pos 0 → v <ℤ pos 0 → x <ℤ y
    sum_below x y u v e z p q = omega (arith, ints)

-- what is over a wall is over the lower ones
over_previous : (d t : ℤ) (a b : Wall) → pos 0 <ℤ d → pos 0 <ℤ a.rise → pos 0 <ℤ b.rise
    → IsLower a b → pos 0 <ℤ from_height d t b → pos 0 <ℤ from_height d t a
over_previous d t a b D A B l h =
    let p = product_negative d ((a.rise *ℤ b.side) -ℤ (b.rise *ℤ a.side)) D l in
    let q = product_positive a.rise (from_height d t b) A h in
    let e = tied d t a.rise b.rise a.side b.side in
    let z : b.rise *ℤ pos 0 ≡ pos 0 = omega (arith, ints) in
    cancel_lt b.rise (pos 0) (from_height d t a) B (sum_above _ _ _ _ e z p q)
  where
    sum_above : (x y u v : ℤ) → x ≡ u +ℤ v → y ≡ pos 0 → u <ℤ pos 0 → pos 0 <ℤ x → y <ℤ v
    sum_above x y u v e z p q = omega (arith, ints)

-- ---- heights below one wall, above one wall, between two
pub record HasRoom (i : ℕ) (ws : List Wall) : Type 0 where
  pub d : ℤ
  pub t : ℤ
  pub whole : pos 0 <ℤ d
  pub parts : Parts (from_height d t) i ws

below_one : (a : Wall) → pos 0 <ℤ a.rise → (t : ℤ) × (from_height (pos 1) t a <ℤ pos 0)
below_one a A = by_lt_z a.side (pos 0)
    (λ (l : a.side <ℤ pos 0). (pos 0, omega (arith, ints)))
    (λ (l : pos 0 ≤ℤ a.side).
    let p = weight_at_most (a.side +ℤ pos 1) a.rise (omega (arith, ints)) A in
    let e = ring (times (minus (num (pos 0)) (plus (at 0) (num (pos 1)))) (at 1))
    (minus (num (pos 0)) (times (plus (at 0) (num (pos 1))) (at 1)))
    (vars (a.side ∷ a.rise ∷ [])) refl in
    (pos 0 -ℤ (a.side +ℤ pos 1), omega (arith, ints, p, e)))

above_one : (a : Wall) → pos 0 <ℤ a.rise → (t : ℤ) × (pos 0 <ℤ from_height (pos 1) t a)
above_one a A = by_lt_z (pos 0) a.side
    (λ (l : pos 0 <ℤ a.side). (pos 0, omega (arith, ints)))
    (λ (l : a.side ≤ℤ pos 0).
    let p = weight_at_most (pos 1 -ℤ a.side) a.rise (omega (arith, ints)) A in
    (pos 1 -ℤ a.side, omega (arith, ints, p)))

middle_over : (a b m n : ℤ)
    → ((a +ℤ b) *ℤ m) +ℤ ((pos 0 -ℤ (m +ℤ n)) *ℤ a) ≡ pos 0 -ℤ ((a *ℤ n) -ℤ (b *ℤ m))
middle_over a b m n =
    let A = at 0 in let B = at 1 in let M = at 2 in let N = at 3 in
    ring (plus (times (plus A B) M) (times (minus (num (pos 0)) (plus M N)) A))
    (minus (num (pos 0)) (minus (times A N) (times B M))) (vars (a ∷ b ∷ m ∷ n ∷ [])) refl

middle_under : (a b m n : ℤ) → ((a +ℤ b) *ℤ n) +ℤ ((pos 0 -ℤ (m +ℤ n)) *ℤ b) ≡ (a *ℤ n) -ℤ (b *ℤ m)
middle_under a b m n =
    let A = at 0 in let B = at 1 in let M = at 2 in let N = at 3 in
    ring (plus (times (plus A B) N) (times (minus (num (pos 0)) (plus M N)) B))
    (minus (times A N) (times B M)) (vars (a ∷ b ∷ m ∷ n ∷ [])) refl

-- under the first wall is under all
all_under : (d t : ℤ) → pos 0 <ℤ d → (a : Wall) (ws : List Wall)
    → ((b : Wall) → Has b (a ∷ ws) → pos 0 <ℤ b.rise) → Neighbours IsLower (a ∷ ws)
    → from_height d t a <ℤ pos 0 → Parts (from_height d t) 0 (a ∷ ws)
all_under d t D a [] rises o h = (h, tt)
all_under d t D a (b ∷ ws) rises o h = (
  h,
  all_under d t D b ws (λ c m. rises c (inr m)) o.1
      (under_next d t a b D (rises a (inl refl)) (rises b (inr (inl refl))) o.0 h),
)

-- in an ordered list there is room at each index
pub room : (i : ℕ) (ws : List Wall) → i ≤ length ws → ((b : Wall) → Has b ws → pos 0 <ℤ b.rise)
    → Neighbours IsLower ws → HasRoom i ws
room i [] h rises o = record { d = pos 1; t = pos 0; whole = omega (arith, ints); parts = tt }
room zero (a ∷ ws) h rises o =
    let b = below_one a (rises a (inl refl)) in
    let one : pos 0 <ℤ pos 1 = omega (arith, ints) in
    record { d = pos 1; t = b.0; whole = one; parts = all_under (pos 1) b.0 one a ws rises o b.1 }
room (suc zero) (a ∷ []) h rises o =
    let b = above_one a (rises a (inl refl)) in
    record { d = pos 1; t = b.0; whole = omega (arith, ints); parts = (b.1, tt) }
room (suc zero) (a ∷ (b ∷ ws)) h rises o =
    let A = rises a (inl refl) in
    let B = rises b (inr (inl refl)) in
    let lower = o.0 in
    let D : pos 0 <ℤ (a.rise +ℤ b.rise) = omega (arith, ints, A, B) in
    let e1 = middle_over a.rise b.rise a.side b.side in
    let e2 = middle_under a.rise b.rise a.side b.side in
    record {
      d = a.rise +ℤ b.rise;
      t = pos 0 -ℤ (a.side +ℤ b.side);
      whole = D;
      parts = (
        omega (arith, ints, e1, lower),
        all_under (a.rise +ℤ b.rise) (pos 0 -ℤ (a.side +ℤ b.side)) D b ws
            (λ c m. rises c (inr m)) o.1 (omega (arith, ints, e2, lower)),
      );
    }
room (suc (suc i)) (a ∷ []) h rises o = absurd (omega arith)
room (suc (suc i)) (a ∷ (b ∷ ws)) h rises o =
    let k = room (suc i) (b ∷ ws) (omega arith) (λ c m. rises c (inr m)) o.1 in
    record {
      d = k.d;
      t = k.t;
      whole = k.whole;
      parts = (
        over_previous k.d k.t a b k.whole (rises a (inl refl))
            (rises b (inr (inl refl))) o.0 k.parts.0,
        k.parts,
      );
    }
