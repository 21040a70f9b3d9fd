-- Packed ends: what is packed comes back, and the order of numbers is that of the ends.
use Rattle.std.proofs.Common.{◌≡◌, inl, inr, ℕ, ◌+◌, ◌*◌, ◌/◌, ◌%◌, ◌^◌, ◌<◌, ◌≤◌, ℤ, pos}
use Rattle.std.proofs.Common.{◌+ℤ◌, ◌-ℤ◌, ◌<ℤ◌, Bool, true, false, cond, nat_eq, List, [], ◌∷◌, map}
use Rattle.std.proofs.Common.{arith, ap, ◌∙◌}
use Rattle.std.proofs.lemmas.Int.{ints}
use Rattle.std.proofs.lemmas.Nat.{div-add-mod', div-mul-add, mod-mul-add, mod_below, mul-le}
use Rattle.std.specs.Ordering.{is_lt, nat_cmp}
use Rattle.plane.specs.declared.kinds.Point.{Point}
use Rattle.plane.specs.Lists.{Neighbours}
use Rattle.plane.proofs.ListLemmas.Points.{point_eq}
use Rattle.straight_predicates.specs.Packing.{IsNotAfter, end_of, moved}
use Rattle.straight_predicates.specs.declared.slots.End.{End}
use Rattle.straight_predicates.proofs.Orders.{by_lt, nat_not_less}

-- ---- what is packed comes back
moved_back : (o a : ℤ) (n : ℕ) → pos n ≡ (a -ℤ o) +ℤ pos (2 ^ 41) → moved o n ≡ a
moved_back o a n h = omega (arith, ints, h)

bit_back : (s : Bool) (e t : ℕ) → t ≡ 2 * e + cond s 1 0 → (t / 2 ≡ e) × (nat_eq (t % 2) 1 ≡ s)
bit_back true e t h = (
  ap (λ (n : ℕ). n / 2) (shift e t h) ∙ div-mul-add e 2 1 (omega arith),
  ap (λ (n : ℕ). nat_eq n 1) (ap (λ (n : ℕ). n % 2) (shift e t h)
      ∙ mod-mul-add e 2 1 (omega arith)),
)
  where
    shift : (e t : ℕ) → t ≡ 2 * e + 1 → t ≡ e * 2 + 1
    shift e t h = omega (arith, h)
bit_back false e t h = (
  ap (λ (n : ℕ). n / 2) (shift e t h) ∙ div-mul-add e 2 0 (omega arith),
  ap (λ (n : ℕ). nat_eq n 1) (ap (λ (n : ℕ). n % 2) (shift e t h)
      ∙ mod-mul-add e 2 0 (omega arith)),
)
  where
    shift : (e t : ℕ) → t ≡ 2 * e + 0 → t ≡ e * 2 + 0
    shift e t h = omega (arith, h)

tag_small : (s : Bool) (e t : ℕ) → t ≡ 2 * e + cond s 1 0 → e < 2 ^ 31 → t < 2 ^ 32
tag_small true e t h l = omega (arith, h, l)
tag_small false e t h l = omega (arith, h, l)

pub packed_back : (o : Point) (z : End) (x y t : ℕ) → pos x ≡ (z.at.x -ℤ o.x) +ℤ pos (2 ^ 41)
    → pos y ≡ (z.at.y -ℤ o.y) +ℤ pos (2 ^ 41) → y < 2 ^ 42 → z.edge < 2 ^ 31
    → t ≡ 2 * z.edge + cond z.starts 1 0 → end_of o ((x * 2 ^ 42 + y) * 2 ^ 32 + t) ≡ z
packed_back o z x y t hx hy l m h =
    let small = tag_small z.starts z.edge t h m in
    let place : n / 2 ^ 32 ≡ x * 2 ^ 42 + y = div-mul-add (x * 2 ^ 42 + y) (2 ^ 32) t small in
    let tag : n % 2 ^ 32 ≡ t = mod-mul-add (x * 2 ^ 42 + y) (2 ^ 32) t small in
    let b = bit_back z.starts z.edge t h in
    let ex = ap (λ (p : ℕ). moved o.x (p / 2 ^ 42)) place
    ∙ ap (moved o.x) (div-mul-add x (2 ^ 42) y l) ∙ moved_back o.x z.at.x x hx in
    let ey = ap (λ (p : ℕ). moved o.y (p % 2 ^ 42)) place
    ∙ ap (moved o.y) (mod-mul-add x (2 ^ 42) y l) ∙ moved_back o.y z.at.y y hy in
    let e = ap (λ (q : ℕ). q / 2) tag ∙ b.0 in
    let f = ap (λ (q : ℕ). nat_eq (q % 2) 1) tag ∙ b.1 in
    λ i. record { at = record { x = ex i; y = ey i }; edge = e i; starts = f i }
  where
    n : ℕ
    n = (x * 2 ^ 42 + y) * 2 ^ 32 + t

-- ---- the order
-- of two numbers that are divided: the quotients, and where these are equal the remainders
quotients : (k a b : ℕ) → 0 < k → a ≤ b → a / k ≤ b / k
quotients k a b p l =
    by_lt (b / k) (a / k)
    (λ (h : b / k < a / k).
    let d = div-add-mod' a k in
    let e = div-add-mod' b k in
    let r = mod_below b k p in
    let m : (b / k + 1) * k ≤ a / k * k = mul-le (b / k + 1) k (a / k) k (omega (arith, h))
    (omega arith) in
    omega (arith, l, d, e, r, m))
    (λ h. h)

remainders : (k a b : ℕ) → a / k ≡ b / k → (a ≤ b → a % k ≤ b % k) × (a < b → a % k < b % k)
remainders k a b q =
    let d = div-add-mod' a k in
    let e = div-add-mod' b k in
    let m = ap (λ (n : ℕ). n * k) q in
    ((λ l. omega (arith, l, d, e, m)), (λ l. omega (arith, l, d, e, m)))

moved_less : (o : ℤ) (m n : ℕ) → m < n → moved o m <ℤ moved o n
moved_less o m n l = omega (arith, ints, l)

in_order : {P : Type 0} (a b : ℕ) → a ≤ b → (a < b → P) → (a ≡ b → P) → P
in_order a b l f g = by_lt a b f (λ h. g (omega (arith, l, h)))

not_after : (o : Point) (m n : ℕ) → m ≤ n → IsNotAfter (end_of o m) (end_of o n)
not_after o m n l =
    in_order (m / 2 ^ 32) (n / 2 ^ 32) (quotients (2 ^ 32) m n (omega arith) l)
    (λ (h : m / 2 ^ 32 < n / 2 ^ 32). in_order (m / 2 ^ 32 / 2 ^ 42) (n / 2 ^ 32 / 2 ^ 42)
    (quotients (2 ^ 42) (m / 2 ^ 32) (n / 2 ^ 32) (omega arith) (omega (arith, h)))
    (λ k. inl (inl (moved_less o.x _ _ k)))
    (λ k. inl (inr (
      ap (moved o.x) k,
      moved_less o.y _ _
          ((remainders (2 ^ 42) (m / 2 ^ 32) (n / 2 ^ 32) k).1 h),
    ))))
    (λ (h : m / 2 ^ 32 ≡ n / 2 ^ 32).
    inr (
      point_eq _ _ (ap (λ (p : ℕ). moved o.x (p / 2 ^ 42)) h)
          (ap (λ (p : ℕ). moved o.y (p % 2 ^ 42)) h),
      quotients 2 (m % 2 ^ 32) (n % 2 ^ 32) (omega arith) ((remainders (2 ^ 32) m n h).0 l),
    ))

pub ends_in_order : (o : Point) (ns : List ℕ) → Neighbours (λ m n. is_lt (nat_cmp n m) ≡ false) ns
    → Neighbours IsNotAfter (map (end_of o) ns)
ends_in_order o [] h = tt
ends_in_order o (m ∷ []) h = (tt, tt)
ends_in_order o (m ∷ (n ∷ ns)) h =
    (not_after o m n (nat_not_less n m h.0), ends_in_order o (n ∷ ns) h.1)
