-- The items that begin between two numbers stand side by side.
use Rattle.std.proofs.Common.{◌≡◌, ◌⊎◌, inl, inr, ℕ, ◌+◌, ◌-◌, ◌<◌, ◌≤◌, Bool, true, false, not, ℤ}
use Rattle.std.proofs.Common.{◌<ℤ◌, ◌≤ℤ◌, int_lt, List, length, get_or, take, drop, arith, ap, sym}
use Rattle.std.proofs.Common.{◌∙◌, subst}
use Rattle.std.proofs.lemmas.Int.{ints}
use Rattle.std.proofs.lemmas.Bool.{cases_lt}
use Rattle.std.proofs.lemmas.List.{get_or-take, get_or-drop, length-take-le, length-drop}
use Rattle.std.specs.List.{Contains}
use Rattle.std.specs.List.Sorted.{IsPartitionedBy, IsPartitionPoint}
use Rattle.near_pairs.specs.Columns.{IsRising}
use Rattle.near_pairs.specs.declared.column.Item.{Item}
use Rattle.near_pairs.proofs.Tests.{below_true, below_false, true_below, false_below, not_true}
use Rattle.near_pairs.proofs.Tests.{not_false}

-- ---- the tests of the two searches
abbrev pub begins_before : ℤ → Item → Bool
begins_before low item = int_lt item.low_x low

abbrev pub begins_within : ℤ → Item → Bool
begins_within high item = not (int_lt high item.low_x)

not_after : (xs : List Item) (i j : ℕ) (d : Item) → IsRising xs → i ≤ j → j < length xs
    → (get_or xs i d).low_x ≤ℤ (get_or xs j d).low_x
not_after xs i j d up l m = by (cases_lt i j)
  where
    same : i ≡ j → (get_or xs i d).low_x ≤ℤ (get_or xs j d).low_x
    same e = subst (λ (k : ℕ). (get_or xs i d).low_x ≤ℤ (get_or xs k d).low_x) e
        (omega (arith, ints))

    by : (i < j) ⊎ (j ≤ i) → (get_or xs i d).low_x ≤ℤ (get_or xs j d).low_x
    by (inl h) = up i j d h m
    by (inr h) = same (omega (arith, l, h))

before_is_front : (xs : List Item) (low : ℤ) → IsRising xs → IsPartitionedBy (begins_before low) xs
before_is_front xs low up i j d l m h =
    let a = not_after xs i j d up l m in
    let b = true_below (get_or xs j d).low_x low h in
    below_true (get_or xs i d).low_x low (omega (arith, ints, a, b))

within_is_front : (xs : List Item) (high : ℤ) → IsRising xs
    → IsPartitionedBy (begins_within high) xs
within_is_front xs high up i j d l m h =
    let a = not_after xs i j d up l m in
    let b = false_below high (get_or xs j d).low_x
    (not_true (int_lt high (get_or xs j d).low_x) h) in
    ap not (below_false high (get_or xs i d).low_x (omega (arith, ints, a, b)))

-- ---- the rest of a list from a place on
rest_at : (xs : List Item) (s j : ℕ) (d : Item) → j < length xs - s
    → get_or (take (length xs - s) (drop s xs)) j d ≡ get_or xs (s + j) d
rest_at xs s j d l = get_or-take (length xs - s) (drop s xs) j d l ∙ get_or-drop s xs j d

rest_size : (xs : List Item) (s : ℕ) → length (take (length xs - s) (drop s xs)) ≡ length xs - s
rest_size xs s =
    length-take-le (length xs - s) (drop s xs) (let e = length-drop s xs in omega (arith, e))

rest_rises : (xs : List Item) (s : ℕ) → IsRising xs → IsRising (take (length xs - s) (drop s xs))
rest_rises xs s up i j d l m =
    let n = rest_size xs s in
    let k : j < length xs - s = omega (arith, m, n) in
    subst (λ (a : Item). a.low_x ≤ℤ (get_or (take (length xs - s) (drop s xs)) j d).low_x)
    (sym (rest_at xs s i d (omega (arith, l, k))))
    (subst (λ (b : Item). (get_or xs (s + i) d).low_x ≤ℤ b.low_x) (sym (rest_at xs s j d k))
    (up (s + i) (s + j) d (omega (arith, l)) (omega (arith, k))))

module _ (xs : List Item) (low high : ℤ) (s e : ℕ) (up : IsRising xs)
    (start : IsPartitionedBy (begins_before low) xs
    → IsPartitionPoint (λ y. begins_before low y ≡ true)
    (λ y. begins_before low y ≡ false) xs s)
    (end : IsPartitionedBy (begins_within high) (take (length xs - s) (drop s xs))
    → IsPartitionPoint (λ y. begins_within high y ≡ true) (λ y. begins_within high y ≡ false)
    (take (length xs - s) (drop s xs)) e) where
  abbrev rest : List Item
  rest = take (length xs - s) (drop s xs)

  pub block_whole : e ≤ length rest → (item : Item) → Contains xs item → low ≤ℤ item.low_x
      → item.low_x ≤ℤ high → Contains (take e rest) item
  block_whole fits item (k, l, at) a b =
      let x = get_or xs k item in
      let ax : low ≤ℤ x.low_x = subst (λ (y : Item). low ≤ℤ y.low_x) (sym at) a in
      let bx : x.low_x ≤ℤ high = subst (λ (y : Item). y.low_x ≤ℤ high) (sym at) b in
      let from : s ≤ k = from_start ax in
      let n = rest_size xs s in
      let m : k - s < length xs - s = omega (arith, from, l) in
      let is : get_or rest (k - s) item ≡ x = rest_at xs s (k - s) item m
      ∙ ap (λ (i : ℕ). get_or xs i item) (omega (arith, from)) in
      let before : k - s < e = to_end from m is bx in (
        k - s,
        let z = length-take-le e rest fits in
            omega (arith, z, before),
        get_or-take e rest (k - s) item before ∙ is ∙ at,
      )
    where
      from_start : low ≤ℤ (get_or xs k item).low_x → s ≤ k
      from_start ax = by (cases_lt k s)
        where
          by : (k < s) ⊎ (s ≤ k) → s ≤ k
          by (inl h) =
              let t = true_below (get_or xs k item).low_x low
              ((start (before_is_front xs low up)).0 k item (omega arith) h) in
              absurd (omega (arith, ints, t, ax))
          by (inr h) = h

      to_end : s ≤ k → k - s < length xs - s → get_or rest (k - s) item ≡ get_or xs k item
          → (get_or xs k item).low_x ≤ℤ high → k - s < e
      to_end from m is bx = by (cases_lt (k - s) e)
        where
          by : (k - s < e) ⊎ (e ≤ k - s) → k - s < e
          by (inl h) = h
          by (inr h) =
              let f = (end (within_is_front rest high (rest_rises xs s up))).1 (k - s) item h
              (let n = rest_size xs s in omega (arith, m, n)) in
              let t = true_below high (get_or rest (k - s) item).low_x
              (not_false (int_lt high (get_or rest (k - s) item).low_x) f) in
              let q : high <ℤ (get_or xs k item).low_x = subst
              (λ (y : Item). high <ℤ y.low_x) is t in
              absurd (omega (arith, ints, q, bx))
