-- Boxes in the order in which they begin along x.
use Rattle.std.proofs.Common.{◌≡◌, ◌⊎◌, inl, inr, ℕ, zero, suc, ◌+◌, ◌<◌, ◌≤◌, Bool, true, false}
use Rattle.std.proofs.Common.{cond, ℤ, ◌<ℤ◌, ◌≤ℤ◌, List, [], ◌∷◌, ◌++◌, length, get_or, arith, ap}
use Rattle.std.proofs.Common.{sym, ◌∙◌, subst}
use Rattle.std.proofs.lemmas.Int.{ints}
use Rattle.std.proofs.lemmas.Cmp.{int_cmp_total}
use Rattle.std.proofs.lemmas.List.Elements.{All-filter, All-push, Contains-append_left}
use Rattle.std.proofs.lemmas.List.Elements.{Contains-push}
use Rattle.std.proofs.lemmas.List.Kept.{AllPairs-filter}
use Rattle.std.proofs.lemmas.List.Sorted.{sorted_far, ranks_by, All-permutation}
use Rattle.std.proofs.lemmas.List.Sorted.{Contains-permutation}
use Rattle.std.specs.Cmp.{int_ranks}
use Rattle.std.specs.List.{All, Contains, filter}
use Rattle.std.specs.List.Sorted.{IsPermutation, IsSortedByKey}
use Rattle.std.specs.Ordering.{int_cmp, is_lt, MatchOrdering}
use Rattle.std.specs.declared.cmp.Ordering.{Ordering}
use Rattle.std.specs.declared.cmp.Ordering.TheVariants.{Less, Equal, Greater}
use Rattle.near_pairs.specs.Boxes.{reach_of, mark_of}
use Rattle.near_pairs.specs.Columns.{IsColumn, IsRising, item_of}
use Rattle.near_pairs.specs.declared.column.Item.{Item}
use Rattle.near_pairs.specs.declared.reaches.Reach.{Reach}
use Rattle.near_pairs.proofs.Tests.{last_or_before}

-- The boxes before k, each with its number.
pub record IsColumnTo (boxes : List Reach) (k : ℕ) (column : List Item) : Type 0 where
  pub known : All (λ item. item.number < length boxes) column
  pub whole : (i : ℕ) → i < k → Contains column (item_of i (reach_of boxes i))

pub none_yet : (boxes : List Reach) (column : List Item) → column ≡ [] → IsColumnTo boxes 0 column
none_yet boxes column e = record {
  known = λ i d l. absurd (let n = ap length e in omega (arith, l, n));
  whole = λ i l. absurd (omega (arith, l));
}

pub one_more : (boxes : List Reach) (k : ℕ) (column new : List Item) → IsColumnTo boxes k column
    → k < length boxes → new ≡ column ++ item_of k (reach_of boxes k) ∷ []
    → IsColumnTo boxes (k + 1) new
one_more boxes k column new h m e = subst (IsColumnTo boxes (k + 1)) (sym e) (record {
  known = All-push (λ (item : Item). item.number < length boxes) column
      (item_of k (reach_of boxes k)) h.known m;
  whole = λ i l. by i (last_or_before i k l);
})
  where
    by : (i : ℕ) → (i < k) ⊎ (i ≡ k)
        → Contains (column ++ item_of k (reach_of boxes k) ∷ []) (item_of i (reach_of boxes i))
    by i (inl l) =
        Contains-append_left column (item_of k (reach_of boxes k) ∷ [])
        (item_of i (reach_of boxes i)) (h.whole i l)
    by i (inr q) =
        subst (λ (j : ℕ). Contains (column ++ item_of k (reach_of boxes k) ∷ [])
        (item_of j (reach_of boxes j))) (sym q)
        (Contains-push column (item_of k (reach_of boxes k)))

-- ---- sorted
not_less : (a b : ℤ) → is_lt (int_cmp b a) ≡ false → a ≤ℤ b
not_less a b h = by (int_cmp b a) (int_ranks b a) h
  where
    by : (o : Ordering) → MatchOrdering o (b <ℤ a) (b ≡ a) (a <ℤ b) → is_lt o ≡ false → a ≤ℤ b
    by Less r q = cc
    by Equal r q = omega (arith, ints, r)
    by Greater r q = omega (arith, ints, r)

abbrev pub low_x_of : Item → ℤ
low_x_of item = item.low_x

pub sorted_column : (boxes : List Reach) (k : ℕ) (xs ys : List Item) → length boxes ≤ k
    → IsColumnTo boxes k xs → IsPermutation xs ys → IsSortedByKey low_x_of int_cmp ys
    → IsColumn boxes ys
sorted_column boxes k xs ys l h p up = record {
  rising = λ i j d m n.
      not_less (get_or ys i d).low_x (get_or ys j d).low_x
      (sorted_far (λ (x y : Item). is_lt (int_cmp x.low_x y.low_x))
      (ranks_by int_cmp_total low_x_of) ys up i j d (omega (arith, m)) n);
  known = All-permutation (λ (item : Item). item.number < length boxes) xs ys p h.known;
  whole = λ i m. Contains-permutation xs ys (item_of i (reach_of boxes i)) p
      (h.whole i (omega (arith, l, m)));
}

-- ---- the marked boxes alone
abbrev pub marks_of : List Bool → List Item → List Item
marks_of marked column = filter (λ (item : Item). mark_of marked item.number) column

pub marks_rise : (marked : List Bool) (column kept : List Item) → kept ≡ marks_of marked column
    → IsRising column → IsRising kept
marks_rise marked column kept e up =
    subst IsRising (sym e)
    (AllPairs-filter (λ (a b : Item). a.low_x ≤ℤ b.low_x)
    (λ (item : Item). mark_of marked item.number) column up)

pub marks_known : (marked : List Bool) (n : ℕ) (column kept : List Item)
    → kept ≡ marks_of marked column → All (λ item. item.number < n) column
    → All (λ item. item.number < n) kept
marks_known marked n column kept e known =
    subst (All (λ (item : Item). item.number < n)) (sym e)
    (All-filter (λ (item : Item). mark_of marked item.number)
    (λ (item : Item). item.number < n) column known)

in_filter : (p : Item → Bool) (x : Item) (xs : List Item) → (k : ℕ) → k < length xs
    → get_or xs k x ≡ x → p x ≡ true → Contains (filter p xs) x
in_filter p x [] k l e t = absurd (omega (arith, l))
in_filter p x (y ∷ ys) zero l e t = rw (ap p e ∙ t) (0, omega arith, e)
in_filter p x (y ∷ ys) (suc k) l e t = by (p y) (in_filter p x ys k (omega (arith, l)) e t)
  where
    by : (b : Bool) → Contains (filter p ys) x → Contains (cond b (y ∷ filter p ys) (filter p ys)) x
    by true (i, m, q) = (suc i, omega (arith, m), q)
    by false h = h

pub marks_whole : (marked : List Bool) (item : Item) (column kept : List Item)
    → kept ≡ marks_of marked column → Contains column item → mark_of marked item.number ≡ true
    → Contains kept item
marks_whole marked item column kept e (k, l, q) t =
    subst (λ (xs : List Item). Contains xs item) (sym e)
    (in_filter (λ (x : Item). mark_of marked x.number) item column k l q t)
