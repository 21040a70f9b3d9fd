-- The ends at one point stand side by side.
use Rattle.std.proofs.Common.{◌≡◌, ◌⊎◌, inl, inr, ℕ, ◌+◌, ◌-◌, ◌<◌, ◌≤◌, Bool, true, false, not, ℤ}
use Rattle.std.proofs.Common.{◌<ℤ◌, ◌≤ℤ◌, int_lt, List, [], ◌∷◌, ◌++◌, length, get_or, take, drop}
use Rattle.std.proofs.Common.{arith, refl, ap, sym, ◌∙◌, subst, T}
use Rattle.std.proofs.lemmas.Int.{ints}
use Rattle.std.proofs.lemmas.Bool.{cases_lt}
use Rattle.std.proofs.lemmas.Cmp.{int_cmp_total}
use Rattle.std.proofs.lemmas.List.{get_or-take, get_or-drop, length-take-le, length-drop}
use Rattle.std.proofs.lemmas.List.Elements.{All-push, Contains-append_left, Contains-push}
use Rattle.std.proofs.lemmas.List.Sorted.{sorted_far, ranks_by, All-permutation}
use Rattle.std.proofs.lemmas.List.Sorted.{Contains-permutation}
use Rattle.std.specs.Cmp.{int_ranks}
use Rattle.std.specs.Int.Signed.{lt_z_yes, lt_z_no}
use Rattle.std.specs.List.{All, Contains}
use Rattle.std.specs.List.Sorted.{IsPartitionedBy, IsPartitionPoint, IsPermutation, IsSortedByKey}
use Rattle.std.specs.Ordering.{int_cmp, is_lt, MatchOrdering}
use Rattle.std.specs.declared.cmp.Ordering.{Ordering}
use Rattle.std.specs.declared.cmp.Ordering.TheVariants.{Less, Equal, Greater}
use Rattle.plane.specs.declared.kinds.Curve.{Curve}
use Rattle.plane.specs.declared.kinds.CurveKind.TheVariants as kind
use Rattle.forks.specs.Ends.{AreAdded, AreEnds, HasBoth, IsRising, curve_at, end_of}
use Rattle.forks.specs.declared.ends.End.{End}

-- ---- tests
below_true : (a b : ℤ) → a <ℤ b → int_lt a b ≡ true
below_true a b h = by (int_lt a b) refl
  where
    by : (t : Bool) → int_lt a b ≡ t → t ≡ true
    by true e = refl
    by false e =
        let n : b ≤ℤ a = lt_z_no (subst (λ (t : Bool). T (not t)) (sym e) tt) in
        absurd (omega (arith, ints, h, n))

below_false : (a b : ℤ) → b ≤ℤ a → int_lt a b ≡ false
below_false a b h = by (int_lt a b) refl
  where
    by : (t : Bool) → int_lt a b ≡ t → t ≡ false
    by true e = let n : a <ℤ b = lt_z_yes (subst T (sym e) tt) in absurd (omega (arith, ints, h, n))
    by false e = refl

true_below : (a b : ℤ) → int_lt a b ≡ true → a <ℤ b
true_below a b e = lt_z_yes (subst T (sym e) tt)

false_below : (a b : ℤ) → int_lt a b ≡ false → b ≤ℤ a
false_below a b e = lt_z_no (subst (λ (t : Bool). T (not t)) (sym e) tt)

not_true : (t : Bool) → not t ≡ true → t ≡ false
not_true true h = cc
not_true false h = refl

not_false : (t : Bool) → not t ≡ false → t ≡ true
not_false true h = refl
not_false false h = cc

abbrev pub begins_before : ℤ → End → Bool
begins_before low e = int_lt e.key low

abbrev pub begins_within : ℤ → End → Bool
begins_within high e = not (int_lt high e.key)

not_after : (xs : List End) (i j : ℕ) (d : End) → IsRising xs → i ≤ j → j < length xs
    → (get_or xs i d).key ≤ℤ (get_or xs j d).key
not_after xs i j d up l m = by (cases_lt i j)
  where
    same : i ≡ j → (get_or xs i d).key ≤ℤ (get_or xs j d).key
    same e = subst (λ (k : ℕ). (get_or xs i d).key ≤ℤ (get_or xs k d).key) e (omega (arith, ints))

    by : (i < j) ⊎ (j ≤ i) → (get_or xs i d).key ≤ℤ (get_or xs j d).key
    by (inl h) = up i j d h m
    by (inr h) = same (omega (arith, l, h))

before_is_front : (xs : List End) (low : ℤ) → IsRising xs → IsPartitionedBy (begins_before low) xs
before_is_front xs low up i j d l m h =
    let a = not_after xs i j d up l m in
    let b = true_below (get_or xs j d).key low h in
    below_true (get_or xs i d).key low (omega (arith, ints, a, b))

within_is_front : (xs : List End) (high : ℤ) → IsRising xs → IsPartitionedBy (begins_within high) xs
within_is_front xs high up i j d l m h =
    let a = not_after xs i j d up l m in
    let b = false_below high (get_or xs j d).key (not_true (int_lt high (get_or xs j d).key) h) in
    ap not (below_false high (get_or xs i d).key (omega (arith, ints, a, b)))

rest_at : (xs : List End) (s j : ℕ) (d : End) → j < length xs - s
    → get_or (take (length xs - s) (drop s xs)) j d ≡ get_or xs (s + j) d
rest_at xs s j d l = get_or-take (length xs - s) (drop s xs) j d l ∙ get_or-drop s xs j d

rest_size : (xs : List End) (s : ℕ) → length (take (length xs - s) (drop s xs)) ≡ length xs - s
rest_size xs s =
    length-take-le (length xs - s) (drop s xs) (let e = length-drop s xs in omega (arith, e))

rest_rises : (xs : List End) (s : ℕ) → IsRising xs → IsRising (take (length xs - s) (drop s xs))
rest_rises xs s up i j d l m =
    let n = rest_size xs s in
    let k : j < length xs - s = omega (arith, m, n) in
    subst (λ (a : End). a.key ≤ℤ (get_or (take (length xs - s) (drop s xs)) j d).key)
    (sym (rest_at xs s i d (omega (arith, l, k))))
    (subst (λ (b : End). (get_or xs (s + i) d).key ≤ℤ b.key) (sym (rest_at xs s j d k))
    (up (s + i) (s + j) d (omega (arith, l)) (omega (arith, k))))

module _ (xs : List End) (low high : ℤ) (s e : ℕ) (up : IsRising xs)
    (start : IsPartitionedBy (begins_before low) xs
    → IsPartitionPoint (λ y. begins_before low y ≡ true)
    (λ y. begins_before low y ≡ false) xs s)
    (end : IsPartitionedBy (begins_within high) (take (length xs - s) (drop s xs))
    → IsPartitionPoint (λ y. begins_within high y ≡ true) (λ y. begins_within high y ≡ false)
    (take (length xs - s) (drop s xs)) e) where
  abbrev rest : List End
  rest = take (length xs - s) (drop s xs)

  pub block_whole : e ≤ length rest → (item : End) → Contains xs item → low ≤ℤ item.key
      → item.key ≤ℤ high → Contains (take e rest) item
  block_whole fits item (k, l, at) a b =
      let x = get_or xs k item in
      let ax : low ≤ℤ x.key = subst (λ (y : End). low ≤ℤ y.key) (sym at) a in
      let bx : x.key ≤ℤ high = subst (λ (y : End). y.key ≤ℤ high) (sym at) b in
      let from : s ≤ k = from_start ax in
      let n = rest_size xs s in
      let m : k - s < length xs - s = omega (arith, from, l) in
      let is : get_or rest (k - s) item ≡ x = rest_at xs s (k - s) item m
      ∙ ap (λ (i : ℕ). get_or xs i item) (omega (arith, from)) in
      let before : k - s < e = to_end from m is bx in (
        k - s,
        let z = length-take-le e rest fits in
            omega (arith, z, before),
        get_or-take e rest (k - s) item before ∙ is ∙ at,
      )
    where
      from_start : low ≤ℤ (get_or xs k item).key → s ≤ k
      from_start ax = by (cases_lt k s)
        where
          by : (k < s) ⊎ (s ≤ k) → s ≤ k
          by (inl h) =
              let t = true_below (get_or xs k item).key low
              ((start (before_is_front xs low up)).0 k item (omega arith) h) in
              absurd (omega (arith, ints, t, ax))
          by (inr h) = h

      to_end : s ≤ k → k - s < length xs - s → get_or rest (k - s) item ≡ get_or xs k item
          → (get_or xs k item).key ≤ℤ high → k - s < e
      to_end from m is bx = by (cases_lt (k - s) e)
        where
          by : (k - s < e) ⊎ (e ≤ k - s) → k - s < e
          by (inl h) = h
          by (inr h) =
              let f = (end (within_is_front rest high (rest_rises xs s up))).1 (k - s) item h
              (let n = rest_size xs s in omega (arith, m, n)) in
              let t = true_below high (get_or rest (k - s) item).key
              (not_false (int_lt high (get_or rest (k - s) item).key) f) in
              let q : high <ℤ (get_or xs k item).key = subst (λ (y : End). high <ℤ y.key) is t in
              absurd (omega (arith, ints, q, bx))

-- ---- the ends of the curves before k
pub record AreEndsTo (cs : List Curve) (k : ℕ) (ends : List End) : Type 0 where
  pub known : All (λ e. e.number < length cs) ends
  pub whole : (m : ℕ) → m < k → (curve_at cs m).kind ≡ kind.HalfArc → HasBoth (curve_at cs m) m ends

pub no_ends_yet : (cs : List Curve) (ends : List End) → ends ≡ [] → AreEndsTo cs 0 ends
no_ends_yet cs ends e = record {
  known = λ i d l. absurd (let n = ap length e in omega (arith, l, n));
  whole = λ i l. absurd (omega (arith, l));
}

pub added_both : (c : Curve) (number : ℕ) (before after : List End)
    → after ≡ ((before ++ end_of c.from number ∷ []) ++ end_of c.to number ∷ [])
    → AreAdded c number before after
added_both c number before after e = subst (AreAdded c number before) (sym e) (record {
  known = λ n l all. All-push (λ (e : End). e.number < n) (before ++ end_of c.from number ∷ [])
      (end_of c.to number)
      (All-push (λ (e : End). e.number < n) before (end_of c.from number) all l) l;
  kept = λ x h. Contains-append_left (before ++ end_of c.from number ∷ [])
      (end_of c.to number ∷ []) x (Contains-append_left before (end_of c.from number ∷ []) x h);
  both = λ k. record {
    from = Contains-append_left (before ++ end_of c.from number ∷ []) (end_of c.to number ∷ [])
        (end_of c.from number) (Contains-push before (end_of c.from number));
    to = Contains-push (before ++ end_of c.from number ∷ []) (end_of c.to number);
  };
})

pub added_none : (c : Curve) (number : ℕ) (before after : List End) → after ≡ before
    → (c.kind ≡ kind.HalfArc → ⊥) → AreAdded c number before after
added_none c number before after e f =
    subst (AreAdded c number before) (sym e) (record {
      known = λ n l all. all;
      kept = λ x h. h;
      both = λ k. absurd (f k);
    })

pub one_more : (cs : List Curve) (k : ℕ) (c : Curve) (before after : List End)
    → AreEndsTo cs k before → k < length cs → c ≡ curve_at cs k → AreAdded c k before after
    → AreEndsTo cs (k + 1) after
one_more cs k c before after h l e a = record {
  known = a.known (length cs) l h.known;
  whole = λ m lm q. by m q (cases_lt m k) lm;
}
  where
    by : (m : ℕ) → (curve_at cs m).kind ≡ kind.HalfArc → (m < k) ⊎ (k ≤ m) → m < k + 1
        → HasBoth (curve_at cs m) m after
    by m q (inl n) lm =
        let x = h.whole m n q in
        record {
          from = a.kept (end_of (curve_at cs m).from m) x.from;
          to = a.kept (end_of (curve_at cs m).to m) x.to;
        }
    by m q (inr n) lm = at m q (omega (arith, n, lm))
      where
        here : HasBoth (curve_at cs k) k after
        here = subst (λ (x : Curve). HasBoth x k after) e
            (a.both (subst (λ (j : ℕ). c.kind ≡ (curve_at cs j).kind) (omega (arith, n, lm))
            (ap (λ (x : Curve). x.kind) e) ∙ q))

        at : (m : ℕ) → (curve_at cs m).kind ≡ kind.HalfArc → m ≡ k → HasBoth (curve_at cs m) m after
        at m q f = subst (λ (j : ℕ). HasBoth (curve_at cs j) j after) (sym f) here

-- ---- sorted
not_less : (a b : ℤ) → is_lt (int_cmp b a) ≡ false → a ≤ℤ b
not_less a b h = by (int_cmp b a) (int_ranks b a) h
  where
    by : (o : Ordering) → MatchOrdering o (b <ℤ a) (b ≡ a) (a <ℤ b) → is_lt o ≡ false → a ≤ℤ b
    by Less r q = cc
    by Equal r q = omega (arith, ints, r)
    by Greater r q = omega (arith, ints, r)

abbrev pub key_of_end : End → ℤ
key_of_end e = e.key

pub sorted_ends : (cs : List Curve) (k : ℕ) (xs ys : List End) → length cs ≤ k → AreEndsTo cs k xs
    → IsPermutation xs ys → IsSortedByKey key_of_end int_cmp ys → AreEnds cs ys
sorted_ends cs k xs ys l h p up = record {
  rising = λ i j d m n.
      not_less (get_or ys i d).key (get_or ys j d).key
      (sorted_far (λ (x y : End). is_lt (int_cmp x.key y.key))
      (ranks_by int_cmp_total key_of_end) ys up i j d (omega (arith, m)) n);
  known = All-permutation (λ (e : End). e.number < length cs) xs ys p h.known;
  whole = λ m n q. let x = h.whole m (omega (arith, l, n)) q in record {
    from = Contains-permutation xs ys (end_of (curve_at cs m).from m) p x.from;
    to = Contains-permutation xs ys (end_of (curve_at cs m).to m) p x.to;
  };
}

-- ---- the same number
pub at_most_same : (k n : ℤ) → k ≡ n → n ≤ℤ k
at_most_same k n e = subst (λ (m : ℤ). m ≤ℤ k) e (omega (arith, ints))

pub at_least_same : (k n : ℤ) → k ≡ n → k ≤ℤ n
at_least_same k n e = subst (λ (m : ℤ). k ≤ℤ m) e (omega (arith, ints))
