-- The first place of a key in a sorted column.
use Rattle.std.proofs.Common.{◌≡◌, ◌<◌, ◌≤◌, ◌+◌, ◌⊎◌, inl, inr, ℕ, zero, suc, Bool, true, false}
use Rattle.std.proofs.Common.{nat_eq, List, [], ◌∷◌, ◌++◌, length, get_or, map, Option, Some, None}
use Rattle.std.proofs.Common.{refl, sym, ap, subst, ◌∙◌, arith}
use Rattle.std.specs.Cmp.{IsTotalOrder, IsStrictWeakOrder, then_total, on_total, nat_cmp_total}
use Rattle.std.specs.Cmp.Lexicographic.{pointwise, slice_cmp}
use Rattle.std.specs.List.{All, Contains, position_from}
use Rattle.std.specs.List.Sorted.{IsSortedBy, IsPartitionedBy, IsPartitionPoint, IsPermutation}
use Rattle.std.specs.Ordering.{nat_cmp, is_lt, is_eq, ordering_then, ordering_reverse}
use Rattle.std.specs.declared.cmp.Ordering.{Ordering}
use Rattle.std.specs.declared.cmp.Ordering.TheVariants.{Less, Equal, Greater}
use Rattle.std.proofs.lemmas.Bool.{cases_lt}
use borrow.Author.Tests.{lt-ltb}
use Rattle.std.proofs.Math.ListN.{get_or-eq_default}
use Rattle.std.proofs.lemmas.Cmp.{nat_list_cmp_total, tied_itself}
use Rattle.std.proofs.lemmas.List.{get_or-map}
use Rattle.std.proofs.lemmas.List.Elements.{All-push, Contains-append_left, Contains-push}
use Rattle.std.proofs.lemmas.List.Sorted.{sorted_far, ranks_by, All-permutation}
use Rattle.std.proofs.lemmas.List.Sorted.{Contains-permutation}
use Rattle.std.proofs.lemmas.Map.Text.{is_eq-slice_cmp}
use Rattle.std.proofs.lemmas.Slice.Eq.{bytes_eq-Decides}
use Rattle.ports.specs.SortedKeys.{rank, is_key, bytes_of, key_at, key_cmp, key_of, ranked_cmp}
use Rattle.ports.specs.SortedKeys.{is_before, is_below, IsListed}
use Rattle.ports.specs.declared.sorted_keys.Ranked.{Ranked}

-- ---- the keys as they stand in the column
abbrev IsTold : List (Option (List ℕ)) → ℕ → Ranked → Type 0
IsTold keys skip r =
    (r.rank ≡ rank skip (key_at keys r.place))
    × (get_or keys r.place None ≡ Some (key_at keys r.place))

-- the places before n
pub record IsListedTo (keys : List (Option (List ℕ))) (skip n : ℕ)
    (ranked : List Ranked) : Type 0 where
  pub told : All (λ r. (r.rank ≡ rank skip (key_at keys r.place))
      × (get_or keys r.place None ≡ Some (key_at keys r.place))) ranked
  pub whole : (place : ℕ) (key : List ℕ) → place < n → get_or keys place None ≡ Some key
      → Contains ranked (record { rank = rank skip key; place = place })

next : (n place : ℕ) → place < n + 1 → (place < n) ⊎ (n ≡ place)
next n place h = by_cases (cases_lt place n) (λ l. inl l) (λ g. inr (omega (arith, h, g)))
  where
    by_cases : {P Q R : Type 0} → P ⊎ Q → (P → R) → (Q → R) → R
    by_cases (inl p) f g = f p
    by_cases (inr q) f g = g q

none_some : {P : Type 0} (o : Option (List ℕ)) (k : List ℕ) → o ≡ None → o ≡ Some k → P
none_some None k e f = cc
none_some (Some a) k e f = cc

pub listed_none : (keys : List (Option (List ℕ))) (skip n : ℕ) (ranked : List Ranked)
    → get_or keys n None ≡ None → IsListedTo keys skip n ranked
    → IsListedTo keys skip (n + 1) ranked
listed_none keys skip n ranked e h = record {
  told = h.told;
  whole = λ place key l k. elim (next n place l) as
      (λ s. Contains ranked (record { rank = rank skip key; place = place })) [
        | inl b ↦ h.whole place key b k
        | inr q ↦ none_some (get_or keys n None) key e (ap (λ (i : ℕ). get_or keys i None) q ∙ k)
      ];
}

same_key : (a b : List ℕ) → Some a ≡ Some b → a ≡ b
same_key a b h = ap (λ (o : Option (List ℕ)). bytes_of o) h

pub listed_some : (keys : List (Option (List ℕ))) (skip n : ℕ) (key : List ℕ) (ranked : List Ranked)
    → get_or keys n None ≡ Some key → IsListedTo keys skip n ranked
    → IsListedTo keys skip (n + 1) (ranked ++ record { rank = rank skip key; place = n } ∷ [])
listed_some keys skip n key ranked e h =
    let r : Ranked = record { rank = rank skip key; place = n } in
    let at : key_at keys n ≡ key = ap bytes_of e in
    record {
      told = All-push (IsTold keys skip) ranked r h.told (
        ap (rank skip) (sym at),
        e
            ∙ ap (λ (k : List ℕ). Some k) (sym at),
      );
      whole = λ place k l f. elim (next n place l) as
          (λ s. Contains (ranked ++ r ∷ []) (record { rank = rank skip k; place = place })) [
            | inl b ↦ Contains-append_left ranked (r ∷ []) (record {
              rank = rank skip k;
              place = place;
            }) (h.whole place k b f)
            | inr q ↦
                let same : key ≡ k = same_key key k (sym e ∙ ap (λ (i : ℕ). get_or keys i None) q
                ∙ f) in
                subst (λ (x : List ℕ). Contains (ranked ++ r ∷ []) (record {
                  rank = rank skip x;
                  place = place;
                })) same
                (subst (λ (i : ℕ). Contains (ranked ++ r ∷ []) (record {
                  rank = rank skip key;
                  place = i;
                })) q (Contains-push ranked r))
          ];
    }

pub pushed : (keys : List (Option (List ℕ))) (skip n : ℕ) (key : List ℕ) (r : ℕ)
    (ranked new : List Ranked)
    → get_or keys n None ≡ Some key → r ≡ rank skip key
    → new ≡ ranked ++ record { rank = r; place = n } ∷ [] → IsListedTo keys skip n ranked
    → IsListedTo keys skip (n + 1) new
pushed keys skip n key r ranked new e s p h =
    subst (λ (v : List Ranked). IsListedTo keys skip (n + 1) v)
    (ap (λ (q : ℕ). ranked ++ record { rank = q; place = n } ∷ []) (sym s) ∙ sym p)
    (listed_some keys skip n key ranked e h)

pub listed_all : (keys : List (Option (List ℕ))) (skip n : ℕ) (ranked : List Ranked)
    → length keys ≤ n → IsListedTo keys skip n ranked → IsListed keys skip ranked
listed_all keys skip n ranked l h = record {
  told = h.told;
  whole = λ place key f. elim (cases_lt place n) as
      (λ s. Contains ranked (record { rank = rank skip key; place = place })) [
        | inl b ↦ h.whole place key b f
        | inr g ↦ none_some (get_or keys place None) key
            (get_or-eq_default keys None (omega (arith, l, g))) f
      ];
}

-- an element of the column
pub key_there : {K : Type 0} (f : K → Option (List ℕ)) (xs : List K) (i : ℕ) (x : K) → i < length xs
    → x ≡ get_or xs i x → get_or (map f xs) i None ≡ f x
key_there f xs i x l at = get_or-map f xs i x None l ∙ ap f (sym at)

-- ---- the order
abbrev Key : Type 0
Key = ℕ × List ℕ

key_cmp_total : IsTotalOrder key_cmp
key_cmp_total =
    then_total (on_total (λ (k : Key). k.0) nat_cmp_total)
    (on_total (λ (k : Key). k.1) nat_list_cmp_total)

abbrev less : Key → Key → Bool
less a b = is_lt (key_cmp a b)

less_ranks : IsStrictWeakOrder less
less_ranks = ranks_by key_cmp_total (λ (k : Key). k)

pub ranked_cmp_total : (keys : List (Option (List ℕ))) → IsTotalOrder (ranked_cmp keys)
ranked_cmp_total keys =
    then_total (on_total (key_of keys) key_cmp_total)
    (on_total (λ (r : Ranked). r.place) nat_cmp_total)

pub is_before_ranks : (keys : List (Option (List ℕ))) → IsStrictWeakOrder (is_before keys)
is_before_ranks keys = ranks_by (ranked_cmp_total keys) (λ (r : Ranked). r)

pub IsListed-sorted : (keys : List (Option (List ℕ))) (skip : ℕ) (xs ys : List Ranked)
    → IsPermutation xs ys → IsListed keys skip xs → IsListed keys skip ys
IsListed-sorted keys skip xs ys p h = record {
  told = All-permutation (IsTold keys skip) xs ys p h.told;
  whole = λ place key e. Contains-permutation xs ys (record {
    rank = rank skip key;
    place = place;
  }) p (h.whole place key e);
}

-- ---- the first place
by_test : {P : Type 0} (b : Bool) → (b ≡ true → P) → (b ≡ false → P) → P
by_test true f g = f refl
by_test false f g = g refl

not_both : {P : Type 0} (b : Bool) → b ≡ true → b ≡ false → P
not_both true h k = cc
not_both false h k = cc

place_of_test : (p : Option (List ℕ) → Bool) (n i : ℕ) (xs : List (Option (List ℕ))) → i < length xs
    → p (get_or xs i None) ≡ true → ((k : ℕ) → k < i → p (get_or xs k None) ≡ false)
    → position_from p n xs ≡ Some (n + i)
place_of_test p n i [] l t b = absurd (omega arith)
place_of_test p n zero (x ∷ xs) l t b = rw t (ap (λ (m : ℕ). Some m) (omega arith))
place_of_test p n (suc i) (x ∷ xs) l t b =
    rw (b 0 (omega arith))
    (place_of_test p (n + 1) i xs (omega (arith, l)) t (λ k m. b (suc k) (omega (arith, m)))
    ∙ ap (λ (m : ℕ). Some m) (omega arith))

place_at : (p : Option (List ℕ) → Bool) (i : ℕ) (xs : List (Option (List ℕ))) → i < length xs
    → p (get_or xs i None) ≡ true → ((k : ℕ) → k < i → p (get_or xs k None) ≡ false)
    → position_from p 0 xs ≡ Some i
place_at p i xs l t b = place_of_test p 0 i xs l t b ∙ ap (λ (m : ℕ). Some m) (omega arith)

no_place_of_test : (p : Option (List ℕ) → Bool) (n : ℕ) (xs : List (Option (List ℕ)))
    → ((k : ℕ) → k < length xs → p (get_or xs k None) ≡ false) → position_from p n xs ≡ None
no_place_of_test p n [] b = refl
no_place_of_test p n (x ∷ xs) b =
    rw (b 0 (omega arith)) (no_place_of_test p (n + 1) xs (λ k m. b (suc k) (omega (arith, m))))

has_key : (word : List ℕ) (o : Option (List ℕ)) → is_key word o ≡ true → o ≡ Some word
has_key word None h = cc
has_key word (Some other) h = ap (λ (k : List ℕ). Some k) (sym ((bytes_eq-Decides word other).0 h))

key_itself : (word : List ℕ) (o : Option (List ℕ)) → o ≡ Some word → is_key word o ≡ true
key_itself word None h = cc
key_itself word (Some other) h = (bytes_eq-Decides word other).1 (sym (same_key other word h))

not_less_then : (o p : Ordering) → is_lt (ordering_then o p) ≡ false → is_lt o ≡ false
not_less_then Less p h = h
not_less_then Equal p h = refl
not_less_then Greater p h = refl

tied_then : (o p : Ordering) → o ≡ Equal → is_lt (ordering_then o p) ≡ is_lt p
tied_then Less p h = cc
tied_then Equal p h = refl
tied_then Greater p h = cc

-- neither is less
tied : (a b : Key) → less a b ≡ false → less b a ≡ false → key_cmp a b ≡ Equal
tied a b h k = both (key_cmp a b) (key_cmp b a) (key_cmp_total.antisymm b a) h k
  where
    both : (o p : Ordering) → p ≡ ordering_reverse o → is_lt o ≡ false → is_lt p ≡ false → o ≡ Equal
    both Less p e h k = cc
    both Equal p e h k = refl
    both Greater Less e h k = cc
    both Greater Equal e h k = cc
    both Greater Greater e h k = cc

then_second : (o p : Ordering) → ordering_then o p ≡ Equal → p ≡ Equal
then_second Less p h = cc
then_second Equal p h = h
then_second Greater p h = cc

-- keys that tie have the same bytes
same_bytes : (a b : Key) → key_cmp a b ≡ Equal → a.1 ≡ b.1
same_bytes a b h =
    let s : slice_cmp nat_cmp a.1 b.1 ≡ Equal = then_second (nat_cmp a.0 b.0)
    (slice_cmp nat_cmp a.1 b.1) h in
    (bytes_eq-Decides a.1 b.1).0 (sym (is_eq-slice_cmp a.1 b.1) ∙ ap is_eq s)

one_default : (xs : List Ranked) (i : ℕ) (d e : Ranked) → i < length xs
    → get_or xs i d ≡ get_or xs i e
one_default [] i d e l = absurd (omega arith)
one_default (x ∷ xs) zero d e l = refl
one_default (x ∷ xs) (suc i) d e l = one_default xs i d e (omega (arith, l))

there_is : (keys : List (Option (List ℕ))) (i : ℕ) (word : List ℕ) → get_or keys i None ≡ Some word
    → i < length keys
there_is keys i word e = elim (cases_lt i (length keys)) as (λ s. i < length keys) [
  | inl l ↦ l
  | inr g ↦ none_some (get_or keys i None) word (get_or-eq_default keys None g) e
]

nat_less : (m n : ℕ) → m < n → is_lt (nat_cmp m n) ≡ true
nat_less m n l = rw (lt-ltb m n l) refl

module _ (keys : List (Option (List ℕ))) (xs : List Ranked)
    (up : IsSortedBy (is_before keys) xs) where
  -- none is less than one before it
  ascends : (i j : ℕ) (d : Ranked) → i ≤ j → j < length xs
      → is_before keys (get_or xs j d) (get_or xs i d) ≡ false
  ascends i j d l m = sorted_far (is_before keys) (is_before_ranks keys) xs up i j d l m

  pub below_first : (r : ℕ) (word : List ℕ) → IsPartitionedBy (is_below keys r word) xs
  below_first r word i j d l m h =
      let x = get_or xs i d in
      let y = get_or xs j d in
      let n : less (key_of keys y) (key_of keys x)
      ≡ false = not_less_then _ _ (ascends i j d l m) in
      by_test (less (key_of keys x) (r, word)) (λ t. t)
      (λ f. not_both (less (key_of keys y) (r, word)) h
      (less_ranks.chain (key_of keys y) (key_of keys x) (r, word) n f))

  module _ (skip : ℕ) (h : IsListed keys skip xs) (word : List ℕ) (at : ℕ)
      (below : IsPartitionPoint (λ y. is_below keys (rank skip word) word y ≡ true)
      (λ y. is_below keys (rank skip word) word y ≡ false) xs at) where
    abbrev here : ℕ → Ranked
    here place = record { rank = rank skip word; place = place }

    -- where the word stands in the column, its place stands in the rest
    stands : (place : ℕ) → is_key word (get_or keys place None) ≡ true
        → (k : ℕ) × (at ≤ k) × (k < length xs) × (get_or xs k (here place) ≡ here place)
    stands place t =
        let e : get_or keys place None ≡ Some word = has_key word (get_or keys place None) t in
        let c = h.whole place word e in
        let key : key_of keys (here place)
        ≡ (rank skip word, word) = ap (λ (w : List ℕ). (rank skip word, w)) (ap bytes_of e) in
        let itself : less (rank skip word, word) (rank skip word, word)
        ≡ false = ap is_lt (tied_itself key_cmp_total (rank skip word, word)) in
        elim (cases_lt c.0 at) as (λ s. (k : ℕ) × (at ≤ k) × (k < length xs)
        × (get_or xs k (here place) ≡ here place)) [
          | inl b ↦ not_both (is_below keys (rank skip word) word (get_or xs c.0 (here place)))
              (below.0 c.0 (here place) (omega arith) b)
              (ap (λ (r : Ranked). is_below keys (rank skip word) word r) c.2
              ∙ ap (λ (k : Key). less k (rank skip word, word)) key ∙ itself)
          | inr g ↦ (c.0, g, c.1, c.2)
        ]

    -- the word stands at that place
    pub found : (x : Ranked) → at < length xs → x ≡ get_or xs at x → key_at keys x.place ≡ word
        → position_from (is_key word) 0 keys ≡ Some x.place
    found x l e k =
        let told = h.told at x l in
        let rank_is : x.rank ≡ rank skip word = ap (λ (r : Ranked). r.rank) e ∙ told.0
        ∙ ap (λ (r : Ranked). rank skip (key_at keys r.place)) (sym e) ∙ ap (rank skip) k in
        let key_is : get_or keys x.place None ≡ Some word =
        ap (λ (r : Ranked). get_or keys r.place None) e ∙ told.1
        ∙ ap (λ (r : Ranked). Some (key_at keys r.place)) (sym e)
        ∙ ap (λ (w : List ℕ). Some w) k in
        let t : is_key word (get_or keys x.place None)
        ≡ true = key_itself word (get_or keys x.place None) key_is in
        place_at (is_key word) x.place keys (there_is keys x.place word key_is) t
        (λ p m. by_test (is_key word (get_or keys p None))
        (λ y.
        let s = stands p y in
        let at_p : key_at keys p ≡ word = ap bytes_of (has_key word (get_or keys p None) y) in
        let a : is_before keys (get_or xs s.0 (here p)) (get_or xs at (here p))
        ≡ false = ascends at s.0 (here p) s.1 s.2 in
        let b : is_before keys (here p) x ≡ false =
        ap (λ (r : Ranked). is_before keys r x) (sym s.3)
        ∙ ap (is_before keys (get_or xs s.0 (here p))) (e ∙ one_default xs at x (here p) l)
        ∙ a in
        let keys_tie : key_cmp (key_of keys (here p)) (key_of keys x) ≡ Equal =
        ap (λ (w : Key). key_cmp w (key_of keys x)) (ap (λ (w : List ℕ). (rank skip word, w)) at_p)
        ∙ ap (key_cmp (rank skip word, word)) (ap (λ (r : ℕ). (r, key_at keys x.place)) rank_is
        ∙ ap (λ (w : List ℕ). (rank skip word, w)) k)
        ∙ tied_itself key_cmp_total (rank skip word, word) in
        let less_place : is_lt (nat_cmp p x.place)
        ≡ false = sym (tied_then _ (nat_cmp p x.place) keys_tie) ∙ b in
        not_both (is_lt (nat_cmp p x.place)) (nat_less p x.place m) less_place)
        (λ n. n))

    -- it stands nowhere
    pub nowhere : ((x : Ranked) → at < length xs → x ≡ get_or xs at x → key_at keys x.place ≡ word
        → ⊥)
        → position_from (is_key word) 0 keys ≡ None
    nowhere none =
        no_place_of_test (is_key word) 0 keys
        (λ p m. by_test (is_key word (get_or keys p None))
        (λ y.
        let s = stands p y in
        let e = has_key word (get_or keys p None) y in
        let x = get_or xs at (here p) in
        let l : at < length xs = omega (arith, s.1, s.2) in
        let key : key_of keys (here p) ≡ (rank skip word, word) = ap
        (λ (w : List ℕ). (rank skip word, w)) (ap bytes_of e) in
        let a : less (rank skip word, word) (key_of keys x) ≡ false =
        ap (λ (w : Key). less w (key_of keys x)) (sym key)
        ∙ ap (λ (r : Ranked). less (key_of keys r) (key_of keys x)) (sym s.3)
        ∙ not_less_then _ _ (ascends at s.0 (here p) s.1 s.2) in
        let b : less (key_of keys x) (rank skip word, word)
        ≡ false = below.1 at (here p) (omega arith) l in
        absurd (none x l (one_default xs at (here p) x l)
        (same_bytes (key_of keys x) (rank skip word, word)
        (tied (key_of keys x) (rank skip word, word) b a))))
        (λ n. n))

-- what the search answers, over the places as they were lent
pub point : (keys : List (Option (List ℕ))) (xs lent : List Ranked) (skip r : ℕ) (word : List ℕ)
    (at : ℕ)
    → IsSortedBy (is_before keys) xs → lent ≡ xs → r ≡ rank skip word
    → (IsPartitionedBy (is_below keys r word) lent
    → IsPartitionPoint (λ y. is_below keys r word y ≡ true)
    (λ y. is_below keys r word y ≡ false) lent at)
    → IsPartitionPoint (λ y. is_below keys (rank skip word) word y ≡ true)
    (λ y. is_below keys (rank skip word) word y ≡ false) xs at
point keys xs lent skip r word at up e f h =
    let own : IsPartitionPoint (λ y. is_below keys r word y ≡ true)
    (λ y. is_below keys r word y ≡ false) xs at =
    subst (λ (l : List Ranked). IsPartitionPoint (λ y. is_below keys r word y ≡ true)
    (λ y. is_below keys r word y ≡ false) l at) e
    (h (subst (λ (l : List Ranked). IsPartitionedBy (is_below keys r word) l) (sym e)
    (below_first keys xs up r word))) in
    subst (λ (q : ℕ). IsPartitionPoint (λ y. is_below keys q word y ≡ true)
    (λ y. is_below keys q word y ≡ false) xs at) f own

-- the key at that place is the word, or is not
pub found_there : (keys : List (Option (List ℕ))) (xs lent : List Ranked) (skip : ℕ)
    (word key : List ℕ) (at : ℕ) (x : Ranked)
    → IsSortedBy (is_before keys) xs → IsListed keys skip xs → lent ≡ xs
    → IsPartitionPoint (λ y. is_below keys (rank skip word) word y ≡ true)
    (λ y. is_below keys (rank skip word) word y ≡ false) xs at
    → at < length lent → x ≡ get_or lent at x → key ≡ key_at keys x.place
    → pointwise nat_eq key word ≡ true → Some x.place ≡ position_from (is_key word) 0 keys
found_there keys xs lent skip word key at x up h e part l is k t =
    sym (found keys xs up skip h word at part x (subst (λ (r : List Ranked). at < length r) e l) (is
    ∙ ap (λ (r : List Ranked). get_or r at x) e) (sym k ∙ (bytes_eq-Decides key word).0 t))

pub other_there : (keys : List (Option (List ℕ))) (xs lent : List Ranked) (skip : ℕ)
    (word key : List ℕ) (at : ℕ) (x : Ranked)
    → IsSortedBy (is_before keys) xs → IsListed keys skip xs → lent ≡ xs
    → IsPartitionPoint (λ y. is_below keys (rank skip word) word y ≡ true)
    (λ y. is_below keys (rank skip word) word y ≡ false) xs at
    → at < length lent → x ≡ get_or lent at x → key ≡ key_at keys x.place
    → pointwise nat_eq key word ≡ false → None ≡ position_from (is_key word) 0 keys
other_there keys xs lent skip word key at x up h e part l is k t =
    sym (nowhere keys xs up skip h word at part
    (λ y m same it.
    let y_is : y ≡ x = same ∙ one_default xs at y x m
    ∙ ap (λ (r : List Ranked). get_or r at x) (sym e) ∙ sym is in
    not_both (pointwise nat_eq key word)
    ((bytes_eq-Decides key word).1 (k ∙ ap (λ (r : Ranked). key_at keys r.place) (sym y_is)
    ∙ it)) t))

pub none_there : (keys : List (Option (List ℕ))) (xs lent : List Ranked) (skip : ℕ) (word : List ℕ)
    (at : ℕ)
    → IsSortedBy (is_before keys) xs → IsListed keys skip xs → lent ≡ xs
    → IsPartitionPoint (λ y. is_below keys (rank skip word) word y ≡ true)
    (λ y. is_below keys (rank skip word) word y ≡ false) xs at
    → length lent ≤ at → None ≡ position_from (is_key word) 0 keys
none_there keys xs lent skip word at up h e part l =
    let n = ap (λ (r : List Ranked). length r) e in
    sym (nowhere keys xs up skip h word at part (λ y m same it. absurd (omega (arith, n, l, m))))
