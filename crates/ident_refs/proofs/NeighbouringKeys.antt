-- Where no two neighbours of a sorted column have one key, no two rows have.
use Rattle.std.proofs.Common.{◌≡◌, ◌<◌, ◌≤◌, ◌+◌, inl, inr, ℕ, zero, suc, Bool, true, false, List}
use Rattle.std.proofs.Common.{[], ◌∷◌, ◌++◌, length, get_or, map, take, drop, Option, Some, None}
use Rattle.std.proofs.Common.{refl, sym, ap, subst, ◌∙◌, arith, append-nil}
use Rattle.std.specs.Cmp.{IsTotalOrder, then_total, on_total, nat_cmp_total}
use Rattle.std.specs.Cmp.Lexicographic.{slice_cmp}
use Rattle.std.specs.List.Sorted.{IsSortedBy}
use Rattle.std.specs.Ordering.{nat_cmp, is_lt, is_eq, ordering_then, ordering_reverse}
use Rattle.std.specs.declared.cmp.Ordering.{Ordering}
use Rattle.std.specs.declared.cmp.Ordering.TheVariants.{Less, Equal, Greater}
use Rattle.std.proofs.lemmas.Bool.{cases_lt}
use Rattle.std.proofs.lemmas.Cmp.{nat_list_cmp_total}
use Rattle.std.proofs.lemmas.List.Sorted.{sorted_far}
use Rattle.std.proofs.lemmas.Map.Text.{is_eq-slice_cmp}
use Rattle.std.proofs.lemmas.Slice.Eq.{bytes_eq-Decides}
use Rattle.ports.specs.SortedKeys.{rank, is_key, bytes_of, key_at, key_cmp, key_of, is_before}
use Rattle.ports.specs.SortedKeys.{AreSorted, IsListed, IsSortedKeys}
use Rattle.ports.specs.declared.sorted_keys.SortedKeys.{SortedKeys}
use Rattle.std.proofs.Props.{props}
use mathlib.Core.Logic.{∥∥₁_elim}
use Rattle.ports.specs.declared.sorted_keys.Ranked.{Ranked}
use Rattle.ports.proofs.FirstPlaces.{is_before_ranks}
use Rattle.ident_refs.specs.DistinctKeys.{AreDistinct, HaveOneKey}
use Rattle.itf_reader.specs.declared.findings.Code.{Code}
use Rattle.itf_reader.specs.declared.findings.Finding.{Finding as CodeFinding}
use Rattle.itf_reader.specs.Findings.{AddsFindings, Finding, findings_of}
use Rattle.ident_refs.specs.KeptRows.{cell_key, first_line, repeat, repeats, zip_keys}
use Rattle.ident_refs.proofs.KeyPlaces.{dropped, self_keys, split_suc, this}

abbrev Key : Type 0
Key = ℕ × List ℕ

key_cmp_total : IsTotalOrder key_cmp
key_cmp_total =
    then_total (on_total (λ (k : Key). k.0) nat_cmp_total)
    (on_total (λ (k : Key). k.1) nat_list_cmp_total)

not_less_then : (o p : Ordering) → is_lt (ordering_then o p) ≡ false → is_lt o ≡ false
not_less_then Less p h = h
not_less_then Equal p h = refl
not_less_then Greater p h = refl

-- neither is less
tied : (a b : Key) → is_lt (key_cmp a b) ≡ false → is_lt (key_cmp b a) ≡ false → key_cmp a b ≡ Equal
tied a b h k = both (key_cmp a b) (key_cmp b a) (key_cmp_total.antisymm b a) h k
  where
    both : (o p : Ordering) → p ≡ ordering_reverse o → is_lt o ≡ false → is_lt p ≡ false → o ≡ Equal
    both Less p e h k = cc
    both Equal p e h k = refl
    both Greater Less e h k = cc
    both Greater Equal e h k = cc
    both Greater Greater e h k = cc

then_second : (o p : Ordering) → ordering_then o p ≡ Equal → p ≡ Equal
then_second Less p h = cc
then_second Equal p h = h
then_second Greater p h = cc

same_bytes : (a b : Key) → key_cmp a b ≡ Equal → a.1 ≡ b.1
same_bytes a b h =
    let s : slice_cmp nat_cmp a.1 b.1 ≡ Equal = then_second (nat_cmp a.0 b.0)
    (slice_cmp nat_cmp a.1 b.1) h in
    (bytes_eq-Decides a.1 b.1).0 (sym (is_eq-slice_cmp a.1 b.1) ∙ ap is_eq s)

-- no two neighbours before a place have one key
abbrev pub AreApartTo : List (Option (List ℕ)) → List Ranked → ℕ → Type 0
AreApartTo keys xs n = (i : ℕ) (d : Ranked) → i + 1 < n → i + 1 < length xs
    → HaveOneKey keys (get_or xs i d) (get_or xs (i + 1) d) → ⊥

module _ (keys : List (Option (List ℕ))) (skip : ℕ) (xs : List Ranked)
    (up : IsSortedBy (is_before keys) xs) (h : IsListed keys skip xs) where
  abbrev here : List ℕ → ℕ → Ranked
  here word place = record { rank = rank skip word; place = place }

  -- what comes between two places of a word, or at one of them, has that key
  between : (i j k : ℕ) (word : List ℕ) (p q : ℕ) (d : Ranked) → i ≤ j → j ≤ k → k < length xs
      → get_or xs i d ≡ here word p → get_or xs k d ≡ here word q
      → key_at keys p ≡ word → key_at keys q ≡ word
      → (get_or xs j d).rank ≡ rank skip word × key_at keys (get_or xs j d).place ≡ word
  between i j k word p q d l m n e f a b =
      let y = get_or xs j d in
      let w : Key = (rank skip word, word) in
      let at_p : key_of keys (get_or xs i d) ≡ w = ap (key_of keys) e
      ∙ ap (λ (x : List ℕ). (rank skip word, x)) a in
      let at_q : key_of keys (get_or xs k d) ≡ w = ap (key_of keys) f
      ∙ ap (λ (x : List ℕ). (rank skip word, x)) b in
      let low : is_lt (key_cmp (key_of keys y) w) ≡ false =
      ap (λ (x : Key). is_lt (key_cmp (key_of keys y) x)) (sym at_p)
      ∙ not_less_then _ _
      (sorted_far (is_before keys) (is_before_ranks keys) xs up i j d l
      (omega (arith, m, n))) in
      let high : is_lt (key_cmp w (key_of keys y)) ≡ false =
      ap (λ (x : Key). is_lt (key_cmp x (key_of keys y))) (sym at_q)
      ∙ not_less_then _ _
      (sorted_far (is_before keys) (is_before_ranks keys) xs up j k d m n) in
      let bytes : key_at keys y.place ≡ word = same_bytes (key_of keys y) w
      (tied (key_of keys y) w low high) in
      let told = h.told j d (omega (arith, m, n)) in
      (told.0 ∙ ap (rank skip) bytes, bytes)

  one_word : (a b : Ranked) (word : List ℕ) → a.rank ≡ rank skip word → key_at keys a.place ≡ word
      → b.rank ≡ rank skip word → key_at keys b.place ≡ word → HaveOneKey keys a b
  one_word a b word r k s l = (r ∙ sym s, k ∙ sym l)

  apart_places : (i k : ℕ) (word : List ℕ) (p q : ℕ) (d : Ranked) → AreApartTo keys xs (length xs)
      → i < k → k < length xs → get_or xs i d ≡ here word p → get_or xs k d ≡ here word q
      → key_at keys p ≡ word → key_at keys q ≡ word → ⊥
  apart_places i k word p q d apart l n e f a b =
      let first = between i i k word p q d (omega arith) (omega (arith, l)) n e f a b in
      let second = between i (i + 1) k word p q d (omega arith) (omega (arith, l)) n e f a b in
      apart i d (omega (arith, l, n)) (omega (arith, l, n))
      (one_word (get_or xs i d) (get_or xs (i + 1) d) word first.0 first.1 second.0 second.1)

  one_default : (ys : List Ranked) (i : ℕ) (d e : Ranked) → i < length ys
      → get_or ys i d ≡ get_or ys i e
  one_default [] i d e l = absurd (omega arith)
  one_default (y ∷ ys) zero d e l = refl
  one_default (y ∷ ys) (suc i) d e l = one_default ys i d e (omega (arith, l))

  pub distinct : AreApartTo keys xs (length xs) → AreDistinct keys
  distinct apart p q word l e f =
      let a = h.whole p word e in
      let b = h.whole q word f in
      let at_p : key_at keys p ≡ word = ap bytes_of e in
      let at_q : key_at keys q ≡ word = ap bytes_of f in
      let q_is : get_or xs b.0 (here word p)
      ≡ here word q = one_default xs b.0 (here word p) (here word q) b.1 ∙ b.2 in
      elim (cases_lt a.0 b.0) as (λ s. ⊥) [
        | inl m ↦ apart_places a.0 b.0 word p q (here word p) apart m b.1 a.2 q_is at_p at_q
        | inr m ↦ elim (cases_lt b.0 a.0) as (λ s. ⊥) [
          | inl n ↦ apart_places b.0 a.0 word q p (here word p) apart n a.1 q_is a.2 at_q at_p
          | inr n ↦
              let same : a.0 ≡ b.0 = omega (arith, m, n) in
              let one : here word p ≡ here word q = sym a.2
              ∙ ap (λ (i : ℕ). get_or xs i (here word p)) same ∙ q_is in
              let place : p ≡ q = ap (λ (r : Ranked). r.place) one in
              omega (arith, place, l)
        ]
      ]

-- the same of keys that a program has sorted
pub all_distinct : (keys : List (Option (List ℕ))) (sorted : SortedKeys) (n : ℕ)
    → length sorted.ranked.items ≤ n → IsSortedKeys (map cell_key keys) sorted
    → AreApartTo keys sorted.ranked.items n → AreDistinct keys
all_distinct keys sorted n l s a = ∥∥₁_elim s (hlevel props) (λ r.
    let own = subst (λ (ks : List (Option (List ℕ))). AreSorted ks sorted) (self_keys keys) r in
    distinct keys sorted.skip sorted.ranked.items own.ascending own.listed
    (λ i d m k. a i d (omega (arith, l, k)) k))

-- ---- what that means for the rows
by_test : {P : Type 0} (b : Bool) → (b ≡ true → P) → (b ≡ false → P) → P
by_test true f g = f refl
by_test false f g = g refl

has_key : (word : List ℕ) (o : Option (List ℕ)) → is_key word o ≡ true → o ≡ Some word
has_key word None h = cc
has_key word (Some other) h = ap (λ (k : List ℕ). Some k) (sym ((bytes_eq-Decides word other).0 h))

none_before : (key : List ℕ) (i : ℕ) (lines : List ℕ) (keys : List (Option (List ℕ)))
    → ((k : ℕ) → k < i → get_or keys k None ≡ Some key → ⊥)
    → first_line (Some key) (take i (zip_keys lines keys)) ≡ None
none_before key zero lines keys n = refl
none_before key (suc i) [] keys n = refl
none_before key (suc i) (l ∷ lines) [] n = none_before key i lines [] (λ k m e. absurd (cc e))
none_before key (suc i) (l ∷ lines) (k ∷ keys) n =
    by_test (is_key key k) (λ t. absurd (n 0 (omega arith) (has_key key k t)))
    (λ f. rw f (none_before key i lines keys (λ j m e. n (suc j) (omega (arith, m)) e)))

own_first : (own : Option (List ℕ)) (i : ℕ) (lines : List ℕ) (keys : List (Option (List ℕ)))
    → AreDistinct keys → get_or keys i None ≡ own
    → first_line own (take i (zip_keys lines keys)) ≡ None
own_first None i lines keys d e = refl
own_first (Some key) i lines keys d e = none_before key i lines keys (λ k m f. d k i key m f e)

repeats_from : (code : Code) (column n i : ℕ) (lines : List ℕ) (keys : List (Option (List ℕ)))
    → AreDistinct keys → length lines ≤ i + n
    → repeats code column (take i (zip_keys lines keys)) (drop i (zip_keys lines keys)) ≡ []
repeats_from code column zero i lines keys d l =
    ap (repeats code column (take i (zip_keys lines keys)))
    (dropped i lines keys (omega (arith, l)))
repeats_from code column (suc n) i lines keys d l =
    elim (cases_lt i (length lines)) as
    (λ s. repeats code column (take i (zip_keys lines keys)) (drop i (zip_keys lines keys)) ≡ []) [
      | inr g ↦ ap (repeats code column (take i (zip_keys lines keys)))
          (dropped i lines keys (omega (arith, g)))
      | inl m ↦
          let s = split_suc i lines keys m in
          let all = zip_keys lines keys in
          let line = get_or lines i 0 in
          ap (repeats code column (take i all)) s.0
          ∙ ap (λ (o : Option ℕ). repeat code column line o
          ++ repeats code column (take i all ++ this i lines keys ∷ []) (drop (suc i) all))
          (own_first (get_or keys i None) i lines keys d refl)
          ∙ ap (λ (xs : List (ℕ × Option (List ℕ))). repeats code column xs (drop (suc i) all))
          (sym s.1)
          ∙ repeats_from code column n (suc i) lines keys d (omega (arith, l))
    ]

pub none_repeated : (code : Code) (column : ℕ) (lines : List ℕ) (keys : List (Option (List ℕ)))
    → AreDistinct keys → repeats code column [] (zip_keys lines keys) ≡ []
none_repeated code column lines keys d =
    repeats_from code column (length lines) 0 lines keys d (omega arith)

pub nothing_added : (code : Code) (column : ℕ) (lines : List ℕ) (keys : List (Option (List ℕ)))
    (findings : List CodeFinding)
    → AreDistinct keys
    → AddsFindings findings findings (repeats code column [] (zip_keys lines keys))
nothing_added code column lines keys findings d =
    sym (append-nil (findings_of findings))
    ∙ ap (λ (xs : List Finding). findings_of findings ++ xs)
    (sym (none_repeated code column lines keys d))
