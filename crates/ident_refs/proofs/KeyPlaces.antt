-- Rows that repeat a key, row by row.
use Rattle.std.proofs.Common.{◌≡◌, ℕ, zero, suc, ◌+◌, ◌-◌, ◌<◌, ◌≤◌, Bool, true, false, cond, ◌||◌}
use Rattle.std.proofs.Common.{List, [], ◌∷◌, ◌++◌, length, take, drop, map, get_or, slice_get}
use Rattle.std.proofs.Common.{Option, Some, None, refl, sym, ap, ◌∙◌, arith, append_assoc}
use Rattle.std.proofs.Common.{append-nil, add-one}
use Rattle.std.specs.List.{list_any, position_from}
use Rattle.std.specs.Option.{is_some}
use Rattle.ports.specs.SortedKeys.{is_key}
use Rattle.itf_reader.specs.declared.findings.Code.{Code}
use Rattle.itf_reader.specs.Findings.{Finding}
use Rattle.ident_refs.specs.KeptRows.{cell_key, first_line, repeat, repeats, zip_keys}

-- ---- a row at its place
abbrev pub this : ℕ → List ℕ → List (Option (List ℕ)) → ℕ × Option (List ℕ)
this i lines keys = (get_or lines i 0, get_or keys i None)

pub split_suc : (i : ℕ) (lines : List ℕ) (keys : List (Option (List ℕ))) → i < length lines
    → (drop i (zip_keys lines keys) ≡ this i lines keys ∷ drop (suc i) (zip_keys lines keys))
    × (take (suc i) (zip_keys lines keys)
    ≡ take i (zip_keys lines keys) ++ this i lines keys ∷ [])
split_suc i [] keys lt = absurd (omega (arith, lt))
split_suc zero (l ∷ lines) [] lt = (refl, refl)
split_suc zero (l ∷ lines) (k ∷ keys) lt = (refl, refl)
split_suc (suc i) (l ∷ lines) [] lt =
    let s = split_suc i lines [] (omega (arith, lt)) in
    (s.0, ap (λ (xs : List (ℕ × Option (List ℕ))). (l, None) ∷ xs) s.1)
split_suc (suc i) (l ∷ lines) (k ∷ keys) lt =
    let s = split_suc i lines keys (omega (arith, lt)) in
    (s.0, ap (λ (xs : List (ℕ × Option (List ℕ))). (l, k) ∷ xs) s.1)

pub repeats_step : (code : Code) (column i : ℕ) (lines : List ℕ) (keys : List (Option (List ℕ)))
    (first : Option ℕ) (found new start : List Finding)
    → i < length lines → first ≡ first_line (get_or keys i None) (take i (zip_keys lines keys))
    → new ≡ found ++ repeat code column (get_or lines i 0) first
    → found ++ repeats code column (take i (zip_keys lines keys)) (drop i (zip_keys lines keys))
    ≡ start
    → new ++ repeats code column (take (i + 1) (zip_keys lines keys))
    (drop (i + 1) (zip_keys lines keys)) ≡ start
repeats_step code column i lines keys first found new start lt f n inv =
    let s = split_suc i lines keys lt in
    let all = zip_keys lines keys in
    let line = get_or lines i 0 in
    let rest = repeats code column (take i all ++ this i lines keys ∷ []) (drop (suc i) all) in
    ap (λ (m : ℕ). new ++ repeats code column (take m all) (drop m all)) (add-one i)
    ∙ ap (λ (xs : List (ℕ × Option (List ℕ))). new ++ repeats code column xs (drop (suc i) all)) s.1
    ∙ ap (λ (fs : List Finding). fs ++ rest) n
    ∙ append_assoc found (repeat code column line first) rest
    ∙ ap (λ (o : Option ℕ). found ++ (repeat code column line o ++ rest)) f
    ∙ ap (λ (xs : List (ℕ × Option (List ℕ))). found ++ repeats code column (take i all) xs)
    (sym s.0) ∙ inv

-- no row is left
pub dropped : (i : ℕ) (lines : List ℕ) (keys : List (Option (List ℕ))) → length lines ≤ i
    → drop i (zip_keys lines keys) ≡ []
dropped zero [] keys le = refl
dropped (suc i) [] keys le = refl
dropped zero (l ∷ lines) keys le = absurd (omega (arith, le))
dropped (suc i) (l ∷ lines) [] le = dropped i lines [] (omega (arith, le))
dropped (suc i) (l ∷ lines) (k ∷ keys) le = dropped i lines keys (omega (arith, le))

pub repeats_end : (code : Code) (column i : ℕ) (lines : List ℕ) (keys : List (Option (List ℕ)))
    (found start : List Finding)
    → length lines ≤ i
    → found ++ repeats code column (take i (zip_keys lines keys)) (drop i (zip_keys lines keys))
    ≡ start → found ≡ start
repeats_end code column i lines keys found start le inv =
    sym (append-nil found)
    ∙ ap (λ (xs : List (ℕ × Option (List ℕ))). found
    ++ repeats code column (take i (zip_keys lines keys)) xs) (sym (dropped i lines keys le))
    ∙ inv

-- ---- the first row with a key
pub self_keys : (keys : List (Option (List ℕ))) → map cell_key keys ≡ keys
self_keys [] = refl
self_keys (k ∷ keys) = ap (λ (ks : List (Option (List ℕ))). k ∷ ks) (self_keys keys)

pub any_place : (test : Option (List ℕ) → Bool) (j : ℕ) (keys : List (Option (List ℕ)))
    → is_some (position_from test j keys) ≡ list_any test keys
any_place test j [] = refl
any_place test j (k ∷ keys) =
    elim (test k) as (λ b. is_some (cond b (Some j) (position_from test (j + 1) keys))
    ≡ (b || list_any test keys)) [ true ↦ refl | false ↦ any_place test (j + 1) keys ]

least : (key : List ℕ) (j p : ℕ) (keys : List (Option (List ℕ)))
    → position_from (is_key key) j keys ≡ Some p → j ≤ p
least key j p [] e = absurd (grind arith)
least key j p (k ∷ keys) e =
    elim (is_key key k) as (λ b. cond b (Some j) (position_from (is_key key) (j + 1) keys) ≡ Some p
    → j ≤ p) [
      | true ↦ λ h. grind arith
      | false ↦ λ h. let l = least key (j + 1) p keys h in
          omega (arith, l)
    ] e

none_first : (key : List ℕ) (j i : ℕ) (lines : List ℕ) (keys : List (Option (List ℕ)))
    → position_from (is_key key) j keys ≡ None
    → first_line (Some key) (take i (zip_keys lines keys)) ≡ None
none_first key j zero lines keys e = refl
none_first key j (suc i) [] keys e = refl
none_first key j (suc i) (l ∷ lines) [] e = none_first key j i lines [] e
none_first key j (suc i) (l ∷ lines) (k ∷ keys) e =
    elim (is_key key k) as (λ b. cond b (Some j) (position_from (is_key key) (j + 1) keys) ≡ None
    → cond b (Some l) (first_line (Some key) (take i (zip_keys lines keys))) ≡ None)
    [ true ↦ λ h. absurd (grind arith) | false ↦ none_first key (j + 1) i lines keys ] e

late_first : (key : List ℕ) (j i p : ℕ) (lines : List ℕ) (keys : List (Option (List ℕ)))
    → position_from (is_key key) j keys ≡ Some p → j + i ≤ p
    → first_line (Some key) (take i (zip_keys lines keys)) ≡ None
late_first key j zero p lines keys e l = refl
late_first key j (suc i) p [] keys e l = refl
late_first key j (suc i) p (x ∷ lines) [] e l = absurd (grind arith)
late_first key j (suc i) p (x ∷ lines) (k ∷ keys) e l =
    elim (is_key key k) as (λ b. cond b (Some j) (position_from (is_key key) (j + 1) keys) ≡ Some p
    → cond b (Some x) (first_line (Some key) (take i (zip_keys lines keys))) ≡ None) [
      | true ↦ λ h. absurd (grind arith)
      | false ↦ λ h. late_first key (j + 1) i p lines keys h (omega (arith, l))
    ] e

early_first : (key : List ℕ) (j i p : ℕ) (lines : List ℕ) (keys : List (Option (List ℕ)))
    → position_from (is_key key) j keys ≡ Some p → p < j + i → i ≤ length lines
    → first_line (Some key) (take i (zip_keys lines keys)) ≡ slice_get lines (p - j)
early_first key j i p lines [] e l m = absurd (grind arith)
early_first key j zero p lines (k ∷ keys) e l m =
    let h = least key j p (k ∷ keys) e in absurd (omega (arith, h, l))
early_first key j (suc i) p [] (k ∷ keys) e l m = absurd (omega (arith, m))
early_first key j (suc i) p (x ∷ lines) (k ∷ keys) e l m =
    elim (is_key key k) as (λ b. cond b (Some j) (position_from (is_key key) (j + 1) keys) ≡ Some p
    → cond b (Some x) (first_line (Some key) (take i (zip_keys lines keys)))
    ≡ slice_get (x ∷ lines) (p - j)) [
      | true ↦ λ h. grind arith
      | false ↦ λ h. let k = least key (j + 1) p keys h in
          early_first key (j + 1) i p lines keys h (omega (arith, l)) (omega (arith, m)) ∙ grind arith
    ] e

-- ---- the answer of a search
abbrev pub Place : List ℕ → List (Option (List ℕ)) → Option ℕ → Type 0
Place key keys found = found ≡ position_from (is_key key) 0 (map cell_key keys)

pub found_so : (key : List ℕ) (keys : List (Option (List ℕ))) (found : Option ℕ)
    → Place key keys found → position_from (is_key key) 0 keys ≡ found
found_so key keys found e =
    sym (e ∙ ap (λ (ks : List (Option (List ℕ))). position_from (is_key key) 0 ks) (self_keys keys))

pub has_key : (key : List ℕ) (keys : List (Option (List ℕ))) (found : Option ℕ) (b : Bool)
    → Place key keys found → b ≡ is_some found → b ≡ list_any (is_key key) keys
has_key key keys found b e s = s ∙ ap is_some (sym (found_so key keys found e))
    ∙ any_place (is_key key) 0 keys

pub found_none : (key : List ℕ) (own : Option (List ℕ)) (i : ℕ) (lines : List ℕ)
    (keys : List (Option (List ℕ)))
    → own ≡ Some key → Place key keys None
    → None ≡ first_line own (take i (zip_keys lines keys))
found_none key own i lines keys o e =
    sym (ap (λ (k : Option (List ℕ)). first_line k (take i (zip_keys lines keys))) o
    ∙ none_first key 0 i lines keys (found_so key keys None e))

pub found_late : (key : List ℕ) (own : Option (List ℕ)) (i p : ℕ) (lines : List ℕ)
    (keys : List (Option (List ℕ)))
    → own ≡ Some key → Place key keys (Some p) → i ≤ p
    → None ≡ first_line own (take i (zip_keys lines keys))
found_late key own i p lines keys o e l =
    sym (ap (λ (k : Option (List ℕ)). first_line k (take i (zip_keys lines keys))) o
    ∙ late_first key 0 i p lines keys (found_so key keys (Some p) e) (omega (arith, l)))

pub found_early : (key : List ℕ) (own : Option (List ℕ)) (i p : ℕ) (lines : List ℕ)
    (keys : List (Option (List ℕ)))
    → own ≡ Some key → Place key keys (Some p) → p < i → i ≤ length lines
    → slice_get lines p ≡ first_line own (take i (zip_keys lines keys))
found_early key own i p lines keys o e l m =
    sym (ap (λ (k : Option (List ℕ)). first_line k (take i (zip_keys lines keys))) o
    ∙ early_first key 0 i p lines keys (found_so key keys (Some p) e) (omega (arith, l)) m
    ∙ ap (slice_get lines) (minus_zero p))
  where
    minus_zero : (p : ℕ) → p - 0 ≡ p
    minus_zero p = omega arith

pub no_key : (own : Option (List ℕ)) (rows : List (ℕ × Option (List ℕ))) → own ≡ None
    → None ≡ first_line own rows
no_key own rows o = sym (ap (λ (k : Option (List ℕ)). first_line k rows) o)

-- what was got at a place
pub own_key : (keys : List (Option (List ℕ))) (i : ℕ) (x d : Option (List ℕ)) (key : List ℕ)
    → i < length keys → x ≡ get_or keys i d → Some key ≡ x → get_or keys i None ≡ Some key
own_key [] i x d key lt at k = absurd (omega (arith, lt))
own_key (y ∷ keys) zero x d key lt at k = sym (k ∙ at)
own_key (y ∷ keys) (suc i) x d key lt at k = own_key keys i x d key (omega (arith, lt)) at k

pub got_line : (lines : List ℕ) (p x d : ℕ) → p < length lines → x ≡ get_or lines p d
    → Some x ≡ slice_get lines p
got_line [] p x d lt at = absurd (omega (arith, lt))
got_line (y ∷ lines) zero x d lt at = ap Some at
got_line (y ∷ lines) (suc p) x d lt at = got_line lines p x d (omega (arith, lt)) at
