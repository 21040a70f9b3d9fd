-- The keys of rows that are kept one after another.
use Rattle.std.proofs.Common.{◌≡◌, ℕ, zero, suc, ◌+◌, ◌-◌, ◌<◌, ◌≤◌, List, [], ◌∷◌, ◌++◌, length}
use Rattle.std.proofs.Common.{map, take, drop, get_or, Option, None, refl, sym, subst, ap, ◌∙◌}
use Rattle.std.proofs.Common.{arith}
use Rattle.std.proofs.lemmas.List.{length-append, length-drop, map-append, map_more, drop-append-le}
use Rattle.std.proofs.lemmas.List.{take-append-le}
use Rattle.std.proofs.Math.Seq.{drop-append_seam}
use Rattle.ident_refs.specs.declared.row_keys.RowSpan.{RowSpan}
use Rattle.ident_refs.specs.RowKeys.{IsSpan, AreSpans, span_keys, rows_in, numbered_key}
use Rattle.ident_refs.proofs.PartNumbers.{all_added}
use Rattle.ident_refs.proofs.SharedSteps.{taken_all}

-- ---- more keys leave those of a row as they are
span_same : (keys more : List (Option (List ℕ))) (s : RowSpan) → IsSpan (length keys) s
    → span_keys (keys ++ more) s ≡ span_keys keys s
span_same keys more s h =
    let low = h.ordered in
    let high = h.within in
    let n = length-drop s.start keys in
    ap (take (s.end - s.start)) (drop-append-le s.start keys more (omega (arith, low, high)))
    ∙ take-append-le (s.end - s.start) (drop s.start keys) more (omega (arith, low, high, n))

rows_same : (keys more : List (Option (List ℕ))) (spans : List RowSpan)
    → AreSpans (length keys) spans → rows_in (keys ++ more) spans ≡ rows_in keys spans
rows_same keys more [] h = refl
rows_same keys more (s ∷ spans) h =
    ap (λ (ks : List (Option (List ℕ))). ks ∷ rows_in (keys ++ more) spans)
    (span_same keys more s (h 0 s (omega arith)))
    ∙ ap (λ (rows : List (List (Option (List ℕ)))). span_keys keys s ∷ rows)
    (rows_same keys more spans (λ i d lt. h (suc i) d (omega (arith, lt))))

-- the keys of the new row
own_keys : (keys more : List (Option (List ℕ))) (s : RowSpan) → s.start ≡ length keys
    → s.end ≡ length (keys ++ more) → span_keys (keys ++ more) s ≡ more
own_keys keys more s b e =
    let n = length-append keys more in
    ap (λ (i : ℕ). take (s.end - s.start) (drop i (keys ++ more))) b
    ∙ ap (take (s.end - s.start)) (drop-append_seam keys more)
    ∙ taken_all more (s.end - s.start) (omega (arith, b, e, n))

pub row_spanned : (old new more : List (Option (List ℕ))) (spans next : List RowSpan) (s : RowSpan)
    → new ≡ old ++ more → next ≡ spans ++ s ∷ [] → AreSpans (length old) spans
    → s.start ≡ length old → s.end ≡ length new → rows_in new next ≡ rows_in old spans ++ more ∷ []
row_spanned old new more spans next s e k h b d =
    ap (λ (l : List RowSpan). rows_in new l) k
    ∙ map-append (span_keys new) spans (s ∷ [])
    ∙ ap (λ (l : List (Option (List ℕ))). rows_in l spans ++ span_keys l s ∷ []) e
    ∙ ap (λ (rows : List (List (Option (List ℕ)))). rows ++ span_keys (old ++ more) s ∷ [])
    (rows_same old more spans h)
    ∙ ap (λ (row : List (Option (List ℕ))). rows_in old spans ++ row ∷ [])
    (own_keys old more s b (d ∙ ap (λ (l : List (Option (List ℕ))). length l) e))

pub spans_wider : (n m : ℕ) (spans : List RowSpan) → n ≤ m → AreSpans n spans → AreSpans m spans
spans_wider n m spans le h i d lt =
    let s = h i d lt in
    let high = s.within in
    record { ordered = s.ordered; within = omega (arith, high, le) }

pub spans_more : (n m : ℕ) (spans next : List RowSpan) (s : RowSpan) → n ≤ m → AreSpans n spans
    → next ≡ spans ++ s ∷ [] → s.start ≤ s.end → s.end ≤ m → AreSpans m next
spans_more n m spans next s le h e low high =
    subst (λ (l : List RowSpan). AreSpans m l) (sym e)
    (all_added (IsSpan m) spans s (spans_wider n m spans le h) (record {
      ordered = low;
      within = high;
    }))

-- ---- the key of each row, one after another
pub keys_more : (f : List (Option (List ℕ)) → Option (List ℕ)) (all : List (Option (List ℕ)))
    (spans : List RowSpan) (i : ℕ) (s : RowSpan) (old new : List (Option (List ℕ)))
    (key : Option (List ℕ))
    → i < length spans → s ≡ get_or spans i s → new ≡ old ++ key ∷ [] → key ≡ f (span_keys all s)
    → old ≡ map f (rows_in all (take i spans)) → new ≡ map f (rows_in all (take (i + 1) spans))
keys_more f all spans i s old new key lt at e k inv =
    let front = map f (rows_in all (take i spans)) in
    e ∙ ap (λ (l : List (Option (List ℕ))). l ++ key ∷ []) inv
    ∙ ap (λ (x : Option (List ℕ)). front ++ x ∷ []) (k
    ∙ ap (λ (x : RowSpan). f (span_keys all x)) at)
    ∙ sym (ap (map f) (map_more (span_keys all) spans i s lt)
    ∙ map-append f (rows_in all (take i spans)) (span_keys all (get_or spans i s) ∷ []))

-- ---- the last keys of a row that are none are left out
got_more : (keys : List (Option (List ℕ))) (a : ℕ)
    → numbered_key (keys ++ None ∷ []) a ≡ numbered_key keys a
got_more [] zero = refl
got_more [] (suc a) = refl
got_more (key ∷ keys) zero = refl
got_more (key ∷ keys) (suc a) = got_more keys a

pub none_more : (keys new : List (Option (List ℕ))) (key : Option (List ℕ)) (count : ℕ)
    → new ≡ keys ++ key ∷ [] → key ≡ None
    → ((a : ℕ) → count ≤ a → numbered_key keys a ≡ None) → (a : ℕ) → count ≤ a
    → numbered_key new a ≡ None
none_more keys new key count e n h a le =
    ap (λ (l : List (Option (List ℕ))). numbered_key l a) (e
    ∙ ap (λ (k : Option (List ℕ)). keys ++ k ∷ []) n) ∙ got_more keys a ∙ h a le

pub none_beyond : (keys : List (Option (List ℕ))) (count : ℕ) → length keys ≤ count → (a : ℕ)
    → count ≤ a → numbered_key keys a ≡ None
none_beyond [] count le zero below = refl
none_beyond [] count le (suc a) below = refl
none_beyond (key ∷ keys) count le zero below = absurd (omega (arith, le, below))
none_beyond (key ∷ keys) zero le (suc a) below = absurd (omega (arith, le))
none_beyond (key ∷ keys) (suc count) le (suc a) below =
    none_beyond keys count (omega (arith, le)) a (omega (arith, below))

pub cut_same : (keys : List (Option (List ℕ))) (count : ℕ)
    → ((a : ℕ) → count ≤ a → numbered_key keys a ≡ None) → (a : ℕ)
    → numbered_key (take count keys) a ≡ numbered_key keys a
cut_same keys zero h a = nothing a ∙ sym (h a (omega arith))
  where
    nothing : (a : ℕ) → numbered_key [] a ≡ None
    nothing zero = refl
    nothing (suc a) = refl
cut_same [] (suc count) h a = refl
cut_same (key ∷ keys) (suc count) h zero = refl
cut_same (key ∷ keys) (suc count) h (suc a) =
    cut_same keys count (λ b le. h (suc b) (omega (arith, le))) a
