-- A list of which a part was written over.
use Rattle.std.proofs.Common.{◌≡◌, ℕ, ◌+◌, ◌-◌, ◌<◌, ◌≤◌, min, List, ◌++◌, length, take, drop}
use Rattle.std.proofs.Common.{arith, ap, sym, ◌∙◌, subst, append_assoc}
use Rattle.std.proofs.lemmas.List.{take-append-drop, length-append, length-drop, length-take-le}
use Rattle.std.proofs.lemmas.List.{take_all, drop-drop}
use Rattle.std.proofs.Math.Seq.{take-append_seam, drop-append_seam}

drop_twice : {X : Type 0} (i n : ℕ) (xs : List X) → drop (i + n) xs ≡ drop n (drop i xs)
drop_twice i n xs = sym (drop-drop n i xs)

module _ {X : Type 0} (vs with : List X) (from count : ℕ) (w : from + count ≤ length vs) where
  -- the list with the first k values written over those from the place on
  abbrev pub over : ℕ → List X
  over k = take from vs ++ (take k with ++ drop (from + k) vs)

  head_size : length (take from vs) ≡ from
  head_size = length-take-le from vs (omega (arith, w))

  part_size : (k : ℕ) → k ≤ length with → length (take k with) ≡ k
  part_size k l = length-take-le k with l

  over_front : (k : ℕ) → k ≤ length with → take (from + k) (over k) ≡ take from vs ++ take k with
  over_front k m =
      let both = length-append (take from vs) (take k with) in
      let d = part_size k m in
      let n : from + k ≡ length (take from vs ++ take k with) = omega (arith, both, d, head_size) in
      ap (λ xs. take (from + k) xs)
      (sym (append_assoc (take from vs) (take k with) (drop (from + k) vs)))
      ∙ ap (λ (j : ℕ). take j ((take from vs ++ take k with) ++ drop (from + k) vs)) n
      ∙ take-append_seam (take from vs ++ take k with) (drop (from + k) vs)

  over_back : (k : ℕ) → k ≤ length with → drop (from + k) (over k) ≡ drop (from + k) vs
  over_back k m =
      let both = length-append (take from vs) (take k with) in
      let d = part_size k m in
      let n : from + k ≡ length (take from vs ++ take k with) = omega (arith, both, d, head_size) in
      ap (λ xs. drop (from + k) xs)
      (sym (append_assoc (take from vs) (take k with) (drop (from + k) vs)))
      ∙ ap (λ (j : ℕ). drop j ((take from vs ++ take k with) ++ drop (from + k) vs)) n
      ∙ drop-append_seam (take from vs ++ take k with) (drop (from + k) vs)

  -- more values than places: the others are put in
  pub put_in : count ≤ length with
      → take (from + count) (over count) ++ (drop count with ++ drop (from + count) (over count))
      ≡ take from vs ++ (with ++ drop (from + count) vs)
  put_in m =
      ap (λ xs. xs ++ (drop count with ++ drop (from + count) (over count))) (over_front count m)
      ∙ ap (λ xs. (take from vs ++ take count with) ++ (drop count with ++ xs)) (over_back count m)
      ∙ append_assoc (take from vs) (take count with) (drop count with ++ drop (from + count) vs)
      ∙ ap (λ xs. take from vs ++ xs)
      (sym (append_assoc (take count with) (drop count with) (drop (from + count) vs))
      ∙ ap (λ xs. xs ++ drop (from + count) vs) (take-append-drop count with))

  -- no more values than places: the others are taken out
  pub taken_out : length with ≤ count
      → take (from + length with) (over (length with))
      ++ drop (from + length with + (count - length with)) (over (length with))
      ≡ take from vs ++ (with ++ drop (from + count) vs)
  taken_out m =
      let k = length with in
      let n : from + k + (count - k) ≡ from + count = omega (arith, m) in
      ap (λ xs. xs ++ drop (from + k + (count - k)) (over k)) (over_front k (omega arith)
      ∙ ap (λ xs. take from vs ++ xs) (take_all k with (omega arith)))
      ∙ ap (λ xs. (take from vs ++ with) ++ xs) (drop_twice (from + k) (count - k) (over k)
      ∙ ap (λ xs. drop (count - k) xs) (over_back k (omega arith))
      ∙ sym (drop_twice (from + k) (count - k) vs) ∙ ap (λ (j : ℕ). drop j vs) n)
      ∙ append_assoc (take from vs) with (drop (from + count) vs)

pub put_values : {X : Type 0} (vs with vs' new : List X) (from count common : ℕ)
    → from + count ≤ length vs → common ≡ min count (length with) → common < length with
    → vs' ≡ take from vs ++ (take common with ++ drop (from + length (take common with)) vs)
    → new ≡ take (from + common) vs'
    ++ (take (length with - common) (drop common with) ++ drop (from + common) vs')
    → new ≡ take from vs ++ (with ++ drop (from + count) vs)
put_values vs with vs' new from count common w m l e f =
    let c : common ≡ count = omega (arith, m, l) in
    let n : common ≤ length with = omega (arith, l) in
    let whole : vs' ≡ over vs with from count w common = e
    ∙ ap (λ (k : ℕ). take from vs ++ (take common with ++ drop (from + k) vs))
    (length-take-le common with n) in
    f ∙ ap (λ xs. take (from + common) xs
    ++ (take (length with - common) (drop common with) ++ drop (from + common) xs)) whole
    ∙ ap (λ xs. take (from + common) (over vs with from count w common)
    ++ (xs ++ drop (from + common) (over vs with from count w common)))
    (take_all (length with - common) (drop common with) (let s = length-drop common with in
    omega (arith, s)))
    ∙ subst (λ (k : ℕ). take (from + k) (over vs with from count w k)
    ++ (drop k with ++ drop (from + k) (over vs with from count w k))
    ≡ take from vs ++ (with ++ drop (from + count) vs)) (sym c)
    (put_in vs with from count w (omega (arith, n, c)))

pub take_values : {X : Type 0} (vs with vs' new : List X) (from count common : ℕ)
    → from + count ≤ length vs → common ≡ min count (length with) → length with ≤ common
    → vs' ≡ take from vs ++ (take common with ++ drop (from + length (take common with)) vs)
    → new ≡ take (from + common) vs' ++ drop (from + common + (count - common)) vs'
    → new ≡ take from vs ++ (with ++ drop (from + count) vs)
take_values vs with vs' new from count common w m l e f =
    let c : common ≡ length with = omega (arith, m, l) in
    let n : common ≤ length with = omega (arith, c) in
    let whole : vs' ≡ over vs with from count w common = e
    ∙ ap (λ (k : ℕ). take from vs ++ (take common with ++ drop (from + k) vs))
    (length-take-le common with n) in
    f ∙ ap (λ xs. take (from + common) xs ++ drop (from + common + (count - common)) xs) whole
    ∙ subst (λ (k : ℕ). take (from + k) (over vs with from count w k)
    ++ drop (from + k + (count - k)) (over vs with from count w k)
    ≡ take from vs ++ (with ++ drop (from + count) vs)) (sym c)
    (taken_out vs with from count w (omega (arith, m, c)))
