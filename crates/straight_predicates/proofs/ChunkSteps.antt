-- A list in which values are taken out or put in, some at a time.
use Rattle.std.proofs.Common.{◌≡◌, ℕ, ◌+◌, ◌-◌, ◌≤◌, List, ◌++◌, length, take, drop, arith, ap, sym}
use Rattle.std.proofs.Common.{◌∙◌, append_assoc}
use Rattle.std.proofs.lemmas.List.{take-append-drop, drop-drop, length-append, length-drop}
use Rattle.std.proofs.lemmas.List.{length-take-le, take_at, drop_at}

module _ {T : Type 0} (old : List T) (from count : ℕ) (w : from + count ≤ length old) where
  -- what is left when `left` of the values are still to be taken out
  abbrev pub without : ℕ → List T
  without left = take from old ++ drop (from + (count - left)) old

  head_size : length (take from old) ≡ from
  head_size = length-take-le from old (omega (arith, w))

  pub without_size : (left : ℕ) → left ≤ count → from + left ≤ length (without left)
  without_size left l =
      let a = length-append (take from old) (drop (from + (count - left)) old) in
      let b = length-drop (from + (count - left)) old in
      omega (arith, a, b, head_size, w, l)

  pub without_more : (left taken : ℕ) (now new : List T) → left ≤ count → taken ≤ left
      → now ≡ without left → new ≡ take from now ++ drop (from + taken) now
      → new ≡ without (left - taken)
  without_more left taken now new l m e f =
      let h = drop (from + (count - left)) old in
      let n : from + (count - left) + taken
      ≡ from + (count - (left - taken)) = omega (arith, l, m) in
      f ∙ ap (λ xs. take from xs ++ drop (from + taken) xs) e
      ∙ ap (λ xs. xs ++ drop (from + taken) (without left))
      (take_at (take from old) h from head_size)
      ∙ ap (λ xs. take from old ++ xs)
      (sym (drop-drop taken from (without left))
      ∙ ap (λ xs. drop taken xs) (drop_at (take from old) h from head_size)
      ∙ drop-drop taken (from + (count - left)) old ∙ ap (λ (k : ℕ). drop k old) n)

module _ {T : Type 0} (old with : List T) (place : ℕ) (w : place ≤ length old) where
  -- what stands when the first `left` of the values are still to be put in
  abbrev pub including : ℕ → List T
  including left = take place old ++ (drop left with ++ drop place old)

  front_size : length (take place old) ≡ place
  front_size = length-take-le place old w

  pub including_size : (left : ℕ) → place ≤ length (including left)
  including_size left =
      let a = length-append (take place old) (drop left with ++ drop place old) in
      omega (arith, a, front_size)

  pub including_more : (from left : ℕ) (now new : List T) → from ≤ left → now ≡ including left
      → new ≡ take place now ++ (take (left - from) (drop from with) ++ drop place now)
      → new ≡ including from
  including_more from left now new l e f =
      let h = drop left with ++ drop place old in
      let n : from + (left - from) ≡ left = omega (arith, l) in
      let cut : take (left - from) (drop from with) ++ drop left with ≡ drop from with =
      ap (λ xs. take (left - from) (drop from with) ++ xs) (ap (λ (k : ℕ). drop k with) (sym n)
      ∙ sym (drop-drop (left - from) from with))
      ∙ take-append-drop (left - from) (drop from with) in
      f ∙ ap (λ xs. take place xs ++ (take (left - from) (drop from with) ++ drop place xs)) e
      ∙ ap (λ xs. xs ++ (take (left - from) (drop from with) ++ drop place (including left)))
      (take_at (take place old) h place front_size)
      ∙ ap (λ xs. take place old ++ (take (left - from) (drop from with) ++ xs))
      (drop_at (take place old) h place front_size)
      ∙ ap (λ xs. take place old ++ xs)
      (sym (append_assoc (take (left - from) (drop from with)) (drop left with)
      (drop place old)) ∙ ap (λ xs. xs ++ drop place old) cut)
