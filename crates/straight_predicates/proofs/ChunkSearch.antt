-- The place of a point in a list of edges, found chunk by chunk.
use Rattle.std.proofs.Common.{◌≡◌, ℕ, zero, suc, ◌+◌, ◌-◌, ◌<◌, ◌≤◌, ℤ, pos, ◌<ℤ◌, ◌≤ℤ◌, List, []}
use Rattle.std.proofs.Common.{◌++◌, length, take, drop, get_or, refl, arith, ap, sym, ◌∙◌, subst}
use Rattle.std.proofs.Common.{append-nil}
use Rattle.std.proofs.lemmas.List.{take_all, drop_all, drop-drop, get_or_read, length-drop}
use Rattle.std.proofs.lemmas.List.{take-append-le}
use Rattle.std.proofs.lemmas.Int.{ints}
use Rattle.std.proofs.Math.Seq.{take-add}
use Rattle.straight_predicates.specs.EdgeLists.{AreBelow}
use Rattle.straight_predicates.specs.Chunks.{IsAt, first_of, joined}
use Rattle.straight_predicates.proofs.Joined.{size_more, size_split, value_at, back}

-- the first values behind a place, those of the chunk of which it is
pub part_of_chunk : {T : Type 0} (bs : List (List T)) (place chunk offset more : ℕ) (x : List T)
    → IsAt bs place chunk offset → x ≡ get_or bs chunk x → more ≤ length x - offset
    → take ((offset + more) - offset) (drop offset x) ≡ take more (drop place (joined bs))
part_of_chunk bs place chunk offset more x at r m =
    let e = get_or_read bs chunk x at.known r [] in
    let n : (offset + more) - offset ≡ more = omega arith in
    let s = length-drop offset x in
    ap (λ (k : ℕ). take k (drop offset x)) n
    ∙ sym (take-append-le more (drop offset x) (joined (drop (chunk + 1) bs)) (omega (arith, s, m)))
    ∙ ap (λ ys. take more (drop offset ys ++ joined (drop (chunk + 1) bs))) e
    ∙ ap (λ ys. take more ys) (sym (back bs place chunk offset at))

pub appended : {T : Type 0} (old room new part part' : List T) (end : ℕ) → room ≡ old
    → end ≡ length room → new ≡ take end room ++ (part ++ drop end room) → part ≡ part'
    → new ≡ old ++ part'
appended old room new part part' end e l f g =
    f ∙ ap (λ (n : ℕ). take n room ++ (part ++ drop n room)) l
    ∙ ap (λ xs. xs ++ (part ++ drop (length room) room)) (take_all (length room) room (omega arith))
    ∙ ap (λ xs. room ++ (part ++ xs)) (drop_all (length room) room (omega arith))
    ∙ ap (λ xs. room ++ xs) (append-nil part)
    ∙ ap (λ xs. xs ++ part) e ∙ ap (λ xs. old ++ xs) g

-- one part more
pub copied_more : {T : Type 0} (xs now new : List T) (from done more : ℕ)
    → now ≡ take done (drop from xs) → new ≡ now ++ take more (drop (from + done) xs)
    → new ≡ take (done + more) (drop from xs)
copied_more xs now new from done more e f =
    f ∙ ap (λ ys. ys ++ take more (drop (from + done) xs)) e
    ∙ ap (λ ys. take done (drop from xs) ++ take more ys) (sym (drop-drop done from xs))
    ∙ sym (take-add done more (drop from xs))

-- a place in a chunk by the place of its first value
in_chunk : {T : Type 0} (bs : List (List T)) (b o : ℕ) → b < length bs → o < length (get_or bs b [])
    → IsAt bs (length (joined (take b bs)) + o) b o
in_chunk bs b o k l = record { known = k; is = refl; within = omega (arith, l); inside = λ _. l }

chunk_value : (bs : List (List ℕ)) (b o : ℕ) → b < length bs → o < length (get_or bs b [])
    → get_or (joined bs) (length (joined (take b bs)) + o) 0 ≡ get_or (get_or bs b []) o 0
chunk_value bs b o k l = value_at bs (length (joined (take b bs)) + o) b o (in_chunk bs b o k l) 0 l

pub start_within : {T : Type 0} (bs : List (List T)) (b : ℕ) → b < length bs
    → length (joined (take b bs)) + length (get_or bs b []) ≤ length (joined bs)
start_within bs b l = let m = size_more bs b l in let n = size_split bs b l in omega (arith, m, n)

pub chunk_known : (bs : List (List ℕ)) (m b o : ℕ) (x : List ℕ) → b < length bs → x ≡ get_or bs b x
    → AreBelow m (joined bs) → o < length x → get_or x o 0 < m
chunk_known bs m b o x k r h l =
    let e = get_or_read bs b x k r [] in
    let l1 : o < length (get_or bs b []) = subst (λ ys. o < length ys) e l in
    let w = start_within bs b k in
    subst (λ ys. get_or ys o 0 < m) (sym e)
    (subst (λ (n : ℕ). n < m) (chunk_value bs b o k l1)
    (h (length (joined (take b bs)) + o) (omega (arith, w, l1))))

module _ (z : ℕ → ℤ) (live : List ℕ) (bs : List (List ℕ)) (j : joined bs ≡ live) (b start p : ℕ)
    (x : List ℕ)
    (k : b < length bs) (s : start ≡ length (joined (take b bs))) (r : x ≡ get_or bs b x)
    (some : 0 < length x) (w : p ≤ length x) where
  e : x ≡ get_or bs b []
  e = get_or_read bs b x k r []

  pub cut_within : start + p ≤ length live
  cut_within =
      let a = start_within bs b k in
      let c = ap length e in let d = ap length j in omega (arith, a, c, d, s, w)

  value : (o : ℕ) → o < length x → get_or live (start + o) 0 ≡ get_or x o 0
  value o l =
      ap (λ ys. get_or ys (start + o) 0) (sym j) ∙ ap (λ (n : ℕ). get_or (joined bs) (n + o) 0) s
      ∙ chunk_value bs b o k (subst (λ ys. o < length ys) e l) ∙ ap (λ ys. get_or ys o 0) (sym e)

  first_is : first_of bs b ≡ get_or x 0 0
  first_is = ap (λ ys. get_or ys 0 0) (sym e)

  module _ (lower : (i : ℕ) → b ≡ suc i → pos 0 <ℤ z (first_of bs b)) (high : p < length x
      → z (get_or x p 0) ≤ℤ pos 0) where
    starts : (c i : ℕ) → b ≡ c → p ≡ 0 → start + p ≡ suc i → ⊥
    starts zero i f q g =
        let n = s ∙ ap (λ (m : ℕ). length (joined (take m bs))) f in
        omega (arith, n, q, g)
    starts (suc c) i f q g =
        let l = lower c f in
        let h = subst (λ (m : ℕ). z (get_or x m 0) ≤ℤ pos 0) q (high (omega (arith, q, some))) in
        let y = ap z first_is in
        clash (z (first_of bs b)) (z (get_or x 0 0)) y l h
      where
        clash : (u v : ℤ) → u ≡ v → pos 0 <ℤ u → v ≤ℤ pos 0 → ⊥
        clash u v f l h = let l1 = subst (λ (t : ℤ). pos 0 <ℤ t) f l in omega (arith, ints, l1, h)

    below_at : (q i : ℕ) → p ≡ q → ((i : ℕ) → p ≡ suc i → pos 0 <ℤ z (get_or x i 0))
        → start + p ≡ suc i → pos 0 <ℤ z (get_or live i 0)
    below_at zero i f low g = absurd (starts b i refl f g)
    below_at (suc q) i f low g =
        let n : start + q ≡ i = omega (arith, f, g) in
        subst (λ (m : ℕ). pos 0 <ℤ z (get_or live m 0)) n
        (subst (λ (v : ℕ). pos 0 <ℤ z v) (sym (value q (omega (arith, f, w)))) (low q f))

    pub cut_below : ((i : ℕ) → p ≡ suc i → pos 0 <ℤ z (get_or x i 0)) → (i : ℕ) → start + p ≡ suc i
        → pos 0 <ℤ z (get_or live i 0)
    cut_below low i g = below_at p i refl low g

  module _ (next : b + 1 < length bs → 0 < length (get_or bs (b + 1) [])) (upper : b + 1 < length bs
      → z (first_of bs (b + 1)) ≤ℤ pos 0) (high : p < length x → z (get_or x p 0) ≤ℤ pos 0) where
    is_next : length x ≤ p → start + p < length live → b + 1 < length bs
    is_next f l = by_size (b + 1) (length bs) (λ last.
        let a = size_split bs b k in let m = size_more bs b k in
        let n = ap (λ cs. length (joined cs)) (drop_all (b + 1) bs last) in
        let c = ap length e in let d = ap length j in
        omega (arith, a, m, n, c, d, s, w, f, l))
      where
        by_size : (u v : ℕ) → (v ≤ u → ⊥) → u < v
        by_size u v f = omega (arith, f)

    pub cut_above : start + p < length live → z (get_or live (start + p) 0) ≤ℤ pos 0
    cut_above l = by_rest (length x - p) refl
      where
        by_rest : (d : ℕ) → length x - p ≡ d → z (get_or live (start + p) 0) ≤ℤ pos 0
        by_rest (suc d) f =
            let i : p < length x = omega (arith, f) in
            subst (λ (v : ℕ). z v ≤ℤ pos 0) (sym (value p i)) (high i)
        by_rest zero f =
            let i : length x ≤ p = omega (arith, f) in
            let n = is_next i l in
            let m = size_more bs b k in
            let c = ap length e in
            let q : start + p ≡ length (joined (take (b + 1) bs))
            + 0 = omega (arith, m, c, s, w, i) in
            let v = ap (λ (i : ℕ). get_or live i 0) q
            ∙ ap (λ ys. get_or ys (length (joined (take (b + 1) bs)) + 0) 0) (sym j)
            ∙ chunk_value bs (b + 1) 0 n (next n) in
            subst (λ (i : ℕ). z i ≤ℤ pos 0) (sym v) (upper n)
