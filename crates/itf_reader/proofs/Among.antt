-- Numbers that are some of others, in their order.
use Rattle.std.proofs.Common.{◌≡◌, ℕ, zero, suc, ◌+◌, ◌<◌, ◌≤◌, List, [], ◌∷◌, ◌++◌, length}
use Rattle.std.proofs.Common.{subst, arith}
use Rattle.std.specs.Prelude.{⊤, slice_index}
use Rattle.std.specs.List.Sorted.{IsStrictlyIncreasing}

-- the first numbers are some of the second, in their order
pub data Among : List ℕ → List ℕ → Type 0 where
  none : Among [] []
  skip : (n : ℕ) (ms ns : List ℕ) → Among ms ns → Among ms (n ∷ ns)
  keep : (n : ℕ) (ms ns : List ℕ) → Among ms ns → Among (n ∷ ms) (n ∷ ns)

pub nothing : (ns : List ℕ) → Among [] ns
nothing [] = none
nothing (n ∷ ns) = skip n [] ns (nothing ns)

pub everything : (ns : List ℕ) → Among ns ns
everything [] = none
everything (n ∷ ns) = keep n ns ns (everything ns)

pub among-append : (ms ns ps qs : List ℕ) → Among ms ns → Among ps qs → Among (ms ++ ps) (ns ++ qs)
among-append _ _ ps qs none k = k
among-append _ _ ps qs (skip n ms ns h) k =
    skip n (ms ++ ps) (ns ++ qs) (among-append ms ns ps qs h k)
among-append _ _ ps qs (keep n ms ns h) k =
    keep n (ms ++ ps) (ns ++ qs) (among-append ms ns ps qs h k)

-- without the first of them
abbrev pub rest : List ℕ → List ℕ
rest [] = []
rest (m ∷ ms) = ms

among_rest : (ms ns : List ℕ) → Among ms ns → Among (rest ms) ns
among_rest _ _ none = none
among_rest _ _ (skip n ms ns h) = skip n (rest ms) ns (among_rest ms ns h)
among_rest _ _ (keep n ms ns h) = skip n ms ns h

pub among_behind : (ls ms ns : List ℕ) → Among (ls ++ ms) ns → Among ms ns
among_behind [] ms ns h = h
among_behind (l ∷ ls) ms ns h = among_behind ls ms ns (among_rest (l ∷ (ls ++ ms)) ns h)

-- each number is greater than the one before it, and the first than that
abbrev pub Rises : ℕ → List ℕ → Type 0
Rises low [] = ⊤
Rises low (n ∷ ns) = (low < n) × Rises n ns

pub rises_lower : (low m : ℕ) (ns : List ℕ) → low ≤ m → Rises m ns → Rises low ns
rises_lower low m [] h k = tt
rises_lower low m (n ∷ ns) h k = let l = k.0 in (omega (arith, h, l), k.1)

pub among_rises : (low : ℕ) (ms ns : List ℕ) → Among ms ns → Rises low ns → Rises low ms
among_rises low _ _ none k = tt
among_rises low _ _ (skip n ms ns h) k =
    among_rises low ms ns h (let l = k.0 in rises_lower low n ns (omega (arith, l)) k.1)
among_rises low _ _ (keep n ms ns h) k = (k.0, among_rises n ms ns h k.1)

pub rises_increase : (low : ℕ) (ns : List ℕ) → Rises low ns → IsStrictlyIncreasing ns
rises_increase low [] h k l = absurd (omega (arith, l))
rises_increase low (n ∷ []) h k l = absurd (omega (arith, l))
rises_increase low (n ∷ m ∷ ns) h zero l = h.1.0
rises_increase low (n ∷ m ∷ ns) h (suc k) l =
    let next : suc (k + 1) ≡ suc k + 1 = omega arith in
    subst (λ (j : ℕ). slice_index (n ∷ m ∷ ns) (suc k) < slice_index (n ∷ m ∷ ns) j) next
    (rises_increase n (m ∷ ns) h.1 k (omega (arith, l)))

-- each number is greater than the one before it
abbrev pub Climbs : List ℕ → Type 0
Climbs [] = ⊤
Climbs (n ∷ ns) = Rises n ns

pub climbs_rest : (n : ℕ) (ns : List ℕ) → Rises n ns → Climbs ns
climbs_rest n [] h = tt
climbs_rest n (m ∷ ns) h = h.1

pub among_climbs : (ms ns : List ℕ) → Among ms ns → Climbs ns → Climbs ms
among_climbs _ _ none k = tt
among_climbs _ _ (skip n ms ns h) k = among_climbs ms ns h (climbs_rest n ns k)
among_climbs _ _ (keep n ms ns h) k = among_rises n ms ns h k

increase_rises : (n : ℕ) (ns : List ℕ) → IsStrictlyIncreasing (n ∷ ns) → Rises n ns
increase_rises n [] h = tt
increase_rises n (m ∷ ns) h =
    (h 0 (omega arith), increase_rises m ns later)
  where
    later : IsStrictlyIncreasing (m ∷ ns)
    later k l =
        let next : suc k + 1 ≡ suc (k + 1) = omega arith in
        subst (λ (j : ℕ). slice_index (n ∷ m ∷ ns) (suc k) < slice_index (n ∷ m ∷ ns) j) next
        (h (suc k) (omega (arith, l)))

pub increase_climbs : (ns : List ℕ) → IsStrictlyIncreasing ns → Climbs ns
increase_climbs [] h = tt
increase_climbs (n ∷ ns) h = increase_rises n ns h
