-- The origins of a bent drawing's curves rise.
use Rattle.std.proofs.Common.{◌≡◌, ℕ, suc, ◌+◌, ◌-◌, ◌<◌, ◌≤◌, ℤ, List, [], ◌∷◌, ◌++◌, length}
use Rattle.std.proofs.Common.{get_or, replicate, length-append, arith, ap, sym, ◌∙◌, subst}
use Rattle.std.proofs.lemmas.List.{get_or_append_left, get_or-append-add, get_or-replicate}
use Rattle.std.proofs.lemmas.List.{length-replicate}
use Rattle.plane.specs.declared.kinds.Curve.{Curve}
use Rattle.plane.specs.Rule.Plans.{Plan}
use Rattle.forks.specs.Bent.{IsBentOf, numbers_of}
use Rattle.forks.proofs.PlaneLaws.{by_order}

module _ (cs : List Curve) (n : ℕ) (later : List ℕ) where
  abbrev all : List ℕ
  all = replicate (length cs) n ++ later

  size : length all ≡ length cs + length later
  size =
      let a = length-append (replicate (length cs) n) later in
      let r = length-replicate (length cs) n in omega (arith, a, r)

  first : (k : ℕ) → k < length cs → get_or all k 0 ≡ n
  first k l = get_or_append_left (replicate (length cs) n) later 0 k
      (let r = length-replicate (length cs) n in omega (arith, l, r))
      ∙ get_or-replicate (length cs) k n 0 l

  rest : (k : ℕ) → length cs ≤ k → get_or all k 0 ≡ get_or later (k - length cs) 0
  rest k l =
      let r = length-replicate (length cs) n in
      let e : k ≡ length (replicate (length cs) n) + (k - length cs) = omega (arith, l, r) in
      ap (λ (i : ℕ). get_or all i 0) e
      ∙ get_or-append-add (replicate (length cs) n) later (k - length cs) 0

least : (n : ℕ) (pss : List (List Curve)) (k : ℕ) → k < length (numbers_of n pss)
    → n ≤ get_or (numbers_of n pss) k 0
least n [] k l = absurd (omega (arith, l))
least n (cs ∷ pss) k l = by_order k (length cs)
    (λ b. let e = first cs n (numbers_of (suc n) pss) k b in omega (arith, e))
    (λ b.
    let e = rest cs n (numbers_of (suc n) pss) k b in
    let s = size cs n (numbers_of (suc n) pss) in
    let r = least (suc n) pss (k - length cs) (omega (arith, l, s, b)) in
    omega (arith, e, r))

rising : (n : ℕ) (pss : List (List Curve)) (k l : ℕ) → k ≤ l → l < length (numbers_of n pss)
    → get_or (numbers_of n pss) k 0 ≤ get_or (numbers_of n pss) l 0
rising n [] k l h b = absurd (omega (arith, b))
rising n (cs ∷ pss) k l h b = by_order k (length cs)
    (λ c. let e = first cs n (numbers_of (suc n) pss) k c in let m = least n (cs ∷ pss) l b in
    omega (arith, e, m))
    (λ c.
    let e = rest cs n (numbers_of (suc n) pss) k c in
    let f = rest cs n (numbers_of (suc n) pss) l (omega (arith, h, c)) in
    let s = size cs n (numbers_of (suc n) pss) in
    let r = rising (suc n) pss (k - length cs) (l - length cs) (omega (arith, h))
    (omega (arith, b, s, c, h)) in
    omega (arith, e, f, r))

pub origins_rise : (t : ℤ) (d g : Plan) (os : List ℕ) → IsBentOf t d g os → (k l : ℕ) → k ≤ l
    → l < length os → get_or os k 0 ≤ get_or os l 0
origins_rise t d g os b k l h m =
    subst (λ (ns : List ℕ). get_or ns k 0 ≤ get_or ns l 0) (sym b.origins)
    (rising 0 b.pieces k l h (let e = ap length b.origins in omega (arith, m, e)))
