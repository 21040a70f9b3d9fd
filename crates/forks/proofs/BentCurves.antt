-- The curves of a bent drawing by number: each stands for the curve that is its origin.
use Rattle.std.proofs.Common.{◌≡◌, ℕ, suc, ◌+◌, ◌*◌, ◌-◌, ◌<◌, ◌≤◌, Option, None, Some, ℤ, List, []}
use Rattle.std.proofs.Common.{◌∷◌, ◌++◌, length, get_or, replicate, length-append, inl, inr, refl}
use Rattle.std.proofs.Common.{arith, ap, sym, ◌∙◌, subst}
use Rattle.std.proofs.lemmas.List.{get_or_append_left, get_or-append-add, get_or-replicate}
use Rattle.std.proofs.lemmas.List.{length-replicate}
use Rattle.plane.specs.declared.kinds.Curve.{Curve}
use Rattle.plane.specs.declared.kinds.CurveKind.{CurveKind}
use Rattle.plane.specs.declared.kinds.CurveKind.TheVariants as kind
use Rattle.plane.specs.declared.kinds.Point.{Point}
use Rattle.plane.specs.Lists.{Has}
use Rattle.plane.specs.Rule.Plans.{Plan, curve}
use Rattle.forks.specs.Bent.{IsBentOf, IsRun, StandBy, StandForKind, all_of, if_any, numbers_of}
use Rattle.forks.specs.Bent.{parts, straights_from}
use Rattle.forks.proofs.BentParts.{KeepsTo, keeps}
use Rattle.forks.proofs.PlaneLaws.{by_order, has_at, no_curve}

-- ---- lists of lists
pub numbers_size : (n : ℕ) (pss : List (List Curve))
    → length (numbers_of n pss) ≡ length (all_of pss)
numbers_size n [] = refl
numbers_size n (cs ∷ rest) =
    let a = length-append (replicate (length cs) n) (numbers_of (suc n) rest) in
    let b = length-append cs (all_of rest) in
    let c = length-replicate (length cs) n in
    let d = numbers_size (suc n) rest in
    omega (arith, a, b, c, d)

-- Curve k of all is one of list i, and has the number n + i.
pub record IsAmong (n : ℕ) (pss : List (List Curve)) (k : ℕ) (z : Curve) : Type 0 where
  pub index : ℕ
  pub fits : index < length pss
  pub number : get_or (numbers_of n pss) k 0 ≡ n + index
  pub has : Has (get_or (all_of pss) k z) (get_or pss index [])

beyond : (a k : ℕ) → a ≤ k → (j : ℕ) × (k ≡ a + j)
beyond a k l = (k - a, omega (arith, l))

among : (n : ℕ) (pss : List (List Curve)) (k : ℕ) (z : Curve) → k < length (all_of pss)
    → IsAmong n pss k z
among n [] k z l = absurd (omega (arith, l))
among n (cs ∷ rest) k z l = by_order k (length cs)
    (λ (b : k < length cs).
    let r = length-replicate (length cs) n in
    record {
      index = 0;
      fits = omega arith;
      number = get_or_append_left (replicate (length cs) n) (numbers_of (suc n) rest) 0 k
          (omega (arith, b, r)) ∙ get_or-replicate (length cs) k n 0 b ∙ none n;
      has = subst (λ (c : Curve). Has c cs) (sym (get_or_append_left cs (all_of rest) z k b))
          (has_at cs k z b);
    })
    (λ (b : length cs ≤ k). later (beyond (length cs) k b) (λ j m. among (suc n) rest j z m))
  where
    none : (n : ℕ) → n ≡ n + 0
    none n = omega arith

    more : (n i : ℕ) → suc n + i ≡ n + suc i
    more n i = omega arith

    later : (j : ℕ) × (k ≡ length cs + j)
        → ((j : ℕ) → j < length (all_of rest) → IsAmong (suc n) rest j z)
        → IsAmong n (cs ∷ rest) k z
    later (j, e) f =
        let r = length-replicate (length cs) n in
        let m : j < length (all_of rest) = (let a = length-append cs (all_of rest) in
        omega (arith, l, e, a)) in
        let x = f j m in
        let q : k ≡ length (replicate (length cs) n) + j = omega (arith, e, r) in
        record {
          index = suc x.index;
          fits = (let a = x.fits in omega (arith, a));
          number = ap (λ (i : ℕ). get_or (replicate (length cs) n ++ numbers_of (suc n) rest) i 0) q
              ∙ get_or-append-add (replicate (length cs) n) (numbers_of (suc n) rest) j 0 ∙ x.number
              ∙ more n x.index;
          has = subst (λ (c : Curve). Has c (get_or rest x.index []))
              (sym (ap (λ (i : ℕ). get_or (cs ++ all_of rest) i z) e
              ∙ get_or-append-add cs (all_of rest) j z)) x.has;
        }

-- ---- a bent drawing
module _ (t : ℤ) (d g : Plan) (origin : List ℕ) (b : IsBentOf t d g origin) where
  pub sizes : length origin ≡ length g.curves
  sizes = ap length b.origins ∙ numbers_size 0 b.pieces ∙ sym (ap length b.curves)

  abbrev pub of : ℕ → ℕ
  of k = get_or origin k 0

  pub here : (k : ℕ) → k < length g.curves → IsAmong 0 b.pieces k no_curve
  here k l = among 0 b.pieces k no_curve (let a = ap length b.curves in omega (arith, l, a))

  pub number_is : (k : ℕ) (l : k < length g.curves) → of k ≡ (here k l).index
  number_is k l = ap (λ (os : List ℕ). get_or os k 0) b.origins ∙ (here k l).number
      ∙ zero_more (here k l).index
    where
      zero_more : (i : ℕ) → 0 + i ≡ i
      zero_more i = omega arith

  pub there : (k : ℕ) → k < length g.curves → of k < length d.curves
  there k l =
      let a = (here k l).fits in
      let e = number_is k l in
      let c = b.count in
      omega (arith, a, e, c)

  pub keep : (k : ℕ) → k < length g.curves → KeepsTo t d (curve d (of k)) (curve g k)
  keep k l =
      let x = here k l in
      let i = x.index in
      let m : i < length d.curves = (let a = x.fits in let c = b.count in omega (arith, a, c)) in
      let e : get_or (all_of b.pieces) k no_curve
      ≡ curve g k = ap (λ (cs : List Curve). get_or cs k no_curve) (sym b.curves) in
      subst (λ (j : ℕ). KeepsTo t d (curve d j) (curve g k)) (sym (number_is k l))
      (keeps t d i (get_or b.pieces i []) (b.each i m) (curve g k)
      (subst (λ (c : Curve). Has c (get_or b.pieces i [])) e x.has))

-- ---- how many there are
pub straights_size : (p : Point) (line : ℕ) (qs : List Point)
    → length (straights_from p line qs) ≡ length qs
straights_size p line [] = refl
straights_size p line (q ∷ qs) = ap suc (straights_size q line qs)

pub few_parts : (s : Curve) (first last : Option Point) → length (parts s first last) ≤ 3
few_parts s first last =
    let e = straights_size s.from s.line (if_any first ++ (if_any last ++ s.to ∷ [])) in
    let f = few_points first last s.to in omega (arith, e, f)
  where
    few_points : (first last : Option Point) (q : Point)
        → length (if_any first ++ (if_any last ++ q ∷ [])) ≤ 3
    few_points None None q = omega arith
    few_points None (Some b) q = omega arith
    few_points (Some b) None q = omega arith
    few_points (Some b) (Some c) q = omega arith

one_few : (s : Curve) (cs : List Curve) → cs ≡ s ∷ [] → length cs ≤ 3
one_few s cs e = let f = ap length e in omega (arith, f)

run_few : (d : Plan) (s : Curve) (first last : Option Point) (cs : List Curve)
    → IsRun d s first last cs → length cs ≤ 3
run_few d s first last cs (inl (h, e)) = one_few s cs e
run_few d s first last cs (inr (h, e)) =
    let f = ap length e in let m = few_parts s first last in omega (arith, f, m)

stand_few : (d : Plan) (s : Curve) (first last : Option Point) (cs : List Curve)
    → StandBy d s first last cs → length cs ≤ 3
stand_few d s None None cs e = one_few s cs e
stand_few d s None (Some b) cs h = run_few d s None (Some b) cs h
stand_few d s (Some b) last cs h = run_few d s (Some b) last cs h

piece_few : (t : ℤ) (d : Plan) (i : ℕ) (k : CurveKind) (cs : List Curve) → StandForKind k t d i cs
    → length cs ≤ 3
piece_few t d i kind.HalfArc cs e = one_few (curve d i) cs e
piece_few t d i kind.Straight cs h = stand_few d (curve d i) h.first h.last cs h.stand

all_few : (pss : List (List Curve)) → ((i : ℕ) → i < length pss → length (get_or pss i []) ≤ 3)
    → length (all_of pss) ≤ (3 * length pss)
all_few [] f = omega arith
all_few (cs ∷ rest) f =
    let a = f 0 (omega arith) in
    let r = all_few rest (λ i l. f (suc i) (omega (arith, l))) in
    let e = length-append cs (all_of rest) in
    omega (arith, a, r, e)

pub few : (t : ℤ) (d g : Plan) (origin : List ℕ) → IsBentOf t d g origin
    → length g.curves ≤ (3 * length d.curves)
few t d g origin b =
    let c = b.count in
    let m = all_few b.pieces
    (λ i l. piece_few t d i (curve d i).kind (get_or b.pieces i [])
    (b.each i (omega (arith, l, c)))) in
    let e = ap length b.curves in
    omega (arith, m, e, c)
