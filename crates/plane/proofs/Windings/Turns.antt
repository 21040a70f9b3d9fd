-- How often three arrows go round a place, from the three sides of the place and the leads of the
-- corners.
use Rattle.std.proofs.Common.{◌≡◌, Bool, true, false, cond, ℤ, pos, negsuc, ◌+ℤ◌, ◌*ℤ◌, ◌-ℤ◌, ◌<ℤ◌}
use Rattle.std.proofs.Common.{◌≤ℤ◌, ◌⊎◌, inl, inr, [], ◌∷◌, refl, arith, ap, sym, ◌∙◌, subst}
use Rattle.std.proofs.lemmas.Int.{ints, by_lt_z}
use Rattle.plane.specs.Faces.Cells.{is_positive}
use Rattle.plane.specs.Tubes.Windings.{turned}
use Rattle.plane.proofs.Algebra.Laws.{product_positive, product_nonnegative, product_comm}
use Rattle.plane.proofs.Algebra.Scaling.{cancel_zero, product_negative}
use Rattle.plane.proofs.Strips.CountBelow.{positive_is, not_positive}
use Rattle.plane.proofs.Algebra.Ring.{at, num, minus, times, vars, ring}

-- ---- the values of a turn
pub right_one : (s : ℤ) → pos 0 <ℤ s → turned false true s ≡ pos 1
right_one s h = ap (λ (t : Bool). cond t (pos 1) (pos 0)) (positive_is s h)

pub right_none : (s : ℤ) → s ≤ℤ pos 0 → turned false true s ≡ pos 0
right_none s h = ap (λ (t : Bool). cond t (pos 1) (pos 0)) (not_positive s h)

left_one : (s : ℤ) → s <ℤ pos 0 → turned true false s ≡ negsuc 0
left_one s h =
    ap (λ (t : Bool). cond t (negsuc 0) (pos 0)) (positive_is (pos 0 -ℤ s) (omega (arith, ints)))

left_none : (s : ℤ) → pos 0 ≤ℤ s → turned true false s ≡ pos 0
left_none s h =
    ap (λ (t : Bool). cond t (negsuc 0) (pos 0)) (not_positive (pos 0 -ℤ s) (omega (arith, ints)))

pub turned_back : (s t : Bool) (a b : ℤ) → b ≡ pos 0 -ℤ a → turned t s b ≡ pos 0 -ℤ turned s t a
turned_back false true a b h = by_lt_z (pos 0) a
    (λ (l : pos 0 <ℤ a). let x = right_one a l in let y = left_one b (omega (arith, ints, h)) in
    omega (arith, ints, x, y))
    (λ (l : a ≤ℤ pos 0). let x = right_none a l in let y = left_none b (omega (arith, ints, h)) in
    omega (arith, ints, x, y))
turned_back true false a b h = by_lt_z a (pos 0)
    (λ (l : a <ℤ pos 0). let x = left_one a l in let y = right_one b (omega (arith, ints, h)) in
    omega (arith, ints, x, y))
    (λ (l : pos 0 ≤ℤ a). let x = left_none a l in let y = right_none b (omega (arith, ints, h)) in
    omega (arith, ints, x, y))
turned_back true true a b h = refl
turned_back false false a b h = refl

-- ---- three sides A, B, C of a triangle and the leads a, b, c of its corners
pub record IsBalanced (A B C a b c : ℤ) : Type 0 where
  pub sides : pos 0 <ℤ ((A +ℤ B) +ℤ C)
  pub leads : ((B *ℤ a) +ℤ (C *ℤ b)) +ℤ (A *ℤ c) ≡ pos 0

balanced_next : (A B C a b c : ℤ) → IsBalanced A B C a b c → IsBalanced B C A b c a
balanced_next A B C a b c h =
    let s = h.sides in
    let l = h.leads in record { sides = omega (arith, ints, s); leads = omega (arith, ints, l) }

abbrev pub NotNegative : ℤ → ℤ → ℤ → Type 0
NotNegative A B C = (pos 0 ≤ℤ A) × (pos 0 ≤ℤ B) × (pos 0 ≤ℤ C)

abbrev pub OnceOrNot : ℤ → ℤ → ℤ → ℤ → Type 0
OnceOrNot n A B C = (n ≡ pos 0) ⊎ ((n ≡ pos 1) × NotNegative A B C)

once_next : (n A B C : ℤ) → OnceOrNot n B C A → OnceOrNot n A B C
once_next n A B C (inl h) = inl h
once_next n A B C (inr h) = inr (h.0, (h.1.2, h.1.0, h.1.1))

product_lower : (x y : ℤ) → x ≤ℤ pos 0 → y ≤ℤ pos 0 → pos 0 ≤ℤ (x *ℤ y)
product_lower x y h k =
    let p = product_nonnegative (pos 0 -ℤ x) (pos 0 -ℤ y) (omega (arith, ints, h))
    (omega (arith, ints, k)) in
    let e = ring (times (minus (num (pos 0)) (at 0)) (minus (num (pos 0)) (at 1)))
    (times (at 0) (at 1)) (vars (x ∷ y ∷ [])) refl in
    omega (arith, ints, p, e)

product_mixed : (x y : ℤ) → x ≤ℤ pos 0 → pos 0 ≤ℤ y → (x *ℤ y) ≤ℤ pos 0
product_mixed x y h k =
    let p = product_nonnegative (pos 0 -ℤ x) y (omega (arith, ints, h)) k in
    let e = ring (times (minus (num (pos 0)) (at 0)) (at 1))
    (minus (num (pos 0)) (times (at 0) (at 1))) (vars (x ∷ y ∷ [])) refl in
    omega (arith, ints, p, e)

product_below : (x y : ℤ) → x <ℤ pos 0 → pos 0 <ℤ y → (x *ℤ y) <ℤ pos 0
product_below x y h k =
    let p = product_negative y x k h in let c = product_comm y x in omega (arith, ints, p, c)

-- the first corner alone is reached
first_alone : (A B C a b c n : ℤ) → IsBalanced A B C a b c → a ≤ℤ pos 0 → pos 0 <ℤ b → pos 0 <ℤ c
    → n ≡ (turned false true A +ℤ pos 0) +ℤ turned true false C → OnceOrNot n A B C
first_alone A B C a b c n h ha hb hc e =
    let s = h.sides in
    let l = h.leads in
    by_lt_z (pos 0) A
    (λ (pA : pos 0 <ℤ A). let x = right_one A pA in by_lt_z C (pos 0)
    (λ (nC : C <ℤ pos 0). let y = left_one C nC in inl (omega (arith, ints, e, x, y)))
    (λ (pC : pos 0 ≤ℤ C). let y = left_none C pC in inr (
      omega (arith, ints, e, x, y),
      (
        omega (arith, ints, pA),
        by_lt_z B (pos 0)
            (λ (nB : B <ℤ pos 0).
            let p = product_lower B a (omega (arith, ints, nB)) ha in
            let q = product_nonnegative C b pC (omega (arith, ints, hb)) in
            let r = product_positive A c pA hc in
            absurd (omega (arith, ints, p, q, r, l)))
            (λ pB. pB),
        pC,
      ),
    )))
    (λ (nA : A ≤ℤ pos 0). let x = right_none A nA in by_lt_z C (pos 0)
    (λ (nC : C <ℤ pos 0).
    let q = product_below C b nC hb in
    let r = product_mixed A c nA (omega (arith, ints, hc)) in
    by_lt_z B (pos 0)
    (λ (nB : B <ℤ pos 0). absurd (omega (arith, ints, s, nA, nB, nC)))
    (λ (pB : pos 0 ≤ℤ B). let p = product_mixed a B ha pB in let k = product_comm a B in
    absurd (omega (arith, ints, p, q, r, l, k))))
    (λ (pC : pos 0 ≤ℤ C). let y = left_none C pC in inl (omega (arith, ints, e, x, y))))

-- the first two corners are reached
first_two : (A B C a b c n : ℤ) → IsBalanced A B C a b c → a ≤ℤ pos 0 → b ≤ℤ pos 0 → pos 0 <ℤ c
    → n ≡ (pos 0 +ℤ turned false true B) +ℤ turned true false C → OnceOrNot n A B C
first_two A B C a b c n h ha hb hc e =
    let s = h.sides in
    let l = h.leads in
    by_lt_z (pos 0) B
    (λ (pB : pos 0 <ℤ B). let x = right_one B pB in by_lt_z C (pos 0)
    (λ (nC : C <ℤ pos 0). let y = left_one C nC in inl (omega (arith, ints, e, x, y)))
    (λ (pC : pos 0 ≤ℤ C). let y = left_none C pC in inr (
      omega (arith, ints, e, x, y),
      (
        by_lt_z A (pos 0)
            (λ (nA : A <ℤ pos 0).
            let p = product_mixed a B ha (omega (arith, ints, pB)) in
            let k = product_comm a B in
            let q = product_mixed b C hb pC in
            let j = product_comm b C in
            let r = product_below A c nA hc in
            absurd (omega (arith, ints, p, q, r, l, k, j)))
            (λ pA. pA),
        omega (arith, ints, pB),
        pC,
      ),
    )))
    (λ (nB : B ≤ℤ pos 0). let x = right_none B nB in by_lt_z C (pos 0)
    (λ (nC : C <ℤ pos 0).
    let p = product_lower B a nB ha in
    let q = product_lower C b (omega (arith, ints, nC)) hb in
    by_lt_z (pos 0) A
    (λ (pA : pos 0 <ℤ A). let r = product_positive A c pA hc in
    absurd (omega (arith, ints, p, q, r, l)))
    (λ (nA : A ≤ℤ pos 0). absurd (omega (arith, ints, s, nA, nB, nC))))
    (λ (pC : pos 0 ≤ℤ C). let y = left_none C pC in inl (omega (arith, ints, e, x, y))))

abbrev pub IsTest : Bool → ℤ → Type 0
IsTest true x = pos 0 <ℤ x
IsTest false x = x ≤ℤ pos 0

pub is_test : (x : ℤ) → IsTest (is_positive x) x
is_test x = by_lt_z (pos 0) x
    (λ (l : pos 0 <ℤ x). subst (λ (t : Bool). IsTest t x) (sym (positive_is x l)) l)
    (λ (l : x ≤ℤ pos 0). subst (λ (t : Bool). IsTest t x) (sym (not_positive x l)) l)

abbrev pub three : Bool → Bool → Bool → ℤ → ℤ → ℤ → ℤ
three s t u A B C = (turned s t A +ℤ turned t u B) +ℤ turned u s C

pub once_by : (s t u : Bool) (A B C a b c n : ℤ) → IsBalanced A B C a b c → IsTest s a → IsTest t b
    → IsTest u c → n ≡ three s t u A B C → OnceOrNot n A B C
once_by true true true A B C a b c n h ha hb hc e = inl (omega (arith, ints, e))
once_by false false false A B C a b c n h ha hb hc e = inl (omega (arith, ints, e))
once_by false true true A B C a b c n h ha hb hc e = first_alone A B C a b c n h ha hb hc e
once_by true false true A B C a b c n h ha hb hc e =
    once_next n A B C
    (first_alone B C A b c a n (balanced_next A B C a b c h) hb hc ha (omega (arith, ints, e)))
once_by true true false A B C a b c n h ha hb hc e =
    once_next n A B C
    (once_next n B C A
    (first_alone C A B c a b n (balanced_next B C A b c a (balanced_next A B C a b c h)) hc ha
    hb (omega (arith, ints, e))))
once_by false false true A B C a b c n h ha hb hc e = first_two A B C a b c n h ha hb hc e
once_by true false false A B C a b c n h ha hb hc e =
    once_next n A B C
    (first_two B C A b c a n (balanced_next A B C a b c h) hb hc ha (omega (arith, ints, e)))
once_by false true false A B C a b c n h ha hb hc e =
    once_next n A B C
    (once_next n B C A
    (first_two C A B c a b n (balanced_next B C A b c a (balanced_next A B C a b c h)) hc ha hb
    (omega (arith, ints, e))))

-- strictly within all three sides
pub full_by : (s t u : Bool) (A B C a b c n : ℤ) → IsBalanced A B C a b c → pos 0 <ℤ A → pos 0 <ℤ B
    → pos 0 <ℤ C → (a ≡ b → ⊥)
    → IsTest s a → IsTest t b → IsTest u c → n ≡ three s t u A B C → n ≡ pos 1
full_by s t u A B C a b c n h pA pB pC steep = go s t u
  where
    rA : turned false true A ≡ pos 1
    rA = right_one A pA

    rB : turned false true B ≡ pos 1
    rB = right_one B pB

    rC : turned false true C ≡ pos 1
    rC = right_one C pC

    lA : turned true false A ≡ pos 0
    lA = left_none A (omega (arith, ints, pA))

    lB : turned true false B ≡ pos 0
    lB = left_none B (omega (arith, ints, pB))

    lC : turned true false C ≡ pos 0
    lC = left_none C (omega (arith, ints, pC))

    go : (s t u : Bool) → IsTest s a → IsTest t b → IsTest u c → n ≡ three s t u A B C → n ≡ pos 1
    go true true true ha hb hc e =
        let l = h.leads in
        let p = product_positive B a pB ha in
        let q = product_positive C b pC hb in
        let r = product_positive A c pA hc in
        absurd (omega (arith, ints, l, p, q, r))
    go false false false ha hb hc e =
        let l = h.leads in
        let p = product_mixed a B ha (omega (arith, ints, pB)) in
        let q = product_mixed b C hb (omega (arith, ints, pC)) in
        let r = product_mixed c A hc (omega (arith, ints, pA)) in
        let i = product_comm a B in
        let j = product_comm b C in
        let k = product_comm c A in
        let x = cancel_zero B a pB (omega (arith, ints, l, p, q, r, i, j, k)) in
        let y = cancel_zero C b pC (omega (arith, ints, l, p, q, r, i, j, k)) in
        absurd (steep (x ∙ sym y))
    go false true true ha hb hc e = omega (arith, ints, e, rA, lC)
    go true false true ha hb hc e = omega (arith, ints, e, lA, rB)
    go true true false ha hb hc e = omega (arith, ints, e, lB, rC)
    go false false true ha hb hc e = omega (arith, ints, e, rB, lC)
    go true false false ha hb hc e = omega (arith, ints, e, lA, rC)
    go false true false ha hb hc e = omega (arith, ints, e, rA, lB)

-- on the first side, which goes against the sweep
pub edge_by : (s t u : Bool) (A B C a b c n : ℤ) → A ≡ pos 0 → pos 0 <ℤ B → pos 0 <ℤ C → pos 0 <ℤ a
    → b ≤ℤ pos 0
    → IsTest s a → IsTest t b → IsTest u c → n ≡ three s t u A B C → n ≡ pos 1
edge_by true false true A B C a b c n z pB pC la lb ha hb hc e =
    let x = left_none A (omega (arith, ints, z)) in
    let y = right_one B pB in omega (arith, ints, e, x, y)
edge_by true false false A B C a b c n z pB pC la lb ha hb hc e =
    let x = left_none A (omega (arith, ints, z)) in
    let y = right_one C pC in omega (arith, ints, e, x, y)
edge_by true true u A B C a b c n z pB pC la lb ha hb hc e = absurd (omega (arith, ints, lb, hb))
edge_by false t u A B C a b c n z pB pC la lb ha hb hc e = absurd (omega (arith, ints, la, ha))
