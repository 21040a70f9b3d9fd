-- Notes that are read in pairs.
use Rattle.std.proofs.Common.{◌≡◌, List, [], ◌∷◌, ◌++◌, ◌/◌, length, refl, sym, ap, arith}
use Rattle.std.specs.List.{AllByRecursion}
use Rattle.certificate.specs.declared.notes.HalfNote.{HalfNote}
use Rattle.certificate.specs.Spelling.{pairs, ArePaired, FitsHalf, FitsEdge}

pub all_more : {X : Type 0} (P : X → Type 0) (xs : List X) (x : X) → AllByRecursion P xs → P x
    → AllByRecursion P (xs ++ (x ∷ []))
all_more P [] x h k = (k, tt)
all_more P (y ∷ xs) x h k = (h.0, all_more P xs x h.1 k)

pub pairs_more : (notes : List HalfNote) (below above : HalfNote) → ArePaired notes
    → pairs ((notes ++ (below ∷ [])) ++ (above ∷ [])) ≡ pairs notes ++ (below, above) ∷ []
pairs_more [] below above h = refl
pairs_more (a ∷ []) below above h = absurd h
pairs_more (a ∷ b ∷ notes) below above h =
    ap (λ (es : List (HalfNote × HalfNote)). (a, b) ∷ es) (pairs_more notes below above h)

pub paired_more : (notes : List HalfNote) (below above : HalfNote) → ArePaired notes
    → ArePaired ((notes ++ (below ∷ [])) ++ (above ∷ []))
paired_more [] below above h = tt
paired_more (a ∷ []) below above h = absurd h
paired_more (a ∷ b ∷ notes) below above h = paired_more notes below above h

pub pairs_fit : (notes : List HalfNote) → AllByRecursion FitsHalf notes
    → AllByRecursion FitsEdge (pairs notes)
pairs_fit [] h = tt
pairs_fit (a ∷ []) h = tt
pairs_fit (a ∷ b ∷ notes) h = ((h.0, h.1.0), pairs_fit notes h.1.1)

pub length_pairs : (notes : List HalfNote) → length (pairs notes) ≡ length notes / 2
length_pairs [] = omega arith
length_pairs (a ∷ []) = omega arith
length_pairs (a ∷ b ∷ notes) = omega (arith, length_pairs notes)

apart : (x : HalfNote × HalfNote) (xs : List (HalfNote × HalfNote))
    → (let none : List (HalfNote × HalfNote) = [] in none) ≡ x ∷ xs → ⊥
apart x xs e = absurd (cc)

tails : {X : Type 0} (x y : X) (xs ys : List X) → x ∷ xs ≡ y ∷ ys → (x ≡ y) × (xs ≡ ys)
tails x y xs ys e = (cc, cc)

pub one_pairing : (a b : List HalfNote) → ArePaired a → ArePaired b → pairs a ≡ pairs b → a ≡ b
one_pairing [] [] h k e = refl
one_pairing [] (c ∷ []) h k e = absurd k
one_pairing [] (c ∷ d ∷ b) h k e = absurd (apart (c, d) (pairs b) e)
one_pairing (x ∷ []) b h k e = absurd h
one_pairing (x ∷ y ∷ a) [] h k e = absurd (apart (x, y) (pairs a) (sym e))
one_pairing (x ∷ y ∷ a) (c ∷ []) h k e = absurd k
one_pairing (x ∷ y ∷ a) (c ∷ d ∷ b) h k e =
    let t = tails (x, y) (c, d) (pairs a) (pairs b) e in
    let rest = one_pairing a b h k t.1 in
    cc (ap (λ (p : HalfNote × HalfNote). p.0) t.0, ap (λ (p : HalfNote × HalfNote). p.1) t.0, rest)
