-- What stands for the curves of a drawing, one curve after the other.
use Rattle.std.proofs.Common.{◌≡◌, ◌⊎◌, inl, inr, ℕ, suc, ◌+◌, ◌<◌, ◌≤◌, ℤ, List, [], ◌∷◌, ◌++◌}
use Rattle.std.proofs.Common.{length}
use Rattle.std.proofs.Common.{get_or, replicate, append-nil, length-append, refl, arith, ap, sym}
use Rattle.std.proofs.Common.{◌∙◌, subst}
use Rattle.std.proofs.lemmas.Bool.{cases_lt}
use Rattle.std.proofs.lemmas.List.{append_assoc, get_or_append_left}
use Rattle.std.proofs.Math.Seq.{get_or-append_seam}
use Rattle.plane.specs.declared.kinds.Curve.{Curve}
use Rattle.plane.specs.Rule.Plans.{Plan}
use Rattle.forks.specs.Bent.{IsBentOf, StandFor, all_of, numbers_of}
use Rattle.forks.specs.ForkedStraights.{ArePieces}

all_more : (pss : List (List Curve)) (p : List Curve) → all_of (pss ++ p ∷ []) ≡ all_of pss ++ p
all_more [] p = append-nil p
all_more (cs ∷ rest) p = ap (λ (s : List Curve). cs ++ s) (all_more rest p)
    ∙ sym (append_assoc cs (all_of rest) p)

numbers_more : (n : ℕ) (pss : List (List Curve)) (p : List Curve)
    → numbers_of n (pss ++ p ∷ []) ≡ numbers_of n pss ++ replicate (length p) (n + length pss)
numbers_more n [] p = append-nil (replicate (length p) n) ∙ ap (replicate (length p)) (none n)
  where
    none : (n : ℕ) → n ≡ n + 0
    none n = omega arith
numbers_more n (cs ∷ rest) p =
    ap (λ (s : List ℕ). replicate (length cs) n ++ s) (numbers_more (suc n) rest p)
    ∙ sym (append_assoc (replicate (length cs) n) (numbers_of (suc n) rest)
    (replicate (length p) (suc n + length rest)))
    ∙ ap (λ (m : ℕ). (replicate (length cs) n ++ numbers_of (suc n) rest) ++ replicate (length p) m)
    (one_on n (length rest))
  where
    one_on : (n k : ℕ) → suc n + k ≡ n + suc k
    one_on n k = omega arith

pub no_pieces : (t : ℤ) (d : Plan) (cs : List Curve) (os : List ℕ) → cs ≡ [] → os ≡ []
    → ArePieces t d 0 cs os
no_pieces t d cs os e f = record {
  pieces = [];
  count = refl;
  each = λ i l. absurd (omega (arith, l));
  curves = e;
  origins = f;
}

pub one_piece_more : (t : ℤ) (d : Plan) (k : ℕ) (cs p new : List Curve) (os later : List ℕ)
    → ArePieces t d k cs os → StandFor t d k p
    → new ≡ cs ++ p → later ≡ os ++ replicate (length p) k → ArePieces t d (k + 1) new later
one_piece_more t d k cs p new os later a h e f = record {
  pieces = a.pieces ++ p ∷ [];
  count = (let n = length-append a.pieces (p ∷ []) in let c = a.count in omega (arith, n, c));
  each = λ i l. by i l (cases_lt i k);
  curves = e ∙ ap (λ (s : List Curve). s ++ p) a.curves ∙ sym (all_more a.pieces p);
  origins = f ∙ ap (λ (s : List ℕ). s ++ replicate (length p) k) a.origins
      ∙ ap (λ (m : ℕ). numbers_of 0 a.pieces ++ replicate (length p) m) (let c = a.count in
      omega (arith, c)) ∙ sym (numbers_more 0 a.pieces p);
}
  where
    by : (i : ℕ) → i < k + 1 → (i < k) ⊎ (k ≤ i) → StandFor t d i (get_or (a.pieces ++ p ∷ []) i [])
    by i l (inl m) =
        let c = a.count in
        subst (StandFor t d i)
        (sym (get_or_append_left a.pieces (p ∷ []) [] i (omega (arith, m, c)))) (a.each i m)
    by i l (inr m) =
        let c = a.count in
        let s : k ≡ i = omega (arith, l, m) in
        let n : length a.pieces ≡ i = omega (arith, s, c) in
        subst (StandFor t d i)
        (sym (ap (λ (j : ℕ). get_or (a.pieces ++ p ∷ []) j []) (sym n)
        ∙ get_or-append_seam a.pieces p [] []))
        (subst (λ (j : ℕ). StandFor t d j p) s h)

pub bent_of_pieces : (t : ℤ) (d g : Plan) (os : List ℕ)
    → ArePieces t d (length d.curves) g.curves os
    → g.window ≡ d.window → g.points ≡ d.points → IsBentOf t d g os
bent_of_pieces t d g os a w p = record {
  window = w;
  points = p;
  pieces = a.pieces;
  count = a.count;
  each = a.each;
  curves = a.curves;
  origins = a.origins;
}
