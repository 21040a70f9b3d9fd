-- What the walks over the points keep.
use Rattle.std.proofs.Common.{◌≡◌, inl, inr, ℕ, ◌<◌, Option, Some, None, List, length, sym, subst}
use Rattle.std.proofs.Common.{ap, ◌∙◌, arith}
use Rattle.std.proofs.lemmas.Bool.{cases_lt}
use Rattle.fault_lists.specs.declared.faces.DrawingFaces.{DrawingFaces}
use Rattle.fault_lists.specs.declared.faces.PointPlace.TheVariants.{InFace}
use Rattle.fault_lists.specs.declared.kinds.PointPair.{PointPair}
use Rattle.fault_lists.specs.DrawingFaces.{face_count}
use Rattle.fault_lists.specs.FaceLists.{ArePair, IsIn}
use Rattle.fault_lists.specs.Telling.{IsFirst, first_of}

-- ---- the least point of each face, among the points below a number
abbrev TellsFirstTo : DrawingFaces → ℕ → ℕ → Option ℕ → Type 0
TellsFirstTo f n m None = (j : ℕ) → j < n → IsIn f j m → ⊥
TellsFirstTo f n m (Some j) = (j < n) × IsFirst f m j

pub record AreFirstTo (f : DrawingFaces) (n : ℕ) (first : List (Option ℕ)) : Type 0 where
  pub size : length first ≡ face_count f
  pub is : (m : ℕ) → m < face_count f → TellsFirstTo f n m (first_of first m)

-- a point is in one face
pub one_face : (f : DrawingFaces) (j m n : ℕ) → IsIn f j m → IsIn f j n → m ≡ n
one_face f j m n h k = let e : InFace m ≡ InFace n = sym h.in_face ∙ k.in_face in cc

-- ---- pairs
abbrev pair : ℕ → ℕ → PointPair
pair i j = record { first = i; second = j }

same_pair : (p q : PointPair) → p.first ≡ q.first → p.second ≡ q.second → p ≡ q
same_pair p q a b = ap (λ (i : ℕ). pair i p.second) a ∙ ap (λ (j : ℕ). pair q.first j) b

first_is_least : (f : DrawingFaces) (p q : PointPair) → ArePair f p → ArePair f q
    → p.second ≡ q.second → p.first < q.first → ⊥
first_is_least f p q h k e l =
    let m : h.n ≡ k.n = one_face f q.second h.n k.n
    (subst (λ j. IsIn f j h.n) e h.second) k.second in
    k.least p.first l (subst (λ n. IsIn f p.first n) m h.first)

-- a point has one pair
pub one_pair : (f : DrawingFaces) (p q : PointPair) → ArePair f p → ArePair f q
    → p.second ≡ q.second → p ≡ q
one_pair f p q h k e = elim (cases_lt p.first q.first) [
  | inl l ↦ absurd (first_is_least f p q h k e l)
  | inr l ↦ elim (cases_lt q.first p.first) [
    | inl m ↦ absurd (first_is_least f q p k h (sym e) m)
    | inr m ↦ same_pair p q (omega (arith, l, m)) e
  ]
]
