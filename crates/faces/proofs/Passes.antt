-- What a half-edge that is passed leads to: its next and previous ones, and its row.
use Rattle.std.proofs.Common.{◌≡◌, ℕ, ◌+◌, ◌<◌, ◌≤◌, inl, inr, List, length, get_or, arith, ap, sym}
use Rattle.std.proofs.Common.{◌∙◌, subst}
use Rattle.plane.specs.Lists.{Has}
use Rattle.plane.specs.Runs.Gaps.{Gap}
use Rattle.half_edges.specs.HalfEdges.{HalfEdges, size, next_of, prev_of}
use Rattle.faces.specs.declared.partners.Partners.{Partners}
use Rattle.faces.specs.Rows.{ArePartners, IsRow, row_of}
use Rattle.faces.specs.Searching.{IsKept, IsNear, unset}
use Rattle.faces.proofs.PairCounts.{by_lt}
use Rattle.faces.proofs.PairRows.{place_of}
use Rattle.faces.proofs.PlaneLaws.{has_at}

pub row_is : (n : ℕ) (cells : List Gap) (p : Partners) → ArePartners n cells p → (h : ℕ) → h < n
    → IsRow p h
row_is n cells p a h l = record {
  within = (let s = a.size in omega (arith, s, l));
  rises = a.rises h l;
  ends = a.ends h l;
}

pub in_row : (mesh : HalfEdges) (cells : List Gap) (p : Partners) → ArePartners (size mesh) cells p
    → (h : ℕ) → h < size mesh → (row : List ℕ) (i g : ℕ) → row ≡ row_of p h → i < length row
    → g ≡ get_or row i 0 → IsNear mesh cells h g
in_row mesh cells p a h l row i g e m q =
    inr (inr ((a.rows h g l).0
    (subst (λ (xs : List ℕ). Has g xs) e
    (subst (λ (x : ℕ). Has x row) (sym q) (has_at row i 0 m)))))

pub still_faced : (face : ℕ) (old new : List ℕ) (h : ℕ) → IsKept old new → face < unset
    → get_or old h 0 ≡ face → get_or new h 0 ≡ face
still_faced face old new h k f e = k h (λ (q : get_or old h 0 ≡ unset). omega (arith, q, e, f)) ∙ e

pub row_next : (face : ℕ) (row : List ℕ) (k : ℕ) (old new : List ℕ) → IsKept old new → face < unset
    → ((i : ℕ) → i < k → get_or old (get_or row i 0) 0 ≡ face)
    → get_or new (get_or row k 0) 0 ≡ face
    → (i : ℕ) → i < k + 1 → get_or new (get_or row i 0) 0 ≡ face
row_next face row k old new kept f all here i l = by_lt i k
    (λ (b : i < k). still_faced face old new (get_or row i 0) kept f (all i b))
    (λ (b : k ≤ i). let e : k ≡ i = omega (arith, l, b) in
    subst (λ (j : ℕ). get_or new (get_or row j 0) 0 ≡ face) e here)

pub all_near : (mesh : HalfEdges) (cells : List Gap) (p : Partners)
    → ArePartners (size mesh) cells p → (h : ℕ) → h < size mesh
    → (face : ℕ) (faces row : List ℕ) (k : ℕ) → row ≡ row_of p h → length row ≤ k
    → get_or faces (next_of mesh h) 0 ≡ face → get_or faces (prev_of mesh h) 0 ≡ face
    → ((i : ℕ) → i < k → get_or faces (get_or row i 0) 0 ≡ face) → (g : ℕ)
    → IsNear mesh cells h g → get_or faces g 0 ≡ face
all_near mesh cells p a h l face faces row k e m n q all g (inl w) =
    ap (λ (i : ℕ). get_or faces i 0) (sym w) ∙ n
all_near mesh cells p a h l face faces row k e m n q all g (inr (inl w)) =
    ap (λ (i : ℕ). get_or faces i 0) (sym w) ∙ q
all_near mesh cells p a h l face faces row k e m n q all g (inr (inr x)) =
    let (i, b, w) = place_of g row
    (subst (λ (xs : List ℕ). Has g xs) (sym e) ((a.rows h g l).1 x)) in
    ap (λ (j : ℕ). get_or faces j 0) (sym w) ∙ all i (omega (arith, b, m))
