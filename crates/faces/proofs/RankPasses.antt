-- Ranks of what a half-edge that is passed leads to.
use Rattle.std.proofs.Common.{◌≡◌, ℕ, ◌+◌, ◌<◌, ◌≤◌, inl, inr, List, length, get_or, arith, sym}
use Rattle.std.proofs.Common.{◌∙◌, subst}
use Rattle.plane.specs.Lists.{Has}
use Rattle.plane.specs.Runs.Gaps.{Gap}
use Rattle.half_edges.specs.HalfEdges.{HalfEdges, size, next_of, prev_of}
use Rattle.faces.specs.declared.partners.Partners.{Partners}
use Rattle.faces.specs.Ranking.{HasRankMost}
use Rattle.faces.specs.Rows.{ArePartners, row_of}
use Rattle.faces.specs.Searching.{IsKept, IsNear, unset}
use Rattle.faces.proofs.PairCounts.{by_lt}
use Rattle.faces.proofs.PairRows.{place_of}

pub omega_lt : (a n h : ℕ) → a ≡ n → h < n → h < a
omega_lt a n h e l = omega (arith, e, l)

pub still_most : (most : ℕ) (old new : List ℕ) (h : ℕ) → IsKept old new → HasRankMost old h most
    → HasRankMost new h most
still_most most old new h k m =
    let e = k h m.0 in
    let b = m.1 in ((λ (q : get_or new h 0 ≡ unset). m.0 (sym e ∙ q)), omega (arith, e, b))

pub row_ranked : (most : ℕ) (row : List ℕ) (k : ℕ) (old new : List ℕ) → IsKept old new
    → ((i : ℕ) → i < k → HasRankMost old (get_or row i 0) most)
    → HasRankMost new (get_or row k 0) most
    → (i : ℕ) → i < k + 1 → HasRankMost new (get_or row i 0) most
row_ranked most row k old new kept all here i l = by_lt i k
    (λ (b : i < k). still_most most old new (get_or row i 0) kept (all i b))
    (λ (b : k ≤ i). let e : k ≡ i = omega (arith, l, b) in
    subst (λ (j : ℕ). HasRankMost new (get_or row j 0) most) e here)

pub all_ranked : (mesh : HalfEdges) (cells : List Gap) (p : Partners)
    → ArePartners (size mesh) cells p → (h : ℕ) → h < size mesh
    → (most : ℕ) (ranks row : List ℕ) (k : ℕ) → row ≡ row_of p h → length row ≤ k
    → HasRankMost ranks (next_of mesh h) most → HasRankMost ranks (prev_of mesh h) most
    → ((i : ℕ) → i < k → HasRankMost ranks (get_or row i 0) most) → (g : ℕ)
    → IsNear mesh cells h g → HasRankMost ranks g most
all_ranked mesh cells p a h l most ranks row k e m n q all g (inl w) =
    subst (λ (i : ℕ). HasRankMost ranks i most) w n
all_ranked mesh cells p a h l most ranks row k e m n q all g (inr (inl w)) =
    subst (λ (i : ℕ). HasRankMost ranks i most) w q
all_ranked mesh cells p a h l most ranks row k e m n q all g (inr (inr x)) =
    let (i, b, w) = place_of g row
    (subst (λ (xs : List ℕ). Has g xs) (sym e) ((a.rows h g l).1 x)) in
    subst (λ (j : ℕ). HasRankMost ranks j most) w (all i (omega (arith, b, m)))
