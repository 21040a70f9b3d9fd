-- Links to the first half-edge whose rank is one less.
use Rattle.std.proofs.Common.{◌≡◌, ℕ, zero, suc, ◌+◌, ◌-◌, ◌^◌, ◌<◌, ◌≤◌, min, ◌⊎◌, inl, inr, List}
use Rattle.std.proofs.Common.{[], ◌∷◌, ◌++◌, length, get_or, refl, arith, ap, sym, ◌∙◌, subst}
use Rattle.std.proofs.lemmas.List.{length-append}
use Rattle.plane.specs.Lists.{Has}
use Rattle.plane.specs.Runs.Gaps.{Gap}
use Rattle.half_edges.specs.HalfEdges.{HalfEdges, size, next_of, prev_of}
use Rattle.half_edges.specs.Meshes.{IsMesh}
use Rattle.certificate.specs.declared.notes.HalfNote.{HalfNote}
use Rattle.certificate.specs.declared.notes.Link.TheVariants as link
use Rattle.faces.specs.declared.partners.Partners.{Partners}
use Rattle.faces.specs.Joined.{Across, AreKnown}
use Rattle.faces.specs.Ranking.{AreRanks, HasRank, IsBefore, IsLink, IsNote, no_note}
use Rattle.faces.specs.Rows.{ArePartners, row_of}
use Rattle.faces.proofs.PairCounts.{by_lt}
use Rattle.faces.proofs.PairRows.{place_of}
use Rattle.faces.proofs.PlaneLaws.{has_at}
use Rattle.faces.proofs.Searches.{near_within}

-- ---- the least of a row
module _ (ranks row : List ℕ) (rank k least new g : ℕ) (l : k < length row)
    (at : g ≡ get_or row k 0) (all : (i : ℕ) → i < k → get_or ranks (get_or row i 0) 0 ≡ rank
    → least ≤ get_or row i 0) (is : (least ≡ 2 ^ 32 - 1) ⊎ HasRank ranks row rank least) where
  pub least_put : get_or ranks g 0 ≡ rank → new ≡ min least g
      → ((i : ℕ) → i < k + 1 → get_or ranks (get_or row i 0) 0 ≡ rank → new ≤ get_or row i 0)
      × ((new ≡ 2 ^ 32 - 1) ⊎ HasRank ranks row rank new)
  least_put e m = (
    (λ i b q. by_lt i k
        (λ (c : i < k). let z = all i c q in omega (arith, z, m))
        (λ (c : k ≤ i). let w : k ≡ i = omega (arith, b, c) in
        subst (λ (j : ℕ). new ≤ get_or row j 0) w (omega (arith, at, m)))),
    by_lt least g
        (λ (c : least < g). let w : new ≡ least = omega (arith, m, c) in
        subst (λ (j : ℕ). (j ≡ 2 ^ 32 - 1) ⊎ HasRank ranks row rank j) (sym w) is)
        (λ (c : g ≤ least). let w : new ≡ g = omega (arith, m, c) in
        inr (subst (λ (j : ℕ). HasRank ranks row rank j) (sym w)
        (subst (λ (j : ℕ). Has j row) (sym at) (has_at row k 0 l), e))),
  )

  pub least_skip : (get_or ranks g 0 ≡ rank → ⊥) → new ≡ least
      → ((i : ℕ) → i < k + 1 → get_or ranks (get_or row i 0) 0 ≡ rank → new ≤ get_or row i 0)
      × ((new ≡ 2 ^ 32 - 1) ⊎ HasRank ranks row rank new)
  least_skip n m = (
    (λ i b q. by_lt i k
        (λ (c : i < k). let z = all i c q in omega (arith, z, m))
        (λ (c : k ≤ i). let w : k ≡ i = omega (arith, b, c) in
        absurd (n (ap (λ (j : ℕ). get_or ranks j 0) (at ∙ ap (λ (j : ℕ). get_or row j 0) w)
        ∙ q)))),
    subst (λ (j : ℕ). (j ≡ 2 ^ 32 - 1) ⊎ HasRank ranks row rank j) (sym m) is,
  )

-- ---- the link across a cell
module _ (mesh : HalfEdges) (cells : List Gap) (is : IsMesh mesh)
    (known : AreKnown (size mesh) cells) (p : Partners) (rows : ArePartners (size mesh) cells p)
    (roots ranks : List ℕ) (are : AreRanks mesh cells roots ranks) (h : ℕ) (l : h < size mesh)
    (row : List ℕ) (e : row ≡ row_of p h) where
  pub row_within : (i : ℕ) → i < length row → get_or row i 0 < length ranks
  row_within i b =
      let a = (rows.rows h (get_or row i 0) l).0
      (subst (λ (xs : List ℕ). Has (get_or row i 0) xs) e (has_at row i 0 b)) in
      let w = near_within mesh cells is known h (get_or row i 0) l (inr (inr a)) in
      let z = are.sized in
      omega (arith, w, z)

  module _ (rank next prev least : ℕ) (r : rank ≡ get_or ranks h 0) (some : rank ≡ 0 → ⊥)
      (en : next ≡ get_or ranks (next_of mesh h) 0) (no_next : next ≡ rank - 1 → ⊥)
      (ep : prev ≡ get_or ranks (prev_of mesh h) 0) (no_prev : prev ≡ rank - 1 → ⊥)
      (all : (i : ℕ) → i < length row → get_or ranks (get_or row i 0) 0 ≡ rank - 1
      → least ≤ get_or row i 0) (found : (least ≡ 2 ^ 32 - 1)
      ⊎ HasRank ranks row (rank - 1) least) where
    one_less : get_or ranks h 0 ≡ suc (rank - 1)
    one_less = by_rank rank r some
      where
        by_rank : (n : ℕ) → n ≡ get_or ranks h 0 → (n ≡ 0 → ⊥) → get_or ranks h 0 ≡ suc (n - 1)
        by_rank zero q f = absurd (f refl)
        by_rank (suc n) q f = omega (arith, q)

    before_is : (g : ℕ) → IsBefore ranks h g → get_or ranks g 0 ≡ rank - 1
    before_is g b = let o = one_less in omega (arith, b, o)

    across_least : (g : ℕ) → Across cells h g → get_or ranks g 0 ≡ rank - 1 → least ≤ g
    across_least g a q =
        let (i, b, w) = place_of g row
        (subst (λ (xs : List ℕ). Has g xs) (sym e) ((rows.rows h g l).1 a)) in
        let z = all i b (ap (λ (j : ℕ). get_or ranks j 0) w ∙ q) in
        omega (arith, z, w)

    some_across : (g : ℕ) × Across cells h g × (get_or ranks g 0 ≡ rank - 1)
    some_across =
        let (g, n, q) = are.less h (rank - 1) l one_less in
        elim n [
          | inl w ↦ absurd (no_next (en ∙ ap (λ (j : ℕ). get_or ranks j 0) w ∙ q))
          | inr m ↦ elim m [
            | inl w ↦ absurd (no_prev (ep ∙ ap (λ (j : ℕ). get_or ranks j 0) w ∙ q))
            | inr a ↦ (g, a, q)
          ]
        ]

    pub across_link : IsLink mesh cells ranks h (link.Across least)
    across_link = by_found found
      where
        by_found : (least ≡ 2 ^ 32 - 1) ⊎ HasRank ranks row (rank - 1) least
            → IsLink mesh cells ranks h (link.Across least)
        by_found (inl z) =
            let (g, a, q) = some_across in
            let m = across_least g a q in
            let w = near_within mesh cells is known h g l (inr (inr a)) in
            let f = is.few in
            let d = is.pairs in
            absurd (omega (arith, m, w, z, f, d))
        by_found (inr k) = (
          (rows.rows h least l).0 (subst (λ (xs : List ℕ). Has least xs) e k.0),
          (let o = one_less in let q = k.1 in omega (arith, o, q)),
          (λ b. no_next (en ∙ before_is (next_of mesh h) b)),
          (λ b. no_prev (ep ∙ before_is (prev_of mesh h) b)),
          (λ i m a b. let z = across_least i a (before_is i b) in omega (arith, m, z)),
        )

-- ---- one note more
pub notes_next : (mesh : HalfEdges) (cells : List Gap) (ranks : List ℕ) (notes new : List HalfNote)
    (h : ℕ) (note : HalfNote)
    → length notes ≡ h → new ≡ notes ++ note ∷ [] → IsNote mesh cells ranks h note
    → ((g : ℕ) → g < h → IsNote mesh cells ranks g (get_or notes g no_note))
    → (length new ≡ h + 1) × ((g : ℕ) → g < h + 1
    → IsNote mesh cells ranks g (get_or new g no_note))
notes_next mesh cells ranks notes new h note s e n all = (
  (let z = ap length e ∙ length-append notes (note ∷ []) in omega (arith, z, s)),
  (λ g l. subst (λ (xs : List HalfNote). IsNote mesh cells ranks g (get_or xs g no_note)) (sym e)
      (by_lt g h
      (λ (b : g < h). subst (λ (x : HalfNote). IsNote mesh cells ranks g x)
      (sym (front notes g (omega (arith, b, s)))) (all g b))
      (λ (b : h ≤ g). let w : h ≡ g = omega (arith, l, b) in
      subst (λ (i : ℕ). IsNote mesh cells ranks i (get_or (notes ++ note ∷ []) i no_note)) w
      (subst (λ (x : HalfNote). IsNote mesh cells ranks h x) (sym (last notes h s)) n)))),
)
  where
    front : (xs : List HalfNote) (i : ℕ) → i < length xs
        → get_or (xs ++ note ∷ []) i no_note ≡ get_or xs i no_note
    front [] i m = absurd (omega (arith, m))
    front (x ∷ xs) zero m = refl
    front (x ∷ xs) (suc i) m = front xs i (omega (arith, m))

    last : (xs : List HalfNote) (i : ℕ) → length xs ≡ i → get_or (xs ++ note ∷ []) i no_note ≡ note
    last [] zero q = refl
    last [] (suc i) q = absurd (omega (arith, q))
    last (x ∷ xs) zero q = absurd (omega (arith, q))
    last (x ∷ xs) (suc i) q = last xs i (omega (arith, q))
