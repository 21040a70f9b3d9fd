-- The half-edges at the border, cell by cell.
use Rattle.std.proofs.Common.{◌≡◌, ◌⊎◌, inl, inr, ℕ, zero, suc, ◌<◌, ◌^◌, ◌↔◌, Option, Some, None}
use Rattle.std.proofs.Common.{List, [], ◌∷◌, length, get_or, refl, sym, subst, arith}
use Rattle.std.specs.List.{flat_map}
use Rattle.plane.specs.Lists.{Has}
use Rattle.plane.specs.Runs.Gaps.{Gap}
use Rattle.line_sweep.specs.declared.kinds.Cell.{Cell}
use Rattle.line_sweep.specs.Kinds.{gap_of, gaps_of}
use Rattle.faces.specs.Joined.{AreKnown, AtBorder, highest, lowest}
use Rattle.faces.specs.Joins.{IsSmall, IsSmallCell, border_half, border_halves}
use Rattle.faces.proofs.FlatLists.{flat_has, has_flat}

has_border : (cells : List Gap) (h : ℕ) → AtBorder cells h → Has h (flat_map border_halves cells)
has_border cells h (lowest e (g, k, p, q) w) =
    has_flat border_halves cells g h k
    (subst (λ (l : Option ℕ). Has h (border_half l g.upper)) (sym p)
    (subst (λ (u : Option ℕ). Has h (border_half None u)) (sym q) (inl w)))
has_border cells h (highest e (g, k, p, q) w) =
    has_flat border_halves cells g h k
    (subst (λ (l : Option ℕ). Has h (border_half l g.upper)) (sym p)
    (subst (λ (u : Option ℕ). Has h (border_half (Some e) u)) (sym q) (inl w)))

of_cell : (cells : List Gap) (h : ℕ) (g : Gap) → Has g cells → (l u : Option ℕ) → g.lower ≡ l
    → g.upper ≡ u → Has h (border_half l u) → AtBorder cells h
of_cell cells h g k None None p q w = absurd w
of_cell cells h g k None (Some e) p q (inl w) = lowest e (g, k, p, q) w
of_cell cells h g k None (Some e) p q (inr w) = absurd w
of_cell cells h g k (Some d) None p q (inl w) = highest d (g, k, p, q) w
of_cell cells h g k (Some d) None p q (inr w) = absurd w
of_cell cells h g k (Some d) (Some e) p q w = absurd w

-- they are exactly those at the border
pub border_is : (cells : List Gap) (h : ℕ) → Has h (flat_map border_halves cells) ↔ AtBorder cells h
border_is cells h = (
  (λ w. let y = flat_has border_halves cells h w in
      of_cell cells h y.0 y.1 y.0.lower y.0.upper refl refl y.2),
  has_border cells h,
)

-- ---- numbers of edges are small
gap_has : (cells : List Cell) (k : ℕ) (c : Cell) → k < length cells
    → Has (gap_of (get_or cells k c)) (gaps_of cells)
gap_has [] k c l = absurd (omega (arith, l))
gap_has (d ∷ cells) zero c l = inl refl
gap_has (d ∷ cells) (suc k) c l = inr (gap_has cells k c (omega (arith, l)))

small_side : (n : ℕ) (gs : List Gap) → AreKnown n gs → n < 2 ^ 32 → (g : Gap) → Has g gs
    → (o : Option ℕ) → (g.lower ≡ o) ⊎ (g.upper ≡ o) → IsSmall o
small_side n gs known few g h None e = tt
small_side n gs known few g h (Some e) q = let k = known g e h q in omega (arith, k, few)

pub small_cells : (n : ℕ) (cells : List Cell) → AreKnown n (gaps_of cells) → n < 2 ^ 32
    → (k : ℕ) (c : Cell) → k < length cells → IsSmallCell (get_or cells k c)
small_cells n cells known few k c l =
    let h = gap_has cells k c l in
    let g = gap_of (get_or cells k c) in (
      small_side n (gaps_of cells) known few g h (get_or cells k c).lower (inl refl),
      small_side n (gaps_of cells) known few g h (get_or cells k c).upper (inr refl),
    )
