-- Cells and their gaps, one by one, and what is so of each element up to an index.
use Rattle.std.proofs.Common.{◌≡◌, ℕ, zero, suc, ◌+◌, ◌<◌, ◌≤◌, inl, inr, None, List, [], ◌∷◌}
use Rattle.std.proofs.Common.{length, get_or, refl, arith, ap, sym, ◌∙◌, subst}
use Rattle.straight_predicates.proofs.Orders.{by_lt}
use Rattle.plane.specs.Runs.Gaps.{Gap}
use Rattle.plane.specs.Lists.{Has}
use Rattle.line_sweep.specs.declared.kinds.Cell.{Cell}
use Rattle.line_sweep.specs.Kinds.{gap_of, gaps_of}

abbrev pub no_cell : Cell
no_cell = record { lower = None; upper = None; event = 0 }

pub has_gap : (g : Gap) (cells : List Cell) → Has g (gaps_of cells)
    → (k : ℕ) × (k < length cells) × (gap_of (get_or cells k no_cell) ≡ g)
has_gap g [] h = absurd h
has_gap g (c ∷ cells) (inl e) = (0, omega arith, sym e)
has_gap g (c ∷ cells) (inr h) = let (k, l, e) = has_gap g cells h in (suc k, omega (arith, l), e)

same_cell : {X : Type 0} (cells : List X) (i : ℕ) (b d : X) → i < length cells
    → get_or cells i b ≡ get_or cells i d
same_cell [] i b d l = absurd (omega (arith, l))
same_cell (c ∷ cells) zero b d l = refl
same_cell (c ∷ cells) (suc i) b d l = same_cell cells i b d (omega (arith, l))

-- a cell that a loop takes
pub item_is : (cells : List Cell) (i : ℕ) (c : Cell) → c ≡ get_or cells i c → i < length cells
    → c ≡ get_or cells i no_cell
item_is cells i c e l = e ∙ same_cell cells i c no_cell l

pub one_more : {X : Type 0} (P : X → Type 0) (cells : List X) (i : ℕ) (b : X) → i < length cells
    → ((k : ℕ) (d : X) → k < i → P (get_or cells k d)) → P (get_or cells i b) → (k : ℕ) (d : X)
    → k < i + 1 → P (get_or cells k d)
one_more P cells i b l f p k d m =
    by_lt k i (λ (n : k < i). f k d n)
    (λ (n : i ≤ k). subst P (same_cell cells i b d l
    ∙ ap (λ (j : ℕ). get_or cells j d) (last k i m n)) p)
  where
    last : (k i : ℕ) → k < i + 1 → i ≤ k → i ≡ k
    last k i m n = omega (arith, m, n)
