-- What joins half-edges, without the cells: those across from each, and those at the border.
use Rattle.std.specs.Prelude.{◌↔◌, ℕ, zero, suc, ◌^◌, ◌/◌, ◌%◌, ◌<◌, Option, Some, None, ⊤}
use Rattle.std.specs.Prelude.{List, [], ◌∷◌, ◌++◌, length, map}
use Rattle.half_edges.specs.HalfEdges.{over_of, under_of}
use Rattle.line_sweep.specs.declared.kinds.Cell.{Cell}
use Rattle.plane.specs.Lists.{Has}
use Rattle.plane.specs.Runs.Gaps.{Gap}
use Rattle.faces.specs.declared.joins.Joins.{Joins}
use Rattle.faces.specs.declared.partners.Partners.{Partners}
use Rattle.faces.specs.Joined.{AreKnown, AtBorder}
use Rattle.faces.specs.Rows.{ArePartners, row_of}

-- The list holds exactly the half-edges at the border.
abbrev pub IsBorder : List Gap → List ℕ → Type 0
IsBorder cells border = (h : ℕ) → Has h border ↔ AtBorder cells h

-- Of n half-edges, among which are those of the cells: each has the row of those across a cell from
-- it, and the list holds those at the border.
pub record AreJoins (n : ℕ) (cells : List Gap) (j : Joins) : Type 0 where
  pub known : AreKnown n cells
  pub rows : ArePartners n cells j.partners
  pub border : IsBorder cells j.border.items

-- ---- cells that are joined alike
-- A cell between edge e and that of the half-edge g.
abbrev pub cell_over : ℕ → ℕ → Gap
cell_over e g = record { lower = Some e; upper = Some (g / 2); event = 0 }

-- The cells over the first n edges, by the rows.
abbrev pub cells_over : Partners → ℕ → List Gap
cells_over p zero = []
cells_over p (suc e) = map (cell_over e) (row_of p (over_of e)) ++ cells_over p e

-- The cell at the border that has this half-edge: of an edge, by the rest of the number.
abbrev pub cell_beside : ℕ → ℕ → Gap
cell_beside zero e = record { lower = None; upper = Some e; event = 0 }
cell_beside (suc n) e = record { lower = Some e; upper = None; event = 0 }

abbrev pub border_cell : ℕ → Gap
border_cell h = cell_beside (h % 2) (h / 2)

-- Cells that join half-edges as these do: one for each two that are across from each other, and one
-- for each at the border.
abbrev pub cells_of : Joins → List Gap
cells_of j =
    cells_over j.partners (length j.partners.first.items / 2) ++ map border_cell j.border.items

-- ---- what the code takes of each cell
-- The half-edge of a cell at the border, by the edges below and above.
abbrev pub border_half : Option ℕ → Option ℕ → List ℕ
border_half None None = []
border_half None (Some e) = under_of e ∷ []
border_half (Some d) None = over_of d ∷ []
border_half (Some d) (Some e) = []

abbrev pub border_halves : Gap → List ℕ
border_halves c = border_half c.lower c.upper

-- The edge has a number whose half-edges have numbers below 2 ^ 32.
abbrev pub IsSmall : Option ℕ → Type 0
IsSmall None = ⊤
IsSmall (Some e) = e < 2 ^ 31

abbrev pub IsSmallCell : Cell → Type 0
IsSmallCell c = IsSmall c.lower × IsSmall c.upper
