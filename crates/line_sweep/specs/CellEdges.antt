-- The edge below or above a cell.
use Rattle.std.specs.Prelude.{ℕ, zero, suc, ◌-◌, ◌^◌, ◌<◌, Option, Some, None, IfSome}

-- 0 stands for no edge, and each other number for the edge before it.
abbrev pub edge_of_code : ℕ → Option ℕ
edge_of_code zero = None
edge_of_code (suc e) = Some e

abbrev pub code_of : Option ℕ → ℕ
code_of None = zero
code_of (Some e) = suc e

-- None, or the number of an edge that is not the greatest of 32 bits.
abbrev pub IsCellEdge : Option ℕ → Type 0
IsCellEdge o = IfSome o (λ e. e < 2 ^ 32 - 1)
