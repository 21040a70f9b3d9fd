-- The references that are written, as a layout keeps them.
use Rattle.std.specs.Prelude.{◌≡◌, ℕ, List, Bool, Some, slice_get, Contains}
use Rattle.resolver.specs.Resolved.{Reference}
use Rattle.table_layout.specs.Finding.{number_of}
use Rattle.table_layout.specs.Layouts.{Table, Layout}

-- a table of that name in that topic has a column of that name, which refers to the table of the
-- topic that has the written name
pub record HasReferenceTo (l : Layout) (topic : ℕ) (table name : List ℕ) (optional : Bool)
    (written : List ℕ) : Type 0 where
  pub number : ℕ
  pub target : ℕ
  pub owner : Table
  pub found : number_of l topic table ≡ Some number
  pub there : slice_get l.tables number ≡ Some owner
  pub named : number_of l topic written ≡ Some target
  pub column : Contains owner.columns
      (record { name = name; optional = optional; form = Reference target })
