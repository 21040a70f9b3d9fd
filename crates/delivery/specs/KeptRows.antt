-- What is kept of the rows of a transfer that come one after another: their findings, and what
-- areas are drawn from.
use Rattle.std.specs.Prelude.{ℕ, zero, suc, List, [], ◌∷◌, ◌++◌}
use Rattle.ili_grammar.specs.Syntax.{Codes}
use Rattle.table_layout.specs.Layouts.{Table, Layout}
use Rattle.itf_reader.specs.ClosedRows.{by_table}
use Rattle.itf_reader.specs.Findings.{Finding}
use Rattle.itf_reader.specs.Forms.{Row}
use Rattle.itf_reader.specs.Layouts.{form_of}
use Rattle.itf_reader.specs.RowFindings.{row_findings}
use Rattle.domain_rules.specs.ValueFindings.{table_findings}
use Rattle.area_drawings.specs.KeptRows.{Kept, kept}

-- ---- the rows of one table
-- a table, and the findings of its rows
pub record Found : Type 0 where
  pub table : Table
  pub found : List Finding

-- a table, with those of the rows
abbrev pub rows_found : Codes → Table → List Row → Found
rows_found codes t rows = record { table = t; found = table_findings codes t rows }

-- with those of one more row
abbrev pub with_found : Codes → Row → Found → Found
with_found codes r k =
    record { table = k.table; found = k.found ++ row_findings codes k.table r }

-- ---- the rows of all tables
-- what a function gives for each table and its rows
abbrev pub of_tables : {K : Type 0} → (Table → List Row → K) → List Table → List (List Row)
    → List K
of_tables f [] transfer = []
of_tables f (t ∷ ts) [] = []
of_tables f (t ∷ ts) (rows ∷ transfer) = f t rows ∷ of_tables f ts transfer

-- the findings of each table
abbrev pub tables_found : Codes → List Table → List (List Row) → List Found
tables_found codes ts transfer = of_tables (rows_found codes) ts transfer

-- what areas are drawn from, of each table
abbrev pub all_kept : Codes → List Table → List (List Row) → List Kept
all_kept codes ts transfer = of_tables (kept codes) ts transfer

-- all findings, in the order of the tables
abbrev pub all_found : List Found → List Finding
all_found [] = []
all_found (f ∷ fs) = f.found ++ all_found fs

-- ---- one more row
-- what a function makes of the value at a place, if there is one, and the others as they are
abbrev pub changed_at : {K : Type 0} → ℕ → (K → K) → List K → List K
changed_at place change [] = []
changed_at zero change (k ∷ ks) = change k ∷ ks
changed_at (suc place) change (k ∷ ks) = k ∷ changed_at place change ks

-- the rows so far, each with the number of its table, as a transfer
abbrev pub transfer_so_far : Layout → List (ℕ × Row) → List (List Row)
transfer_so_far l rows = by_table (form_of l) rows
