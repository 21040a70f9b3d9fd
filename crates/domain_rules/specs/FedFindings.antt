-- What is wrong with the values of rows that come one after another, each with the number of its
-- table.
use Rattle.std.specs.Prelude.{ℕ, zero, suc, ◌+◌, List, [], ◌∷◌, ◌++◌, map}
use Rattle.ili_grammar.specs.Syntax.{Codes}
use Rattle.table_layout.specs.Layouts.{Table, Layout}
use Rattle.itf_reader.specs.ClosedRows.{of_table}
use Rattle.itf_reader.specs.Findings.{Finding}
use Rattle.itf_reader.specs.Forms.{Row}
use Rattle.domain_rules.specs.ValueFindings.{table_findings}

-- the findings of each table, the first of these tables having that number
abbrev pub fed_from : Codes → ℕ → List Table → List (ℕ × Row) → List (List Finding)
fed_from codes n [] rows = []
fed_from codes n (t ∷ ts) rows =
    table_findings codes t (of_table n rows) ∷ fed_from codes (n + 1) ts rows

-- the findings of each table of a layout
abbrev pub fed_findings : Layout → List (ℕ × Row) → List (List Finding)
fed_findings l rows = fed_from l.codes 0 l.tables rows

-- no finding of a table
abbrev pub no_findings : Table → List Finding
no_findings t = []

-- further findings of the table at a place, if there is one
abbrev pub with_findings : ℕ → List Finding → List (List Finding) → List (List Finding)
with_findings place more [] = []
with_findings zero more (own ∷ tables) = (own ++ more) ∷ tables
with_findings (suc place) more (own ∷ tables) = own ∷ with_findings place more tables

-- those of all tables, in the order of the layout
abbrev pub all_findings : List (List Finding) → List Finding
all_findings [] = []
all_findings (own ∷ tables) = own ++ all_findings tables
