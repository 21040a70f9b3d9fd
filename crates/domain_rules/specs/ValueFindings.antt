-- What is wrong with the values of a transfer.
use Rattle.std.specs.Prelude.{List, [], ◌∷◌, ◌++◌}
use Rattle.std.specs.List.{flat_map}
use Rattle.ili_grammar.specs.Syntax.{Codes}
use Rattle.table_layout.specs.Layouts.{Table, Layout}
use Rattle.itf_reader.specs.Findings.{Finding, in_order}
use Rattle.itf_reader.specs.Forms.{Row}
use Rattle.itf_reader.specs.RowFindings.{row_findings}

-- the findings of the rows of a table
abbrev pub table_findings : Codes → Table → List Row → List Finding
table_findings codes t rows = flat_map (row_findings codes t) rows

-- the rows of each table, in the order of the layout
abbrev pub tables_findings : Codes → List Table → List (List Row) → List Finding
tables_findings codes [] transfer = []
tables_findings codes (t ∷ ts) [] = []
tables_findings codes (t ∷ ts) (rows ∷ transfer) =
    table_findings codes t rows ++ tables_findings codes ts transfer

-- all findings of the values of a transfer, in order
abbrev pub value_findings : Layout → List (List Row) → List Finding
value_findings l transfer = in_order (tables_findings l.codes l.tables transfer)
