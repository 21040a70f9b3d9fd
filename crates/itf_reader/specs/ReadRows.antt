-- The closed objects that a feed holds.
use Rattle.std.specs.Prelude.{ℕ, List, ◌++◌, map}
use Rattle.itf_reader.specs.declared.transfer_feed.read_tables.ReadTable.{ReadTable}
use Rattle.itf_reader.specs.declared.transfer_feed.read_tables.ReadTables.{ReadTables}
use Rattle.itf_reader.specs.Forms.{Row, TableRows}
use Rattle.itf_reader.specs.ClosedRows.{pairs, all_pairs}
use Rattle.itf_reader.specs.Views.{rows_of}

abbrev pub read_table_view : ReadTable → TableRows
read_table_view t = record { table = t.table; rows = rows_of t.rows.items }

abbrev pub read_tables_view : List ReadTable → List TableRows
read_tables_view ts = map read_table_view ts

-- the objects in the order of the text, each with the number of its table
abbrev pub read_rows : ReadTables → List (ℕ × Row)
read_rows g = all_pairs (read_tables_view g.tables.items) ++ pairs (read_table_view g.last)
