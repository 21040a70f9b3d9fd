-- What the code keeps of rows, without where it lies in memory.
use Rattle.std.specs.Prelude.{◌≡◌, ℕ, List, map}
use Rattle.ili_grammar.specs.Syntax.{Codes}
use Rattle.table_layout.specs.Layouts.{Layout, Table}
use Rattle.table_layout.specs.Values.{table_view}
use Rattle.itf_reader.specs.declared.rows.values.RowValues.{RowValues}
use Rattle.itf_reader.specs.Findings.{findings_of}
use Rattle.itf_reader.specs.Forms.{Row}
use Rattle.itf_reader.specs.RowReadings.{cells_view, vertices_view}
use Rattle.ident_refs.specs.KeptViews.{HasRows}
use Rattle.area_drawings.specs.KeptLines.{row_vertices}
use Rattle.area_drawings.specs.KeptPoints.{row_cells}
use Rattle.area_drawings.specs.KeptViews.{kept_in}
use Rattle.delivery.specs.declared.judging.found.TableFound.{TableFound}
use Rattle.delivery.specs.declared.judging.rows.TransferKept.{TransferKept}
use Rattle.delivery.specs.KeptRows.{Found, tables_found, all_kept, transfer_so_far}

-- a table, and what was found in its rows
abbrev pub found_of : TableFound → Found
found_of f = record { table = table_view f.reader.table.now; found = findings_of f.found.items }

-- and that of each of some tables
abbrev pub found_in : List TableFound → List Found
found_in fs = map found_of fs

-- the values are what the words and vertices of a row of that table stand for
pub record AreReadAs (codes : Codes) (t : Table) (r : Row) (values : RowValues) : Type 0 where
  pub cells : cells_view values.cells.items ≡ row_cells codes t r
  pub vertices : vertices_view values.vertices.items ≡ row_vertices t r

-- these rows of a layout's tables came, each with the number of its table
pub record HasTaken (l : Layout) (rows : List (ℕ × Row)) (k : TransferKept) : Type 0 where
  pub found : found_in k.tables.items ≡ tables_found l.codes l.tables (transfer_so_far l rows)
  pub kept : kept_in k.places.items ≡ all_kept l.codes l.tables (transfer_so_far l rows)
  pub keys : HasRows l k.keys rows
