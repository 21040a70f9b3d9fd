use Rattle.std.proofs.Common.{◌≡◌, take}
use Rattle.ili_grammar.specs.Values.{codes_of}
use Rattle.table_layout.specs.Values.{table_view}
use Rattle.itf_reader.specs.Views.{rows_of}
use Rattle.area_drawings.specs.KeptRows.{kept}
use Rattle.area_drawings.specs.KeptViews.{kept_of}
use Rattle.delivery.specs.KeptViews.{found_of}
use Rattle.delivery.proofs.area_drawing.places_of.Given as goal

abbrev pub invariant-loop-row : goal.invariant-loop-row
invariant-loop-row l = record {
  table : (found_of l.read).table ≡ table_view l.table;
  kept : kept_of l.kept ≡ kept (codes_of l.codes) (table_view l.table)
      (rows_of (take l.row-index l.rows));
}
