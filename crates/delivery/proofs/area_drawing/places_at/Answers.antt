use Rattle.std.proofs.Common.{List, [], length, ap, ◌∙◌}
use Rattle.std.specs.Prelude.{slice_index_or}
use Rattle.table_layout.specs.Values.{layout_view, table_view}
use Rattle.table_layout.specs.Valid.{IsTable}
use Rattle.itf_reader.specs.Views.{rows_of, tables_rows_of}
use Rattle.itf_reader.specs.declared.transfer.TableRows.{TableRows}
use Rattle.area_drawings.specs.KeptViews.{kept_of}
use Rattle.area_drawings.proofs.CurveLemmas.{mapped_at}
use Rattle.delivery.proofs.KeptSteps.{kept_of_table}
use Rattle.commands.proofs.Results.{if_ok}
use Rattle.delivery.proofs.area_drawing.places_at.Goals as goal

pub places_of-requires : goal.places_of-requires
places_of-requires c =
    (mapped_at table_view
    (IsTable (length (layout_view c.args.layout.now).topics)
    (layout_view c.args.layout.now).tables) c.args.layout.now.tables.items c.args.id.0
    c.index-table.result.now c.requires.valid.tables
    c.requires.there c.index-table.ensures).few

pub returns : goal.returns
returns c =
    if_ok _ _ c.places_of.result
    (λ k e t q. kept_of_table (layout_view c.args.layout.now).codes c.args.layout.now.tables.items
    c.args.id.0 c.index-table.result.now t c.requires.there c.index-table.ensures q (kept_of k)
    (rows_of c.rows_at.result.now) _ e
    (c.rows_at.ensures
    ∙ ap (λ (ts : List TableRows). slice_index_or (tables_rows_of ts) c.args.id.0 [])
    c.deref.ensures.value))
    c.places_of.ensures
