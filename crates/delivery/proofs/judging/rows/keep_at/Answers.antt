use Rattle.std.proofs.Common.{rules}
use Rattle.itf_reader.specs.RowReadings.{cells_view, vertices_view}
use Rattle.area_drawings.specs.KeptRows.{with_row}
use Rattle.area_drawings.specs.KeptViews.{kept_of}
use Rattle.delivery.proofs.KeptSteps.{changed_set, changed_beyond, on_ok}
use Rattle.delivery.proofs.judging.rows.keep_at.Goals as goal

pub returns-then-places-place : goal.returns-then-places-place
returns-then-places-place c =
    changed_beyond kept_of (with_row c.args.line (cells_view c.args.values.now.cells.items)
    (vertices_view c.args.values.now.vertices.items)) c.args.places.now c.args.place (search rules)

pub returns : goal.returns
returns c =
    on_ok c.add_row.result
    (λ k. changed_set kept_of (with_row c.args.line (cells_view c.args.values.now.cells.items)
    (vertices_view c.args.values.now.vertices.items)) c.args.places.now c.args.place
    c.index-places-place.result c.add_row.new.self (search rules) k)
    c.add_row.ensures
