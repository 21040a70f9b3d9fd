use Rattle.std.proofs.Common.{ℕ, List, take}
use Rattle.std.specs.List.{AllZip}
use Rattle.itf_reader.specs.Forms.{Row}
use Rattle.table_layout.specs.Values.{layout_view}
use Rattle.area_drawings.specs.KeptViews.{kept_in}
use Rattle.reports.specs.SurfaceViews.{surfaces_view}
use Rattle.delivery.specs.KeptRows.{transfer_so_far}
use Rattle.delivery.specs.ObjectLines.{AreKeptClean}
use Rattle.delivery.specs.Surfaces.{IsSurfaceAnswer}
use Rattle.delivery.proofs.surfaces.surface_answers.Given as goal

abbrev pub invariant-loop-surface : goal.invariant-loop-surface
invariant-loop-surface l =
    (rows : List (ℕ × Row)) → AreKeptClean (layout_view l.layout) rows (kept_in l.tables) l.keys
    → AllZip (IsSurfaceAnswer (layout_view l.layout) (transfer_so_far (layout_view l.layout) rows))
    (take l.surface-index (surfaces_view l.some)) l.answers.items
