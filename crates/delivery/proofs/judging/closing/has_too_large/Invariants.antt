use Rattle.std.proofs.Common.{◌≡◌, ℕ, List, drop}
use Rattle.itf_reader.specs.Forms.{Row}
use Rattle.table_layout.specs.Layouts.{Layout}
use Rattle.table_layout.specs.Values.{areas_view}
use Rattle.ident_refs.specs.KeptViews.{HasRows}
use Rattle.area_drawings.specs.KeptDrawings.{has_kept_large}
use Rattle.delivery.specs.KeptRows.{transfer_so_far}
use Rattle.area_drawings.specs.KeptViews.{kept_in}
use Rattle.delivery.proofs.judging.closing.has_too_large.Given as goal

-- none of the areas so far is too large
abbrev pub invariant-loop-area : goal.invariant-loop-area
invariant-loop-area l = (layout : Layout) (rows : List (ℕ × Row)) → HasRows layout l.kept.keys rows
    → has_kept_large (kept_in l.kept.places.items) (transfer_so_far layout rows)
    (drop l.area-index (areas_view l.areas))
    ≡ has_kept_large (kept_in l.kept.places.items) (transfer_so_far layout rows)
    (areas_view l.areas)
