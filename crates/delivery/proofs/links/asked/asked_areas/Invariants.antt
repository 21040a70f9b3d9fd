use Rattle.std.proofs.Common.{◌≡◌, ℕ, List, length}
use Rattle.area_drawings.specs.KeptViews.{kept_in}
use Rattle.area_links.specs.Views.{rules_view}
use Rattle.itf_reader.specs.Forms.{Row}
use Rattle.table_layout.specs.Values.{layout_view}
use Rattle.delivery.specs.KeptRows.{transfer_so_far}
use Rattle.delivery.specs.LinkRows.{AreLinksKept, points_in}
use Rattle.delivery.proofs.AskedRules.{AreAskedBelow}
use Rattle.delivery.proofs.links.asked.asked_areas.Given as goal

abbrev pub invariant-loop-number : goal.invariant-loop-number
invariant-loop-number l = record {
  count : length l.asked.items ≡ l.number;
  each : (rows : List (ℕ × Row))
      → AreLinksKept (layout_view l.layout) rows (kept_in l.places) (points_in l.points) l.keys
      → AreAskedBelow (layout_view l.layout) (transfer_so_far (layout_view l.layout) rows)
      (rules_view l.rules) l.asked.items;
}
