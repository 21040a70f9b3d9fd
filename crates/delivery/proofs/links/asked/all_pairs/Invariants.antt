use Rattle.std.proofs.Common.{◌≡◌, ℕ, List, map, take}
use Rattle.area_drawings.specs.KeptViews.{kept_in}
use Rattle.area_links.specs.Pairs.{pairs_of}
use Rattle.area_links.specs.Views.{rules_view}
use Rattle.itf_reader.specs.Forms.{Row}
use Rattle.table_layout.specs.Values.{layout_view}
use Rattle.delivery.specs.AskedLinks.{pairs_in}
use Rattle.delivery.specs.KeptRows.{transfer_so_far}
use Rattle.delivery.specs.LinkRows.{AreLinksKept, points_in}
use Rattle.delivery.proofs.links.asked.all_pairs.Given as goal

abbrev pub invariant-loop-rule : goal.invariant-loop-rule
invariant-loop-rule l =
    (rows : List (ℕ × Row))
    → AreLinksKept (layout_view l.layout) rows (kept_in l.places) (points_in l.points) l.keys
    → pairs_in l.pairs.items
    ≡ map (pairs_of (layout_view l.layout) (transfer_so_far (layout_view l.layout) rows))
    (rules_view (take l.rule-index l.rules))
