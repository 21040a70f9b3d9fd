use Rattle.std.proofs.Common.{◌≡◌, map, take}
use Rattle.ident_refs.specs.KeptRows.{list_findings}
use Rattle.ident_refs.specs.KeptViews.{rows_view}
use Rattle.ident_refs.specs.SharedLists.{found_view, lists_view}
use Rattle.ident_refs.proofs.shared_lists.all_found.Given as goal

abbrev pub invariant-loop-list : goal.invariant-loop-list
invariant-loop-list l =
    map found_view l.found.items ≡ map (list_findings l.lines)
    (lists_view (rows_view l.rows) (take l.list-index l.lists))
