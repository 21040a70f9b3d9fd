use Rattle.std.proofs.Common.{◌≡◌, ◌+◌, ◌*◌, ◌^◌, ◌≤◌, ℕ, List, drop}
use Rattle.itf_reader.specs.Forms.{Row}
use Rattle.table_layout.specs.Values.{layout_view}
use Rattle.delivery.specs.Judging.{objects}
use Rattle.delivery.specs.KeptRows.{transfer_so_far}
use Rattle.delivery.proofs.judging.keeping.count_objects.Given as goal

abbrev pub invariant-loop-number : goal.invariant-loop-number
invariant-loop-number g l = record {
  counted : (rows : List (ℕ × Row)) → g.K.RowKeeper.has_rows (layout_view l.layout) rows l.kept
      → l.count + objects (drop l.number (transfer_so_far (layout_view l.layout) rows))
      ≡ objects (transfer_so_far (layout_view l.layout) rows);
  small : l.count ≤ l.number * 2 ^ 64;
}
