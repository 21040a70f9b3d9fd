-- Rows that are kept for links are kept as those that are judged.
use Rattle.std.proofs.Common.{ℕ, List}
use Rattle.table_layout.specs.Layouts.{Layout}
use Rattle.delivery.specs.KeptViews.{HasTaken}
use Rattle.delivery.specs.LinkRows.{HasLinked}
use Rattle.delivery.specs.Pieces.{AreKept}
use Rattle.delivery.specs.declared.judging.linking.LinksKept.{LinksKept}

abbrev pub judged_kept : (l : Layout) (text : List ℕ) (k : LinksKept) → AreKept HasLinked l text k
    → AreKept HasTaken l text k.judged
judged_kept l text k h = record {
  rows = h.rows;
  taken = h.taken.judged;
  has_rows = h.has_rows;
  closed = h.closed;
}
