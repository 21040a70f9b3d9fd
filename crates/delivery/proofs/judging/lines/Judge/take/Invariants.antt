use Rattle.std.proofs.Common.{◌+◌, ◌-◌, ◌≤◌, length, drop}
use Rattle.table_layout.specs.Values.{layout_view}
use Rattle.delivery.specs.Pieces.{Takes}
use Rattle.delivery.proofs.judging.lines.Judge.take.Given as goal

-- the lines so far were judged, and the rest of the piece is left
abbrev pub invariant-loop-n : goal.invariant-loop-n
invariant-loop-n g l = record {
  within : l.at ≤ length l.piece;
  takes : Takes g.K.RowKeeper.has_rows (layout_view l.layout) l.fn.self l.piece l.self
      (drop l.at l.piece);
  few : l.self.lines.ended ≤ l.fn.self.lines.ended + l.at;
}

abbrev pub decreases-loop-n : goal.decreases-loop-n
decreases-loop-n g l = length l.piece - l.at
