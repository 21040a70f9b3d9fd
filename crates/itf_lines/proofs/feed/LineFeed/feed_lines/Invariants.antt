use Rattle.std.proofs.Common.{◌+◌, ◌-◌, ◌≤◌, length, drop}
use Rattle.itf_lines.specs.Views.{lines_view}
use Rattle.itf_lines.specs.Feeds.{Adds}
use Rattle.itf_lines.proofs.feed.LineFeed.feed_lines.Given as goal

-- the lines so far were added, and the rest of the piece is left
abbrev pub invariant-loop-line : goal.invariant-loop-line
invariant-loop-line l = record {
  within : l.at ≤ length l.piece;
  adds : Adds (lines_view l.fn.into.items) l.fn.self l.piece (lines_view l.into.items) l.self
      (drop l.at l.piece);
  few : l.self.ended ≤ l.fn.self.ended + l.at;
}

abbrev pub decreases-loop-line : goal.decreases-loop-line
decreases-loop-line l = length l.piece - l.at
