use Rattle.std.proofs.Common.{◌≡◌, ◌+◌, ◌-◌, ◌≤◌, [], length, drop}
use Rattle.itf_lines.specs.Feeds.{Reads}
use Rattle.itf_lines.proofs.feed.LineFeed.next_line.Given as goal

-- no logical line is whole so far
abbrev pub invariant-loop-end : goal.invariant-loop-end
invariant-loop-end l = record {
  within : l.at ≤ length l.piece;
  reads : Reads l.fn.self l.piece [] l.self (drop l.at l.piece);
  few : l.self.ended ≤ l.fn.self.ended + l.at;
  failed : l.self.failed ≡ l.fn.self.failed;
}

abbrev pub decreases-loop-end : goal.decreases-loop-end
decreases-loop-end l = length l.piece - l.at
