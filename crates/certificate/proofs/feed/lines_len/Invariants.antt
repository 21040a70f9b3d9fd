use Rattle.std.proofs.Common.{◌≤◌, length}
use Rattle.certificate.proofs.feed.lines_len.Given as goal

abbrev pub invariant-loop-length : goal.invariant-loop-length
invariant-loop-length l = l.length ≤ length l.piece

abbrev pub decreases-loop-length : goal.decreases-loop-length
decreases-loop-length l = l.length
