use Rattle.std.proofs.Common.{◌≡◌, length}
use Rattle.line_sweep.proofs.clashes.Marks.note_starts.Given as goal

abbrev pub invariant-loop-edge : goal.invariant-loop-edge
invariant-loop-edge l = length l.self.marked.items ≡ length l.fn.self.marked.items
