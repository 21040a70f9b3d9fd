use Rattle.std.proofs.Common.{◌≡◌, length}
use Rattle.line_sweep.proofs.clashes.ClashSweep.mark_bad_neighbours.Given as goal

abbrev pub invariant-loop-place : goal.invariant-loop-place
invariant-loop-place l = record {
  live : l.self.live ≡ l.fn.self.live;
  fresh : l.self.fresh ≡ l.fn.self.fresh;
  marks : length l.self.marks.marked.items ≡ length l.fn.self.marks.marked.items;
}
