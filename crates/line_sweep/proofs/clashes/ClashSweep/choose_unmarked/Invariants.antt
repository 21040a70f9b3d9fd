use Rattle.std.proofs.Common.{◌≡◌, ℕ}
use Rattle.plane.specs.Lists.{Has}
use Rattle.line_sweep.proofs.clashes.ClashSweep.choose_unmarked.Given as goal

abbrev pub invariant-loop-edge : goal.invariant-loop-edge
invariant-loop-edge l = record {
  fresh : (e : ℕ) → Has e l.self.fresh.items → Has e l.edges;
  live : l.self.live ≡ l.fn.self.live;
  marks : l.self.marks ≡ l.fn.self.marks;
}
