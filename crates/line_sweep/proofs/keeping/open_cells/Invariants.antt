use Rattle.std.proofs.Common.{◌≡◌, ◌++◌, ℕ, Option, drop}
use Rattle.plane.specs.Runs.Gaps.{gaps_between}
use Rattle.line_sweep.specs.Held.{ArePut, gaps_held}
use Rattle.line_sweep.proofs.keeping.open_cells.Given as goal

abbrev pub invariant-loop-edge : goal.invariant-loop-edge
invariant-loop-edge l = record {
  put : ArePut l.fn.slab l.slab l.keys.items;
  gaps : (u : Option ℕ) → gaps_held l.slab l.keys.items
      ++ gaps_between l.event l.lower (drop l.edge-index l.starting) u
      ≡ gaps_between l.event l.beside.lower l.starting u;
}
