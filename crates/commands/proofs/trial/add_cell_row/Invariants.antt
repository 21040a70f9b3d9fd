use Rattle.std.proofs.Common.{◌≡◌, ◌≤◌, ◌++◌}
use Rattle.commands.specs.TrialFiles.{cell, each}
use Rattle.commands.proofs.trial.add_cell_row.Given as goal

abbrev pub invariant-loop-i : goal.invariant-loop-i
invariant-loop-i l = record {
  text : l.text ≡ l.fn.text ++ each l.i (cell l.n l.j);
  within : l.i ≤ l.n;
}
