use Rattle.std.proofs.Common.{◌≡◌, ◌≤◌, ◌++◌}
use Rattle.commands.specs.TrialFiles.{upright, each}
use Rattle.commands.proofs.trial.add_upright_row.Given as goal

abbrev pub invariant-loop-j : goal.invariant-loop-j
invariant-loop-j l = record {
  text : l.text ≡ l.fn.text ++ each l.j (upright l.n l.i);
  within : l.j ≤ l.n;
}
