use Rattle.std.proofs.Common.{◌≡◌, ◌≤◌, ◌++◌, ℕ}
use Rattle.commands.specs.TrialFiles.{cell, each}
use Rattle.commands.proofs.trial.add_cells.Given as goal

abbrev pub invariant-loop-j : goal.invariant-loop-j
invariant-loop-j l =
    record {
      text : l.text ≡ l.fn.text ++ each l.j (λ (j : ℕ). each l.n (cell l.n j));
      within : l.j ≤ l.n;
    }
