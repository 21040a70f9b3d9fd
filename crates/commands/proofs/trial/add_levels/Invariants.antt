use Rattle.std.proofs.Common.{◌≡◌, ◌+◌, ◌≤◌, ◌++◌, ℕ}
use Rattle.commands.specs.TrialFiles.{level, each}
use Rattle.commands.proofs.trial.add_levels.Given as goal

abbrev pub invariant-loop-j : goal.invariant-loop-j
invariant-loop-j l =
    record {
      text : l.text ≡ l.fn.text ++ each l.j (λ (j : ℕ). each l.n (level l.n j));
      within : l.j ≤ l.n + 1;
    }
