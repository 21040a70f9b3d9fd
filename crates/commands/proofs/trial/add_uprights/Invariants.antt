use Rattle.std.proofs.Common.{◌≡◌, ◌+◌, ◌≤◌, ◌++◌, ℕ}
use Rattle.commands.specs.TrialFiles.{upright, each}
use Rattle.commands.proofs.trial.add_uprights.Given as goal

abbrev pub invariant-loop-i : goal.invariant-loop-i
invariant-loop-i l =
    record {
      text : l.text ≡ l.fn.text ++ each l.i (λ (i : ℕ). each l.n (upright l.n i));
      within : l.i ≤ l.n + 1;
    }
