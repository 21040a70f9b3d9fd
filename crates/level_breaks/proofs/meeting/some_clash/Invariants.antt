use Rattle.std.proofs.Common.{ℕ, ◌<◌, ◌≤◌}
use Rattle.level_breaks.specs.Parts.{PartsClash}
use Rattle.level_breaks.proofs.meeting.some_clash.Given as goal

abbrev pub invariant-loop-number : goal.invariant-loop-number
invariant-loop-number l = (k : ℕ) → l.stretch.from ≤ k → k < l.number
    → PartsClash l.one.curve.now l.one.tube.now l.other.curve.now l.other.tube.now l.part k → ⊥
