use Rattle.std.proofs.Common.{◌≡◌, take, true}
use Rattle.reports.specs.Kinds.{are_fine}
use Rattle.reports.proofs.kinds.are_fine.Given as goal

-- the answers so far are fine
abbrev pub invariant-loop-answer : goal.invariant-loop-answer
invariant-loop-answer l = are_fine (take l.answer-index l.answers) ≡ true
