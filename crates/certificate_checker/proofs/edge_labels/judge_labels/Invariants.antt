use Rattle.std.proofs.Common.{ℕ, ◌<◌}
use Rattle.certificate_checker.specs.Cases.{judged}
use Rattle.certificate_checker.specs.Rules.{HasLabels}
use Rattle.certificate_checker.proofs.edge_labels.judge_labels.Given as goal

abbrev pub invariant-loop-e : goal.invariant-loop-e
invariant-loop-e l = (f : ℕ) → f < l.e → HasLabels (judged l.case) f
