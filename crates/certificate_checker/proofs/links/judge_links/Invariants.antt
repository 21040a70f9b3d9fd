use Rattle.std.proofs.Common.{ℕ, ◌<◌}
use Rattle.plane.specs.Faces.Halves.{half_of}
use Rattle.certificate_checker.specs.Cases.{judged}
use Rattle.certificate_checker.specs.Rules.{IsLinked}
use Rattle.certificate_checker.proofs.links.judge_links.Given as goal

abbrev pub invariant-loop-h : goal.invariant-loop-h
invariant-loop-h l = (i : ℕ) → i < l.h → IsLinked (judged l.case) (half_of i)
