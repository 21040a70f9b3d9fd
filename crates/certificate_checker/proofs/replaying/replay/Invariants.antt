use Rattle.certificate_checker.specs.Cases.{judged}
use Rattle.certificate_checker.specs.Progress.{HasReplayed}
use Rattle.certificate_checker.proofs.replaying.replay.Given as goal

abbrev pub invariant-loop-event : goal.invariant-loop-event
invariant-loop-event l = HasReplayed (judged l.case) l.event l.state
