use Rattle.std.proofs.Common.{ℕ, subst, sym, add-one}
use Rattle.certificate_checker.specs.Cases.{judged}
use Rattle.certificate_checker.specs.Placed.{IsLater}
use Rattle.certificate_checker.specs.Progress.{HasReplayed}
use Rattle.certificate_checker.proofs.replaying.replay.Goals as goal

pub loop-event-preserved : goal.loop-event-preserved
loop-event-preserved c =
    subst (λ (k : ℕ). HasReplayed (judged c.args.case.now) k c.step.new.state)
    (sym (add-one c.loop-event.event)) c.in_ok-step.ensures.done

pub returns-clause-later : goal.returns-clause-later
returns-clause-later c =
    subst (λ (k : ℕ). IsLater (judged c.args.case.now) k c.place_to.new.state.placing.next
    c.place_to.new.state.placing.spots.items) c.events.ensures c.place_to.ensures.later
