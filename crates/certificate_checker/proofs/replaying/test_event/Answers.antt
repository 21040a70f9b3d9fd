use Rattle.std.proofs.Common.{arith}
use Rattle.certificate_checker.specs.Cases.{judged}
use Rattle.certificate_checker.proofs.Ending.{first_event}
use Rattle.certificate_checker.proofs.Moving.{live_below}
use Rattle.certificate_checker.proofs.replaying.test_event.Goals as goal

pub judge_event-requires-clause-known : goal.judge_event-requires-clause-known
judge_event-requires-clause-known c =
    live_below (judged c.args.case.now) c.requires.fit.table c.requires.fit.counts c.args.event
    (let l = c.requires.event in
    omega (arith, l)) c.requires.replayed.moved.passes c.args.state.now.live.edges
    c.requires.replayed.moved.live

pub returns-in-Err-clause-broken : goal.returns-in-Err-clause-broken
returns-in-Err-clause-broken c =
    first_event (judged c.args.case.now) c.requires.fit.counts c.requires.fit.corners c.args.event
    c.in-Err.rule c.requires.event c.requires.replayed.moved.passes c.in-Err.ensures.broken
