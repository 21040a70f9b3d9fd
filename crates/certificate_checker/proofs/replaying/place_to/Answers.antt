use Rattle.certificate_checker.specs.Cases.{judged}
use Rattle.certificate_checker.proofs.Moving.{live_below}
use Rattle.certificate_checker.proofs.replaying.place_to.Goals as goal

pub place_points-requires-clause-known : goal.place_points-requires-clause-known
place_points-requires-clause-known c =
    live_below (judged c.args.case.now) c.requires.fit.table c.requires.fit.counts c.args.event
    c.requires.event c.requires.replayed.moved.passes c.args.state.now.live.edges
    c.requires.replayed.moved.live
