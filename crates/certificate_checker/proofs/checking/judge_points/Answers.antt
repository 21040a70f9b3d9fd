use Rattle.std.proofs.Common.{rules, refl, length, ◌<◌, ◌≤◌}
use Rattle.certificate_checker.specs.Cases.{judged}
use Rattle.certificate_checker.proofs.Ending.{ended, first_unplaced}
use Rattle.certificate_checker.proofs.checking.judge_points.Goals as goal

pub returns-then-place-case-clause-broken : goal.returns-then-place-case-clause-broken
returns-then-place-case-clause-broken c =
    let l : c.args.state.now.placing.bad < length c.args.case.now.points.now = search rules in
    first_unplaced (judged c.args.case.now) c.requires.fit.table c.requires.fit.counts
    c.requires.fit.corners c.requires.replayed.moved.passes c.args.state.now.live.edges
    (length c.args.state.now.fan.items) c.args.state.now.mesh c.requires.replayed.moved
    c.args.state.now.marks.border.items c.args.state.now.marks.across.items
    c.args.state.now.marks.point.items c.requires.replayed.border c.requires.replayed.across
    c.args.state.now.placing.next c.args.state.now.placing.bad
    c.args.state.now.placing.spots.items c.requires.replayed.points c.requires.later 9
    c.args.state.now.placing.bad refl refl l c.requires.labels

pub returns-clause-ended : goal.returns-clause-ended
returns-clause-ended c =
    let l : length c.args.case.now.points.now ≤ c.args.state.now.placing.bad = search rules in
    ended (judged c.args.case.now) c.requires.fit.table c.requires.fit.counts c.requires.fit.corners
    c.requires.replayed.moved.passes c.args.state.now.live.edges
    (length c.args.state.now.fan.items) c.args.state.now.mesh c.requires.replayed.moved
    c.args.state.now.marks.border.items c.args.state.now.marks.across.items
    c.args.state.now.marks.point.items c.requires.replayed.border c.requires.replayed.across
    c.args.state.now.placing.next c.args.state.now.placing.bad
    c.args.state.now.placing.spots.items c.requires.replayed.points c.requires.later l
