use Rattle.std.proofs.Common.{subst, true, false}
use Rattle.plane.specs.Rule.Plans.{plan}
use Rattle.forks.specs.Bent.{IsBendAt}
use Rattle.forks.proofs.ForkedLists.{alone_more, unbent_alone}
use Rattle.forks.proofs.forked.add_straight.Goals as goal

pub returns-in-None-None : goal.returns-in-None-None
returns-in-None-None c =
    let w = c.args.drawing.now in
    alone_more w.tolerance (plan w) c.args.number c.args.forked.now c.requires.forked
    (unbent_alone w.tolerance (plan w) c.args.number c.requires.straight
    (subst (IsBendAt w.tolerance (plan w) c.args.number true) c.in-None-None.is-0
    c.bend_at-first.ensures)
    (subst (IsBendAt w.tolerance (plan w) c.args.number false) c.in-None-None.is-1
    c.bend_at-last.ensures))
