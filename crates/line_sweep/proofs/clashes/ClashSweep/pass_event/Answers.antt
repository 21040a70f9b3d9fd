use Rattle.std.proofs.Common.{length, sym, subst}
use Rattle.straight_predicates.specs.EdgeLists.{AreBelow, IsCloseToAll}
use Rattle.straight_predicates.specs.Tables.{table_of}
use Rattle.line_sweep.proofs.EventEdges.{close_event, starting_below}
use Rattle.line_sweep.proofs.clashes.ClashSweep.pass_event.Goals as goal

pub cut-from-requires-clause-close : goal.cut-from-requires-clause-close
cut-from-requires-clause-close c =
    subst (IsCloseToAll c.args.edges.now) (sym c.at-at.ensures)
    (close_event c.args.edges.now (table_of c.args.table.now) c.args.event c.requires.table
    c.requires.event c.requires.close)

pub leaving_end-upto-requires-clause-close : goal.leaving_end-upto-requires-clause-close
leaving_end-upto-requires-clause-close c =
    subst (IsCloseToAll c.args.edges.now) (sym c.at-at.ensures)
    (close_event c.args.edges.now (table_of c.args.table.now) c.args.event c.requires.table
    c.requires.event c.requires.close)

pub returns-else-mark_bad_neighbours-clause-known : goal.returns-else-mark_bad_neighbours-clause-known
returns-else-mark_bad_neighbours-clause-known c =
    let m = length c.args.edges.now in
    let starting = starting_below c.args.edges.now
    (table_of c.args.table.now) c.args.event c.requires.table c.requires.event
    c.starting-starting.result.now c.starting-starting.ensures in
    let first = c.in_ok-first.ensures.known m
    (subst (AreBelow m) (sym c.leaving_end-upto.ensures.live) c.requires.known) starting in
    subst (AreBelow m) (sym c.mark_bad_neighbours.ensures.live) first

pub returns-in_ok-left-clause-known : goal.returns-in_ok-left-clause-known
returns-in_ok-left-clause-known c =
    let m = length c.args.edges.now in
    let starting = starting_below c.args.edges.now
    (table_of c.args.table.now) c.args.event c.requires.table c.requires.event
    c.starting-starting.result.now c.starting-starting.ensures in
    let first = c.in_ok-first.ensures.known m
    (subst (AreBelow m) (sym c.leaving_end-upto.ensures.live) c.requires.known) starting in
    let left = c.in_ok-left.ensures.known m
    (subst (AreBelow m) (sym c.mark_bad_neighbours.ensures.live) first) starting in
    subst (AreBelow m) (sym c.mark_bad_neighbours-then-mark_bad_neighbours.ensures.live) left
