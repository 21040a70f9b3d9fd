use Rattle.std.proofs.Common.{length, arith}
use Rattle.plane.specs.Faces.Halves.{number, over, under}
use Rattle.area_search.proofs.SettledLemmas.NamedNotes.{still_known}
use Rattle.area_search.proofs.settled.case_notes.name_all.Goals as goal

pub name_edge-requires-clause-low : goal.name_edge-requires-clause-low
name_edge-requires-clause-low c =
    let e = c.loop-edge.edge in
    let a = c.loop-edge-test.true in
    let b = c.requires.size in
    still_known c.args.points e c.args.facings.now c.args.edge_owners.now c.args.owners.now
    c.args.notes.now c.loop-edge.notes c.loop-edge.invariant (under e) (omega arith)
    (length c.args.owners.now)
    (c.requires.known (number (under e)) (omega (arith, a, b)))

pub name_edge-requires-clause-high : goal.name_edge-requires-clause-high
name_edge-requires-clause-high c =
    let e = c.loop-edge.edge in
    let a = c.loop-edge-test.true in
    let b = c.requires.size in
    still_known c.args.points e c.args.facings.now c.args.edge_owners.now c.args.owners.now
    c.args.notes.now c.loop-edge.notes c.loop-edge.invariant (over e) (omega arith)
    (length c.args.owners.now)
    (c.requires.known (number (over e)) (omega (arith, a, b)))
