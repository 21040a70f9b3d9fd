use Rattle.std.proofs.Common.{List, ℕ, subst}
use Rattle.straight_predicates.specs.Tables.{table_of}
use Rattle.line_sweep.specs.OpenGaps.{AreNeighbours}
use Rattle.line_sweep.proofs.NextEvent.{neighbours_known}
use Rattle.line_sweep.proofs.sweeping.test_at.Goals as goal

pub test_neighbours-requires-clause-known : goal.test_neighbours-requires-clause-known
test_neighbours-requires-clause-known c d e h =
    let known = neighbours_known c.args.edges.now
    (table_of c.args.table.now) c.args.event _ _ _ _ _ _ c.requires.sorted c.requires.table
    c.requires.event c.requires.swept
    c.args.block.from c.args.block.count c.requires.block c.args.beside.lower c.args.beside.upper
    c.requires.beside d e
    (subst (λ (es : List ℕ). AreNeighbours c.args.beside.lower es c.args.beside.upper d e)
    c.starting.ensures h) in
    (known.0, known.1)

pub returns-in-Err-clause-refused : goal.returns-in-Err-clause-refused
returns-in-Err-clause-refused c =
    let known = neighbours_known c.args.edges.now
    (table_of c.args.table.now) c.args.event _ _ _ _ _ _ c.requires.sorted c.requires.table
    c.requires.event c.requires.swept
    c.args.block.from c.args.block.count c.requires.block c.args.beside.lower c.args.beside.upper
    c.requires.beside c.in-Err.pair.0 c.in-Err.pair.1
    (subst (λ (es : List ℕ). AreNeighbours c.args.beside.lower es c.args.beside.upper
    c.in-Err.pair.0 c.in-Err.pair.1) c.starting.ensures c.in-Err.ensures.neighbours) in
    record { first = known.0; second = known.1; differ = known.2; bad = c.in-Err.ensures.bad }
