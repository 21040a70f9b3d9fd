use Rattle.std.proofs.Common.{sym, ap, subst, ◌∙◌, ◌<◌, ℕ, length, get_or, List}
use Rattle.plane.specs.Forms.Meets.{IsEnd}
use Rattle.plane.specs.Runs.Timetables.{no_event}
use Rattle.straight_predicates.specs.EdgeLists.{edge_of}
use Rattle.straight_predicates.specs.Tables.{table_of}
use Rattle.line_sweep.proofs.EventEdges.{empty_is, some_is, some_end, start_end, end_end}
use Rattle.line_sweep.proofs.sweeping.edge_of_event.Goals as goal

pub bounds-ending-0 : goal.bounds-ending-0
bounds-ending-0 c =
    subst (λ (ns : List ℕ). 0 < length ns) (sym c.ending.ensures)
    (some_end c.args.edges.now (table_of c.args.table.now) c.args.event c.requires.table
    c.requires.event (ap length (sym c.starting-starting.ensures)
    ∙ empty_is _ c.is_empty.result c.is_empty.ensures c.if-is_empty.true))

pub returns-then-is_empty-clause-known : goal.returns-then-is_empty-clause-known
returns-then-is_empty-clause-known c =
    subst (λ (ns : List ℕ). get_or ns 0 0 < length c.args.edges.now) (sym c.ending.ensures)
    (end_end c.args.edges.now (table_of c.args.table.now) c.args.event c.requires.table
    c.requires.event
    (some_end c.args.edges.now (table_of c.args.table.now) c.args.event c.requires.table
    c.requires.event (ap length (sym c.starting-starting.ensures)
    ∙ empty_is _ c.is_empty.result c.is_empty.ensures c.if-is_empty.true))).0

pub returns-then-is_empty-clause-end : goal.returns-then-is_empty-clause-end
returns-then-is_empty-clause-end c =
    subst (λ (ns : List ℕ). IsEnd (edge_of c.args.edges.now (get_or ns 0 0))
    (get_or (table_of c.args.table.now) c.args.event no_event).at) (sym c.ending.ensures)
    (end_end c.args.edges.now (table_of c.args.table.now) c.args.event c.requires.table
    c.requires.event
    (some_end c.args.edges.now (table_of c.args.table.now) c.args.event c.requires.table
    c.requires.event (ap length (sym c.starting-starting.ensures)
    ∙ empty_is _ c.is_empty.result c.is_empty.ensures c.if-is_empty.true))).1

pub returns-else-is_empty-clause-known : goal.returns-else-is_empty-clause-known
returns-else-is_empty-clause-known c =
    subst (λ (ns : List ℕ). get_or ns 0 0 < length c.args.edges.now)
    (sym c.starting-starting.ensures)
    (start_end c.args.edges.now (table_of c.args.table.now) c.args.event c.requires.table
    c.requires.event
    (subst (λ (ns : List ℕ). 0 < length ns) c.starting-starting.ensures
    (some_is _ c.is_empty.result c.is_empty.ensures c.if-is_empty.false))).0

pub returns-else-is_empty-clause-end : goal.returns-else-is_empty-clause-end
returns-else-is_empty-clause-end c =
    subst (λ (ns : List ℕ). IsEnd (edge_of c.args.edges.now (get_or ns 0 0))
    (get_or (table_of c.args.table.now) c.args.event no_event).at)
    (sym c.starting-starting.ensures)
    (start_end c.args.edges.now (table_of c.args.table.now) c.args.event c.requires.table
    c.requires.event
    (subst (λ (ns : List ℕ). 0 < length ns) c.starting-starting.ensures
    (some_is _ c.is_empty.result c.is_empty.ensures c.if-is_empty.false))).1
