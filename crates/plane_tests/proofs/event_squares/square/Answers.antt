use Rattle.std.proofs.Common.{arith}
use Rattle.plane.proofs.Worked.SquareRun.{edge, steps}
use Rattle.plane_tests.proofs.SquareMesh.{begun, square_event, square_events, square_turns}
use Rattle.plane_tests.proofs.event_squares.square.Goals as goal

pub turn_event-requires-clause-can : goal.turn_event-requires-clause-can
turn_event-requires-clause-can c =
    square_turns c.in_ok-mesh.mesh 0 (omega arith) (begun c.in_ok-mesh.mesh c.in_ok-mesh.ensures)

pub turn_event-requires-2-clause-can : goal.turn_event-requires-2-clause-can
turn_event-requires-2-clause-can c =
    let none = begun c.in_ok-mesh.mesh c.in_ok-mesh.ensures in
    let one = c.turn_event.ensures.turned 5 edge steps 0 square_events none
    (square_event 0 (omega arith)) in
    square_turns c.turn_event.new.mesh 1 (omega arith) one

pub turn_event-requires-3-clause-can : goal.turn_event-requires-3-clause-can
turn_event-requires-3-clause-can c =
    let none = begun c.in_ok-mesh.mesh c.in_ok-mesh.ensures in
    let one = c.turn_event.ensures.turned 5 edge steps 0 square_events none
    (square_event 0 (omega arith)) in
    let two = c.turn_event-2.ensures.turned 5 edge steps 1 square_events one
    (square_event 1 (omega arith)) in
    square_turns c.turn_event-2.new.mesh 2 (omega arith) two

pub turn_event-requires-4-clause-can : goal.turn_event-requires-4-clause-can
turn_event-requires-4-clause-can c =
    let none = begun c.in_ok-mesh.mesh c.in_ok-mesh.ensures in
    let one = c.turn_event.ensures.turned 5 edge steps 0 square_events none
    (square_event 0 (omega arith)) in
    let two = c.turn_event-2.ensures.turned 5 edge steps 1 square_events one
    (square_event 1 (omega arith)) in
    let three = c.turn_event-3.ensures.turned 5 edge steps 2 square_events two
    (square_event 2 (omega arith)) in
    square_turns c.turn_event-3.new.mesh 3 (omega arith) three
