use Rattle.meetings.specs.StraightEdges.{AreStraightsTo}
use Rattle.meetings.proofs.edges.straight_edges.Given as goal

abbrev pub invariant-loop-number : goal.invariant-loop-number
invariant-loop-number l =
    AreStraightsTo l.drawing.curves.items l.number l.edges.items l.numbers.items
