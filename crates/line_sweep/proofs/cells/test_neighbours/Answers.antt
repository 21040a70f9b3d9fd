use Rattle.std.proofs.Common.{inl, inr}
use Rattle.line_sweep.proofs.OpenGaps.{last_pair, neighbours_left, next_neighbours, next_pair}
use Rattle.line_sweep.proofs.cells.test_neighbours.Goals as goal

pub test_pair-requires-clause-known : goal.test_pair-requires-clause-known
test_pair-requires-clause-known c d e a b =
    c.requires.known d e
    (c.loop-edge.invariant.left d e
    (next_pair c.loop-edge.below c.args.upper c.args.starting.now c.loop-edge.edge-index d e
    c.loop-edge-test.true a b))

pub loop-edge-init : goal.loop-edge-init
loop-edge-init c = record { left = λ d e h. h; tested = λ d e h. inl h }

pub loop-edge-preserved : goal.loop-edge-preserved
loop-edge-preserved c = record {
  left = λ d e h. c.loop-edge.invariant.left d e
      (neighbours_left c.loop-edge.below c.args.upper c.args.starting.now c.loop-edge.edge-index d e
      c.loop-edge-test.true h);
  tested = λ d e h. elim (c.loop-edge.invariant.tested d e h) [
    | inl a ↦ elim (next_neighbours c.loop-edge.below c.args.upper c.args.starting.now
        c.loop-edge.edge-index d e c.loop-edge-test.true a)
        [ inl p ↦ inr (c.in-Ok.ensures.fine d e p.0 p.1) | inr q ↦ inl q ]
    | inr f ↦ inr f
  ];
}

pub test_pair-requires-2-clause-known : goal.test_pair-requires-2-clause-known
test_pair-requires-2-clause-known c d e a b =
    c.requires.known d e
    (c.loop-edge.invariant.left d e
    ((last_pair c.loop-edge.below c.args.upper c.args.starting.now c.loop-edge.edge-index d e
    c.loop-edge-test.false).1 (a, b)))
