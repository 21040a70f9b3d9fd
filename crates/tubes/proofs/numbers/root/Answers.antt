use Rattle.tubes.proofs.SpanNumbers.{root_only}
use Rattle.tubes.proofs.numbers.root.Goals as goal

pub returns-then-square-root-clause-value : goal.returns-then-square-root-clause-value
returns-then-square-root-clause-value c =
    root_only c.args.square c.if-square-near.root c.if-root-square.true c.if-square-root.true

pub returns-else-root-square-clause-value : goal.returns-else-root-square-clause-value
returns-else-root-square-clause-value c =
    root_only c.args.square c.isqrt.result c.isqrt.ensures.square_le c.isqrt.ensures.next_square_gt
