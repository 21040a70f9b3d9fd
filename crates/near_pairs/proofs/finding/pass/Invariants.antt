use Rattle.near_pairs.proofs.Rows.{IsPassTo}
use Rattle.near_pairs.proofs.finding.pass.Given as goal

abbrev pub invariant-loop-number : goal.invariant-loop-number
invariant-loop-number g l =
    IsPassTo (g.T.PairTest.sought l.test) l.boxes l.marked l.mark l.column l.fn.found l.number
    l.best
