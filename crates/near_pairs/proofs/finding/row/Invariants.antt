use Rattle.near_pairs.proofs.Rows.{IsRowTo}
use Rattle.near_pairs.proofs.finding.row.Given as goal

abbrev pub invariant-loop-item : goal.invariant-loop-item
invariant-loop-item g l =
    IsRowTo (g.T.PairTest.sought l.test) l.boxes l.number l.item-items l.fn.found l.item-index
    l.best
