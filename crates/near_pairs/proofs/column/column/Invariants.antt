use Rattle.near_pairs.proofs.Columns.{IsColumnTo}
use Rattle.near_pairs.proofs.column.column.Given as goal

abbrev pub invariant-loop-number : goal.invariant-loop-number
invariant-loop-number l = IsColumnTo l.boxes l.number l.column.items
