use Rattle.std.proofs.Common.{◌≡◌, ◌++◌, take, vec_capacity}
use Rattle.certificate_checker.proofs.blocks.insert_edges.Given as goal

abbrev pub invariant-loop-edge : goal.invariant-loop-edge
invariant-loop-edge l = record {
  items : l.edges.items ≡ l.fn.edges.items ++ take l.edge-index l.more;
  capacity : vec_capacity l.edges ≡ vec_capacity l.fn.edges;
}
