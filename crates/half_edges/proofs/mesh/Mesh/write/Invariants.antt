use Rattle.std.proofs.Common.{◌≡◌, take, vec_capacity}
use Rattle.half_edges.proofs.mesh.Mesh.write.Given as goal

abbrev pub invariant-loop-entry : goal.invariant-loop-entry
invariant-loop-entry l = record {
  items : l.entries.items ≡ take l.entry-index l.list;
  room : vec_capacity l.entries ≡ vec_capacity l.fn.entries;
}
