use Rattle.std.proofs.Common.{◌≡◌, take, All}
use Rattle.straight_predicates.specs.Slopes.{IsRayOf, ray_edges}
use Rattle.straight_predicates.specs.Tables.{starting_of}
use Rattle.straight_predicates.proofs.events.make_rays.Given as goal

abbrev pub invariant-loop-end : goal.invariant-loop-end
invariant-loop-end l = record {
  edges_of : ray_edges l.rays.items ≡ starting_of (take l.end-index l.group);
  directions : All (IsRayOf l.edges) l.rays.items;
}
