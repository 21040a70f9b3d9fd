use Rattle.std.proofs.Common.{◌≡◌, ◌++◌, drop, map}
use Rattle.std.specs.List.{flat_map}
use Rattle.ident_refs.specs.ValueViews.{key_vertex_view}
use Rattle.ident_refs.specs.KeyBytes.{key_vertex_code}
use Rattle.ident_refs.proofs.key_bytes.add_vertices.Given as goal

abbrev pub invariant-loop-key_vertex : goal.invariant-loop-key_vertex
invariant-loop-key_vertex l =
    l.into.items ++ flat_map key_vertex_code
    (drop l.key_vertex-index (map key_vertex_view l.key_vertices))
    ≡ l.fn.into.items ++ flat_map key_vertex_code (map key_vertex_view l.key_vertices)
