use Rattle.std.proofs.Common.{◌≡◌, ◌++◌, true, length, map}
use Rattle.resolver.specs.Values.{line_of}
use Rattle.itf_reader.specs.StrokeFindings.{are_clean}
use Rattle.itf_reader.specs.Views.{slice_of}
use Rattle.ident_refs.specs.ValueViews.{key_vertex_view}
use Rattle.ident_refs.specs.ListValues.{key_vertex_of}
use Rattle.ident_refs.proofs.values.key_vertices_of.Given as goal

abbrev pub invariant-loop-vertex : goal.invariant-loop-vertex
invariant-loop-vertex l = record {
  clean : are_clean (line_of l.form) (slice_of l.rest) ≡ true;
  collected :
      map key_vertex_view l.key_vertices.items
      ++ map (key_vertex_of (line_of l.form)) (slice_of l.rest)
      ≡ map (key_vertex_of (line_of l.form)) (slice_of l.vertices);
}

abbrev pub decreases-loop-vertex : goal.decreases-loop-vertex
decreases-loop-vertex l = length (slice_of l.rest)
