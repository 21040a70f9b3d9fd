use Rattle.std.proofs.Common.{◌≡◌, ◌++◌, ◌&&◌, length}
use Rattle.std.specs.List.{flat_map}
use Rattle.resolver.specs.Values.{line_of}
use Rattle.itf_reader.specs.Findings.{findings_of}
use Rattle.itf_reader.specs.RowReadings.{sound_heights, sound_vertices, vertices_view}
use Rattle.itf_reader.specs.Views.{slice_of}
use Rattle.itf_reader.specs.StrokeFindings.{are_clean, vertex_finding}
use Rattle.itf_reader.proofs.rows.vertices.add_vertices.Given as goal

abbrev pub invariant-loop-vertex : goal.invariant-loop-vertex
invariant-loop-vertex l =
    let line = line_of l.form in
    let rest = slice_of l.rest in
    let all = slice_of l.vertices in
    record {
      clean : (l.clean && are_clean line rest) ≡ are_clean line all;
      vertices : vertices_view l.values.vertices.items ++ sound_vertices line rest
          ≡ vertices_view l.fn.values.vertices.items ++ sound_vertices line all;
      heights : l.values.heights.items ++ sound_heights line rest
          ≡ l.fn.values.heights.items ++ sound_heights line all;
      cells : l.values.cells.items ≡ l.fn.values.cells.items;
      findings : findings_of l.findings.items ++ flat_map (vertex_finding line l.column) rest
          ≡ findings_of l.fn.findings.items ++ flat_map (vertex_finding line l.column) all;
    }

abbrev pub decreases-loop-vertex : goal.decreases-loop-vertex
decreases-loop-vertex l = length (slice_of l.rest)
