use Rattle.std.proofs.Common.{◌≡◌, ◌+◌, ◌++◌, length}
use Rattle.std.specs.Iterator.Adapters.{zip_first, zip_second}
use Rattle.std.specs.Slice.Iter.{iter_rest}
use Rattle.table_layout.specs.Values.{role_view, lines_view}
use Rattle.itf_reader.specs.Findings.{findings_of}
use Rattle.itf_reader.specs.RowFindings.{lines_findings}
use Rattle.itf_reader.specs.RowReadings.{lines_heights, lines_vertices, vertices_view}
use Rattle.itf_reader.specs.Views.{strokes_of}
use Rattle.itf_reader.proofs.rows.lines.read_given.Given as goal

abbrev pub invariant-loop-form : goal.invariant-loop-form
invariant-loop-form l =
    let forms = lines_view (iter_rest (zip_first l.form-iterator)) in
    let rest = strokes_of (iter_rest (zip_second l.form-iterator)) in
    record {
      can_next : (goal.iterator-loop-form).can_next l.form-iterator;
      is_finite : (goal.iterator-loop-form).is_finite l.form-iterator;
      column : l.column + length (iter_rest (zip_first l.form-iterator)) ≡ l.first + length l.forms;
      cells : l.values.cells.items ≡ l.fn.values.cells.items;
      vertices : vertices_view l.values.vertices.items ++ lines_vertices forms rest
          ≡ vertices_view l.fn.values.vertices.items
          ++ lines_vertices (lines_view l.forms) (strokes_of l.strokes);
      heights : l.values.heights.items ++ lines_heights forms rest
          ≡ l.fn.values.heights.items ++ lines_heights (lines_view l.forms) (strokes_of l.strokes);
      findings :
          findings_of l.findings.items ++ lines_findings
          (role_view l.role) l.line l.column forms rest
          ≡ findings_of l.fn.findings.items
          ++ lines_findings (role_view l.role) l.line l.first (lines_view l.forms)
          (strokes_of l.strokes);
    }
