use Rattle.std.proofs.Common.{◌≡◌, length}
use Rattle.itf_reader.specs.RowReadings.{vertices_view}
use Rattle.itf_reader.specs.StrokeFindings.{are_arcs}
use Rattle.itf_reader.proofs.rows.strokes.are_arcs.Given as goal

abbrev pub invariant-loop-rest : goal.invariant-loop-rest
invariant-loop-rest l = are_arcs (vertices_view l.rest) ≡ are_arcs (vertices_view l.vertices)

abbrev pub decreases-loop-rest : goal.decreases-loop-rest
decreases-loop-rest l = length l.rest
