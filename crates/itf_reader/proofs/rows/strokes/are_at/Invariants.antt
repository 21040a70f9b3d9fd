use Rattle.std.proofs.Common.{◌≡◌, drop}
use Rattle.std.specs.List.{list_all}
use Rattle.field_values.specs.Places.{is_same_place, place_view}
use Rattle.itf_reader.specs.RowReadings.{vertices_view}
use Rattle.itf_reader.proofs.rows.strokes.are_at.Given as goal

abbrev pub invariant-loop-vertex : goal.invariant-loop-vertex
invariant-loop-vertex l =
    list_all (λ v. is_same_place (place_view l.fn.place) v.at)
    (vertices_view (drop l.vertex-index l.vertices))
    ≡ list_all (λ v. is_same_place (place_view l.fn.place) v.at) (vertices_view l.vertices)
