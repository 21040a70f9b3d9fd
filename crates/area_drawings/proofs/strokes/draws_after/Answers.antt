use Rattle.std.proofs.Common.{◌+◌, ◌∷◌, drop, refl, sym, ap, ◌∙◌, List}
use Rattle.std.proofs.lemmas.List.{at_drop_more}
use Rattle.itf_reader.specs.RowReadings.{vertex_view, vertices_view}
use Rattle.itf_reader.specs.declared.rows.values.ReadVertex.{ReadVertex}
use Rattle.area_drawings.specs.Drawable.{rest_curves}
use Rattle.area_drawings.specs.Strokes.{has_curve}
use Rattle.area_drawings.proofs.strokes.draws_after.Goals as goal

pub returns-in-None : goal.returns-in-None
returns-in-None c =
    let vs = c.args.vertices.now in
    let i = c.loop-vertex.vertex-index in
    let rest = vertices_view (drop (i + 1) vs) in
    let pen = c.loop-vertex.pen in
    sym (c.in-None.ensures.drawn rest refl)
    ∙ ap (λ (v : ReadVertex). has_curve (rest_curves pen (vertex_view v ∷ rest))) c.vertex-item.is
    ∙ sym (at_drop_more (λ (us : List ReadVertex). has_curve
    (rest_curves pen (vertices_view us))) vs i c.vertex-item.result c.loop-vertex-test.true)
    ∙ c.loop-vertex.invariant
