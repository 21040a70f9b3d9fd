use Rattle.area_drawings.proofs.StrokeSteps.{vertex_inside}
use Rattle.area_drawings.proofs.drawing.add_after.Goals as goal

pub draw_to-requires-clause-vertex_in : goal.draw_to-requires-clause-vertex_in
draw_to-requires-clause-vertex_in c =
    vertex_inside c.args.drawing.now.window c.loop-vertex.drawing.window c.args.vertices.now
    c.loop-vertex.vertex-index c.vertex-item.result c.loop-vertex-test.true c.vertex-item.is
    c.requires.inside c.loop-vertex.invariant.window
