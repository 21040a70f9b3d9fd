use Rattle.area_drawings.proofs.StrokeCurves.{stroke_inside}
use Rattle.area_drawings.proofs.strokes.draw_strokes.Goals as goal

pub add_stroke-requires-clause-inside : goal.add_stroke-requires-clause-inside
add_stroke-requires-clause-inside c =
    let w = c.loop-stroke.drawing.window in
    stroke_inside w c.args.strokes.now c.loop-stroke.stroke-index c.stroke-item.result
    c.loop-stroke-test.true c.stroke-item.is
    (c.requires.drawable.inside w c.loop-stroke.invariant.window)
