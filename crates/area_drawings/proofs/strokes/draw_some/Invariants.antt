use Rattle.std.proofs.Common.{◌≡◌, drop}
use Rattle.area_drawings.specs.Strokes.{has_curve, strokes_curves, strokes_view}
use Rattle.area_drawings.proofs.strokes.draw_some.Given as goal

abbrev pub invariant-loop-stroke : goal.invariant-loop-stroke
invariant-loop-stroke l =
    has_curve (strokes_curves (strokes_view (drop l.stroke-index l.strokes)))
    ≡ has_curve (strokes_curves (strokes_view l.strokes))
