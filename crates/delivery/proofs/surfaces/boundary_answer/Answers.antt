use Rattle.std.proofs.Common.{Bool, false, List, sym, subst}
use Rattle.std.specs.Prelude.{IfOk}
use Rattle.plane.specs.declared.kinds.Curve.{Curve}
use Rattle.area_drawings.specs.Strokes.{strokes_curves, strokes_view}
use Rattle.delivery.specs.SurfaceAnswers.{IsBoundaryAnswer, outline}
use Rattle.delivery.proofs.surfaces.boundary_answer.Goals as goal

pub returns-then-all : goal.returns-then-all
returns-then-all c =
    subst (λ (all : Bool). IsBoundaryAnswer all (outline c.args.line (strokes_curves
    (strokes_view c.args.strokes.now))) c.skipped_answer.result) (sym c.if-all.true)
    (c.skipped_answer.ensures c.args.line)

pub returns : goal.returns
returns c =
    subst (λ (all : Bool). IfOk c.drawing_answer.result (IsBoundaryAnswer all
    (outline c.args.line (strokes_curves (strokes_view c.args.strokes.now)))))
    (sym c.if-all.false)
    (subst (λ (cs : List Curve). IfOk c.drawing_answer.result (IsBoundaryAnswer false
    (outline c.args.line cs))) c.in_ok-drawing.ensures c.drawing_answer.ensures)
