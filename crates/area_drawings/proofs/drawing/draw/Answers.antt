use Rattle.std.proofs.Common.{◌≡◌, ◌++◌, List, ap, ◌∙◌, sym, subst, arith, length, vec_len}
use Rattle.resolver.specs.Values.{line_of}
use Rattle.plane.specs.Rule.Plans.{Plan}
use Rattle.plane.specs.declared.kinds.Curve.{Curve}
use Rattle.plane.specs.declared.kinds.Placed.{Placed}
use Rattle.itf_reader.specs.RowReadings.{vertices_view}
use Rattle.area_drawings.specs.Drawings.{IsWindowOf}
use Rattle.area_drawings.specs.KeptDrawings.{kept_curves}
use Rattle.area_drawings.proofs.KeptAt.{counted_here, inside_here, few_here, curves_here}
use Rattle.area_drawings.proofs.drawing.draw.Goals as goal

pub add_strokes-requires-clause-counted : goal.add_strokes-requires-clause-counted
add_strokes-requires-clause-counted c =
    counted_here c.counts.result.now _ c.counts.ensures c.vertices.result.now _ c.vertices.ensures
    c.requires.drawable.counted

pub add_strokes-requires-clause-inside : goal.add_strokes-requires-clause-inside
add_strokes-requires-clause-inside c =
    let in_form = IsWindowOf (line_of c.args.form.now).window in
    let w : in_form c.new-drawing.result.window =
    subst in_form (sym (ap (λ (p : Plan). p.window) c.new-drawing.ensures.blank))
    c.plane_window.ensures in
    inside_here c.counts.result.now _ c.counts.ensures c.vertices.result.now _ c.vertices.ensures
    c.new-drawing.result.window (c.requires.drawable.inside c.new-drawing.result.window w)

pub add_strokes-requires-clause-room : goal.add_strokes-requires-clause-room
add_strokes-requires-clause-room c =
    let few =
    few_here c.counts.result.now _ c.counts.ensures c.vertices.result.now _ c.vertices.ensures
    16000000 c.requires.drawable.few in
    let none : vec_len c.new-drawing.result.curves ≡ 0 =
    c.new-drawing.result.curves.ok.0
    ∙ ap (λ (cs : List Curve). length cs)
    (ap (λ (p : Plan). p.curves) c.new-drawing.ensures.blank) in
    omega (arith, few, none)

pub add_placed-requires-clause-inside : goal.add_placed-requires-clause-inside
add_placed-requires-clause-inside c =
    let in_form = IsWindowOf (line_of c.args.form.now).window in
    let w : in_form c.add_strokes.new.drawing.window =
    subst in_form (sym (c.in_ok-add_strokes.ensures.window
    ∙ ap (λ (p : Plan). p.window) c.new-drawing.ensures.blank)) c.plane_window.ensures in
    c.requires.drawable.points_inside c.add_strokes.new.drawing.window w

pub add_placed-requires-clause-room : goal.add_placed-requires-clause-room
add_placed-requires-clause-room c =
    let most = c.requires.drawable.few_points in
    let none : vec_len c.add_strokes.new.drawing.points ≡ 0 =
    c.add_strokes.new.drawing.points.ok.0
    ∙ ap (λ (ps : List Placed). length ps)
    (c.in_ok-add_strokes.ensures.points
    ∙ ap (λ (p : Plan). p.points) c.new-drawing.ensures.blank) in
    omega (arith, most, none)

pub returns-clause-drawn : goal.returns-clause-drawn
returns-clause-drawn c =
    let fresh = c.new-drawing.ensures.blank in
    let strokes = c.in_ok-add_strokes.ensures in
    let placed = c.in_ok-add_placed.ensures in
    let same = c.set_tolerance.ensures.unchanged in
    let in_form = IsWindowOf (line_of c.args.form.now).window in
    record {
      window =
          subst in_form (sym (ap (λ (p : Plan). p.window) same ∙ placed.window ∙ (strokes.window
          ∙ ap (λ (p : Plan). p.window) fresh))) c.plane_window.ensures;
      curves =
          ap (λ (p : Plan). p.curves) same
          ∙ placed.curves
          ∙ strokes.curves
          ∙ ap (λ (cs : List Curve). cs
          ++ kept_curves c.counts.result.now (vertices_view c.vertices.result.now))
          (ap (λ (p : Plan). p.curves) fresh)
          ∙ curves_here c.counts.result.now _ c.counts.ensures c.vertices.result.now _
          c.vertices.ensures;
      placed =
          ap (λ (p : Plan). p.points) same
          ∙ placed.points
          ∙ ap (λ (ps : List Placed). ps ++ c.args.points.now)
          (strokes.points ∙ ap (λ (p : Plan). p.points) fresh);
    }
