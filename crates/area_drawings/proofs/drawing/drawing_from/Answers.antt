use Rattle.resolver.specs.Values.{line_of}
use Rattle.plane.specs.Rule.Plans.{plan}
use Rattle.table_layout.specs.Values.{area_view, layout_view}
use Rattle.area_drawings.specs.KeptViews.{kept_of, kept_in}
use Rattle.area_drawings.proofs.KeptAt.{kept_within, kept_is, one_line, points_here}
use Rattle.area_drawings.proofs.KeptAt.{drawable_here, drawn_here}
use Rattle.ili_grammar.proofs.Lists.{if_ok}
use Rattle.area_drawings.proofs.drawing.drawing_from.Goals as goal

pub bounds-tables-area-2 : goal.bounds-tables-area-2
bounds-tables-area-2 c =
    kept_within c.args.tables.now c.args.area.now.main.0 c.requires.objects c.requires.main

pub draw-requires-clause-drawable : goal.draw-requires-clause-drawable
draw-requires-clause-drawable c =
    let q = c.requires in
    let t = c.index-tables-area.result in
    let u = c.index-tables-area-2.result in
    let ts = c.args.tables.now in
    let a = c.args.area.now in
    let e = kept_is ts a.lines.0 q.strokes t q.lines c.index-tables-area.is in
    let f = kept_is ts a.main.0 q.objects u q.main c.index-tables-area-2.is in
    drawable_here q.forms.line (line_of c.line_form-form.result.now)
    (one_line _ _ _ c.line_form-form.ensures.lines q.forms.lines) q.strokes (kept_of t) e
    c.points.result.now _
    (points_here q.objects (kept_of u) f a.column c.points.result.now c.points.ensures)
    q.drawable

pub returns-clause-drawn : goal.returns-clause-drawn
returns-clause-drawn c =
    let q = c.requires in
    let t = c.index-tables-area.result in
    let u = c.index-tables-area-2.result in
    let ts = c.args.tables.now in
    let a = c.args.area.now in
    let e = kept_is ts a.lines.0 q.strokes t q.lines c.index-tables-area.is in
    let f = kept_is ts a.main.0 q.objects u q.main c.index-tables-area-2.is in
    if_ok _ _ c.draw.result
    (λ d h. drawn_here (layout_view c.args.layout.now) (kept_in ts) (area_view a) q.forms
    (line_of c.line_form-form.result.now)
    (one_line _ _ _ c.line_form-form.ensures.lines q.forms.lines) q.strokes (kept_of t) q.objects
    e q.lines q.main c.points.result.now
    (points_here q.objects (kept_of u) f a.column c.points.result.now c.points.ensures)
    (plan d) h)
    c.draw.ensures.drawn
