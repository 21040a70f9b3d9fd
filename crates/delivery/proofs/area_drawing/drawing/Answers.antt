use Rattle.std.proofs.Common.{refl, ap, sym, ◌∙◌, subst}
use Rattle.std.proofs.lemmas.Option.{same_Some}
use Rattle.resolver.specs.Values.{line_of}
use Rattle.itf_reader.specs.Views.{transfer_of}
use Rattle.plane.specs.Rule.Plans.{plan}
use Rattle.table_layout.specs.Layouts.{AreaOf}
use Rattle.table_layout.specs.Values.{area_view, layout_view}
use Rattle.area_drawings.specs.Drawings.{tolerance_by}
use Rattle.area_drawings.specs.KeptViews.{HasTolerance, kept_of}
use Rattle.delivery.proofs.Drawables.{area_is, area_table, forms, there}
use Rattle.delivery.proofs.KeptPlaces.{drawable_as, drawing_as}
use Rattle.delivery.proofs.KeptSteps.{table_within}
use Rattle.commands.proofs.Results.{if_ok}
use Rattle.delivery.proofs.area_drawing.drawing.Goals as goal

pub line_form-form-requires : goal.line_form-form-requires
line_form-form-requires c =
    let l = layout_view c.args.layout.now in
    let x = c.index-found.result.now in
    forms l (area_view x) c.requires.valid
    (area_is l c.args.layout.now.areas.items c.args.area x c.requires.area c.index-found.ensures
    refl c.requires.valid)

pub places_at-requires-clause-there : goal.places_at-requires-clause-there
places_at-requires-clause-there c =
    let l = layout_view c.args.layout.now in
    let x = c.index-found.result.now in
    let h = area_is l c.args.layout.now.areas.items c.args.area x c.requires.area
    c.index-found.ensures refl c.requires.valid in
    table_within c.args.layout.now.tables.items x.lines.0 h.helper h.lines

pub places_at-requires-2-clause-there : goal.places_at-requires-2-clause-there
places_at-requires-2-clause-there c =
    let l = layout_view c.args.layout.now in
    let x = c.index-found.result.now in
    let a = area_table l (area_view x) c.requires.valid
    (area_is l c.args.layout.now.areas.items c.args.area x c.requires.area c.index-found.ensures
    refl c.requires.valid) in
    table_within c.args.layout.now.tables.items x.main.0 a.owner a.main

pub draw-requires-clause-drawable : goal.draw-requires-clause-drawable
draw-requires-clause-drawable c =
    let l = layout_view c.args.layout.now in
    let rows = transfer_of c.args.transfer.now in
    let areas = c.args.layout.now.areas.items in
    let x = c.index-found.result.now in
    let h = area_is l areas c.args.area x c.requires.area c.index-found.ensures refl
    c.requires.valid in
    let a = area_table l (area_view x) c.requires.valid h in
    let ks = c.in_ok-lines.lines in
    let ms = c.in_ok-objects.objects in
    drawable_as l rows c.requires.valid c.requires.clean (area_view x) h
    (line_of c.line_form-form.result.now) c.line_form-form.ensures.lines (kept_of ks)
    (kept_of ms)
    (c.in_ok-lines.ensures h.helper h.lines)
    (c.in_ok-objects.ensures a.owner a.main) c.points.result.now c.points.ensures
    (c.requires.small (area_view x)
    (there l areas c.args.area x c.requires.area c.index-found.ensures refl))

pub returns-clause-drawn : goal.returns-clause-drawn
returns-clause-drawn c =
    let l = layout_view c.args.layout.now in
    let rows = transfer_of c.args.transfer.now in
    let areas = c.args.layout.now.areas.items in
    let x = c.index-found.result.now in
    let h = area_is l areas c.args.area x c.requires.area c.index-found.ensures refl
    c.requires.valid in
    let a = area_table l (area_view x) c.requires.valid h in
    let ks = c.in_ok-lines.lines in
    let ms = c.in_ok-objects.objects in
    if_ok _ _ c.draw.result
    (λ d w. (
      area_view x,
      there l areas c.args.area x c.requires.area c.index-found.ensures refl,
      drawing_as l rows c.requires.valid c.requires.clean (area_view x) h
          (line_of c.line_form-form.result.now) c.line_form-form.ensures.lines (kept_of ks)
          (kept_of ms)
          (c.in_ok-lines.ensures h.helper h.lines)
          (c.in_ok-objects.ensures a.owner a.main) c.points.result.now c.points.ensures
          (plan d) w,
    ))
    c.draw.ensures.drawn

pub returns-clause-tolerance : goal.returns-clause-tolerance
returns-clause-tolerance c =
    let l = layout_view c.args.layout.now in
    let x = c.index-found.result.now in
    let areas = c.args.layout.now.areas.items in
    let at = there l areas c.args.area x c.requires.area c.index-found.ensures refl in
    if_ok _ _ c.draw.result
    (λ d w a e. subst (λ (b : AreaOf). HasTolerance l b d) (same_Some (area_view x) a (sym at ∙ e))
    (w ∙ sym (ap tolerance_by c.line_form-form.ensures.lines)))
    c.draw.ensures.tolerance
