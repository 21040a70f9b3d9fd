use Rattle.std.proofs.Common.{ℕ, List, length, ap, sym, ◌∙◌}
use Rattle.std.specs.Prelude.{slice_get}
use Rattle.table_layout.specs.Values.{layout_view}
use Rattle.resolver.specs.Values.{line_of}
use Rattle.ident_refs.specs.KeptViews.{named_view}
use Rattle.area_drawings.specs.Drawings.{lines_in}
use Rattle.area_drawings.specs.KeptRows.{Kept}
use Rattle.area_drawings.specs.KeptViews.{kept_of}
use Rattle.area_drawings.proofs.KeptAt.{kept_is, kept_within}
use Rattle.ident_refs.specs.KeptRows.{row_line}
use Rattle.std.proofs.lemmas.List.{length-map}
use Rattle.reports.specs.SurfaceViews.{surface_view}
use Rattle.delivery.specs.KeptRows.{transfer_so_far}
use Rattle.delivery.proofs.SurfaceRows.{answer_as, counted_as, drawable_as, is_surface, kept_at}
use Rattle.delivery.proofs.SurfaceRows.{objects, strokes, table}
use Rattle.delivery.proofs.surfaces.surface_answer.Goals as goal

pub only_form-form-requires : goal.only_form-form-requires
only_form-form-requires c =
    let l = layout_view c.args.layout.now in
    let t = transfer_so_far l c.requires.rows.0 in
    let s = surface_view c.args.surface in
    let h = is_surface l s c.requires.surface in
    let own = table l t c.requires.valid c.requires.rows.1.clean s h in
    (own.line, ap lines_in h.lines ∙ own.lines)

pub bounds-tables-surface : goal.bounds-tables-surface
bounds-tables-surface c =
    let l = layout_view c.args.layout.now in
    let k = c.requires.rows.1 in
    let t = transfer_so_far l c.requires.rows.0 in
    let s = surface_view c.args.surface in
    let h = is_surface l s c.requires.surface in
    let own = strokes l t c.requires.valid k.clean s h in
    let there = ap (λ (ks : List Kept). slice_get ks s.lines) k.kept
    ∙ kept_at l t c.requires.valid k.clean s h k.counted in
    kept_within c.args.tables.now s.lines own there

pub lines_answer-requires-clause-counted : goal.lines_answer-requires-clause-counted
lines_answer-requires-clause-counted c =
    let l = layout_view c.args.layout.now in
    let k = c.requires.rows.1 in
    let t = transfer_so_far l c.requires.rows.0 in
    let s = surface_view c.args.surface in
    let v = c.requires.valid in
    let h = is_surface l s c.requires.surface in
    let own = strokes l t v k.clean s h in
    let there = ap (λ (ks : List Kept). slice_get ks s.lines) k.kept
    ∙ kept_at l t v k.clean s h k.counted in
    let kept = sym (kept_is c.args.tables.now s.lines own c.index-tables-surface.result there
    c.index-tables-surface.is) in
    let names = ap named_view c.deref.ensures.value
    ∙ c.in_ok-named.ensures l c.requires.rows.0 k.has_keys in
    counted_as l t v k.clean s h k.counted (line_of c.only_form-form.result.now)
    c.only_form-form.ensures (kept_of c.index-tables-surface.result) kept
    (named_view c.deref.result.now) names

pub lines_answer-requires-clause-drawable : goal.lines_answer-requires-clause-drawable
lines_answer-requires-clause-drawable c =
    let l = layout_view c.args.layout.now in
    let k = c.requires.rows.1 in
    let t = transfer_so_far l c.requires.rows.0 in
    let s = surface_view c.args.surface in
    let v = c.requires.valid in
    let h = is_surface l s c.requires.surface in
    let own = strokes l t v k.clean s h in
    let there = ap (λ (ks : List Kept). slice_get ks s.lines) k.kept
    ∙ kept_at l t v k.clean s h k.counted in
    let kept = sym (kept_is c.args.tables.now s.lines own c.index-tables-surface.result there
    c.index-tables-surface.is) in
    let names = ap named_view c.deref.ensures.value
    ∙ c.in_ok-named.ensures l c.requires.rows.0 k.has_keys in
    drawable_as l t v k.clean s h k.counted (line_of c.only_form-form.result.now)
    c.only_form-form.ensures (kept_of c.index-tables-surface.result) kept
    (named_view c.deref.result.now) names (length c.row_lines-objects.result.now)
    (ap (λ (ms : List ℕ). length ms)
    (c.row_lines-objects.ensures l c.requires.rows.0 k.has_keys)
    ∙ length-map (objects l t v k.clean s h) row_line)

pub returns : goal.returns
returns c rows k =
    let l = layout_view c.args.layout.now in
    let t = transfer_so_far l rows in
    let s = surface_view c.args.surface in
    let v = c.requires.valid in
    let h = is_surface l s c.requires.surface in
    let own = strokes l t v k.clean s h in
    let there = ap (λ (ks : List Kept). slice_get ks s.lines) k.kept
    ∙ kept_at l t v k.clean s h k.counted in
    let kept = sym (kept_is c.args.tables.now s.lines own c.index-tables-surface.result there
    c.index-tables-surface.is) in
    let names = ap named_view c.deref.ensures.value
    ∙ c.in_ok-named.ensures l rows k.has_keys in
    answer_as l t v k.clean s h k.counted (line_of c.only_form-form.result.now)
    c.only_form-form.ensures (kept_of c.index-tables-surface.result) kept
    (named_view c.deref.result.now) names c.row_lines-objects.result.now
    (c.row_lines-objects.ensures l rows k.has_keys) c.lines_answer.result c.lines_answer.ensures
