use Rattle.std.proofs.Common.{◌≡◌, ◌≤◌, ◌+◌, List, refl, ap, sym, ◌∙◌, subst, arith}
use Rattle.std.specs.Prelude.{slice_get, IfOk}
use Rattle.table_layout.specs.Values.{area_view, layout_view}
use Rattle.area_drawings.specs.KeptPoints.{PointColumn}
use Rattle.area_drawings.specs.KeptRows.{Kept}
use Rattle.area_drawings.specs.KeptViews.{kept_of, points_of}
use Rattle.area_links.specs.Views.{rule_view}
use Rattle.area_links.specs.declared.kinds.LinkPair.{LinkPair}
use Rattle.ident_refs.specs.KeptViews.{named_view}
use Rattle.delivery.specs.KeptRows.{transfer_so_far}
use Rattle.delivery.specs.LinkJoins.{RiseFrom}
use Rattle.delivery.proofs.Drawables.{there}
use Rattle.delivery.proofs.LinkedRows.{few_columns, lines_rise, main_kept, mapped_is, mapped_within}
use Rattle.delivery.proofs.LinkedRows.{own_kept, pairs_are, with_area}
use Rattle.delivery.proofs.link_pairs.rule_pairs.Goals as goal

pub bounds-places-area : goal.bounds-places-area
bounds-places-area c =
    let l = layout_view c.args.layout.now in
    let r = rule_view c.args.rule.now in
    let as_ = c.args.layout.now.areas.items in
    let x = c.index-area.result.now in
    let own = c.requires.good in
    let g = with_area l r own (area_view x) (there l as_ r.area x
    (mapped_within area_view as_ r.area own.a own.area_is) c.index-area.ensures refl) in
    let k = c.requires.rows.1 in
    let t = transfer_so_far l c.requires.rows.0 in
    mapped_within kept_of c.args.places.now x.main.0 _
    (ap (λ (ks : List Kept). slice_get ks x.main.0) k.kept.kept
    ∙ main_kept l t c.requires.valid r g k.kept.counted k.rise)

pub numbered-requires : goal.numbered-requires
numbered-requires c =
    let l = layout_view c.args.layout.now in
    let r = rule_view c.args.rule.now in
    let as_ = c.args.layout.now.areas.items in
    let x = c.index-area.result.now in
    let own = c.requires.good in
    let g = with_area l r own (area_view x) (there l as_ r.area x
    (mapped_within area_view as_ r.area own.a own.area_is) c.index-area.ensures refl) in
    let k = c.requires.rows.1 in
    let t = transfer_so_far l c.requires.rows.0 in
    subst (RiseFrom 0) (sym (c.row_lines.ensures l c.requires.rows.0 k.kept.has_keys))
    (lines_rise l t c.requires.valid r g k.kept.counted k.rise)

pub bounds-points-rule : goal.bounds-points-rule
bounds-points-rule c =
    let l = layout_view c.args.layout.now in
    let r = rule_view c.args.rule.now in
    let k = c.requires.rows.1 in
    let t = transfer_so_far l c.requires.rows.0 in
    mapped_within points_of c.args.points.now r.table _
    (ap (λ (ps : List (List PointColumn)). slice_get ps r.table) k.points_are
    ∙ own_kept l t c.requires.valid r c.requires.good k.kept.counted k.rise)

pub overflow_add-rule : goal.overflow_add-rule
overflow_add-rule c =
    let l = layout_view c.args.layout.now in
    let k = c.requires.rows.1 in
    let f : c.args.rule.now.reference + 1 ≤ 4294967295 = few_columns l
    (transfer_so_far l c.requires.rows.0) c.requires.valid (rule_view c.args.rule.now)
    c.requires.good k.kept.counted k.rise in
    omega (arith, f)

pub returns : goal.returns
returns c rows k =
    let l = layout_view c.args.layout.now in
    let r = rule_view c.args.rule.now in
    let as_ = c.args.layout.now.areas.items in
    let x = c.index-area.result.now in
    let own = c.requires.good in
    let v = c.requires.valid in
    let g = with_area l r own (area_view x) (there l as_ r.area x
    (mapped_within area_view as_ r.area own.a own.area_is) c.index-area.ensures refl) in
    let t = transfer_so_far l rows in
    let main = mapped_is kept_of c.args.places.now x.main.0 _ c.index-places-area.result
    (ap (λ (ks : List Kept). slice_get ks x.main.0) k.kept.kept
    ∙ main_kept l t v r g k.kept.counted k.rise) c.index-places-area.is in
    let points = mapped_is points_of c.args.points.now r.table _ c.index-points-rule.result
    (ap (λ (ps : List (List PointColumn)). slice_get ps r.table) k.points_are
    ∙ own_kept l t v r g k.kept.counted k.rise) c.index-points-rule.is in
    subst (λ (ps : List LinkPair). IfOk c.joined.result (λ found. found.items ≡ ps))
    (pairs_are l t v r g k.kept.counted k.rise (kept_of c.index-places-area.result) main
    c.points-objects.result.now c.points-objects.ensures c.row_lines.result.now
    (c.row_lines.ensures l rows k.kept.has_keys) c.deref.result.now
    (c.deref.ensures.value ∙ c.in_ok-numbers.ensures) (points_of c.index-points-rule.result)
    points c.column-own.result.now c.column-own.ensures (named_view c.deref-2.result.now)
    (ap named_view c.deref-2.ensures.value ∙ c.in_ok-named.ensures l rows k.kept.has_keys)
    c.row_lines-2.result.now (c.row_lines-2.ensures l rows k.kept.has_keys))
    c.joined.ensures
