use Rattle.std.proofs.Common.{◌≡◌, ◌++◌, List, sym, ap, ◌∙◌}
use Rattle.itf_reader.specs.Findings.{findings_of, in_order}
use Rattle.itf_reader.specs.Layouts.{form_of}
use Rattle.table_layout.specs.Values.{areas_view, layout_view}
use Rattle.table_layout.specs.declared.layouts.AreaOf.{AreaOf as CodeArea}
use Rattle.ident_refs.specs.FedRows.{fed_keys}
use Rattle.area_drawings.specs.KeptDrawings.{has_kept_large}
use Rattle.area_drawings.specs.KeptViews.{kept_in}
use Rattle.delivery.specs.Judging.{lines_of, findings}
use Rattle.delivery.specs.KeptRows.{all_found, transfer_so_far}
use Rattle.delivery.specs.KeptViews.{found_in}
use Rattle.delivery.specs.declared.judging.found.TableFound.{TableFound}
use Rattle.delivery.specs.LinkRows.{points_in}
use Rattle.delivery.proofs.Closings.{all_lines, large_are}
use Rattle.delivery.proofs.JudgedLinks.{judged_kept}
use Rattle.delivery.proofs.judging.linked.judge_links.Goals as goal

pub returns-then-has_any : goal.returns-then-has_any
returns-then-has_any c text k =
    let l = layout_view c.args.layout.now in
    let t = transfer_so_far l k.rows in
    let as_found : findings_of c.in_ok-found.found.items ≡ findings l t =
    c.in_ok-found.ensures l k.rows (c.in_ok-sorted.ensures l k.rows k.taken.judged.keys)
    ∙ ap (λ (ts : List TableFound). in_order (in_order (all_found (found_in ts))
    ++ in_order (fed_keys l k.rows))) c.deref_mut.ensures.value
    ∙ all_lines l text c.args.kept.judged
    (judged_kept l text c.args.kept k) c.fed_transfer.ensures in (
      t,
      k.has_rows,
      λ e. c.has_any.ensures.some c.if-has_any.true
          (ap findings_of c.deref-2.ensures.value ∙ as_found ∙ e),
      as_found,
    )

pub returns-then-oversized : goal.returns-then-oversized
returns-then-oversized c text k =
    let l = layout_view c.args.layout.now in
    let t = transfer_so_far l k.rows in
    let as_found : findings_of c.in_ok-found.found.items ≡ findings l t =
    c.in_ok-found.ensures l k.rows (c.in_ok-sorted.ensures l k.rows k.taken.judged.keys)
    ∙ ap (λ (ts : List TableFound). in_order (in_order (all_found (found_in ts))
    ++ in_order (fed_keys l k.rows))) c.deref_mut.ensures.value
    ∙ all_lines l text c.args.kept.judged
    (judged_kept l text c.args.kept k) c.fed_transfer.ensures in
    let clean =
    sym as_found
    ∙ ap findings_of (sym c.deref-2.ensures.value)
    ∙ c.has_any.ensures.none c.if-has_any.false in
    let places = kept_in c.args.kept.judged.places.items in
    let large : c.has_too_large-oversized.result ≡ has_kept_large places t l.areas =
    c.has_too_large-oversized.ensures l k.rows k.taken.judged.keys
    ∙ ap (λ (as_ : List CodeArea). has_kept_large places t (areas_view as_))
    c.deref.ensures.value in
    let n = c.strokes_counted.ensures.counted (form_of l) (lines_of l text).lines t k.has_rows.1 in
    let limits = sym
    (large_are l text c.args.kept.judged
    (judged_kept l text c.args.kept k) c.requires.valid clean n) ∙ sym large in
    (t, k.has_rows, clean, limits ∙ c.if-oversized.true)

pub judge_clean_links-requires-clause-rows : goal.judge_clean_links-requires-clause-rows
judge_clean_links-requires-clause-rows c =
    let text = c.requires.text.0 in
    let k = c.requires.text.1 in
    let l = layout_view c.args.layout.now in
    let t = transfer_so_far l k.rows in
    let as_found : findings_of c.in_ok-found.found.items ≡ findings l t =
    c.in_ok-found.ensures l k.rows (c.in_ok-sorted.ensures l k.rows k.taken.judged.keys)
    ∙ ap (λ (ts : List TableFound). in_order (in_order (all_found (found_in ts))
    ++ in_order (fed_keys l k.rows))) c.deref_mut.ensures.value
    ∙ all_lines l text c.args.kept.judged
    (judged_kept l text c.args.kept k) c.fed_transfer.ensures in
    let clean =
    sym as_found
    ∙ ap findings_of (sym c.deref-2.ensures.value)
    ∙ c.has_any.ensures.none c.if-has_any.false in
    let places = kept_in c.args.kept.judged.places.items in
    let large : c.has_too_large-oversized.result ≡ has_kept_large places t l.areas =
    c.has_too_large-oversized.ensures l k.rows k.taken.judged.keys
    ∙ ap (λ (as_ : List CodeArea). has_kept_large places t (areas_view as_))
    c.deref.ensures.value in
    let n = c.strokes_counted.ensures.counted (form_of l) (lines_of l text).lines t k.has_rows.1 in
    let limits = sym
    (large_are l text c.args.kept.judged
    (judged_kept l text c.args.kept k) c.requires.valid clean n) ∙ sym large in (
      k.rows,
      record {
        kept = record {
          clean = clean;
          counted = n;
          kept = ap kept_in c.deref-3.ensures.value ∙ k.taken.judged.kept;
          has_keys = c.in_ok-sorted.ensures l k.rows k.taken.judged.keys;
        };
        points_are = ap points_in c.deref-4.ensures.value ∙ k.taken.points;
        rise = c.lines_rise.ensures (form_of l) l.codes.continued text t k.has_rows;
      },
      limits ∙ c.if-oversized.false,
    )

pub returns : goal.returns
returns c text k =
    let l = layout_view c.args.layout.now in
    let t = transfer_so_far l k.rows in
    let as_found : findings_of c.in_ok-found.found.items ≡ findings l t =
    c.in_ok-found.ensures l k.rows (c.in_ok-sorted.ensures l k.rows k.taken.judged.keys)
    ∙ ap (λ (ts : List TableFound). in_order (in_order (all_found (found_in ts))
    ++ in_order (fed_keys l k.rows))) c.deref_mut.ensures.value
    ∙ all_lines l text c.args.kept.judged
    (judged_kept l text c.args.kept k) c.fed_transfer.ensures in
    let clean =
    sym as_found
    ∙ ap findings_of (sym c.deref-2.ensures.value)
    ∙ c.has_any.ensures.none c.if-has_any.false in
    let places = kept_in c.args.kept.judged.places.items in
    let large : c.has_too_large-oversized.result ≡ has_kept_large places t l.areas =
    c.has_too_large-oversized.ensures l k.rows k.taken.judged.keys
    ∙ ap (λ (as_ : List CodeArea). has_kept_large places t (areas_view as_))
    c.deref.ensures.value in
    let n = c.strokes_counted.ensures.counted (form_of l) (lines_of l text).lines t k.has_rows.1 in
    let limits = sym
    (large_are l text c.args.kept.judged
    (judged_kept l text c.args.kept k) c.requires.valid clean n) ∙ sym large in
    c.judge_clean_links.ensures text k.rows k.has_rows
    (record {
      kept = record {
        clean = clean;
        counted = n;
        kept = ap kept_in c.deref-3.ensures.value ∙ k.taken.judged.kept;
        has_keys = c.in_ok-sorted.ensures l k.rows k.taken.judged.keys;
      };
      points_are = ap points_in c.deref-4.ensures.value ∙ k.taken.points;
      rise = c.lines_rise.ensures (form_of l) l.codes.continued text t k.has_rows;
    })
    (limits ∙ c.if-oversized.false) (c.count_objects-objects.ensures k.rows k.taken.judged)
