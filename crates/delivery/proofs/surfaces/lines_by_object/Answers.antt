use Rattle.std.proofs.Common.{ℕ, List, Option, drop, get_or, refl, ap, ◌∙◌}
use Rattle.std.proofs.lemmas.List.{with_items_is}
use Rattle.std.specs.Borrow.{Bor}
use Rattle.std.specs.Global.{Vec}
use Rattle.itf_reader.specs.RowReadings.{vertices_view}
use Rattle.itf_reader.specs.declared.rows.values.ReadVertex.{ReadVertex}
use Rattle.ident_refs.specs.KeptViews.{named_view}
use Rattle.delivery.specs.ObjectLines.{added_at, named_rows, objects_view}
use Rattle.area_drawings.proofs.StrokeSteps.{count_after}
use Rattle.delivery.proofs.SurfaceSteps.{grouped_end, line_step}
use Rattle.delivery.proofs.surfaces.lines_by_object.Goals as goal

pub loop-number-preserved : goal.loop-number-preserved
loop-number-preserved c =
    let i = c.loop-number.invariant in
    let ns = c.args.counts.now in
    let k = c.loop-number.number in
    let n = get_or ns k 0 in
    let vs = c.loop-number.rest.now in
    let own = c.split_at.result.0.now in
    let rest = c.split_at.result.1.now in
    let names = named_rows (named_view c.args.named.now) in
    let old = objects_view c.loop-number.lines.items in
    let back = with_items_is c.loop-number.lines c.add_line.new.objects
    (c.add_line.auto.objects ∙ c.deref_mut.ensures.len) in
    let added = ap objects_view back
    ∙ c.in_ok-add_line.ensures
    ∙ ap (λ (os : List (Vec (Bor (List ReadVertex)))). added_at c.row_at.result
    (vertices_view own) (objects_view os)) c.deref_mut.ensures.value
    ∙ ap (λ (r : Option ℕ). added_at r (vertices_view own) old) c.row_at.ensures in
    record {
      counted = count_after ns k n vs rest c.loop-number-test.true refl c.split_at.ensures.back
          i.counted;
      whole = line_step ns k n vs own rest names old _ _ c.loop-number-test.true refl
          c.split_at.ensures.front c.split_at.ensures.back added i.whole;
    }

pub returns : goal.returns
returns c =
    let names = named_rows (named_view c.args.named.now) in
    grouped_end (drop c.loop-number.number names) c.args.counts.now c.loop-number.number
    (vertices_view c.loop-number.rest.now) (objects_view c.loop-number.lines.items) _
    c.loop-number-test.false c.loop-number.invariant.whole
