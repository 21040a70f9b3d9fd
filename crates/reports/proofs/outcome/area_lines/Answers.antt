use Rattle.std.proofs.lemmas.Slice.Zip.{either_empty_from_Zip, Zip-more}
use Rattle.std.specs.Iterator.Adapters.{zip_first, zip_second}
use Rattle.std.specs.Slice.Iter.{iter_rest}
use Rattle.table_layout.specs.Values.{layout_view}
use Rattle.reports.proofs.AreaLines.{all_lines, lines_end, lines_more}
use Rattle.reports.proofs.outcome.area_lines.Goals as goal

pub loop-area-preserved : goal.loop-area-preserved
loop-area-preserved c =
    let more = Zip-more c.loop-area.area-iterator c.next.new.self c.next.result _ c.in-Some.is
    c.next.ensures.steps in
    record {
      can_next = (tt, tt);
      is_finite = tt;
      whole = lines_more (layout_view c.args.layout.now) _ c.in-Some.area.now
          (iter_rest (zip_first c.next.new.self)) _ c.in-Some.answer.now
          (iter_rest (zip_second c.next.new.self)) c.loop-area.lines.items c.push.new.self.items
          c.in_ok-area_line.field-0 _ more.0 more.1 c.in_ok-push.ensures.items
          c.in_ok-area_line.ensures c.loop-area.invariant.whole;
    }

pub returns : goal.returns
returns c = all_lines _ _ _
    (lines_end (layout_view c.args.layout.now) (iter_rest (zip_first c.loop-area.area-iterator))
    (iter_rest (zip_second c.loop-area.area-iterator))
    (either_empty_from_Zip c.loop-area.area-iterator c.next.new.self c.next.result c.in-None.is
    c.next.ensures.steps)) c.loop-area.invariant.whole
