use Rattle.std.proofs.lemmas.Slice.Zip.{either_empty_from_Zip, Zip-more}
use Rattle.std.specs.Iterator.Adapters.{zip_first, zip_second}
use Rattle.std.specs.Slice.Iter.{iter_rest}
use Rattle.reports.specs.LineViews.{lines_of}
use Rattle.reports.proofs.AreaLines.{all_lines, sizes_end, sizes_more}
use Rattle.reports.proofs.outcome.size_lines.Goals as goal

pub loop-answer-preserved : goal.loop-answer-preserved
loop-answer-preserved c =
    let more = Zip-more c.loop-answer.answer-iterator c.next.new.self c.next.result _ c.in-Some.is
    c.next.ensures.steps in
    record {
      can_next = (tt, tt);
      is_finite = tt;
      whole = sizes_more c.args.size _ c.in-Some.answer.now
          (iter_rest (zip_first c.next.new.self)) _ c.in-Some.certificate.now
          (iter_rest (zip_second c.next.new.self)) (lines_of c.loop-answer.lines.items)
          (lines_of c.add_trial_line.new.lines.items) _ more.0 more.1 c.in_ok-add_trial_line.ensures
          c.loop-answer.invariant.whole;
    }

pub returns : goal.returns
returns c = all_lines _ _ _
    (sizes_end c.args.size (iter_rest (zip_first c.loop-answer.answer-iterator))
    (iter_rest (zip_second c.loop-answer.answer-iterator))
    (either_empty_from_Zip c.loop-answer.answer-iterator c.next.new.self c.next.result c.in-None.is
    c.next.ensures.steps)) c.loop-answer.invariant.whole
