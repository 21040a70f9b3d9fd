use Rattle.std.proofs.lemmas.Slice.Zip.{either_empty_from_Zip, Zip-more}
use Rattle.std.specs.Iterator.Adapters.{zip_first, zip_second}
use Rattle.std.specs.Slice.Iter.{iter_rest}
use Rattle.reports.proofs.AreaLines.{proofs_all, proofs_end, proofs_more}
use Rattle.reports.proofs.outcome.proof_answers.Goals as goal

pub loop-drawing-preserved : goal.loop-drawing-preserved
loop-drawing-preserved c =
    let more = Zip-more c.loop-drawing.drawing-iterator c.next.new.self c.next.result _ c.in-Some.is
    c.next.ensures.steps in
    record {
      can_next = (tt, tt);
      is_finite = tt;
      whole = proofs_more _ c.in-Some.drawing.now
          (iter_rest (zip_first c.next.new.self)) _ c.in-Some.level.now
          (iter_rest (zip_second c.next.new.self)) c.loop-drawing.answers.items
          c.push.new.self.items c.proof_answer.result _ more.0 more.1 c.in_ok-push.ensures.items
          c.proof_answer.ensures c.loop-drawing.invariant.whole;
    }

pub returns : goal.returns
returns c = proofs_all _ _ _
    (proofs_end (iter_rest (zip_first c.loop-drawing.drawing-iterator))
    (iter_rest (zip_second c.loop-drawing.drawing-iterator))
    (either_empty_from_Zip c.loop-drawing.drawing-iterator c.next.new.self c.next.result
    c.in-None.is c.next.ensures.steps)) c.loop-drawing.invariant.whole
