use Rattle.itf_lines.specs.Views.{line_view}
use Rattle.table_layout.specs.Values.{layout_view}
use Rattle.delivery.proofs.PieceSteps.{one_more, further_on}
use Rattle.delivery.proofs.judging.lines.Judge.take.Goals as goal

pub loop-n-preserved : goal.loop-n-preserved
loop-n-preserved g c =
    let l = layout_view c.args.layout.now in
    let f = further_on c.args.piece.now c.loop-n.at c.in-Some.n c.args.self.now.lines.ended
    c.loop-n.self.lines.ended c.next.new.self.ended c.in_ok-n.field-0 c.in-Some.is
    c.in_ok-n.ensures.within c.loop-n.invariant.within c.loop-n.invariant.few in
    record {
      within = f.0;
      takes =
          one_more _ g.K.RowKeeper.has_rows l c.args.self.now c.loop-n.self
          (record {
            lines = c.next.new.self;
            line = c.take.new.line;
            rows = c.take.new.self;
          }) c.args.piece.now c.loop-n.at c.in-Some.n c.in_ok-n.field-0
          (line_view c.next.new.line)
          c.loop-n.invariant.takes c.in-Some.is c.in_ok-n.ensures.line c.in_ok-take.ensures.at
          c.in_ok-take.ensures.sound c.in_ok-take.ensures.taken;
      few = f.1;
    }
