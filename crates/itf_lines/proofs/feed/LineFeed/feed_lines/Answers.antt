use Rattle.std.proofs.Common.{rules, drop, refl}
use Rattle.itf_lines.specs.Views.{line_view, lines_view}
use Rattle.itf_lines.proofs.FeedLaws.{adds_more, adds_last, adds_front, further_on, none_is}
use Rattle.itf_lines.proofs.feed.LineFeed.feed_lines.Goals as goal

pub returns-in_err-n-clause-front : goal.returns-in_err-n-clause-front
returns-in_err-n-clause-front c =
    let f = adds_front (lines_view c.args.into.now.items) (lines_view c.loop-line.into.items)
    (lines_view c.loop-line.into.items) c.args.self.now c.loop-line.self c.args.piece.now
    (drop c.loop-line.at c.args.piece.now) c.loop-line.invariant.adds refl in
    search rules

pub loop-line-preserved : goal.loop-line-preserved
loop-line-preserved c =
    let f = further_on c.args.piece.now c.loop-line.at c.in-Some.n c.args.self.now.ended
    c.loop-line.self.ended c.next.new.self.ended c.in_ok-n.field-0 c.in-Some.is
    c.in_ok-n.ensures.within c.loop-line.invariant.within c.loop-line.invariant.few in
    record {
      within = f.0;
      adds = adds_more (lines_view c.args.into.now.items) (lines_view c.loop-line.into.items)
          (lines_view c.add_line.new.into.items) c.args.self.now c.loop-line.self c.next.new.self
          c.args.piece.now c.loop-line.at c.in-Some.n c.in_ok-n.field-0 (line_view c.next.new.line)
          c.loop-line.invariant.adds c.in-Some.is c.in_ok-n.ensures.line
          c.in_ok-add_line.ensures.added;
      few = f.1;
    }

pub returns-in_err-add_line-clause-front : goal.returns-in_err-add_line-clause-front
returns-in_err-add_line-clause-front c =
    let f = adds_front (lines_view c.args.into.now.items) (lines_view c.loop-line.into.items)
    (lines_view c.add_line.new.into.items) c.args.self.now c.loop-line.self c.args.piece.now
    (drop c.loop-line.at c.args.piece.now) c.loop-line.invariant.adds
    c.in_err-add_line.ensures.kept in
    search rules

pub returns-clause-lines : goal.returns-clause-lines
returns-clause-lines c =
    let k = c.in_default.not-Some in
    let n = c.in_ok-n.ensures.none in
    adds_last (lines_view c.args.into.now.items)
    (lines_view c.loop-line.into.items) c.args.self.now c.loop-line.self c.next.new.self
    c.args.piece.now c.loop-line.at c.loop-line.invariant.adds (none_is c.in_ok-n.field-0 _ k n)
