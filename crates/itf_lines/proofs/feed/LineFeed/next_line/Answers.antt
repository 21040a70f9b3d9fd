use Rattle.std.proofs.Common.{◌+◌, ◌-◌, [], take, drop, true, false, Bool, subst, ◌∙◌, arith}
use Rattle.itf_lines.specs.Views.{line_view}
use Rattle.itf_lines.specs.Feeds.{line_if, Reads}
use Rattle.itf_lines.proofs.LineCuts.{found_from, found_within, none_from}
use Rattle.itf_lines.proofs.FeedLaws.{reads_next}
use Rattle.itf_lines.proofs.feed.LineFeed.next_line.Goals as goal

pub take_ended-requires-clause-ended : goal.take_ended-requires-clause-ended
take_ended-requires-clause-ended c =
    found_from c.args.piece.now c.loop-end.at c.in-Some.end c.in-Some.ensures

pub returns-then-whole-clause-line : goal.returns-then-whole-clause-line
returns-then-whole-clause-line c =
    reads_next c.args.self.now c.loop-end.self c.take_ended.new.self c.args.piece.now c.loop-end.at
    c.in-Some.end (line_if true (line_view c.take_ended.new.line)) c.loop-end.invariant.reads
    (subst (λ (b : Bool). Reads c.loop-end.self
    (take (c.loop-end.at + c.in-Some.end + 1 - c.loop-end.at)
    (drop c.loop-end.at c.args.piece.now))
    (line_if b (line_view c.take_ended.new.line)) c.take_ended.new.self []) c.if-whole.true
    c.in_ok-whole.ensures.reads)

pub loop-end-preserved : goal.loop-end-preserved
loop-end-preserved c =
    let n = found_within c.args.piece.now c.loop-end.at c.in-Some.end c.loop-end.invariant.within
    c.in-Some.ensures in
    let few = c.loop-end.invariant.few in
    let one = c.in_ok-whole.ensures.ended in
    record {
      within = n;
      reads = reads_next c.args.self.now c.loop-end.self c.take_ended.new.self c.args.piece.now
          c.loop-end.at c.in-Some.end (line_if false (line_view c.take_ended.new.line))
          c.loop-end.invariant.reads
          (subst (λ (b : Bool). Reads c.loop-end.self
          (take (c.loop-end.at + c.in-Some.end + 1 - c.loop-end.at)
          (drop c.loop-end.at c.args.piece.now))
          (line_if b (line_view c.take_ended.new.line)) c.take_ended.new.self [])
          c.if-whole.false c.in_ok-whole.ensures.reads);
      few = omega (arith, few, one);
      failed = c.take_ended.ensures.failed ∙ c.loop-end.invariant.failed;
    }

pub keep-requires : goal.keep-requires
keep-requires c = none_from c.args.piece.now c.loop-end.at c.in_default.ensures
