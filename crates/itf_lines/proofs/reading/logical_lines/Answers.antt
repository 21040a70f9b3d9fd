use Rattle.std.proofs.Common.{[], arith, ap, subst, List}
use Rattle.itf_lines.specs.LogicalLines.{LogicalLine, LogicalLines}
use Rattle.itf_lines.specs.Views.{lines_view}
use Rattle.itf_lines.specs.FeedStates.{FeedState, opening}
use Rattle.itf_lines.specs.Feeds.{Adds}
use Rattle.itf_lines.proofs.Counts.{few_lines}
use Rattle.itf_lines.proofs.FeedLaws.{ends_logical}
use Rattle.itf_lines.proofs.reading.logical_lines.Goals as goal

pub returns-clause-logical : goal.returns-clause-logical
returns-clause-logical c =
    let f = subst
    (λ (s : FeedState). Adds (lines_view c.new-lines.result.items) s c.args.bytes.now
    (lines_view c.feed.new.into.items) c.feed.new.self []) c.new-feed.ensures
    c.in_ok-feed.ensures.lines in
    let g = subst
    (λ (ls : List LogicalLine). Adds ls (opening c.args.codes.now.continued) c.args.bytes.now
    (lines_view c.feed.new.into.items) c.feed.new.self [])
    (ap lines_view c.new-lines.ensures.items) f in
    ends_logical c.args.codes.now.continued c.args.bytes.now (lines_view c.feed.new.into.items)
    (lines_view c.finish.new.into.items) c.feed.new.self c.in_ok-end.end g
    c.in_ok-end.ensures.lines

pub returns-clause-few : goal.returns-clause-few
returns-clause-few c =
    let h = few_lines c.args.bytes.now in
    let e = ap (λ (r : LogicalLines). r.total) (returns-clause-logical c) in
    omega (arith, h, e)
