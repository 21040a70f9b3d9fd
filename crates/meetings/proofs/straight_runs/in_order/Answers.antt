use Rattle.std.proofs.Common.{◌<◌, length, ◌∙◌, arith}
use Rattle.std.proofs.lemmas.Grind.{get_or_default_zero}
use Rattle.meetings.proofs.BadCurves.{bad_back}
use Rattle.meetings.proofs.StraightLists.{lesser_number}
use Rattle.meetings.proofs.straight_runs.in_order.Goals as goal

pub returns-else-a-b-clause-bad : goal.returns-else-a-b-clause-bad
returns-else-a-b-clause-bad c =
    let ns = c.args.straights.now.numbers.items in
    let s = c.requires.size in
    let f = c.requires.bad.first in
    let g = c.requires.bad.second in
    let first : c.args.first < length ns = omega (arith, s, f) in
    let second : c.args.second < length ns = omega (arith, s, g) in (
      c.args.second,
      c.args.first,
      bad_back c.args.straights.now.edges.items c.args.first c.args.second c.requires.bad,
      c.index-b.ensures ∙ get_or_default_zero ns c.args.second _ second,
      c.index-a.ensures
          ∙ get_or_default_zero ns c.args.first _ first,
    )

pub returns-else-a-b-clause-order : goal.returns-else-a-b-clause-order
returns-else-a-b-clause-order c =
    let ns = c.args.straights.now.numbers.items in
    let s = c.requires.size in
    let f = c.requires.bad.first in
    let g = c.requires.bad.second in
    let first : c.args.first < length ns = omega (arith, s, f) in
    let second : c.args.second < length ns = omega (arith, s, g) in
    lesser_number ns c.args.first c.args.second c.index-a.result.now c.index-b.result.now
    c.requires.rising c.requires.bad.differ first second (c.index-a.ensures
    ∙ get_or_default_zero ns c.args.first _ first)
    (c.index-b.ensures ∙ get_or_default_zero ns c.args.second _ second) c.if-a-b.false
