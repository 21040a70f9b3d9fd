use Rattle.std.proofs.Common.{arith}
use Rattle.near_pairs.specs.Boxes.{box_of}
use Rattle.level_breaks.specs.Parts.{HoldsPart, PartsClash}
use Rattle.level_breaks.proofs.Choices.{clash, refuted}
use Rattle.level_breaks.proofs.PartEdges.{clash_shares}
use Rattle.level_breaks.proofs.PlacedGroups.{first_edged}
use Rattle.level_breaks.proofs.StretchParts.{none_here, none_more_from, placed_one, some_here}
use Rattle.level_breaks.proofs.meeting.some_clash.Goals as goal

pub parts_reach-around-requires-clause-edged : goal.parts_reach-around-requires-clause-edged
parts_reach-around-requires-clause-edged c =
    first_edged c.args.one.now c.args.other.now c.requires.groups

pub are_clashing-requires-clause-around : goal.are_clashing-requires-clause-around
are_clashing-requires-clause-around c =
    let g = c.args.one.now in
    placed_one (HoldsPart g.curve.now g.tube.now (box_of c.parts_reach-around.result)) c.args.part
    c.parts_reach-around.ensures

pub returns-then-not-meets : goal.returns-then-not-meets
returns-then-not-meets c =
    let g = c.args.one.now in
    let h = c.args.other.now in
    let s = c.requires.stretch in (
      (λ t. clash t),
      (λ (j, f, l, p).
          let there = s.there in
          absurd (refuted _ c.meets.result c.meets.ensures c.if-not-meets.true
          (clash_shares c.boxes_hold_means.ensures.triangle c.boxes_hold_means.ensures.straight g h
          c.args.part j (box_of c.parts_reach-around.result)
          (box_of c.args.stretch.now.reach) c.requires.groups c.requires.part
          (omega (arith, l, there)) p
          (placed_one (HoldsPart g.curve.now g.tube.now (box_of c.parts_reach-around.result))
          c.args.part c.parts_reach-around.ensures) (s.placed j f l)))),
    )

pub returns-then-are_clashing : goal.returns-then-are_clashing
returns-then-are_clashing c =
    let g = c.args.one.now in
    let h = c.args.other.now in
    let s = c.args.stretch.now in
    some_here (PartsClash g.curve.now g.tube.now h.curve.now h.tube.now c.args.part) s.from s.to
    c.loop-number.number c.loop-number.auto.number c.loop-number-test.true
    (c.are_clashing.ensures.0 c.if-are_clashing.true)

pub loop-number-preserved : goal.loop-number-preserved
loop-number-preserved c =
    let g = c.args.one.now in
    let h = c.args.other.now in
    none_more_from (PartsClash g.curve.now g.tube.now h.curve.now h.tube.now c.args.part)
    c.args.stretch.now.from c.loop-number.number c.loop-number.invariant
    (refuted _ c.are_clashing.result c.are_clashing.ensures c.if-are_clashing.false)

pub returns : goal.returns
returns c =
    let g = c.args.one.now in
    let h = c.args.other.now in
    let s = c.args.stretch.now in
    none_here (PartsClash g.curve.now g.tube.now h.curve.now h.tube.now c.args.part) s.from s.to
    c.loop-number.number c.loop-number-test.false c.loop-number.invariant
