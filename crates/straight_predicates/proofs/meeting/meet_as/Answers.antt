use Rattle.straight_predicates.proofs.Choices.{refuted}
use Rattle.straight_predicates.proofs.OneSide.{IsAside, aside_apart, apart_back}
use Rattle.straight_predicates.proofs.Crossing.{IsAcross, common, touch_across, bad_without_end}
use Rattle.straight_predicates.proofs.TurnSigns.{AreTurns, turns_aside, aside_turns, turns_across}
use Rattle.straight_predicates.proofs.meeting.meet_as.Goals as goal

pub returns-then-is_one_side : goal.returns-then-is_one_side
returns-then-is_one_side c =
    let s = c.args.s.now in
    let t = c.args.t.now in
    let turns : AreTurns s t c.turn-low.result
    c.turn-high.result = record { low = c.turn-low.ensures; high = c.turn-high.ensures } in
    aside_apart s t (turns_aside s t _ _ turns (c.is_one_side.ensures.0 c.if-is_one_side.true))

pub returns-then-is_one_side-2 : goal.returns-then-is_one_side-2
returns-then-is_one_side-2 c =
    let s = c.args.s.now in
    let t = c.args.t.now in
    let turns : AreTurns t s c.turn.result c.turn-2.result = record {
      low = c.turn.ensures;
      high = c.turn-2.ensures;
    } in
    apart_back s t
    (aside_apart t s
    (turns_aside t s _ _ turns (c.is_one_side-2.ensures.0 c.if-is_one_side-2.true)))

pub returns-then-share_end : goal.returns-then-share_end
returns-then-share_end c =
    let s = c.args.s.now in
    let t = c.args.t.now in
    let turns : AreTurns s t c.turn-low.result
    c.turn-high.result = record { low = c.turn-low.ensures; high = c.turn-high.ensures } in
    let across : IsAcross s t = turns_across s t _ _ turns
    (refuted _ c.are_straight.result c.are_straight.ensures c.if-are_straight.false) in
    touch_across s t across (c.share_end.ensures.0 c.if-share_end.true)

pub returns-else-share_end : goal.returns-else-share_end
returns-else-share_end c =
    let s = c.args.s.now in
    let t = c.args.t.now in
    let turns : AreTurns s t c.turn-low.result
    c.turn-high.result = record { low = c.turn-low.ensures; high = c.turn-high.ensures } in
    let back : AreTurns t s c.turn.result c.turn-2.result = record {
      low = c.turn.ensures;
      high = c.turn-2.ensures;
    } in
    let across : IsAcross s t = turns_across s t _ _ turns
    (refuted _ c.are_straight.result c.are_straight.ensures c.if-are_straight.false) in
    let clear : IsAside s t
    → ⊥ = λ h. refuted _ c.is_one_side.result c.is_one_side.ensures c.if-is_one_side.false
    (aside_turns s t _ _ turns h) in
    let clear_back : IsAside t s
    → ⊥ = λ h. refuted _ c.is_one_side-2.result c.is_one_side-2.ensures c.if-is_one_side-2.false
    (aside_turns t s _ _ back h) in
    bad_without_end s t (common s t across clear clear_back)
    (refuted _ c.share_end.result c.share_end.ensures c.if-share_end.false)
