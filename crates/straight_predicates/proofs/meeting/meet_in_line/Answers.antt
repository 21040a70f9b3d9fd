use Rattle.std.proofs.Common.{◌≡◌, sym, ◌∙◌, inl, inr}
use Rattle.plane.specs.Forms.Vectors.{Before}
use Rattle.plane.proofs.ListLemmas.Points.{decides_equal, before_other}
use Rattle.straight_predicates.proofs.Choices.{differ, refuted}
use Rattle.straight_predicates.proofs.OneLine.{AreSorted, line_apart, line_touch, line_bad}
use Rattle.straight_predicates.proofs.TurnSigns.{crosses_line}
use Rattle.straight_predicates.proofs.meeting.meet_in_line.Goals as goal
use Rattle.straight_predicates.proofs.meeting.meet_in_line.Goals.{then-before, else-before, then-eq}
use Rattle.straight_predicates.proofs.meeting.meet_in_line.Goals.{else-eq}

pub returns-then-before-2 : goal.returns-then-before-2
returns-then-before-2 c =
    let s = c.args.s.now in
    let t = c.args.t.now in
    let sorted : AreSorted s t = record {
      first = c.requires.s_sorted;
      second = c.requires.t_sorted;
      close = c.requires.close;
    } in
    line_apart s t sorted (elim c.if-before.branch [
      | then-before w ↦ inl (c.before-2.ensures.0 w.if-before.true)
      | else-before w ↦ inr (w.before-else-before.ensures.0 (sym w.value-is ∙ c.if-before-2.true))
    ])

pub returns-then-eq-2 : goal.returns-then-eq-2
returns-then-eq-2 c =
    let s = c.args.s.now in
    let t = c.args.t.now in
    let sorted : AreSorted s t = record {
      first = c.requires.s_sorted;
      second = c.requires.t_sorted;
      close = c.requires.close;
    } in
    line_touch s t sorted (elim c.if-eq.branch [
      | then-eq w ↦ inl ((decides_equal s.high t.low c.eq.result c.eq.ensures).0 w.if-eq.true)
      | else-eq w ↦ inr
          ((decides_equal t.high s.low w.eq-else-eq.result w.eq-else-eq.ensures).0 (sym w.value-is
          ∙ c.if-eq-2.true))
    ])

pub returns-else-eq-2 : goal.returns-else-eq-2
returns-else-eq-2 c =
    let s = c.args.s.now in
    let t = c.args.t.now in
    let sorted : AreSorted s t = record {
      first = c.requires.s_sorted;
      second = c.requires.t_sorted;
      close = c.requires.close;
    } in
    let not_before : (Before s.high t.low → ⊥)
    × (Before t.high s.low → ⊥) = elim c.if-before.branch [
      | then-before w ↦ differ (sym (w.value-is ∙ w.if-before.true) ∙ c.if-before-2.false)
      | else-before w ↦ (
        refuted _ c.before-2.result c.before-2.ensures w.if-before.false,
        refuted _ w.before-else-before.result w.before-else-before.ensures (sym w.value-is
            ∙ c.if-before-2.false),
      )
    ] in
    let not_equal : (s.high ≡ t.low → ⊥) × (t.high ≡ s.low → ⊥) = elim c.if-eq.branch [
      | then-eq w ↦ differ (sym (w.value-is ∙ w.if-eq.true) ∙ c.if-eq-2.false)
      | else-eq w ↦ (
        refuted _ c.eq.result (decides_equal s.high t.low c.eq.result c.eq.ensures) w.if-eq.false,
        refuted _ w.eq-else-eq.result
            (decides_equal t.high s.low w.eq-else-eq.result w.eq-else-eq.ensures) (sym w.value-is
            ∙ c.if-eq-2.false),
      )
    ] in
    line_bad s t sorted (crosses_line s t c.requires.low c.requires.high)
    (before_other s.high t.low not_before.0 not_equal.0)
    (before_other t.high s.low not_before.1 not_equal.1)
