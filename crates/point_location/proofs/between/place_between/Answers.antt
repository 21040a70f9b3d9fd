use Rattle.std.proofs.Common.{rules, arith, subst, sym, ◌≡◌, ◌∙◌, ◌<◌, ◌<ℤ◌, ◌≤ℤ◌, pos, ℕ, length}
use Rattle.plane.specs.Lists.{Has}
use Rattle.plane.specs.Runs.Positions.{turn_at}
use Rattle.straight_predicates.specs.EdgeLists.{edge_of}
use Rattle.straight_predicates.specs.declared.turns.Turn.TheVariants.{Straight}
use Rattle.point_location.proofs.PlaneLaws.{has_at}
use Rattle.point_location.proofs.Signs.{not_straight, straight}
use Rattle.point_location.proofs.between.place_between.Goals as goal
use Rattle.point_location.proofs.between.place_between.Goals.{else-position-len-via-then-position-len+else-eq}
use Rattle.point_location.proofs.between.place_between.Goals.{else-position-len-via-else-position-len}

pub returns-then-eq : goal.returns-then-eq
returns-then-eq c =
    let e : c.turn_over.result ≡ Straight = search rules in
    let l : c.cut-position.result < length c.args.live.now = let t = c.if-position-len.true in
    let n = c.len.ensures in omega (arith, t, n) in
    let g = c.get.ensures 0 in
    let h = c.get-then-eq.ensures 0 in
    record {
      live_edge = subst (λ (d : ℕ). Has d c.args.live.now) (sym h)
          (has_at c.args.live.now c.cut-position.result 0 l);
      line = subst (λ (d : ℕ). turn_at (edge_of c.args.edges.now) d c.args.at ≡ pos 0) (g ∙ sym h)
          (straight c.turn_over.result _ c.turn_over.ensures e);
    }

pub returns : goal.returns
returns c = record {
  within = c.cut-position.ensures.within;
  above = c.cut-position.ensures.below;
  below = λ l. elim c.else-position-len.branch [
    | else-position-len-via-then-position-len+else-eq w ↦
        subst (λ (d : ℕ). turn_at (edge_of c.args.edges.now) d c.args.at <ℤ pos 0) (w.get.ensures 0)
        (not_straight w.turn_over.result _ w.turn_over.ensures (search rules)
        (subst (λ (d : ℕ). turn_at (edge_of c.args.edges.now) d c.args.at ≤ℤ pos 0)
        (sym (w.get.ensures 0)) (c.cut-position.ensures.above l)))
    | else-position-len-via-else-position-len w ↦ absurd (let h = w.if-position-len.false in
        let n = c.len.ensures in omega (arith, l, h, n))
  ];
  lower_is = c.edge_before.ensures;
  upper_is = c.edge_at.ensures;
}
