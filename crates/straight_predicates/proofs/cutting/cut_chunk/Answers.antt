use Rattle.std.proofs.Common.{arith, subst, pos, ◌<ℤ◌, ◌≤ℤ◌, ◌≡◌, ◌+◌, ◌-◌, ◌/◌, ◌<◌, get_or, ℕ}
use Rattle.plane.specs.Runs.Positions.{turn_at}
use Rattle.straight_predicates.specs.EdgeLists.{edge_of}
use Rattle.straight_predicates.proofs.Cuts.{before_next, failed, middle_least}
use Rattle.straight_predicates.proofs.cutting.cut_chunk.Goals as goal

pub loop-low-preserved-then-is_below : goal.loop-low-preserved-then-is_below
loop-low-preserved-then-is_below c =
    let m : c.loop-low.low + (c.loop-low.high - c.loop-low.low) / 2 < c.loop-low.high = middle_least
    c.loop-low.low c.loop-low.high c.loop-low-test.true in
    record {
      order = omega (arith, m);
      within = c.loop-low.invariant.within;
      below = λ i e. before_next
          (λ n. pos 0 <ℤ turn_at (edge_of c.args.edges.now) (get_or c.args.live.now n 0) c.args.at)
          _ i e (c.is_below.ensures.0 c.if-is_below.true);
      above = c.loop-low.invariant.above;
    }

pub loop-low-preserved : goal.loop-low-preserved
loop-low-preserved c =
    let m : c.loop-low.low + (c.loop-low.high - c.loop-low.low) / 2 < c.loop-low.high = middle_least
    c.loop-low.low c.loop-low.high c.loop-low-test.true in
    let w = c.loop-low.invariant.within in
    record {
      order = omega arith;
      within = omega (arith, m, w);
      below = c.loop-low.invariant.below;
      above = λ l. failed _ c.is_below.result c.is_below.ensures c.if-is_below.false;
    }

pub returns-clause-above : goal.returns-clause-above
returns-clause-above c l =
    let o = c.loop-low.invariant.order in
    let t = c.loop-low-test.false in
    let e : c.loop-low.high ≡ c.loop-low.low = omega (arith, o, t) in
    subst (λ (n : ℕ). turn_at (edge_of c.args.edges.now)
    (get_or c.args.live.now n 0) c.args.at ≤ℤ pos 0) e
    (c.loop-low.invariant.above (omega (arith, l, e)))
