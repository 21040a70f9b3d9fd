use Rattle.std.proofs.Common.{length, arith, sym, subst, rules, ◌<◌}
use Rattle.plane.specs.Forms.Vectors.{Before}
use Rattle.line_sweep.specs.Kinds.{move_of}
use Rattle.point_location.proofs.Replays.{applied_next, block_fits, passed_next}
use Rattle.point_location.proofs.replaying.apply_before.Goals as goal

pub apply-requires : goal.apply-requires
apply-requires c =
    let v = c.get in
    block_fits c.args.events.now c.requires.fit c.loop-next.next c.loop-next.live
    c.loop-next.invariant.done
    (let n = c.len.ensures in let t = c.loop-next-test.true in
    omega (arith, n, t)) (move_of v.result) (sym v.ensures)

pub loop-next-preserved : goal.loop-next-preserved
loop-next-preserved c =
    let v = c.get in
    let l : c.loop-next.next < length c.args.events.now = (let n = c.len.ensures in
    let t = c.loop-next-test.true in omega (arith, n, t)) in
    let before : Before c.at.result c.args.at = search rules in
    record {
      done = applied_next c.args.events.now c.requires.fit c.loop-next.next c.loop-next.live
          c.loop-next.invariant.done l (move_of v.result)
          (sym v.ensures) c.apply.new.live c.in_ok-apply.ensures;
      least = let l = c.loop-next.invariant.least in omega (arith, l);
      passed = passed_next c.args.events.now c.args.applied c.loop-next.next c.args.at
          c.loop-next.invariant.passed
          (subst (λ p. Before p c.args.at) c.at.ensures before);
    }
