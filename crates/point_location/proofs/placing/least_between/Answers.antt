use Rattle.std.proofs.Common.{◌^◌, ◌-◌}
use Rattle.point_location.proofs.Replays.{part_at_end, part_each, part_next}
use Rattle.point_location.proofs.placing.least_between.Goals as goal

pub loop-place-preserved : goal.loop-place-preserved
loop-place-preserved c = record {
  is = part_next c.args.live.now c.args.from c.args.upto c.loop-place.place c.loop-place.auto.place
      c.loop-place-test.true c.requires.within c.get.result c.loop-place.least c.min-least.result
      (2 ^ 32 - 1) (c.get.ensures 0) c.loop-place.invariant.is c.min-least.ensures;
  each = part_each c.args.live.now c.args.from c.args.upto c.loop-place.place
      c.loop-place.auto.place c.loop-place-test.true c.requires.within c.get.result
      c.loop-place.least c.min-least.result
      (c.get.ensures 0) c.loop-place.invariant.each c.min-least.ensures;
}

pub returns-clause-each : goal.returns-clause-each
returns-clause-each c =
    part_at_end c.args.live.now c.args.from c.args.upto c.loop-place.place c.loop-place-test.false
    c.loop-place.least c.loop-place.invariant.each
