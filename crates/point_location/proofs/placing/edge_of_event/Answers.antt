use Rattle.std.proofs.Common.{refl}
use Rattle.line_sweep.specs.Kinds.{move_of}
use Rattle.point_location.proofs.Replays.{least_of_all, least_is_one, part_is}
use Rattle.point_location.proofs.placing.edge_of_event.Goals as goal

pub returns-clause-is : goal.returns-clause-is
returns-clause-is c =
    least_is_one c.args.live.now (move_of c.args.event.now) _ c.args.event.now.starting.now
    (part_is c.args.live.now c.args.event.now.position c.args.event.now.ending) refl
    c.least_between-ending.result c.least.result
    c.least_between-ending.ensures.each c.least.ensures.bound c.least.ensures.each
    c.least_between-ending.ensures.is c.least.ensures.is c.requires.some

pub returns-clause-least : goal.returns-clause-least
returns-clause-least c =
    least_of_all c.args.live.now (move_of c.args.event.now) _ c.args.event.now.starting.now
    (part_is c.args.live.now c.args.event.now.position c.args.event.now.ending) refl
    c.least_between-ending.result c.least.result
    c.least_between-ending.ensures.each c.least.ensures.bound c.least.ensures.each
