use Rattle.std.proofs.Common.{to_z-of_z}
use Rattle.forks.proofs.OneZone.{zone_near}
use Rattle.forks.proofs.zones.fork_zone.Goals as goal

pub returns-in-HalfArc-Straight-clause-zone : goal.returns-in-HalfArc-Straight-clause-zone
returns-in-HalfArc-Straight-clause-zone c =
    let t = c.ranges.tolerance in simp to_z-of_z at c.zone_of.ensures

pub returns-in-HalfArc-Straight-clause-near : goal.returns-in-HalfArc-Straight-clause-near
returns-in-HalfArc-Straight-clause-near c =
    let t = c.ranges.tolerance in
    zone_near c.bends_are_near.ensures.near c.args.tolerance c.args.arc.now c.args.straight.now
    c.zone_of.result (simp to_z-of_z at c.zone_of.ensures)
