use Rattle.std.proofs.Common.{ap, length}
use Rattle.straight_predicates.specs.Tables.{table_of}
use Rattle.certificate_checker.proofs.LiveCounts.{count_next, most_next}
use Rattle.certificate_checker.proofs.room.most_live.Goals as goal

pub loop-event-preserved : goal.loop-event-preserved
loop-event-preserved c =
    let i = c.loop-event.invariant in
    let e = ap length c.ending.ensures in
    let s = ap length c.starting.ensures in
    record {
      live = count_next (table_of c.args.table.now) c.loop-event.event c.loop-event.live
          c.loop-event.most c.saturating_sub-left.result c.saturating_add-live.result
          c.max-most.result (length c.ending.result.now) (length c.starting.result.now) e s
          c.saturating_sub-left.ensures c.saturating_add-live.ensures c.max-most.ensures i.live;
      most = most_next (table_of c.args.table.now) c.loop-event.event c.loop-event.live
          c.loop-event.most c.saturating_sub-left.result c.saturating_add-live.result
          c.max-most.result (length c.ending.result.now) (length c.starting.result.now) e s
          c.saturating_sub-left.ensures c.saturating_add-live.ensures c.max-most.ensures i.live
          i.most;
    }
