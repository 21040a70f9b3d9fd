use Rattle.std.proofs.Common.{◌≡◌, ◌+◌, length, max, rules, sym}
use Rattle.line_sweep.specs.Kinds.{move_of}
use Rattle.area_search.proofs.SettledLemmas.MeshedRuns.{widest_next}
use Rattle.area_search.proofs.settled.meshing.widest.Goals as goal

pub loop-number-preserved : goal.loop-number-preserved
loop-number-preserved c =
    let v = c.get-event.result in
    let m : c.max-most.result ≡ max c.loop-number.most
    (length v.starting.now + v.ending) = search rules in
    widest_next c.args.events.now c.loop-number.number c.loop-number.most c.max-most.result
    (move_of v) (sym c.get-event.ensures) m c.loop-number.invariant
