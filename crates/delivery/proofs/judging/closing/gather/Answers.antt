use Rattle.std.proofs.Common.{arith}
use Rattle.itf_reader.specs.Findings.{findings_of}
use Rattle.delivery.proofs.JudgingSteps.{gathered_step, still_counted}
use Rattle.delivery.proofs.judging.closing.gather.Goals as goal

pub loop-place-preserved : goal.loop-place-preserved
loop-place-preserved c =
    let i = c.loop-place.invariant in
    let s =
    gathered_step c.loop-place.tables c.args.tables.now c.loop-place.place
    c.index-tables-place.result c.take_found.new.table (findings_of c.loop-place.all.items)
    (findings_of c.take_found.new.all.items) (omega (arith, c.loop-place-test.true, i.count))
    i.rest i.found c.in_ok-take_found.ensures in
    record {
      count = still_counted c.loop-place.tables c.loop-place.place _ c.take_found.new.table i.count;
      rest = s.rest;
      found = s.found;
    }
