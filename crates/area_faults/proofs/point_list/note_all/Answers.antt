use Rattle.std.proofs.lemmas.List.{get_or_default}
use Rattle.area_faults.proofs.LeastCurves.{all_noted, none_noted, noted_next}
use Rattle.area_faults.proofs.point_list.note_all.Goals as goal

pub loop-pair-init : goal.loop-pair-init
loop-pair-init c = none_noted c.args.pairs.now c.args.least.now c.requires.none

pub loop-pair-preserved : goal.loop-pair-preserved
loop-pair-preserved c =
    noted_next c.args.pairs.now c.loop-pair.pair-index c.loop-pair.least c.note.new.least _
    (get_or_default c.args.pairs.now c.loop-pair.pair-index _ _ c.loop-pair-test.true)
    c.note.ensures.noted c.loop-pair.invariant

pub returns-clause-least : goal.returns-clause-least
returns-clause-least c =
    all_noted c.args.pairs.now c.loop-pair.pair-index c.loop-pair.least c.loop-pair-test.false
    c.loop-pair.auto.pair-index-end c.loop-pair.invariant
