use Rattle.std.proofs.Common.{List, subst, sym}
use Rattle.plane.specs.declared.kinds.Point.{Point}
use Rattle.level_breaks.specs.GroupBreaks.{IsChordJudged}
use Rattle.level_breaks.proofs.PlacedGroups.{chord_judged}
use Rattle.level_breaks.proofs.chords.is_under_chord.Goals as goal

pub any_low-requires : goal.any_low-requires
any_low-requires c =
    subst (λ (ps : List Point). IsChordJudged c.args.half_arc.now.curve.now ps)
    (sym c.deref.ensures.value)
    (chord_judged c.args.straight.now c.args.half_arc.now c.in-None-Some.tube c.requires
    c.in-None-Some.is-1)
