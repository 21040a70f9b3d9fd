use Rattle.std.proofs.Common.{suc, ◌∙◌}
use Rattle.level_breaks.specs.Groups.{bays_of}
use Rattle.level_breaks.specs.Parts.{PartsClash}
use Rattle.level_breaks.proofs.PlacedGroups.{first_edged, second_edged, whole_first, whole_second}
use Rattle.level_breaks.proofs.StretchParts.{whole_pair}
use Rattle.level_breaks.proofs.meeting.parts_clash.Goals as goal

pub part_count-requires : goal.part_count-requires
part_count-requires c = first_edged c.args.one.now c.args.other.now c.requires

pub part_count-requires-2 : goal.part_count-requires-2
part_count-requires-2 c = second_edged c.args.one.now c.args.other.now c.requires

pub some_sought-requires-clause-first : goal.some_sought-requires-clause-first
some_sought-requires-clause-first c =
    whole_first c.args.one.now c.args.other.now c.all_of-first.result c.requires
    c.all_of-first.ensures.from (c.all_of-first.ensures.to
    ∙ c.part_count.ensures) c.all_of-first.ensures.reach

pub some_sought-requires-clause-second : goal.some_sought-requires-clause-second
some_sought-requires-clause-second c =
    whole_second c.args.one.now c.args.other.now c.all_of-second.result c.requires
    c.all_of-second.ensures.from (c.all_of-second.ensures.to
    ∙ c.part_count-2.ensures) c.all_of-second.ensures.reach

pub returns : goal.returns
returns c =
    let g = c.args.one.now in
    let h = c.args.other.now in
    whole_pair c.some_sought.result (PartsClash g.curve.now g.tube.now h.curve.now h.tube.now)
    c.all_of-first.result c.all_of-second.result (suc (bays_of g.tube.now))
    (suc (bays_of h.tube.now)) c.all_of-first.ensures.from (c.all_of-first.ensures.to
    ∙ c.part_count.ensures) c.all_of-second.ensures.from (c.all_of-second.ensures.to
    ∙ c.part_count-2.ensures) c.some_sought.ensures
