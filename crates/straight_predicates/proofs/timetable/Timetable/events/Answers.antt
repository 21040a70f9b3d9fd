use Rattle.std.proofs.Common.{◌≡◌, length, rules, sym, ◌∙◌}
use Rattle.std.proofs.lemmas.List.{length-map}
use Rattle.straight_predicates.specs.Slots.{slots_of, timed_at}
use Rattle.straight_predicates.proofs.StopSlots.{slots_length}
use Rattle.straight_predicates.proofs.timetable.Timetable.events.Goals as goal

pub returns : goal.returns
returns c =
    let stops = c.args.self.now.stops.items in
    let n : c.len.result ≡ length stops = search rules in
    n ∙ sym (length-map (slots_of stops) (timed_at c.args.self.now.numbers.items)
    ∙ slots_length 0 stops)
