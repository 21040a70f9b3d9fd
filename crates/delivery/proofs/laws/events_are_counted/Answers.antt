use Rattle.std.proofs.Common.{List, length, sym, ap, ◌∙◌}
use Rattle.plane.specs.Runs.Timetables.{Timed}
use Rattle.delivery.proofs.laws.events_are_counted.Goals as goal

pub returns-clause-one : goal.returns-clause-one
returns-clause-one c d level m n h k =
    h.count ∙ ap (λ (ts : List Timed). length ts)
    (c.timetables.ensures.one _ _ h.table k.table h.is_table k.is_table) ∙ sym k.count

pub returns-clause-positions : goal.returns-clause-positions
returns-clause-positions c d claims h =
    record { table = h.table; is_table = h.is_table; count = h.rules.counts.positions }
