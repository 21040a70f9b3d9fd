use Rattle.plane.proofs.ListLemmas.Points.{decides_equal}
use Rattle.straight_predicates.proofs.Choices.{or_else}
use Rattle.straight_predicates.proofs.meeting.has_end.Goals as goal

pub returns-else-eq : goal.returns-else-eq
returns-else-eq c =
    let e = c.args.e.now in
    let p = c.args.p in
    or_else _ _ c.eq.result c.eq-else-eq.result
    (decides_equal e.low p c.eq.result c.eq.ensures) c.if-eq.false
    (decides_equal e.high p c.eq-else-eq.result c.eq-else-eq.ensures)
