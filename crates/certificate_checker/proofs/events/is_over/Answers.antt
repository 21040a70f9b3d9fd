use Rattle.std.proofs.Common.{ℕ, pos, ◌<ℤ◌, ◌↔◌, IsTrue, get_or, subst}
use Rattle.plane.specs.Runs.Positions.{turn_at}
use Rattle.straight_predicates.specs.EdgeLists.{edge_of}
use Rattle.certificate_checker.proofs.ListParts.{over_place}
use Rattle.certificate_checker.proofs.events.is_over.Goals as goal

pub returns-else-place-eq0 : goal.returns-else-place-eq0
returns-else-place-eq0 c =
    over_place (λ (i : ℕ). pos 0 <ℤ turn_at (edge_of c.args.edges.now)
    (get_or c.args.live.now.edges i 0) c.args.at) c.args.place c.if-place-eq0.false
    c.is_above.result
    (subst (λ (e : ℕ). IsTrue c.is_above.result
    ↔ (pos 0 <ℤ turn_at (edge_of c.args.edges.now) e c.args.at))
    (c.get.ensures 0) c.is_above.ensures)
