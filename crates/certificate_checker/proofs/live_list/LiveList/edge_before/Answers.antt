use Rattle.std.proofs.Common.{arith, ap, sym, ◌∙◌, ℕ, Some}
use Rattle.straight_predicates.proofs.NextEdges.{before_place}
use Rattle.certificate_checker.proofs.live_list.LiveList.edge_before.Goals as goal

pub returns-else-place-eq0 : goal.returns-else-place-eq0
returns-else-place-eq0 c = ap (λ (e : ℕ). Some e) (c.get.ensures 0)
    ∙ sym (before_place c.args.self.now.edges c.args.place (λ w. omega (arith, w)) c.requires)
