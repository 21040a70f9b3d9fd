use Rattle.std.proofs.Common.{arith, ap, sym, ◌∙◌, ℕ, Some}
use Rattle.straight_predicates.proofs.NextEdges.{at_place, past_end}
use Rattle.certificate_checker.proofs.live_list.LiveList.edge_at.Goals as goal

pub returns-then-place-len : goal.returns-then-place-len
returns-then-place-len c = ap (λ (e : ℕ). Some e) (c.get.ensures 0)
    ∙ sym (at_place c.args.self.now.edges c.args.place (let l = c.if-place-len.true in
    let e = c.len.ensures in omega (arith, l, e)))

pub returns-else-place-len : goal.returns-else-place-len
returns-else-place-len c =
    sym (past_end c.args.self.now.edges c.args.place (let l = c.if-place-len.false in
    let e = c.len.ensures in omega (arith, l, e)))
