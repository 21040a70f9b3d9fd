use Rattle.std.proofs.Common.{◌≡◌, ℕ, sym, ◌∙◌}
use Rattle.std.proofs.lemmas.List.{get_or_read}
use Rattle.faces.proofs.LinkSteps.{least_put, least_skip}
use Rattle.faces.proofs.linking.least_of_rank.Goals as goal
use Rattle.faces.proofs.linking.least_of_rank.Goals.{then-rank_of-rank, else-rank_of-rank}

pub loop-g-preserved : goal.loop-g-preserved
loop-g-preserved c =
    let at = get_or_read c.args.row.now c.loop-g.g-index c.g-item.result c.loop-g-test.true
    c.g-item.is 0 in
    let v : ◌≡◌ {A = ℕ} c.g.inside.0 c.g-item.result = c.g.view_is in
    elim c.if-rank_of-rank.branch [
      | then-rank_of-rank w ↦
          let s = least_put c.args.ranks.now c.args.row.now c.args.rank c.loop-g.g-index
          c.loop-g.least c.if-rank_of-rank.least c.g.inside.0 c.loop-g-test.true (v
          ∙ at) c.loop-g.invariant.least c.loop-g.invariant.is
          (sym c.rank_of.ensures ∙ w.if-rank_of-rank.true) (w.least-is ∙ w.min-least.ensures) in
          record { least = s.0; is = s.1 }
      | else-rank_of-rank w ↦
          let s = least_skip c.args.ranks.now c.args.row.now c.args.rank c.loop-g.g-index
          c.loop-g.least c.if-rank_of-rank.least c.g.inside.0 c.loop-g-test.true (v
          ∙ at) c.loop-g.invariant.least c.loop-g.invariant.is
          (λ q. w.if-rank_of-rank.false (c.rank_of.ensures ∙ q)) w.least-is in
          record { least = s.0; is = s.1 }
    ]
