use Rattle.std.proofs.Common.{ap, ◌∙◌, subst}
use Rattle.plane.specs.Lists.{Has}
use Rattle.line_sweep.proofs.LiveNumbers.{one_more}
use Rattle.line_sweep.proofs.clashes.ClashSweep.choose_unmarked.Goals as goal
use Rattle.line_sweep.proofs.clashes.ClashSweep.choose_unmarked.Goals.{then-not-is_marked+in_ok-push}
use Rattle.line_sweep.proofs.clashes.ClashSweep.choose_unmarked.Goals.{else-not-is_marked}

pub loop-edge-preserved : goal.loop-edge-preserved
loop-edge-preserved c =
    elim c.if-not-is_marked.branch [
      | then-not-is_marked+in_ok-push w ↦ record {
        fresh = one_more c.args.edges.now c.loop-edge.self.fresh.items
            c.if-not-is_marked.self.fresh.items c.loop-edge.edge-index _ c.loop-edge-test.true
            (ap (λ s. s.fresh.items) w.self-is
            ∙ w.in_ok-push.ensures.items) c.loop-edge.invariant.fresh;
        live = ap (λ s. s.live) w.self-is ∙ c.loop-edge.invariant.live;
        marks = ap (λ s. s.marks) w.self-is ∙ c.loop-edge.invariant.marks;
      }
      | else-not-is_marked w ↦ record {
        fresh = λ e h. c.loop-edge.invariant.fresh e
            (subst (Has e) (ap (λ s. s.fresh.items) w.self-is) h);
        live = ap (λ s. s.live) w.self-is ∙ c.loop-edge.invariant.live;
        marks = ap (λ s. s.marks) w.self-is ∙ c.loop-edge.invariant.marks;
      }
    ]
