use Rattle.std.proofs.Common.{◌++◌, ◌∙◌, List, ℕ, ap, sym, append_assoc}
use Rattle.file_pages.specs.Held.{times}
use Rattle.file_pages.proofs.HeldSteps.{times_more}
use Rattle.file_pages.proofs.held.HeldText.add_each.Goals as goal

pub loop-preserved : goal.loop-preserved
loop-preserved c =
    let line = c.args.line.now in
    let n = c.loop.counter in
    c.in_ok-add.ensures
    ∙ (ap (λ (t : List ℕ). t ++ line) c.loop.invariant
    ∙ (append_assoc c.args.self.now (times n line) line
    ∙ ap (λ (t : List ℕ). c.args.self.now ++ t) (sym (times_more n line))))
