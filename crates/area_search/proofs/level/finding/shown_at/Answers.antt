use Rattle.plane.specs.Rule.Plans.{plan}
use Rattle.area_search.proofs.level.finding.shown_at.Goals as goal

pub returns-then-branch : goal.returns-then-branch
returns-then-branch c = (
  λ s. c.settled_is_unbroken.ensures (plan c.args.drawing.now) (λ n. c.args.level) c.in-Some.two.first
      c.in-Some.two.second s (c.in_ok-breaks_level.ensures.0 c.if-branch.true),
  (rw c.in-Some.is at c.requires.pair),
)
