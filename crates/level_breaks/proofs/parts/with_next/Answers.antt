use Rattle.std.proofs.Common.{ℕ, add-one, ap, subst, ◌∙◌}
use Rattle.near_pairs.specs.Boxes.{box_of}
use Rattle.level_breaks.specs.Groups.{HoldsPoint, nth}
use Rattle.level_breaks.proofs.BoxPoints.{covers_itself}
use Rattle.level_breaks.proofs.parts.with_next.Goals as goal

pub returns-then-number-inner-clause-next : goal.returns-then-number-inner-clause-next
returns-then-number-inner-clause-next c =
    λ l. subst (HoldsPoint (box_of c.grown.result)) (c.point_at.ensures
    ∙ ap (λ (n : ℕ). nth c.args.inner.now n) (add-one c.args.number)) c.grown.ensures.point

pub returns-else-number-inner-clause-kept : goal.returns-else-number-inner-clause-kept
returns-else-number-inner-clause-kept c = covers_itself (box_of c.args.reach)
