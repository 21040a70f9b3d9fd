use Rattle.std.proofs.Common.{ℕ, ◌≤◌, ◌≡◌, length, arith, rules, subst}
use Rattle.plane.specs.Rule.Plans.{plan}
use Rattle.forks.specs.ForkedStraights.{AreForkedTo}
use Rattle.forks.proofs.forked.forked_straights.Goals as goal

pub returns : goal.returns
returns c =
    let w = c.args.drawing.now in
    let l : length w.curves.items ≤ c.loop-number.number = search rules in
    let m = c.loop-number.invariant.fits in
    let e : c.loop-number.number ≡ length w.curves.items = omega (arith, l, m) in
    subst (λ (k : ℕ). AreForkedTo w.tolerance (plan w) k c.loop-number.forked) e
    c.loop-number.invariant.forked
