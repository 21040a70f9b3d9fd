use Rattle.std.proofs.Common.{◌<◌, ◌-◌, length, rules, subst, sym}
use Rattle.plane.specs.Rule.Windows.{IsInside}
use Rattle.plane.specs.declared.kinds.Placed.{Placed}
use Rattle.forks.proofs.PlaneLaws.{inside_near, nearer, no_curve}
use Rattle.forks.proofs.held.HeldTestPairTest.is_sought.Goals as goal

pub is_on_straight-requires-clause-ends : goal.is_on_straight-requires-clause-ends
is_on_straight-requires-clause-ends c =
    let w = c.args.self.now.drawing.now in
    let l : c.args.first < length c.args.self.now.parts.now = search rules in
    let d = (c.requires.2 c.args.first no_curve l).drawn in
    nearer _ _ (inside_near w.window.low w.window.high _ _ w.window.narrow d.from d.to)

pub is_on_straight-requires-clause-point : goal.is_on_straight-requires-clause-point
is_on_straight-requires-clause-point c =
    let w = c.args.self.now.drawing.now in
    let l : c.args.first < length c.args.self.now.parts.now = search rules in
    let d = (c.requires.2 c.args.first no_curve l).drawn in
    let k : c.args.second - length c.args.self.now.parts.now < length w.points.items = search
    rules in
    let p = subst (λ (x : Placed). IsInside w.window.low w.window.high x.at) (sym c.index.ensures)
    (w.points_inside (c.args.second - length c.args.self.now.parts.now) c.index.result.now k) in
    nearer _ _ (inside_near w.window.low w.window.high _ _ w.window.narrow d.from p)
