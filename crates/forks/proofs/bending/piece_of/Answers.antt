use Rattle.std.proofs.Common.{List, take, drop, ◌-◌, subst, sym}
use Rattle.plane.specs.Rule.Plans.{plan}
use Rattle.plane.specs.declared.kinds.Curve.{Curve}
use Rattle.forks.specs.Bent.{StandFor}
use Rattle.forks.proofs.HeldParts.{free_stands, held_stands}
use Rattle.forks.proofs.LeastBends.{refused}
use Rattle.forks.proofs.bending.piece_of.Goals as goal

pub returns-then-is_held : goal.returns-then-is_held
returns-then-is_held c =
    let w = c.args.drawing.now in
    subst (StandFor w.tolerance (plan w) c.args.straight.number) (sym c.itself.ensures)
    (held_stands w.tolerance (plan w) c.args.forked.now.parts.items c.args.straight
    c.requires.straight c.args.held.now c.requires.held (c.is_held.ensures.0 c.if-is_held.true))

pub returns-else-is_held : goal.returns-else-is_held
returns-else-is_held c =
    let w = c.args.drawing.now in
    let x = c.args.straight in
    subst (λ (cs : List Curve). StandFor w.tolerance (plan w) x.number
    (take (x.end - x.start) (drop x.start cs))) (sym c.deref.ensures.value)
    (free_stands w.tolerance (plan w) c.args.forked.now.parts.items x c.requires.straight
    c.args.held.now c.requires.held
    (λ h. refused c.is_held.result c.if-is_held.false (c.is_held.ensures.1 h)))
