use Rattle.std.proofs.Common.{ap, arith, length, refl, rules, subst}
use Rattle.plane.specs.Rule.Plans.{plan}
use Rattle.tubes.specs.Settled.{missing}
use Rattle.tubes.specs.TubedEdges.{IsListAt}
use Rattle.area_search.proofs.level.by_sweep.shown_by_sweep.Goals as goal

pub shown_by_list-requires-clause-few : goal.shown_by_list-requires-clause-few
shown_by_list-requires-clause-few c =
    let d = plan c.args.drawing.now in
    let t = subst (IsListAt d (λ n. c.args.level)) c.in-Some.is c.in_ok-list.ensures.list in
    let few = c.requires.few (λ n. c.args.level) (λ n. c.requires.low) t.tubes in
    let size = ap length t.edges in
    omega (arith, few, size)

pub returns-in-None : goal.returns-in-None
returns-in-None c =
    let d = plan c.args.drawing.now in
    let (i, half, none) = subst (IsListAt d (λ n. c.args.level)) c.in-None.is c.in_ok-list.ensures.list in
    ((λ s. c.settled_is_unbroken.ensures d (λ n. c.args.level) i i s (missing refl half none)), tt)

pub returns-then-branch : goal.returns-then-branch
returns-then-branch c =
    let d = plan c.args.drawing.now in
    let (i, half, none) = c.in_ok-is_tube_missing.ensures (search rules) in
    ((λ s. c.settled_is_unbroken.ensures d (λ n. c.args.level) i i s (missing refl half none)), tt)
