use Rattle.std.proofs.Common.{List, Bool, ℕ, refl, subst}
use Rattle.plane.specs.Rule.Plans.{plan}
use Rattle.area_search.specs.Unsettled.SetAside.{IsNumbered, IsRest, IsSettling}
use Rattle.area_search.proofs.UnsettledLemmas.SetAsideCurves.{few_are_aside}
use Rattle.area_search.proofs.unsettled.aside.few_aside.Goals as goal

pub returns-in-Settled : goal.returns-in-Settled
returns-in-Settled c =
    let d = plan c.args.drawing.now in
    let r = c.in_ok-rest.rest in
    let is = subst (λ (ms : List Bool). IsRest d ms d.points r) c.deref.ensures.value
    c.in_ok-rest.ensures in
    let s = subst (IsSettling (plan r.drawing)) c.in-Settled.is c.in_ok-on.ensures in
    few_are_aside d c.loop.marks.items d.points r is
    (λ i j a b. c.breaks_are_of_curves.ensures d (plan r.drawing) 5 i j a b) refl
    c.loop.invariant s.0 s.1 c.in-Settled.on c.numbered-on_others.result s.2
    (subst (λ (ns : List ℕ). IsNumbered ns c.in-Settled.on c.numbered-on_others.result)
    c.deref-in-Settled.ensures.value c.numbered-on_others.ensures)
