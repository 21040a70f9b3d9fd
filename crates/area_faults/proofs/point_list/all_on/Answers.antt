use Rattle.std.proofs.Common.{List, ℕ, Option, subst}
use Rattle.fault_lists.specs.FaceLists.{HasExactly}
use Rattle.fault_lists.specs.declared.faces.PointPlace.{PointPlace}
use Rattle.fault_lists.specs.declared.kinds.OnAt.{OnAt}
use Rattle.area_faults.specs.PointLists.{IsChosen}
use Rattle.area_faults.proofs.PointLists.{points_are_on}
use Rattle.area_faults.proofs.point_list.all_on.Goals as goal

pub returns : goal.returns
returns c = λ d out h pairs.
    points_are_on d h.0 out h.1 c.args.faces.now h.2 c.args.pairs.now pairs
    c.in_ok-least.least.items c.in_ok-least.ensures.least c.in_ok-ons.ons.items
    (subst (λ (xs : List (Option ℕ)). HasExactly (IsChosen c.args.faces.now.points.items xs)
    (λ (o : OnAt). o.point) c.in_ok-ons.ons.items) c.deref-2.ensures.value
    (subst (λ (ps : List PointPlace). HasExactly (IsChosen ps c.deref-2.result.now)
    (λ (o : OnAt). o.point) c.in_ok-ons.ons.items) c.deref.ensures.value c.in_ok-ons.ensures))
