use Rattle.std.proofs.Common.{rules, refl, arith}
use Rattle.fault_lists.specs.declared.kinds.OnAt.{OnAt}
use Rattle.fault_lists.proofs.Walks.{all_below, no_more, none_yet, one_more}
use Rattle.area_faults.specs.PointLists.{IsChosen}
use Rattle.area_faults.proofs.ChosenCurves.{chosen_only, is_chosen, none_chosen}
use Rattle.area_faults.proofs.point_list.joined.Goals.{in-Some+in_ok-push, in_default}
use Rattle.area_faults.proofs.point_list.joined.Goals as goal

pub loop-number-init : goal.loop-number-init
loop-number-init c =
    none_yet (IsChosen c.args.places.now c.args.least.now)
    (λ (o : OnAt). o.point) c.new-ons.result.items c.new-ons.ensures.items

pub loop-number-preserved : goal.loop-number-preserved
loop-number-preserved c =
    let chooses = c.chosen.ensures in
    elim c.match-chosen.branch [
      | in-Some+in_ok-push w ↦
          one_more (IsChosen c.args.places.now c.args.least.now)
          (λ (o : OnAt). o.point) c.loop-number.number c.loop-number.ons.items _ _
          c.loop-number.invariant (search rules)
          (is_chosen c.args.places.now c.args.least.now c.loop-number.number _ _ c.chosen.result
          c.loop-number-test.true c.requires.size chooses _ w.in-Some.is)
          refl
          (chosen_only c.args.places.now c.args.least.now c.loop-number.number _ _ c.chosen.result
          c.loop-number-test.true c.requires.size chooses _ w.in-Some.is)
      | in_default w ↦
          no_more (IsChosen c.args.places.now c.args.least.now)
          (λ (o : OnAt). o.point) c.loop-number.number c.loop-number.ons.items _
          c.loop-number.invariant (search rules)
          (none_chosen c.args.places.now c.args.least.now c.loop-number.number _ _ c.chosen.result
          c.loop-number-test.true c.requires.size chooses w.in_default.is)
    ]

pub returns : goal.returns
returns c =
    all_below (IsChosen c.args.places.now c.args.least.now)
    (λ (o : OnAt). o.point) c.loop-number.number c.loop-number.ons.items c.loop-number.invariant
    (λ y is. let l = is.there in omega (arith, l, c.loop-number-test.false))
