use Rattle.std.proofs.Common.{rules, ap, ◌∙◌, subst, IsPermutation, refl}
use Rattle.std.proofs.lemmas.List.{take_all}
use Rattle.std.proofs.lemmas.List.Sorted.{answers_always}
use Rattle.straight_predicates.specs.EdgeLists.{no_point}
use Rattle.point_location.proofs.Numbers.{key_of, numbers_from, numbers_step, sorted_points}
use Rattle.point_location.proofs.numbered.in_order.Goals as goal

pub loop-number-preserved : goal.loop-number-preserved
loop-number-preserved c =
    numbers_step c.args.points.now c.loop-number.number no_point c.loop-number.order.items
    c.push.new.self.items _ c.loop-number-test.true c.loop-number.invariant refl
    c.in_ok-push.ensures.items

pub returns : goal.returns
returns c =
    sorted_points c.args.points.now c.sort_unstable_by_key.new.self.items
    (subst (λ zs. IsPermutation zs c.sort_unstable_by_key.new.self.items) (c.loop-number.invariant
    ∙ ap (numbers_from 0)
    (take_all c.loop-number.number c.args.points.now c.loop-number-test.false))
    c.sort_unstable_by_key.ensures.permutation)
    (c.sort_unstable_by_key.ensures.sorted key_of
    (answers_always _ _ _ (λ f a r f' k. search rules)))
