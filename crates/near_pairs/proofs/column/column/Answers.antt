use Rattle.std.proofs.Common.{rules, ap, ◌∙◌, ◌∷◌, [], ◌++◌}
use Rattle.std.proofs.lemmas.List.Sorted.{answers_always}
use Rattle.near_pairs.specs.declared.column.Item.{Item}
use Rattle.near_pairs.proofs.Columns.{low_x_of, one_more, sorted_column}
use Rattle.near_pairs.proofs.column.column.Goals as goal

pub loop-number-preserved : goal.loop-number-preserved
loop-number-preserved c =
    one_more c.args.boxes.now c.loop-number.number c.loop-number.column.items _
    c.loop-number.invariant c.loop-number-test.true
    (c.in_ok-push.ensures.items
    ∙ ap (λ (item : Item). c.loop-number.column.items ++ item ∷ []) c.new.ensures)

pub returns : goal.returns
returns c =
    sorted_column c.args.boxes.now c.loop-number.number c.loop-number.column.items
    c.sort_unstable_by_key.new.self.items c.loop-number-test.false c.loop-number.invariant
    c.sort_unstable_by_key.ensures.permutation
    (c.sort_unstable_by_key.ensures.sorted low_x_of
    (answers_always _ _ _ (λ f a r f' k. search rules)))
