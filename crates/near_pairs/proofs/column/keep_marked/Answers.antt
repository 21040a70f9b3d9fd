use Rattle.std.proofs.Common.{rules}
use Rattle.std.proofs.lemmas.Fn.{filter_same}
use Rattle.near_pairs.specs.Boxes.{mark_of}
use Rattle.near_pairs.specs.declared.column.Item.{Item}
use Rattle.near_pairs.proofs.column.keep_marked.Goals as goal

pub returns : goal.returns
returns c = filter_same _ (λ (item : Item). mark_of c.args.marked.now item.number) _
    (λ x b f' k. search rules) _ _ c.retain.ensures.filtered
