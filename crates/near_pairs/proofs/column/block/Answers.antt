use Rattle.std.proofs.Common.{rules}
use Rattle.std.proofs.lemmas.Fn.{always_returns_same}
use Rattle.near_pairs.proofs.Blocks.{begins_before, begins_within, block_whole}
use Rattle.near_pairs.proofs.column.block.Goals as goal

pub returns-clause-whole : goal.returns-clause-whole
returns-clause-whole c =
    block_whole c.args.column.now c.args.low c.args.high c.partition_point-start.result
    c.partition_point-end.result c.requires
    (c.partition_point-start.ensures.partitioned (begins_before c.args.low)
    (always_returns_same _ _ _ (λ a r f' k. (search rules, search rules))))
    (c.partition_point-end.ensures.partitioned (begins_within c.args.high)
    (always_returns_same _ _ _ (λ a r f' k. (search rules, search rules))))
    c.partition_point-end.ensures.bound
