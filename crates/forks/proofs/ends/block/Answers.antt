use Rattle.std.proofs.Common.{rules, sym, ◌∙◌}
use Rattle.std.proofs.lemmas.Fn.{always_returns_same}
use Rattle.forks.proofs.EndBlocks.{begins_before, begins_within, block_whole, at_most_same}
use Rattle.forks.proofs.EndBlocks.{at_least_same}
use Rattle.forks.proofs.ends.block.Goals as goal

pub returns-clause-whole : goal.returns-clause-whole
returns-clause-whole c = λ e h q.
    block_whole c.args.ends.now c.key_of-key.result c.key_of-key.result
    c.partition_point-start.result c.partition_point-end.result c.requires
    (c.partition_point-start.ensures.partitioned (begins_before c.key_of-key.result)
    (always_returns_same _ _ _ (λ a r f' k. (search rules, search rules))))
    (c.partition_point-end.ensures.partitioned (begins_within c.key_of-key.result)
    (always_returns_same _ _ _ (λ a r f' k. (search rules, search rules))))
    c.partition_point-end.ensures.bound
    e h (at_most_same _ _ (q ∙ sym c.key_of-key.ensures))
    (at_least_same _ _ (q ∙ sym c.key_of-key.ensures))
