use Rattle.ili_grammar.proofs.Powers.{small}
use Rattle.ili_grammar.proofs.decimals.value_of.Goals as goal

pub with_digit-value-requires-clause-small : goal.with_digit-value-requires-clause-small
with_digit-value-requires-clause-small c =
    small c.args.bytes.now c.loop-byte.byte-index c.loop-byte.value c.requires
    c.loop-byte.invariant.small

pub returns-clause-small : goal.returns-clause-small
returns-clause-small c =
    small c.args.bytes.now c.loop-byte.byte-index c.loop-byte.value c.requires
    c.loop-byte.invariant.small
