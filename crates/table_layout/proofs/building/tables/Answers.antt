use Rattle.resolver.specs.Values.{topic_of}
use Rattle.table_layout.specs.Few.{IsSmallTopic}
use Rattle.table_layout.proofs.Listed.{all_read}
use Rattle.table_layout.proofs.Whole.{topics_step}
use Rattle.table_layout.proofs.building.tables.Goals as goal

pub add_topic-requires-clause-small : goal.add_topic-requires-clause-small
add_topic-requires-clause-small c =
    all_read IsSmallTopic topic_of c.args.topics.now c.loop-number.number
    c.index-topics-number.result c.loop-number-test.true c.index-topics-number.is c.requires.small

pub loop-number-preserved : goal.loop-number-preserved
loop-number-preserved c =
    topics_step c.args.topics.now c.loop-number.number c.index-topics-number.result
    c.loop-number.tables.items c.add_topic.new.tables.items _ c.loop-number-test.true
    c.index-topics-number.is c.in_ok-add_topic.ensures c.loop-number.invariant.0
    c.loop-number.invariant.1
