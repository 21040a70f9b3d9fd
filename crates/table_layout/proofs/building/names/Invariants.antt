use Rattle.std.proofs.Common.{◌≡◌, ◌++◌, drop}
use Rattle.resolver.specs.Values.{topics_of}
use Rattle.table_layout.specs.Tables.{topic_names_of}
use Rattle.table_layout.proofs.building.names.Given as goal

abbrev pub invariant-loop-topic : goal.invariant-loop-topic
invariant-loop-topic l =
    l.names.items ++ topic_names_of (topics_of (drop l.topic-index l.topics))
    ≡ topic_names_of (topics_of l.topics)
