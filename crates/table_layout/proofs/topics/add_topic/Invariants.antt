use Rattle.std.proofs.Common.{◌≡◌, ◌++◌, length, drop}
use Rattle.resolver.specs.Values.{tables_of}
use Rattle.table_layout.specs.Tables.{tables_beside, topic_tables}
use Rattle.table_layout.specs.Values.{tables_view}
use Rattle.table_layout.proofs.topics.add_topic.Given as goal

abbrev pub invariant-loop-at : goal.invariant-loop-at
invariant-loop-at l =
    tables_view l.tables.items ++ tables_beside l.number l.mains.items (drop l.at l.mains.items)
    (tables_of (drop l.at l.topic.tables.items))
    ≡ tables_view l.fn.tables.items ++ topic_tables l.number (length l.fn.tables.items)
    (tables_of l.topic.tables.items)
