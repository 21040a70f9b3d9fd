use Rattle.std.proofs.Common.{◌<◌, ◌≤◌, length, ap, arith}
use Rattle.table_layout.specs.Values.{tables_view}
use Rattle.table_layout.proofs.Steps.{small_read, length_beside, topic_step, topic_end}
use Rattle.resolver.specs.declared.models.ModelTable.{ModelTable}
use Rattle.table_layout.proofs.topics.add_topic.Goals as goal

pub index-requires : goal.index-requires
index-requires c =
    let mains = length_beside c.in_ok-mains.mains.items c.len.result c.deref.result.now
    c.args.topic.now.tables.items c.in_ok-mains.ensures c.deref.ensures.value in
    omega (arith, ap (length {A = ModelTable}) c.deref-table-items.ensures.value)

pub add_tables-requires : goal.add_tables-requires
add_tables-requires c =
    let lt : c.loop-at.at < length c.args.topic.now.tables.items = omega
    (arith, ap (length {A = ModelTable}) c.deref-table-items.ensures.value) in
    small_read c.args.topic.now.tables.items c.loop-at.at c.table-item.result lt
    (rw c.deref-table-items.ensures.value at c.table-item.is) c.requires.small

pub loop-at-preserved : goal.loop-at-preserved
loop-at-preserved c =
    let mains = length_beside c.in_ok-mains.mains.items c.len.result c.deref.result.now
    c.args.topic.now.tables.items c.in_ok-mains.ensures c.deref.ensures.value in
    topic_step c.args.number c.deref-in-loop-at.result.now c.in_ok-mains.mains.items
    c.index.result.now c.args.topic.now.tables.items c.deref-table-items.result.now c.loop-at.at
    c.table-item.result (tables_view c.loop-at.tables.items)
    (tables_view c.add_tables.new.tables.items) _ mains c.deref-table-items.ensures.value
    c.deref-in-loop-at.ensures.value c.loop-at-test.true c.table-item.is c.index.ensures
    c.in_ok-add_tables.ensures c.loop-at.invariant

pub returns : goal.returns
returns c =
    let mains = length_beside c.in_ok-mains.mains.items c.len.result c.deref.result.now
    c.args.topic.now.tables.items c.in_ok-mains.ensures c.deref.ensures.value in
    let over : length c.in_ok-mains.mains.items ≤ c.loop-at.at = omega
    (arith, ap (length {A = ModelTable}) c.deref-table-items.ensures.value) in
    topic_end c.args.number c.in_ok-mains.mains.items c.args.topic.now.tables.items c.loop-at.at
    (tables_view c.loop-at.tables.items) _ over c.loop-at.invariant
