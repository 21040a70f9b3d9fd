use Rattle.std.proofs.Common.{rules, ◌≡◌, length}
use Rattle.itf_reader.specs.Views.{tables_rows_of}
use Rattle.itf_reader.proofs.Placed.{table_taken, tables_ended}
use Rattle.itf_reader.proofs.transfer_feed.placing.put_tables.Goals as goal

pub loop-table-preserved : goal.loop-table-preserved
loop-table-preserved c =
    table_taken c.loop-table.left.items c.pop.new.self.items c.in-Some.table
    (tables_rows_of c.loop-table.tables) _ _ c.in-Some.ensures.items c.in_ok-put.ensures
    c.loop-table.invariant

pub returns : goal.returns
returns c =
    let h = c.in_default.ensures.cases in
    let none : length c.loop-table.left.items ≡ 0 = search rules in
    tables_ended c.loop-table.left.items _ _ none c.loop-table.invariant
