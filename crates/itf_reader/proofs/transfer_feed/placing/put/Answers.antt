use Rattle.std.proofs.Common.{rules, ◌≤◌, length, sym}
use Rattle.itf_reader.specs.ReadRows.{read_table_view}
use Rattle.itf_reader.proofs.Placed.{put_at, put_beyond}
use Rattle.itf_reader.proofs.transfer_feed.placing.put.Goals as goal

pub returns-in_ok-put_in_front : goal.returns-in_ok-put_in_front
returns-in_ok-put_in_front c =
    put_at c.args.tables.now (read_table_view c.args.read) c.index-tables-place.result
    c.put_in_front.new.table (search rules) c.in_ok-put_in_front.ensures

pub returns-else-place-tables : goal.returns-else-place-tables
returns-else-place-tables c =
    let l : length c.args.tables.now ≤ c.args.read.table = search rules in
    sym (put_beyond c.args.tables.now (read_table_view c.args.read) l)
