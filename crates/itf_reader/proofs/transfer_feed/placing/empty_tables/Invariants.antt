use Rattle.std.proofs.Common.{◌≡◌, replicate, []}
use Rattle.itf_reader.specs.Views.{tables_rows_of}
use Rattle.itf_reader.proofs.transfer_feed.placing.empty_tables.Given as goal

abbrev pub invariant-loop : goal.invariant-loop
invariant-loop l = tables_rows_of l.tables.items ≡ replicate l.counter []
