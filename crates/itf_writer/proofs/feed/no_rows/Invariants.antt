use Rattle.std.proofs.Common.{◌≡◌, [], replicate}
use Rattle.itf_writer.specs.Feeds.{held_in, rows_held}
use Rattle.itf_writer.proofs.feed.no_rows.Given as goal

abbrev pub invariant-loop : goal.invariant-loop
invariant-loop l = held_in l.held.items ≡ replicate l.counter (rows_held l.code [])
