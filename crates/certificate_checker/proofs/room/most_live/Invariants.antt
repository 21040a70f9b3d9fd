use Rattle.std.proofs.Common.{◌≡◌, ℕ, ◌-◌, ◌^◌, ◌<◌, ◌≤◌}
use Rattle.straight_predicates.specs.Tables.{table_of}
use Rattle.certificate_checker.specs.LiveLists.{live_count}
use Rattle.certificate_checker.proofs.room.most_live.Given as goal

abbrev pub invariant-loop-event : goal.invariant-loop-event
invariant-loop-event l = record {
  live : l.most < 2 ^ 64 - 1 → l.live ≡ live_count (table_of l.table) l.event;
  most : l.most < 2 ^ 64 - 1 → (k : ℕ) → k ≤ l.event → live_count (table_of l.table) k ≤ l.most;
}
