use Rattle.std.proofs.Common.{◌≡◌, take}
use Rattle.table_layout.specs.Values.{tables_view}
use Rattle.itf_reader.specs.TableKeys.{table_keys, AreSmall}
use Rattle.itf_reader.proofs.machine.names.table_keys.Given as goal

-- the keys so far
abbrev pub invariant-loop-table : goal.invariant-loop-table
invariant-loop-table l = record {
  keys : l.keys.items ≡ table_keys (tables_view (take l.table-index l.tables));
  small : AreSmall (tables_view (take l.table-index l.tables));
}
