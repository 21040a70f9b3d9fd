use Rattle.std.proofs.Common.{◌≡◌, ◌≤◌, ℕ, map, take, None}
use Rattle.ili_grammar.specs.Values.{codes_of}
use Rattle.table_layout.specs.Values.{table_view}
use Rattle.itf_reader.specs.Views.{row_of}
use Rattle.ident_refs.specs.RowKeys.{numbered_key, part_key}
use Rattle.ident_refs.proofs.row_keys.part_keys.Given as goal

abbrev pub invariant-loop-number : goal.invariant-loop-number
invariant-loop-number l = record {
  taken : l.keys.items
      ≡ map (part_key (codes_of l.reader.codes.now) (table_view l.reader.table.now) (row_of l.row))
      (take l.number l.parts);
  last : (a : ℕ) → l.count ≤ a → numbered_key l.keys.items a ≡ None;
}
