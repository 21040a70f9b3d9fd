use Rattle.std.proofs.Common.{◌≡◌, drop, map, Some}
use Rattle.ident_refs.specs.KeyBytes.{key_in}
use Rattle.ident_refs.specs.RowKeys.{all_ended, numbered_key, several_key}
use Rattle.ident_refs.proofs.EndedKeys.{ended_after}
use Rattle.ident_refs.proofs.row_keys.several_key.Given as goal

abbrev pub invariant-loop-number : goal.invariant-loop-number
invariant-loop-number l = record {
  key : key_in l.bytes.items ≡ Some l.bytes.items;
  done : ended_after l.bytes.items
      (all_ended (drop l.number-index (map (numbered_key l.keys) l.numbers)))
      ≡ several_key (map (numbered_key l.keys) l.numbers);
}
