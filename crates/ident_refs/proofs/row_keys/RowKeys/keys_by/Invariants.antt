use Rattle.std.proofs.Common.{◌≡◌, map, take}
use Rattle.ident_refs.specs.RowKeys.{key_by, rows_in}
use Rattle.ident_refs.proofs.row_keys.RowKeys.keys_by.Given as goal

abbrev pub invariant-loop-row : goal.invariant-loop-row
invariant-loop-row l =
    l.keys.items ≡ map (key_by l.numbers)
    (rows_in l.self.keys.items (take l.row-index l.self.rows.items))
