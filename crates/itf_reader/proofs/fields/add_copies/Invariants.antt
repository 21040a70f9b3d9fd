use Rattle.std.proofs.Common.{◌≡◌, ◌++◌, take}
use Rattle.itf_reader.proofs.fields.add_copies.Given as goal

abbrev pub invariant-loop-field : goal.invariant-loop-field
invariant-loop-field l = l.into.items ≡ l.fn.into.items ++ take l.field-index l.fields
