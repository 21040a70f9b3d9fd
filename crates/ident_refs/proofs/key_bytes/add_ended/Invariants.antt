use Rattle.std.proofs.Common.{◌≡◌, ◌++◌, drop}
use Rattle.std.specs.List.{flat_map}
use Rattle.ident_refs.specs.KeyBytes.{byte_code}
use Rattle.ident_refs.proofs.key_bytes.add_ended.Given as goal

abbrev pub invariant-loop-byte : goal.invariant-loop-byte
invariant-loop-byte l =
    l.into.items ++ flat_map byte_code (drop l.byte-index l.bytes)
    ≡ l.fn.into.items ++ flat_map byte_code l.bytes
