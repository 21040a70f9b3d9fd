-- Where bytes are kept.
use Rattle.std.specs.Prelude.{ℕ, List}
use Rattle.ports.specs.declared.bytes.Kept.{Kept}
use Rattle.ports.specs.declared.bytes.Kept.TheVariants.{Short, Long}

abbrev pub kept_bytes : Kept → List ℕ
kept_bytes (Short short) = short
kept_bytes (Long long) = long.value.items
