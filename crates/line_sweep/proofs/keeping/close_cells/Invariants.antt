use Rattle.std.proofs.Common.{take}
use Rattle.line_sweep.specs.Held.{AreClosed}
use Rattle.line_sweep.specs.Kinds.{gaps_of}
use Rattle.line_sweep.proofs.keeping.close_cells.Given as goal

abbrev pub invariant-loop-key : goal.invariant-loop-key
invariant-loop-key l =
    AreClosed l.fn.slab l.slab (take l.key-index l.keys) (gaps_of l.fn.closed.items)
    (gaps_of l.closed.items)
