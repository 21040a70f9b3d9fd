use Rattle.std.proofs.Common.{ap, sym, ◌∙◌, length}
use Rattle.straight_predicates.specs.Tables.{table_of}
use Rattle.line_sweep.proofs.BlockMoves.{moves_size}
use Rattle.line_sweep.proofs.events.Events.len.Goals as goal

pub returns : goal.returns
returns c = c.events.ensures
    ∙ sym (moves_size (table_of c.self.inside.table) c.self.inside.blocks.items
    c.self.invariant.sizes) ∙ ap length c.self.view_is
