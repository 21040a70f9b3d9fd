use Rattle.std.proofs.Common.{ap, get_or, sym, ◌∙◌}
use Rattle.plane.specs.Runs.Moves.{Move, no_move}
use Rattle.straight_predicates.specs.Tables.{table_of}
use Rattle.line_sweep.proofs.BlockMoves.{no_block, move_is, number_within}
use Rattle.line_sweep.proofs.events.Events.at.Goals as goal

pub at-requires : goal.at-requires
at-requires c =
    number_within (table_of c.self.inside.table) c.self.inside.blocks.items c.args.self.now
    c.args.number c.self.view_is c.self.invariant.sizes c.requires

pub returns : goal.returns
returns c =
    c.at.ensures
    ∙ sym (ap (λ (v : Move). v.at)
    (move_is (table_of c.self.inside.table) c.self.inside.blocks.items c.args.number no_block
    (number_within (table_of c.self.inside.table) c.self.inside.blocks.items c.args.self.now
    c.args.number c.self.view_is c.self.invariant.sizes c.requires) c.self.invariant.sizes))
    ∙ ap (λ vs. (get_or vs c.args.number no_move).at) c.self.view_is
