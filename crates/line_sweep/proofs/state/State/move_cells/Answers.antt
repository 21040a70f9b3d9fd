use Rattle.std.proofs.Common.{ap, subst, sym, ◌∙◌, ◌+◌, ◌++◌, ℕ, List, drop, take}
use Rattle.plane.specs.Lists.{Once}
use Rattle.line_sweep.proofs.Keys.{all_block, closed_after, held_after, once_block}
use Rattle.line_sweep.proofs.state.State.move_cells.Goals as goal

pub close_cells-requires-clause-once : goal.close_cells-requires-clause-once
close_cells-requires-clause-once c =
    subst Once (sym c.deref.ensures.value)
    (once_block c.copy_part.new.into.items c.args.self.now.keys c.args.block.from
    c.args.block.count c.in_ok-copy_part.ensures c.requires.held.once)

pub close_cells-requires-clause-all : goal.close_cells-requires-clause-all
close_cells-requires-clause-all c =
    all_block c.args.self.now.open_cells c.deref.result.now c.args.self.now.keys c.args.block.from
    c.args.block.count (c.deref.ensures.value ∙ c.in_ok-copy_part.ensures) c.requires.held.all

pub returns-clause-held : goal.returns-clause-held
returns-clause-held c =
    held_after c.args.self.now.open_cells c.close_cells.new.slab c.open_cells.new.slab
    c.deref.result.now c.args.self.now.keys c.replace.new.self c.open_cells.new.keys.items
    c.args.block.from c.args.block.count _ _ _ (c.deref.ensures.value ∙ c.in_ok-copy_part.ensures)
    c.requires.place c.requires.held c.in_ok-close_cells.ensures c.in_ok-open_cells.ensures.put
    c.in_ok-open_cells.ensures.gaps
    (c.in_ok-replace.ensures.values
    ∙ ap (λ (ks : List ℕ). take c.args.block.from c.args.self.now.keys
    ++ (ks ++ drop (c.args.block.from + (c.args.block.count + 1)) c.args.self.now.keys))
    c.deref-2.ensures.value)

pub returns-clause-closed : goal.returns-clause-closed
returns-clause-closed c =
    closed_after c.args.self.now.open_cells c.close_cells.new.slab c.deref.result.now
    c.args.self.now.keys c.args.block.from c.args.block.count _ _
    (c.deref.ensures.value ∙ c.in_ok-copy_part.ensures) c.in_ok-close_cells.ensures
