use Rattle.std.proofs.Common.{subst, ℕ, List}
use Rattle.std.proofs.lemmas.List.{take_all}
use Rattle.line_sweep.specs.Held.{AreClosed}
use Rattle.line_sweep.specs.Kinds.{gaps_of}
use Rattle.line_sweep.proofs.Keys.{none_closed, one_closed, still_there}
use Rattle.line_sweep.proofs.keeping.close_cells.Goals as goal

pub loop-key-init : goal.loop-key-init
loop-key-init c = none_closed c.args.slab.now (gaps_of c.args.closed.now.items)

pub remove-requires : goal.remove-requires
remove-requires c =
    still_there c.args.slab.now c.loop-key.slab c.args.keys.now c.loop-key.key-index _ _
    c.loop-key-test.true c.requires.once c.loop-key.invariant c.requires.all

pub loop-key-preserved : goal.loop-key-preserved
loop-key-preserved c =
    one_closed c.args.slab.now c.loop-key.slab c.args.keys.now c.loop-key.key-index _ _
    c.loop-key-test.true c.requires.once c.loop-key.invariant c.remove.new.self _ _
    c.remove.ensures.value c.remove.ensures.updates c.remove.ensures.len
    c.in_ok-close_cell.ensures

pub returns : goal.returns
returns c =
    subst (λ (ks : List ℕ). AreClosed c.args.slab.now c.loop-key.slab ks
    (gaps_of c.args.closed.now.items) (gaps_of c.loop-key.closed.items))
    (take_all c.loop-key.key-index c.args.keys.now c.loop-key-test.false) c.loop-key.invariant
