use Rattle.file_pages.proofs.Steps.{wrote_nothing, wrote_more, wrote_all, wrote_as}
use Rattle.file_pages.proofs.held.put_blocks.Goals as goal

pub loop-block-init : goal.loop-block-init
loop-block-init g c = wrote_nothing

pub loop-block-preserved : goal.loop-block-preserved
loop-block-preserved g c =
    wrote_more (λ b. b) c.args.blocks.now c.loop-block.block-index c.block-item.result
    c.loop-block-test.true c.loop-block.invariant (wrote_as c.block-item.is c.put_block.ensures)

pub returns : goal.returns
returns g c =
    wrote_all (λ b. b) c.args.blocks.now c.loop-block.block-index c.loop-block-test.false
    c.loop-block.invariant
