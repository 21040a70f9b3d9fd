use Rattle.std.proofs.Common.{arith, sym}
use Rattle.file_pages.proofs.HeldSteps.{bytes_more}
use Rattle.file_pages.proofs.blocks.Block.add.Goals as goal

pub returns : goal.returns
returns c =
    let settled = c.self.invariant.0 in
    let within = c.self.invariant.1 in
    bytes_more c.self.inside.line.items c.self.inside.repeats.items c.self.inside.bytes.items
    c.extend_from_slice.new.self.items c.args.bytes.now c.args.self.now
    c.in_ok-extend_from_slice.ensures.items (omega (arith, settled, within)) (sym c.self.view_is)
