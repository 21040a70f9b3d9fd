use Rattle.itf_lines.proofs.LineCuts.{no_lf-append}
use Rattle.itf_lines.proofs.feed.LineFeed.keep.Goals as goal

pub invariant_of-self-2 : goal.invariant_of-self-2
invariant_of-self-2 c = (
  c.self.invariant.0,
  rw c.in_ok-extend_from_slice.ensures.items
      (no_lf-append c.self.inside.begun.items c.args.bytes.now c.self.invariant.1 c.requires),
)
