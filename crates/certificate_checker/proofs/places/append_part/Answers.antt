use Rattle.std.proofs.Common.{arith, ◌+◌, ◌∙◌}
use Rattle.straight_predicates.specs.Chunks.{joined}
use Rattle.certificate_checker.proofs.LiveBlocks.{appended_more, appended_size}
use Rattle.certificate_checker.proofs.places.append_part.Goals as goal

pub loop-done-preserved : goal.loop-done-preserved
loop-done-preserved c =
    let m = c.append_some-done.ensures.most in
    let w = c.loop-done.invariant.within in
    let items = appended_more (joined c.args.blocks.now) c.args.into.now.items
    c.loop-done.into.items c.append_some-done.new.into.items c.args.from c.loop-done.done
    c.append_some-done.result c.loop-done.invariant.items c.append_some-done.ensures.items in
    record {
      within = omega (arith, m, w);
      items = items;
      size = appended_size (joined c.args.blocks.now) c.args.into.now.items
          c.append_some-done.new.into.items c.args.from
          (c.loop-done.done + c.append_some-done.result)
          (let r = c.requires.within in omega (arith, m, w, r)) items;
      capacity = c.append_some-done.ensures.capacity ∙ c.loop-done.invariant.capacity;
    }
