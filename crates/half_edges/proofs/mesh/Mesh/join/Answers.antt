use Rattle.std.proofs.Common.{arith, add-one}
use Rattle.std.proofs.lemmas.List.{get_or_read}
use Rattle.half_edges.proofs.Joining.{links_step, links_all}
use Rattle.half_edges.proofs.mesh.Mesh.join.Goals as goal

pub loop-h-preserved : goal.loop-h-preserved
loop-h-preserved c =
    let item = get_or_read _ _ _ c.loop-h-test.true c.h-item.is 0 in
    record {
      before = rw add-one item;
      linked = links_step _ _ _ _ _ _ c.h-item.result _ _ _ _ c.requires.pairs c.requires.lengths
          c.requires.within c.requires.once
          c.loop-h-test.true item c.loop-h.invariant.before c.twin-back.ensures c.back.view_is
          c.before-in-loop-h.view_is c.loop-h.invariant.linked;
    }

pub returns : goal.returns
returns c = links_all _ _ _ _ _ c.loop-h.h-index (omega arith) c.loop-h.invariant.linked
