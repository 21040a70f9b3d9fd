use Rattle.std.proofs.Common.{refl, arith}
use Rattle.resolver.proofs.BuildLemmas.CountedLeaves.{leaves_behind}
use Rattle.resolver.proofs.leaves.leaves.Goals as goal

pub loop-element-preserved : goal.loop-element-preserved
loop-element-preserved c = record {
  counted = omega (
    arith,
    leaves_behind c.loop-element.element-index c.args.elements.now c.args.elements.now
        c.element-item.result refl c.loop-element-test.true c.element-item.is,
  );
  few = omega arith;
}
