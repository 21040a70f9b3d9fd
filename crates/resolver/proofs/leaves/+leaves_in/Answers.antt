use Rattle.std.proofs.Common.{List, ap, refl, arith}
use Rattle.std.proofs.lemmas.List.{at_drop_all}
use Rattle.ili_grammar.specs.declared.syntax.Element as element
use Rattle.ili_grammar.specs.Values.{elements_of}
use Rattle.resolver.specs.Numbers.{leaves}
use Rattle.resolver.proofs.BuildLemmas.CountedLeaves.{leaves_behind, leaves_out}
use Rattle.resolver.proofs.leaves.+leaves_in.Goals as goal

pub loop-part-preserved : goal.loop-part-preserved
loop-part-preserved t c = record {
  counted = omega (
    arith,
    leaves_behind c.loop-part.part-index c.deref-part-items.result.now
        c.deref-part-items.result.now c.part-item.result refl c.loop-part-test.true c.part-item.is,
  );
  few = omega arith;
}

pub returns : goal.returns
returns t c =
    omega (
      arith,
      leaves_out c.args.element.now,
      ap (λ (l : List element.Element). leaves (elements_of l)) c.deref-part-items.ensures.value,
      at_drop_all (λ (l : List element.Element). leaves (elements_of l))
          c.deref-part-items.result.now c.loop-part.part-index c.loop-part-test.false,
    )
