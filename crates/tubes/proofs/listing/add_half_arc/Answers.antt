use Rattle.std.proofs.Common.{◌++◌, List, ap, subst, sym, ◌∙◌}
use Rattle.plane.specs.Rule.Curves.{arc}
use Rattle.plane.specs.declared.kinds.Point.{Point}
use Rattle.tubes.specs.Making.{IsTubeAt}
use Rattle.tubes.specs.TubedEdges.{AreDistinct, chain_edges, each_owner}
use Rattle.tubes.specs.declared.kinds.Part.TheVariants as part
use Rattle.tubes.proofs.ChainEdges.{chains_distinct, tail_is, tube_grown}
use Rattle.tubes.proofs.listing.add_half_arc.Goals as goal

pub add_chain-requires : goal.add_chain-requires
add_chain-requires c =
    let k = c.args.curve.now in
    let m = subst (IsTubeAt (arc k) c.args.level) c.in-Some.is c.in_ok-inner.ensures in
    let t = tail_is c.deref.result.now m.after k.from (c.deref.ensures.value ∙ m.inner) in
    subst (AreDistinct k.from) (sym t)
    (chains_distinct (arc k) c.args.level m.after c.in-Some.field-0.outer.items m.tube).0

pub add_chain-requires-2 : goal.add_chain-requires-2
add_chain-requires-2 c =
    let k = c.args.curve.now in
    let m = subst (IsTubeAt (arc k) c.args.level) c.in-Some.is c.in_ok-inner.ensures in
    subst (AreDistinct k.from) (sym (c.deref-2.ensures.value ∙ c.in_ok-push.ensures.items))
    (chains_distinct (arc k) c.args.level m.after c.in-Some.field-0.outer.items m.tube).1

pub returns : goal.returns
returns c =
    let k = c.args.curve.now in
    let i = c.args.number in
    let os = c.in-Some.field-0.outer.items in
    let m = subst (IsTubeAt (arc k) c.args.level) c.in-Some.is c.in_ok-inner.ensures in
    let t = tail_is c.deref.result.now m.after k.from (c.deref.ensures.value ∙ m.inner) in
    let u = c.deref-2.ensures.value ∙ c.in_ok-push.ensures.items in
    let edges = c.args.edges.now.items in
    let owners = c.args.owners.now.items in
    let first = c.add_chain.new.edges.items in
    let next = c.add_chain.new.owners.items in (
      (m.after, os, m.tube),
      tube_grown i k c.args.level m.after os edges first c.add_chain-2.new.edges.items owners next
          c.add_chain-2.new.owners.items m.tube
          (c.in_ok-add_chain.ensures.edges
          ∙ ap (λ (s : List Point). edges ++ chain_edges k.from s) t)
          (c.in_ok-add_chain-2.ensures.edges
          ∙ ap (λ (s : List Point). first ++ chain_edges k.from s) u)
          (c.in_ok-add_chain.ensures.owners
          ∙ ap (λ (s : List Point). owners
          ++ each_owner (record { curve = i; part = part.Inner }) s) t)
          (c.in_ok-add_chain-2.ensures.owners
          ∙ ap (λ (s : List Point). next ++ each_owner (record {
            curve = i;
            part = part.Outer;
          }) s) u),
    )
