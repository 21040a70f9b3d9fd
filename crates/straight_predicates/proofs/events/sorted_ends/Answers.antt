use Rattle.std.proofs.Common.{arith, ap, ◌∙◌, subst, IsPermutation}
use Rattle.std.proofs.lemmas.List.{take_all}
use Rattle.straight_predicates.specs.EdgeLists.{no_edge}
use Rattle.straight_predicates.specs.PackedEnds.{ends_in}
use Rattle.straight_predicates.specs.Tables.{all_ends}
use Rattle.straight_predicates.proofs.Ends.{sorted_all, ends_step}
use Rattle.straight_predicates.proofs.events.sorted_ends.Goals as goal

pub loop-i-preserved : goal.loop-i-preserved
loop-i-preserved c = record {
  origin = c.in_ok-add_ends.ensures.origin ∙ c.loop-i.invariant.origin;
  ends = ends_step c.args.edges.now c.loop-i.i no_edge (ends_in c.loop-i.ends)
      (ends_in c.add_ends.new.ends) (omega arith) c.loop-i.invariant.ends
      c.in_ok-add_ends.ensures.ends;
}

pub returns : goal.returns
returns c =
    sorted_all c.args.edges.now _ c.requires.sorted
    (subst (λ zs. IsPermutation zs (ends_in c.sort.new.self)) (c.loop-i.invariant.ends
    ∙ ap (λ es. all_ends 0 es) (take_all c.loop-i.i c.args.edges.now c.loop-i-test.false))
    c.in_ok-sort.ensures.permutation)
    c.in_ok-sort.ensures.sorted
