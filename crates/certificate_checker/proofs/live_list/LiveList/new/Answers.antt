use Rattle.std.proofs.Common.{ℕ, List, [], ◌+◌, ◌/◌, ap, arith, length, ◌∙◌}
use Rattle.std.proofs.lemmas.List.{length-replicate}
use Rattle.straight_predicates.specs.Chunks.{joined}
use Rattle.certificate_checker.proofs.LiveBlocks.{none_joined}
use Rattle.certificate_checker.proofs.live_list.LiveList.new.Goals as goal

pub invariant_of-result : goal.invariant_of-result
invariant_of-result c =
    let none : List ℕ = [] in
    let n = ap length c.in_ok-blocks.ensures ∙ length-replicate (c.args.most / 512 + 1) none in
    let z = ap (λ bs. length (joined bs)) c.in_ok-blocks.ensures
    ∙ ap length (none_joined (c.args.most / 512 + 1)) in
    let s = c.in_ok-spare.ensures.capacity in
    record {
      some = omega (arith, n);
      size = omega (arith, z);
      spare = omega (arith, s);
      blocks = omega (arith, n);
    }

pub returns-clause-edges : goal.returns-clause-edges
returns-clause-edges c =
    ap joined c.in_ok-blocks.ensures ∙ none_joined (c.args.most / 512 + 1)
