use Rattle.std.proofs.Common.{List, ℕ, IsPermutation, subst}
use Rattle.faces.proofs.SortedRoots.{same_permutation}
use Rattle.faces.proofs.ranks.sorted.Goals as goal

pub returns : goal.returns
returns c =
    same_permutation c.args.halves.now c.sort_unstable_by_key.new.self.items
    (subst (λ (zs : List ℕ). IsPermutation zs c.sort_unstable_by_key.new.self.items)
    c.in_ok-sorted.ensures.items c.sort_unstable_by_key.ensures.permutation)
