use Rattle.std.proofs.Common.{◌∙◌, sym, subst, List, ℕ, Result, Ok, Err, OnOk, IsPermutation, map}
use Rattle.std.specs.Ordering.{is_lt, nat_cmp}
use Rattle.std.proofs.lemmas.List.{with_items_is}
use Rattle.std.proofs.lemmas.List.Sorted.{IsPermutation-map}
use Rattle.plane.specs.Lists.{Neighbours}
use Rattle.straight_predicates.specs.Packing.{IsNotAfter, end_of}
use Rattle.straight_predicates.proofs.PackedNumbers.{ends_in_order}
use Rattle.straight_predicates.proofs.Permutations.{sorted_neighbours}
use Rattle.straight_predicates.proofs.end_list.EndList.sort.Goals as goal

pub returns-clause-permutation : goal.returns-clause-permutation
returns-clause-permutation c =
    let e = with_items_is c.args.self.now.packed c.sort_in_parts.new.numbers
    (c.sort_in_parts.ensures.len ∙ c.deref_mut.ensures.len) in
    IsPermutation-map (end_of c.args.self.now.origin) c.args.self.now.packed.items _
    (subst (λ (ns : List ℕ). IsPermutation c.args.self.now.packed.items ns) (sym e)
    (subst (λ (ns : List ℕ). IsPermutation ns c.sort_in_parts.new.numbers)
    c.deref_mut.ensures.value c.sort_in_parts.ensures.permutation))

pub returns-clause-sorted : goal.returns-clause-sorted
returns-clause-sorted c =
    let e = with_items_is c.args.self.now.packed c.sort_in_parts.new.numbers
    (c.sort_in_parts.ensures.len ∙ c.deref_mut.ensures.len) in
    on_ok c.sort_in_parts.result (λ s. subst
    (λ (ns : List ℕ). Neighbours IsNotAfter (map (end_of c.args.self.now.origin) ns)) (sym e)
    (ends_in_order c.args.self.now.origin c.sort_in_parts.new.numbers
    (sorted_neighbours (λ m n. is_lt (nat_cmp m n)) c.sort_in_parts.new.numbers s)))
    c.sort_in_parts.ensures.sorted
  where
    on_ok : {A E : Type 0} {P Q : Type 0} (r : Result A E) → (P → Q) → OnOk r P → OnOk r Q
    on_ok (Ok a) f p = f p
    on_ok (Err e) f p = p
