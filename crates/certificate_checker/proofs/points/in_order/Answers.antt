use Rattle.std.proofs.Common.{rules}
use Rattle.std.proofs.lemmas.List.Sorted.{answers_always}
use Rattle.certificate_checker.proofs.Spots.{key_of, sorted_spots}
use Rattle.certificate_checker.proofs.points.in_order.Goals as goal

pub returns-clause-spots : goal.returns-clause-spots
returns-clause-spots c =
    sorted_spots c.args.points.now c.in_ok-spots.spots.items c.sort_unstable_by_key.new.self.items
    c.in_ok-spots.ensures c.sort_unstable_by_key.ensures.permutation
    (c.sort_unstable_by_key.ensures.sorted key_of
    (answers_always _ _ _ (λ f a r f' k. search rules)))
