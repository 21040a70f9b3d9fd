use Rattle.std.proofs.Common.{rules}
use Rattle.std.proofs.lemmas.List.Sorted.{answers_always}
use Rattle.straight_predicates.specs.Slopes.{ray_lt}
use Rattle.straight_predicates.proofs.RayOrder.{rays_rank}
use Rattle.straight_predicates.proofs.rays.sort_rays.Goals as goal

pub returns-clause-sorted : goal.returns-clause-sorted
returns-clause-sorted c =
    c.sort_unstable_by.ensures.sorted ray_lt rays_rank
    (answers_always _ _ _ (λ f a r f' k. search rules))
