use Rattle.std.proofs.Common.{ap, ◌∙◌, ◌++◌, List}
use Rattle.straight_predicates.specs.Slopes.{ray_edges}
use Rattle.straight_predicates.specs.declared.rays.Ray.{Ray}
use Rattle.straight_predicates.proofs.Groups.{rays_start}
use Rattle.straight_predicates.proofs.events.add_starting.Goals as goal

pub returns : goal.returns
returns c =
    rays_start c.args.edges.now c.args.group.now _ c.make_rays.new.rays.items
    c.sort_rays.new.rays.items c.args.numbers.now.items c.add_numbers.new.numbers.items
    c.requires.group c.in_ok-make_rays.ensures.edges c.in_ok-make_rays.ensures.directions
    c.sort_rays.ensures.permutation c.sort_rays.ensures.sorted
    (c.in_ok-add_numbers.ensures
    ∙ ap (λ (rs : List Ray). c.args.numbers.now.items ++ ray_edges rs) c.deref.ensures.value)
