use Rattle.std.proofs.Common.{[], ◌++◌, ◌∷◌, sym, subst, ◌∙◌}
use Rattle.plane.specs.declared.kinds.Point.{Point}
use Rattle.straight_predicates.specs.EdgeLists.{HasEnds}
use Rattle.level_breaks.specs.Groups.{nth}
use Rattle.level_breaks.proofs.GroupEdges.{outer_differs, outer_is}
use Rattle.level_breaks.proofs.groups.outer_edge.Goals as goal

pub edge_between-requires : goal.edge_between-requires
edge_between-requires c =
    λ e. outer_differs c.args.curve.now c.args.outer.now c.args.number c.requires.there
    c.requires.distinct (sym c.start.ensures ∙ e ∙ c.end.ensures)

pub returns : goal.returns
returns c =
    let k = c.args.curve.now in
    let os = c.args.outer.now in
    let n = c.args.number in
    let ends = subst (λ (p : Point). HasEnds c.edge_between.result p (nth (os ++ k.to ∷ []) n))
    c.start.ensures
    (subst (λ (q : Point). HasEnds c.edge_between.result c.start.result q) c.end.ensures
    c.edge_between.ensures.ends) in
    outer_is k os n c.edge_between.result c.requires.there c.edge_between.ensures.sorted ends
