use Rattle.std.proofs.Common.{ℕ, get_or, ap, ◌∙◌}
use Rattle.faces.proofs.LinkSteps.{across_link, row_within}
use Rattle.faces.specs.Joins.{cells_of}
use Rattle.faces.proofs.linking.link_of.Goals as goal

pub least_of_rank-requires : goal.least_of_rank-requires
least_of_rank-requires c =
    let (roots, are) = c.requires.ranks in
    row_within c.args.graph.now.mesh.now
    (cells_of c.args.graph.now.joins.now) c.requires.graph.mesh_is c.requires.graph.joins.known
    c.args.graph.now.joins.now.partners c.requires.graph.joins.rows roots c.args.ranks.now are
    c.args.h c.requires.within c.row.result.now c.row.ensures

pub returns : goal.returns
returns c =
    let (roots, are) = c.requires.ranks in
    across_link c.args.graph.now.mesh.now
    (cells_of c.args.graph.now.joins.now) c.requires.graph.mesh_is c.requires.graph.joins.known
    c.args.graph.now.joins.now.partners c.requires.graph.joins.rows roots c.args.ranks.now are
    c.args.h c.requires.within c.row.result.now c.row.ensures
    c.rank_of-rank.result c.rank_of.result c.rank_of-2.result c.least_of_rank.result
    c.rank_of-rank.ensures c.if-rank-eq0.false
    (c.rank_of.ensures ∙ ap (λ (i : ℕ). get_or c.args.ranks.now i 0) c.next.ensures)
    c.if-rank_of-wanted.false
    (c.rank_of-2.ensures ∙ ap (λ (i : ℕ). get_or c.args.ranks.now i 0) c.prev.ensures)
    c.if-rank_of-wanted-2.false
    c.least_of_rank.ensures.least c.least_of_rank.ensures.is
