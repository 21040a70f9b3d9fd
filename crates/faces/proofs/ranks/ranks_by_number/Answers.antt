use Rattle.faces.proofs.SortedRoots.{ranks_if_ok, rooted_sorted, within_sorted}
use Rattle.faces.specs.Joins.{cells_of}
use Rattle.faces.proofs.ranks.ranks_by_number.Goals as goal

pub ranks_from-requires-clause-within : goal.ranks_from-requires-clause-within
ranks_from-requires-clause-within c =
    rw c.deref.ensures.value
    (within_sorted c.args.graph.now.mesh.now
    (cells_of c.args.graph.now.joins.now) c.args.roots.now c.in_ok-sorted.sorted.items
    c.in_ok-sorted.ensures c.requires.within)

pub ranks_from-requires-clause-rooted : goal.ranks_from-requires-clause-rooted
ranks_from-requires-clause-rooted c =
    rw c.deref.ensures.value
    (rooted_sorted c.args.graph.now.mesh.now
    (cells_of c.args.graph.now.joins.now) c.args.roots.now c.in_ok-sorted.sorted.items
    c.in_ok-sorted.ensures c.requires.rooted)

pub returns : goal.returns
returns c = ranks_if_ok c.args.graph.now.mesh.now
    (cells_of c.args.graph.now.joins.now) c.args.roots.now c.deref.result.now
    (rw c.deref.ensures.value c.in_ok-sorted.ensures)
    (λ v. v.items) c.ranks_from.result c.ranks_from.ensures
