use Rattle.std.proofs.Common.{◌-◌, ◌<◌, ◌≤◌, length, rules, arith}
use Rattle.half_edges.specs.HalfEdges.{size}
use Rattle.faces.proofs.Rankings.{rank_room_all}
use Rattle.faces.proofs.RootRanks.{ranks_are}
use Rattle.faces.specs.Joins.{cells_of}
use Rattle.faces.proofs.ranks.ranks_from.Goals as goal

pub loop-search-smaller : goal.loop-search-smaller
loop-search-smaller c =
    let r = rank_room_all c.args.graph.now.mesh.now
    (cells_of c.args.graph.now.joins.now) c.loop-search.search.ranks.items
    c.loop-search.search.queue.items c.loop-search.search.passed
    c.loop-search.invariant.ranked.ranked in
    let t = c.loop-search-test.true in
    let e = c.pass.ensures.passed in
    let smaller : size c.args.graph.now.mesh.now
    - c.pass.new.search.passed < size c.args.graph.now.mesh.now - c.loop-search.search.passed =
    omega (arith, r, t, e) in
    smaller

pub returns : goal.returns
returns c =
    let i = c.loop-search.invariant in
    let d : length c.loop-search.search.queue.items ≤ c.loop-search.search.passed = search rules in
    ranks_are c.args.graph.now.mesh.now
    (cells_of c.args.graph.now.joins.now) c.requires.graph.mesh_is c.requires.graph.joins.known
    c.args.roots.now c.requires.rooted c.requires.within c.loop-search.search i.ranked d i.root
    i.zero
