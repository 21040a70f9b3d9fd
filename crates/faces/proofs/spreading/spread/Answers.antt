use Rattle.std.proofs.Common.{◌-◌, ◌<◌, arith}
use Rattle.half_edges.specs.HalfEdges.{size}
use Rattle.faces.proofs.Passing.{given_all, kept_all}
use Rattle.faces.proofs.Searches.{room_all}
use Rattle.faces.specs.Joins.{cells_of}
use Rattle.faces.proofs.spreading.spread.Goals as goal

pub loop-search-smaller : goal.loop-search-smaller
loop-search-smaller c =
    let r = room_all c.args.graph.now.mesh.now
    (cells_of c.args.graph.now.joins.now) c.requires.graph.mesh_is c.requires.graph.joins.known
    c.loop-search.search.faces.items c.loop-search.search.queue.items
    c.loop-search.search.passed c.loop-search.invariant.searched.searched in
    let t = c.loop-search-test.true in
    let e = c.pass.ensures.passed in
    let smaller : size c.args.graph.now.mesh.now
    - c.pass.new.search.passed < size c.args.graph.now.mesh.now - c.loop-search.search.passed =
    omega (arith, r, t, e) in
    smaller

pub loop-search-preserved : goal.loop-search-preserved
loop-search-preserved c =
    let i = c.loop-search.invariant in
    let p = c.pass.ensures in
    record {
      searched = p.searched;
      waiting = p.waiting;
      kept = kept_all _ _ _ i.kept p.kept;
      given = given_all _ _ _ _ i.given p.given p.kept;
    }
