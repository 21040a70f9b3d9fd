use Rattle.std.proofs.Common.{◌≡◌, ℕ, ◌<◌, length, get_or, arith, ap, sym, ◌∙◌, subst, rules}
use Rattle.std.proofs.Common.{vec_len}
use Rattle.std.proofs.lemmas.List.{get_or_read}
use Rattle.plane.specs.Lists.{Has}
use Rattle.half_edges.specs.HalfEdges.{size}
use Rattle.faces.proofs.PairRows.{place_of}
use Rattle.faces.proofs.PlaneLaws.{has_at}
use Rattle.faces.proofs.RootRanks.{root_all, root_ranked, root_room, roots_next, zero_next}
use Rattle.faces.specs.Joins.{cells_of}
use Rattle.faces.proofs.ranks.reach_roots.Goals as goal

pub reach-requires-clause-within : goal.reach-requires-clause-within
reach-requires-clause-within c =
    let q = get_or_read c.args.roots.now c.loop-root.root-index c.root-item.result
    c.loop-root-test.true c.root-item.is 0 in
    let l = c.requires.within _
    (has_at c.args.roots.now c.loop-root.root-index 0 c.loop-root-test.true) in
    let z = c.loop-root.invariant.ranked.ranked.sized in
    omega (arith, q, l, z)

pub reach-requires-clause-room : goal.reach-requires-clause-room
reach-requires-clause-room c e =
    let q = get_or_read c.args.roots.now c.loop-root.root-index c.root-item.result
    c.loop-root-test.true c.root-item.is 0 in
    let l = subst (λ (i : ℕ). i < size c.args.graph.now.mesh.now) (sym q)
    (c.requires.within _
    (has_at c.args.roots.now c.loop-root.root-index 0 c.loop-root-test.true)) in
    let r = root_room c.args.graph.now.mesh.now
    (cells_of c.args.graph.now.joins.now) c.loop-root.search c.loop-root.invariant.ranked
    c.root-item.result l e in
    let v : vec_len c.loop-root.search.queue
    ≡ length c.loop-root.search.queue.items = search rules in
    omega (arith, r, v)

pub loop-root-preserved : goal.loop-root-preserved
loop-root-preserved c =
    let i = c.loop-root.invariant in
    let r = c.reach.ensures in
    let q = get_or_read c.args.roots.now c.loop-root.root-index c.root-item.result
    c.loop-root-test.true c.root-item.is 0 in
    let has = subst (λ (j : ℕ). Has j c.args.roots.now) (sym q)
    (has_at c.args.roots.now c.loop-root.root-index 0 c.loop-root-test.true) in
    let l = c.requires.within c.root-item.result has in
    record {
      ranked = root_ranked c.args.graph.now.mesh.now
          (cells_of c.args.graph.now.joins.now) c.loop-root.search c.reach.new.self i.ranked i.begun
          i.all c.root-item.result l r.reached r.passed r.room;
      begun = r.passed ∙ i.begun;
      root = roots_next c.args.graph.now.mesh.now
          (cells_of c.args.graph.now.joins.now) c.loop-root.search c.reach.new.self i.ranked i.begun
          i.all c.root-item.result l r.reached r.passed r.room c.args.roots.now
          c.loop-root.root-index (sym q) i.root;
      all = root_all c.args.graph.now.mesh.now
          (cells_of c.args.graph.now.joins.now) c.loop-root.search c.reach.new.self i.ranked i.begun
          i.all c.root-item.result l r.reached r.passed r.room;
      zero = zero_next c.args.graph.now.mesh.now
          (cells_of c.args.graph.now.joins.now) c.loop-root.search c.reach.new.self i.ranked i.begun
          i.all c.root-item.result l r.reached r.passed r.room c.args.roots.now has i.zero;
    }

pub returns-clause-root : goal.returns-clause-root
returns-clause-root c h k =
    let (i, l, e) = place_of h c.args.roots.now k in
    ap (λ (j : ℕ). get_or c.loop-root.search.ranks.items j 0) (sym e)
    ∙ c.loop-root.invariant.root i (let t = c.loop-root-test.false in omega (arith, l, t))
