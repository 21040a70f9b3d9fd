use Rattle.std.proofs.Common.{◌≡◌, ℕ, length, get_or, arith, ap, sym, ◌∙◌, subst, rules, vec_len}
use Rattle.std.proofs.lemmas.List.{get_or_read}
use Rattle.plane.specs.Lists.{Has}
use Rattle.faces.specs.Joins.{cells_of}
use Rattle.faces.proofs.Borders.{side_face, side_kept, side_room, side_searched, side_waiting}
use Rattle.faces.proofs.Borders.{side_within}
use Rattle.faces.proofs.PairRows.{place_of}
use Rattle.faces.proofs.Passes.{row_next}
use Rattle.faces.proofs.PlaneLaws.{has_at}
use Rattle.faces.proofs.labelling.reach_border.Goals as goal

pub reach-requires-clause-within : goal.reach-requires-clause-within
reach-requires-clause-within c =
    let items = c.border-half-items.result.now in
    let h = get_or_read items c.loop-half.half-index c.half-item.result c.loop-half-test.true
    c.half-item.is 0 in
    let has = subst (Has c.half-item.result) c.border-half-items.ensures
    (subst (λ (x : ℕ). Has x items) (sym h)
    (has_at items c.loop-half.half-index 0 c.loop-half-test.true)) in
    let b = (c.requires.graph.joins.border c.half-item.result).0 has in
    let i = c.loop-half.invariant in
    side_within c.args.graph.now.mesh.now
    (cells_of c.args.graph.now.joins.now) c.requires.graph.mesh_is c.requires.graph.joins.known
    c.loop-half.search i.searched i.begun i.waiting c.half-item.result b

pub reach-requires-clause-room : goal.reach-requires-clause-room
reach-requires-clause-room c e =
    let items = c.border-half-items.result.now in
    let h = get_or_read items c.loop-half.half-index c.half-item.result c.loop-half-test.true
    c.half-item.is 0 in
    let has = subst (Has c.half-item.result) c.border-half-items.ensures
    (subst (λ (x : ℕ). Has x items) (sym h)
    (has_at items c.loop-half.half-index 0 c.loop-half-test.true)) in
    let b = (c.requires.graph.joins.border c.half-item.result).0 has in
    let i = c.loop-half.invariant in
    let v : vec_len c.loop-half.search.queue
    ≡ length c.loop-half.search.queue.items = search rules in
    let r = side_room c.args.graph.now.mesh.now
    (cells_of c.args.graph.now.joins.now) c.requires.graph.mesh_is c.requires.graph.joins.known
    c.loop-half.search i.searched i.begun i.waiting c.half-item.result b e in
    omega (arith, r, v)

pub loop-half-preserved : goal.loop-half-preserved
loop-half-preserved c =
    let items = c.border-half-items.result.now in
    let h = get_or_read items c.loop-half.half-index c.half-item.result c.loop-half-test.true
    c.half-item.is 0 in
    let has = subst (Has c.half-item.result) c.border-half-items.ensures
    (subst (λ (x : ℕ). Has x items) (sym h)
    (has_at items c.loop-half.half-index 0 c.loop-half-test.true)) in
    let b = (c.requires.graph.joins.border c.half-item.result).0 has in
    let i = c.loop-half.invariant in
    let r = c.reach.ensures in
    let kept = side_kept c.args.graph.now.mesh.now
    (cells_of c.args.graph.now.joins.now) c.requires.graph.mesh_is c.requires.graph.joins.known
    c.loop-half.search i.searched i.begun i.waiting c.half-item.result b c.reach.new.self
    r.reached r.passed r.room in
    let face = side_face c.args.graph.now.mesh.now
    (cells_of c.args.graph.now.joins.now) c.requires.graph.mesh_is c.requires.graph.joins.known
    c.loop-half.search i.searched i.begun i.waiting c.half-item.result b c.reach.new.self
    r.reached r.passed r.room in
    record {
      searched = side_searched c.args.graph.now.mesh.now
          (cells_of c.args.graph.now.joins.now) c.requires.graph.mesh_is
          c.requires.graph.joins.known c.loop-half.search i.searched i.begun i.waiting
          c.half-item.result b c.reach.new.self r.reached r.passed r.room;
      begun = r.passed ∙ i.begun;
      waiting = side_waiting c.args.graph.now.mesh.now
          (cells_of c.args.graph.now.joins.now) c.requires.graph.mesh_is
          c.requires.graph.joins.known c.loop-half.search i.searched i.begun i.waiting
          c.half-item.result b c.reach.new.self r.reached r.passed r.room;
      border = row_next 0 items c.loop-half.half-index c.loop-half.search.faces.items
          c.reach.new.self.faces.items kept (omega arith) i.border
          (ap (λ (j : ℕ). get_or c.reach.new.self.faces.items j 0) (sym h) ∙ face);
    }

pub returns-clause-border : goal.returns-clause-border
returns-clause-border c h k =
    let items = c.border-half-items.result.now in
    let has = subst (Has h) (sym c.border-half-items.ensures)
    ((c.requires.graph.joins.border h).1 k) in
    let (i, l, e) = place_of h items has in
    ap (λ (j : ℕ). get_or c.loop-half.search.faces.items j 0) (sym e)
    ∙ c.loop-half.invariant.border i (let t = c.loop-half-test.false in omega (arith, l, t))
