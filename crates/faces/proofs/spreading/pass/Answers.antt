use Rattle.std.proofs.Common.{◌≡◌, ℕ, ◌+◌, ◌^◌, ◌<◌, inl, inr, length, get_or, arith, ap, sym, ◌∙◌}
use Rattle.std.proofs.Common.{subst, refl, rules, vec_len}
use Rattle.std.proofs.lemmas.List.{get_or_read}
use Rattle.half_edges.specs.HalfEdges.{next_of, prev_of, size}
use Rattle.faces.specs.Rows.{row_of}
use Rattle.faces.specs.Searching.{IsNear, IsPassing, head_of}
use Rattle.faces.proofs.Passing.{given_all, kept_all, passed_one, passed_waiting, passing_kept}
use Rattle.faces.proofs.Passing.{passing_next, passing_reached, passing_room, passing_sized}
use Rattle.faces.proofs.Passing.{passing_within, reached_given, step_within}
use Rattle.faces.proofs.Passes.{all_near, in_row, row_is, row_next, still_faced}
use Rattle.faces.specs.Joins.{cells_of}
use Rattle.faces.proofs.spreading.pass.Goals as goal

pub next-requires : goal.next-requires
next-requires c =
    let h = get_or_read c.args.search.now.queue.items c.args.search.now.passed c.index-h.result.now
    c.requires.more c.index-h.ensures 0 in
    let p0 : IsPassing c.args.graph.now.mesh.now (cells_of c.args.graph.now.joins.now)
    (head_of c.args.search.now) c.args.face c.args.search.now =
    record {
      searched = c.requires.searched;
      waiting = c.requires.waiting;
      more = c.requires.more;
      here = refl;
    } in
    subst (λ (i : ℕ). i < size c.args.graph.now.mesh.now) (sym h)
    (passing_within c.args.graph.now.mesh.now
    (cells_of c.args.graph.now.joins.now) c.requires.graph.mesh_is c.requires.graph.joins.known
    (head_of c.args.search.now) c.args.face c.requires.face c.args.search.now p0)

pub reach-requires-clause-within : goal.reach-requires-clause-within
reach-requires-clause-within c =
    let h = get_or_read c.args.search.now.queue.items c.args.search.now.passed c.index-h.result.now
    c.requires.more c.index-h.ensures 0 in
    let p0 : IsPassing c.args.graph.now.mesh.now (cells_of c.args.graph.now.joins.now)
    (head_of c.args.search.now) c.args.face c.args.search.now =
    record {
      searched = c.requires.searched;
      waiting = c.requires.waiting;
      more = c.requires.more;
      here = refl;
    } in
    let e1 = sym (c.next.ensures ∙ ap (λ (i : ℕ). next_of c.args.graph.now.mesh.now i) h) in
    let s = passing_sized c.args.graph.now.mesh.now
    (cells_of c.args.graph.now.joins.now) c.requires.graph.mesh_is c.requires.graph.joins.known
    (head_of c.args.search.now) c.args.face c.requires.face c.args.search.now p0 in
    let w = step_within c.args.graph.now.mesh.now
    (cells_of c.args.graph.now.joins.now) c.requires.graph.mesh_is c.requires.graph.joins.known
    (head_of c.args.search.now) c.args.face c.requires.face c.args.search.now p0 c.next.result
    (inl e1) in
    omega (arith, s, w)

pub reach-requires-clause-room : goal.reach-requires-clause-room
reach-requires-clause-room c e =
    let h = get_or_read c.args.search.now.queue.items c.args.search.now.passed c.index-h.result.now
    c.requires.more c.index-h.ensures 0 in
    let p0 : IsPassing c.args.graph.now.mesh.now (cells_of c.args.graph.now.joins.now)
    (head_of c.args.search.now) c.args.face c.args.search.now =
    record {
      searched = c.requires.searched;
      waiting = c.requires.waiting;
      more = c.requires.more;
      here = refl;
    } in
    let e1 = sym (c.next.ensures ∙ ap (λ (i : ℕ). next_of c.args.graph.now.mesh.now i) h) in
    let v : vec_len c.args.search.now.queue ≡ length c.args.search.now.queue.items = search rules in
    let r = passing_room c.args.graph.now.mesh.now
    (cells_of c.args.graph.now.joins.now) c.requires.graph.mesh_is c.requires.graph.joins.known
    (head_of c.args.search.now) c.args.face c.requires.face c.args.search.now p0 c.next.result
    (step_within c.args.graph.now.mesh.now
    (cells_of c.args.graph.now.joins.now) c.requires.graph.mesh_is c.requires.graph.joins.known
    (head_of c.args.search.now) c.args.face c.requires.face c.args.search.now p0 c.next.result
    (inl e1)) e in
    omega (arith, r, v)

pub prev-requires : goal.prev-requires
prev-requires c =
    let h = get_or_read c.args.search.now.queue.items c.args.search.now.passed c.index-h.result.now
    c.requires.more c.index-h.ensures 0 in
    let p0 : IsPassing c.args.graph.now.mesh.now (cells_of c.args.graph.now.joins.now)
    (head_of c.args.search.now) c.args.face c.args.search.now =
    record {
      searched = c.requires.searched;
      waiting = c.requires.waiting;
      more = c.requires.more;
      here = refl;
    } in
    subst (λ (i : ℕ). i < size c.args.graph.now.mesh.now) (sym h)
    (passing_within c.args.graph.now.mesh.now
    (cells_of c.args.graph.now.joins.now) c.requires.graph.mesh_is c.requires.graph.joins.known
    (head_of c.args.search.now) c.args.face c.requires.face c.args.search.now p0)

pub reach-requires-2-clause-within : goal.reach-requires-2-clause-within
reach-requires-2-clause-within c =
    let h = get_or_read c.args.search.now.queue.items c.args.search.now.passed c.index-h.result.now
    c.requires.more c.index-h.ensures 0 in
    let p0 : IsPassing c.args.graph.now.mesh.now (cells_of c.args.graph.now.joins.now)
    (head_of c.args.search.now) c.args.face c.args.search.now =
    record {
      searched = c.requires.searched;
      waiting = c.requires.waiting;
      more = c.requires.more;
      here = refl;
    } in
    let e1 = sym (c.next.ensures ∙ ap (λ (i : ℕ). next_of c.args.graph.now.mesh.now i) h) in
    let p1 = passing_next c.args.graph.now.mesh.now
    (cells_of c.args.graph.now.joins.now) c.requires.graph.mesh_is c.requires.graph.joins.known
    (head_of c.args.search.now) c.args.face c.requires.face c.args.search.now p0 c.next.result
    (inl e1) c.reach.new.self c.reach.ensures.reached c.reach.ensures.passed
    c.reach.ensures.room in
    let e2 = sym (c.prev.ensures ∙ ap (λ (i : ℕ). prev_of c.args.graph.now.mesh.now i) h) in
    let s = passing_sized c.args.graph.now.mesh.now
    (cells_of c.args.graph.now.joins.now) c.requires.graph.mesh_is c.requires.graph.joins.known
    (head_of c.args.search.now) c.args.face c.requires.face c.reach.new.self p1 in
    let w = step_within c.args.graph.now.mesh.now
    (cells_of c.args.graph.now.joins.now) c.requires.graph.mesh_is c.requires.graph.joins.known
    (head_of c.args.search.now) c.args.face c.requires.face c.reach.new.self p1 c.prev.result
    (inr (inl e2)) in
    omega (arith, s, w)

pub reach-requires-2-clause-room : goal.reach-requires-2-clause-room
reach-requires-2-clause-room c e =
    let h = get_or_read c.args.search.now.queue.items c.args.search.now.passed c.index-h.result.now
    c.requires.more c.index-h.ensures 0 in
    let p0 : IsPassing c.args.graph.now.mesh.now (cells_of c.args.graph.now.joins.now)
    (head_of c.args.search.now) c.args.face c.args.search.now =
    record {
      searched = c.requires.searched;
      waiting = c.requires.waiting;
      more = c.requires.more;
      here = refl;
    } in
    let e1 = sym (c.next.ensures ∙ ap (λ (i : ℕ). next_of c.args.graph.now.mesh.now i) h) in
    let p1 = passing_next c.args.graph.now.mesh.now
    (cells_of c.args.graph.now.joins.now) c.requires.graph.mesh_is c.requires.graph.joins.known
    (head_of c.args.search.now) c.args.face c.requires.face c.args.search.now p0 c.next.result
    (inl e1) c.reach.new.self c.reach.ensures.reached c.reach.ensures.passed
    c.reach.ensures.room in
    let e2 = sym (c.prev.ensures ∙ ap (λ (i : ℕ). prev_of c.args.graph.now.mesh.now i) h) in
    let v : vec_len c.reach.new.self.queue ≡ length c.reach.new.self.queue.items = search rules in
    let r = passing_room c.args.graph.now.mesh.now
    (cells_of c.args.graph.now.joins.now) c.requires.graph.mesh_is c.requires.graph.joins.known
    (head_of c.args.search.now) c.args.face c.requires.face c.reach.new.self p1 c.prev.result
    (step_within c.args.graph.now.mesh.now
    (cells_of c.args.graph.now.joins.now) c.requires.graph.mesh_is c.requires.graph.joins.known
    (head_of c.args.search.now) c.args.face c.requires.face c.reach.new.self p1 c.prev.result
    (inr (inl e2))) e in
    omega (arith, r, v)

pub row-g-items-requires : goal.row-g-items-requires
row-g-items-requires c =
    let h = get_or_read c.args.search.now.queue.items c.args.search.now.passed c.index-h.result.now
    c.requires.more c.index-h.ensures 0 in
    let p0 : IsPassing c.args.graph.now.mesh.now (cells_of c.args.graph.now.joins.now)
    (head_of c.args.search.now) c.args.face c.args.search.now =
    record {
      searched = c.requires.searched;
      waiting = c.requires.waiting;
      more = c.requires.more;
      here = refl;
    } in
    row_is (size c.args.graph.now.mesh.now)
    (cells_of c.args.graph.now.joins.now) c.args.graph.now.joins.now.partners
    c.requires.graph.joins.rows c.index-h.result.now
    (subst (λ (i : ℕ). i < size c.args.graph.now.mesh.now) (sym h)
    (passing_within c.args.graph.now.mesh.now
    (cells_of c.args.graph.now.joins.now) c.requires.graph.mesh_is c.requires.graph.joins.known
    (head_of c.args.search.now) c.args.face c.requires.face c.args.search.now p0))

pub loop-g-init : goal.loop-g-init
loop-g-init c =
    let h = get_or_read c.args.search.now.queue.items c.args.search.now.passed c.index-h.result.now
    c.requires.more c.index-h.ensures 0 in
    let p0 : IsPassing c.args.graph.now.mesh.now (cells_of c.args.graph.now.joins.now)
    (head_of c.args.search.now) c.args.face c.args.search.now =
    record {
      searched = c.requires.searched;
      waiting = c.requires.waiting;
      more = c.requires.more;
      here = refl;
    } in
    let e1 = sym (c.next.ensures ∙ ap (λ (i : ℕ). next_of c.args.graph.now.mesh.now i) h) in
    let p1 = passing_next c.args.graph.now.mesh.now
    (cells_of c.args.graph.now.joins.now) c.requires.graph.mesh_is c.requires.graph.joins.known
    (head_of c.args.search.now) c.args.face c.requires.face c.args.search.now p0 c.next.result
    (inl e1) c.reach.new.self c.reach.ensures.reached c.reach.ensures.passed
    c.reach.ensures.room in
    let e2 = sym (c.prev.ensures ∙ ap (λ (i : ℕ). prev_of c.args.graph.now.mesh.now i) h) in
    let p2 = passing_next c.args.graph.now.mesh.now
    (cells_of c.args.graph.now.joins.now) c.requires.graph.mesh_is c.requires.graph.joins.known
    (head_of c.args.search.now) c.args.face c.requires.face c.reach.new.self p1 c.prev.result
    (inr (inl e2)) c.reach-2.new.self c.reach-2.ensures.reached c.reach-2.ensures.passed
    c.reach-2.ensures.room in
    let k1 = passing_kept c.args.graph.now.mesh.now
    (cells_of c.args.graph.now.joins.now) c.requires.graph.mesh_is c.requires.graph.joins.known
    (head_of c.args.search.now) c.args.face c.requires.face c.args.search.now p0 c.next.result
    (inl e1) c.reach.new.self c.reach.ensures.reached c.reach.ensures.passed
    c.reach.ensures.room in
    let k2 = passing_kept c.args.graph.now.mesh.now
    (cells_of c.args.graph.now.joins.now) c.requires.graph.mesh_is c.requires.graph.joins.known
    (head_of c.args.search.now) c.args.face c.requires.face c.reach.new.self p1 c.prev.result
    (inr (inl e2)) c.reach-2.new.self c.reach-2.ensures.reached c.reach-2.ensures.passed
    c.reach-2.ensures.room in
    let r1 = passing_reached c.args.graph.now.mesh.now
    (cells_of c.args.graph.now.joins.now) c.requires.graph.mesh_is c.requires.graph.joins.known
    (head_of c.args.search.now) c.args.face c.requires.face c.args.search.now p0 c.next.result
    (inl e1) c.reach.new.self c.reach.ensures.reached c.reach.ensures.passed
    c.reach.ensures.room in
    let r2 = passing_reached c.args.graph.now.mesh.now
    (cells_of c.args.graph.now.joins.now) c.requires.graph.mesh_is c.requires.graph.joins.known
    (head_of c.args.search.now) c.args.face c.requires.face c.reach.new.self p1 c.prev.result
    (inr (inl e2)) c.reach-2.new.self c.reach-2.ensures.reached c.reach-2.ensures.passed
    c.reach-2.ensures.room in
    record {
      passing = p2;
      same = c.reach-2.ensures.passed ∙ c.reach.ensures.passed;
      kept = kept_all c.args.search.now.faces.items c.reach.new.self.faces.items
          c.reach-2.new.self.faces.items k1 k2;
      given = given_all c.args.face c.args.search.now.faces.items c.reach.new.self.faces.items
          c.reach-2.new.self.faces.items (reached_given _ _ _ _ c.reach.ensures.reached)
          (reached_given _ _ _ _ c.reach-2.ensures.reached) k2;
      next = still_faced c.args.face _ _ _ k2 c.requires.face
          (ap (λ (i : ℕ). get_or c.reach.new.self.faces.items i 0) e1 ∙ r1);
      prev = ap (λ (i : ℕ). get_or c.reach-2.new.self.faces.items i 0) e2 ∙ r2;
      row = λ i l. absurd (omega (arith, l));
    }

pub reach-requires-in-loop-g-clause-within : goal.reach-requires-in-loop-g-clause-within
reach-requires-in-loop-g-clause-within c =
    let h = get_or_read c.args.search.now.queue.items c.args.search.now.passed c.index-h.result.now
    c.requires.more c.index-h.ensures 0 in
    let gi = get_or_read c.row-g-items.result.now c.loop-g.g-index c.g-item.result
    c.loop-g-test.true c.g-item.is 0 in
    let a : IsNear c.args.graph.now.mesh.now (cells_of c.args.graph.now.joins.now)
    (head_of c.args.search.now) c.g-item.result =
    in_row c.args.graph.now.mesh.now (cells_of c.args.graph.now.joins.now)
    c.args.graph.now.joins.now.partners c.requires.graph.joins.rows (head_of c.args.search.now)
    (passing_within c.args.graph.now.mesh.now
    (cells_of c.args.graph.now.joins.now) c.requires.graph.mesh_is c.requires.graph.joins.known
    (head_of c.args.search.now) c.args.face c.requires.face c.loop-g.search
    c.loop-g.invariant.passing) c.row-g-items.result.now c.loop-g.g-index c.g-item.result
    (c.row-g-items.ensures ∙ ap (λ (i : ℕ). row_of c.args.graph.now.joins.now.partners i) h)
    c.loop-g-test.true gi in
    let s = passing_sized c.args.graph.now.mesh.now
    (cells_of c.args.graph.now.joins.now) c.requires.graph.mesh_is c.requires.graph.joins.known
    (head_of c.args.search.now) c.args.face c.requires.face c.loop-g.search
    c.loop-g.invariant.passing in
    let w = step_within c.args.graph.now.mesh.now
    (cells_of c.args.graph.now.joins.now) c.requires.graph.mesh_is c.requires.graph.joins.known
    (head_of c.args.search.now) c.args.face c.requires.face c.loop-g.search
    c.loop-g.invariant.passing c.g-item.result a in
    omega (arith, s, w)

pub reach-requires-in-loop-g-clause-room : goal.reach-requires-in-loop-g-clause-room
reach-requires-in-loop-g-clause-room c e =
    let h = get_or_read c.args.search.now.queue.items c.args.search.now.passed c.index-h.result.now
    c.requires.more c.index-h.ensures 0 in
    let gi = get_or_read c.row-g-items.result.now c.loop-g.g-index c.g-item.result
    c.loop-g-test.true c.g-item.is 0 in
    let a : IsNear c.args.graph.now.mesh.now (cells_of c.args.graph.now.joins.now)
    (head_of c.args.search.now) c.g-item.result =
    in_row c.args.graph.now.mesh.now (cells_of c.args.graph.now.joins.now)
    c.args.graph.now.joins.now.partners c.requires.graph.joins.rows (head_of c.args.search.now)
    (passing_within c.args.graph.now.mesh.now
    (cells_of c.args.graph.now.joins.now) c.requires.graph.mesh_is c.requires.graph.joins.known
    (head_of c.args.search.now) c.args.face c.requires.face c.loop-g.search
    c.loop-g.invariant.passing) c.row-g-items.result.now c.loop-g.g-index c.g-item.result
    (c.row-g-items.ensures ∙ ap (λ (i : ℕ). row_of c.args.graph.now.joins.now.partners i) h)
    c.loop-g-test.true gi in
    let v : vec_len c.loop-g.search.queue ≡ length c.loop-g.search.queue.items = search rules in
    let r = passing_room c.args.graph.now.mesh.now
    (cells_of c.args.graph.now.joins.now) c.requires.graph.mesh_is c.requires.graph.joins.known
    (head_of c.args.search.now) c.args.face c.requires.face c.loop-g.search
    c.loop-g.invariant.passing c.g-item.result
    (step_within c.args.graph.now.mesh.now
    (cells_of c.args.graph.now.joins.now) c.requires.graph.mesh_is c.requires.graph.joins.known
    (head_of c.args.search.now) c.args.face c.requires.face c.loop-g.search
    c.loop-g.invariant.passing c.g-item.result a) e in
    omega (arith, r, v)

pub loop-g-preserved : goal.loop-g-preserved
loop-g-preserved c =
    let h = get_or_read c.args.search.now.queue.items c.args.search.now.passed c.index-h.result.now
    c.requires.more c.index-h.ensures 0 in
    let gi = get_or_read c.row-g-items.result.now c.loop-g.g-index c.g-item.result
    c.loop-g-test.true c.g-item.is 0 in
    let a : IsNear c.args.graph.now.mesh.now (cells_of c.args.graph.now.joins.now)
    (head_of c.args.search.now) c.g-item.result =
    in_row c.args.graph.now.mesh.now (cells_of c.args.graph.now.joins.now)
    c.args.graph.now.joins.now.partners c.requires.graph.joins.rows (head_of c.args.search.now)
    (passing_within c.args.graph.now.mesh.now
    (cells_of c.args.graph.now.joins.now) c.requires.graph.mesh_is c.requires.graph.joins.known
    (head_of c.args.search.now) c.args.face c.requires.face c.loop-g.search
    c.loop-g.invariant.passing) c.row-g-items.result.now c.loop-g.g-index c.g-item.result
    (c.row-g-items.ensures ∙ ap (λ (i : ℕ). row_of c.args.graph.now.joins.now.partners i) h)
    c.loop-g-test.true gi in
    let i = c.loop-g.invariant in
    let r = c.reach-in-loop-g in
    let k = passing_kept c.args.graph.now.mesh.now
    (cells_of c.args.graph.now.joins.now) c.requires.graph.mesh_is c.requires.graph.joins.known
    (head_of c.args.search.now) c.args.face c.requires.face c.loop-g.search i.passing
    c.g-item.result a r.new.self r.ensures.reached r.ensures.passed r.ensures.room in
    let q = passing_reached c.args.graph.now.mesh.now
    (cells_of c.args.graph.now.joins.now) c.requires.graph.mesh_is c.requires.graph.joins.known
    (head_of c.args.search.now) c.args.face c.requires.face c.loop-g.search i.passing
    c.g-item.result a r.new.self r.ensures.reached r.ensures.passed r.ensures.room in
    record {
      passing = passing_next c.args.graph.now.mesh.now
          (cells_of c.args.graph.now.joins.now) c.requires.graph.mesh_is
          c.requires.graph.joins.known (head_of c.args.search.now) c.args.face c.requires.face
          c.loop-g.search i.passing c.g-item.result a r.new.self r.ensures.reached r.ensures.passed
          r.ensures.room;
      same = r.ensures.passed ∙ i.same;
      kept = kept_all c.args.search.now.faces.items c.loop-g.search.faces.items
          r.new.self.faces.items i.kept k;
      given = given_all c.args.face c.args.search.now.faces.items c.loop-g.search.faces.items
          r.new.self.faces.items i.given (reached_given _ _ _ _ r.ensures.reached) k;
      next = still_faced c.args.face _ _ _ k c.requires.face i.next;
      prev = still_faced c.args.face _ _ _ k c.requires.face i.prev;
      row = row_next c.args.face c.row-g-items.result.now c.loop-g.g-index
          c.loop-g.search.faces.items r.new.self.faces.items k c.requires.face i.row
          (ap (λ (j : ℕ). get_or r.new.self.faces.items j 0) (sym gi) ∙ q);
    }

pub overflow_add-search : goal.overflow_add-search
overflow_add-search c =
    let m = c.loop-g.invariant.passing.more in
    let v : vec_len c.loop-g.search.queue ≡ length c.loop-g.search.queue.items = search rules in
    let s : vec_len c.loop-g.search.queue < 2 ^ 63 = search rules in
    omega (arith, m, v, s)

pub returns-clause-searched : goal.returns-clause-searched
returns-clause-searched c =
    let h = get_or_read c.args.search.now.queue.items c.args.search.now.passed c.index-h.result.now
    c.requires.more c.index-h.ensures 0 in
    passed_one c.args.graph.now.mesh.now
    (cells_of c.args.graph.now.joins.now) c.requires.graph.mesh_is c.requires.graph.joins.known
    (head_of c.args.search.now) c.args.face c.requires.face c.loop-g.search
    c.loop-g.invariant.passing
    (all_near c.args.graph.now.mesh.now
    (cells_of c.args.graph.now.joins.now) c.args.graph.now.joins.now.partners
    c.requires.graph.joins.rows (head_of c.args.search.now)
    (passing_within c.args.graph.now.mesh.now
    (cells_of c.args.graph.now.joins.now) c.requires.graph.mesh_is c.requires.graph.joins.known
    (head_of c.args.search.now) c.args.face c.requires.face c.loop-g.search
    c.loop-g.invariant.passing) c.args.face c.loop-g.search.faces.items c.row-g-items.result.now
    c.loop-g.g-index (c.row-g-items.ensures
    ∙ ap (λ (i : ℕ). row_of c.args.graph.now.joins.now.partners i) h) c.loop-g-test.false
    c.loop-g.invariant.next c.loop-g.invariant.prev c.loop-g.invariant.row)
    (record {
      faces = c.loop-g.search.faces;
      queue = c.loop-g.search.queue;
      passed = c.loop-g.search.passed + 1;
    }) refl refl refl refl

pub returns-clause-waiting : goal.returns-clause-waiting
returns-clause-waiting c =
    let h = get_or_read c.args.search.now.queue.items c.args.search.now.passed c.index-h.result.now
    c.requires.more c.index-h.ensures 0 in
    passed_waiting c.args.graph.now.mesh.now
    (cells_of c.args.graph.now.joins.now) c.requires.graph.mesh_is c.requires.graph.joins.known
    (head_of c.args.search.now) c.args.face c.requires.face c.loop-g.search
    c.loop-g.invariant.passing
    (all_near c.args.graph.now.mesh.now
    (cells_of c.args.graph.now.joins.now) c.args.graph.now.joins.now.partners
    c.requires.graph.joins.rows (head_of c.args.search.now)
    (passing_within c.args.graph.now.mesh.now
    (cells_of c.args.graph.now.joins.now) c.requires.graph.mesh_is c.requires.graph.joins.known
    (head_of c.args.search.now) c.args.face c.requires.face c.loop-g.search
    c.loop-g.invariant.passing) c.args.face c.loop-g.search.faces.items c.row-g-items.result.now
    c.loop-g.g-index (c.row-g-items.ensures
    ∙ ap (λ (i : ℕ). row_of c.args.graph.now.joins.now.partners i) h) c.loop-g-test.false
    c.loop-g.invariant.next c.loop-g.invariant.prev c.loop-g.invariant.row)
    (record {
      faces = c.loop-g.search.faces;
      queue = c.loop-g.search.queue;
      passed = c.loop-g.search.passed + 1;
    }) refl refl refl refl

pub returns-clause-passed : goal.returns-clause-passed
returns-clause-passed c =
    ap (λ (i : ℕ). i + 1) c.loop-g.invariant.same

pub returns-clause-kept : goal.returns-clause-kept
returns-clause-kept c =
    c.loop-g.invariant.kept

pub returns-clause-given : goal.returns-clause-given
returns-clause-given c =
    c.loop-g.invariant.given
