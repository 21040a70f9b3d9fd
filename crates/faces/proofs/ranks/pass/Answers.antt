use Rattle.std.proofs.Common.{◌≡◌, ℕ, ◌+◌, ◌<◌, inl, inr, length, get_or, arith, ap, sym, ◌∙◌}
use Rattle.std.proofs.Common.{subst, refl, rules, vec_len}
use Rattle.std.proofs.lemmas.List.{get_or_read}
use Rattle.half_edges.specs.HalfEdges.{next_of, prev_of, size}
use Rattle.faces.specs.Ranking.{HasRankMost, IsRankReached, IsRanking, first_of, first_rank}
use Rattle.faces.specs.Rows.{row_of}
use Rattle.faces.specs.Searching.{IsNear}
use Rattle.faces.proofs.Passes.{in_row, row_is}
use Rattle.faces.proofs.Passing.{kept_all}
use Rattle.faces.proofs.RankPasses.{all_ranked, omega_lt, row_ranked, still_most}
use Rattle.faces.proofs.Rankings.{later_all, rank_reached, rank_stays, rank_within, ranked_one}
use Rattle.faces.proofs.Rankings.{ranking_next, ranking_room, ranking_sized, ranking_small}
use Rattle.faces.proofs.Rankings.{ranking_within, reached_later}
use Rattle.faces.specs.Joins.{cells_of}
use Rattle.faces.proofs.ranks.pass.Goals as goal

pub rank_of-rank-requires : goal.rank_of-rank-requires
rank_of-rank-requires c =
    let h = get_or_read c.args.search.now.queue.items c.args.search.now.passed c.index-h.result.now
    c.requires.more c.index-h.ensures 0 in
    let p0 : IsRanking c.args.graph.now.mesh.now (cells_of c.args.graph.now.joins.now)
    (first_of c.args.search.now) (first_rank c.args.search.now) c.args.search.now =
    record {
      ranked = c.requires.ranked;
      more = c.requires.more;
      here = refl;
      rank_is = refl;
    } in
    let s = ranking_sized c.args.graph.now.mesh.now
    (cells_of c.args.graph.now.joins.now) c.requires.graph.mesh_is c.requires.graph.joins.known
    (first_of c.args.search.now) (first_rank c.args.search.now) c.args.search.now p0 in
    let w = ranking_within c.args.graph.now.mesh.now
    (cells_of c.args.graph.now.joins.now) c.requires.graph.mesh_is c.requires.graph.joins.known
    (first_of c.args.search.now) (first_rank c.args.search.now) c.args.search.now p0 in
    omega (arith, s, w, h)

pub overflow_add-rank : goal.overflow_add-rank
overflow_add-rank c =
    let h = get_or_read c.args.search.now.queue.items c.args.search.now.passed c.index-h.result.now
    c.requires.more c.index-h.ensures 0 in
    let p0 : IsRanking c.args.graph.now.mesh.now (cells_of c.args.graph.now.joins.now)
    (first_of c.args.search.now) (first_rank c.args.search.now) c.args.search.now =
    record {
      ranked = c.requires.ranked;
      more = c.requires.more;
      here = refl;
      rank_is = refl;
    } in
    let k = ap (λ (i : ℕ). i + 1) (c.rank_of-rank.ensures
    ∙ ap (λ (i : ℕ). get_or c.args.search.now.ranks.items i 0) h) in
    let s = ranking_small c.args.graph.now.mesh.now
    (cells_of c.args.graph.now.joins.now) c.requires.graph.mesh_is c.requires.graph.joins.known
    (first_of c.args.search.now) (first_rank c.args.search.now) c.args.search.now p0 in
    omega (arith, s, k)

pub next-requires : goal.next-requires
next-requires c =
    let h = get_or_read c.args.search.now.queue.items c.args.search.now.passed c.index-h.result.now
    c.requires.more c.index-h.ensures 0 in
    let p0 : IsRanking c.args.graph.now.mesh.now (cells_of c.args.graph.now.joins.now)
    (first_of c.args.search.now) (first_rank c.args.search.now) c.args.search.now =
    record {
      ranked = c.requires.ranked;
      more = c.requires.more;
      here = refl;
      rank_is = refl;
    } in
    subst (λ (i : ℕ). i < size c.args.graph.now.mesh.now) (sym h)
    (ranking_within c.args.graph.now.mesh.now
    (cells_of c.args.graph.now.joins.now) c.requires.graph.mesh_is c.requires.graph.joins.known
    (first_of c.args.search.now) (first_rank c.args.search.now) c.args.search.now p0)

pub reach-requires-clause-within : goal.reach-requires-clause-within
reach-requires-clause-within c =
    let h = get_or_read c.args.search.now.queue.items c.args.search.now.passed c.index-h.result.now
    c.requires.more c.index-h.ensures 0 in
    let p0 : IsRanking c.args.graph.now.mesh.now (cells_of c.args.graph.now.joins.now)
    (first_of c.args.search.now) (first_rank c.args.search.now) c.args.search.now =
    record {
      ranked = c.requires.ranked;
      more = c.requires.more;
      here = refl;
      rank_is = refl;
    } in
    let e1 = sym (c.next.ensures ∙ ap (λ (i : ℕ). next_of c.args.graph.now.mesh.now i) h) in
    let s = ranking_sized c.args.graph.now.mesh.now
    (cells_of c.args.graph.now.joins.now) c.requires.graph.mesh_is c.requires.graph.joins.known
    (first_of c.args.search.now) (first_rank c.args.search.now) c.args.search.now p0 in
    let w = rank_within c.args.graph.now.mesh.now
    (cells_of c.args.graph.now.joins.now) c.requires.graph.mesh_is c.requires.graph.joins.known
    (first_of c.args.search.now) (first_rank c.args.search.now) c.args.search.now p0
    c.next.result (inl e1) in
    omega (arith, s, w)

pub reach-requires-clause-room : goal.reach-requires-clause-room
reach-requires-clause-room c e =
    let h = get_or_read c.args.search.now.queue.items c.args.search.now.passed c.index-h.result.now
    c.requires.more c.index-h.ensures 0 in
    let p0 : IsRanking c.args.graph.now.mesh.now (cells_of c.args.graph.now.joins.now)
    (first_of c.args.search.now) (first_rank c.args.search.now) c.args.search.now =
    record {
      ranked = c.requires.ranked;
      more = c.requires.more;
      here = refl;
      rank_is = refl;
    } in
    let e1 = sym (c.next.ensures ∙ ap (λ (i : ℕ). next_of c.args.graph.now.mesh.now i) h) in
    let v : vec_len c.args.search.now.queue ≡ length c.args.search.now.queue.items = search rules in
    let r = ranking_room c.args.graph.now.mesh.now
    (cells_of c.args.graph.now.joins.now) c.requires.graph.mesh_is c.requires.graph.joins.known
    (first_of c.args.search.now) (first_rank c.args.search.now) c.args.search.now p0
    c.next.result
    (rank_within c.args.graph.now.mesh.now
    (cells_of c.args.graph.now.joins.now) c.requires.graph.mesh_is c.requires.graph.joins.known
    (first_of c.args.search.now) (first_rank c.args.search.now) c.args.search.now p0
    c.next.result (inl e1)) e in
    omega (arith, r, v)

pub prev-requires : goal.prev-requires
prev-requires c =
    let h = get_or_read c.args.search.now.queue.items c.args.search.now.passed c.index-h.result.now
    c.requires.more c.index-h.ensures 0 in
    let p0 : IsRanking c.args.graph.now.mesh.now (cells_of c.args.graph.now.joins.now)
    (first_of c.args.search.now) (first_rank c.args.search.now) c.args.search.now =
    record {
      ranked = c.requires.ranked;
      more = c.requires.more;
      here = refl;
      rank_is = refl;
    } in
    subst (λ (i : ℕ). i < size c.args.graph.now.mesh.now) (sym h)
    (ranking_within c.args.graph.now.mesh.now
    (cells_of c.args.graph.now.joins.now) c.requires.graph.mesh_is c.requires.graph.joins.known
    (first_of c.args.search.now) (first_rank c.args.search.now) c.args.search.now p0)

pub reach-requires-2-clause-within : goal.reach-requires-2-clause-within
reach-requires-2-clause-within c =
    let h = get_or_read c.args.search.now.queue.items c.args.search.now.passed c.index-h.result.now
    c.requires.more c.index-h.ensures 0 in
    let p0 : IsRanking c.args.graph.now.mesh.now (cells_of c.args.graph.now.joins.now)
    (first_of c.args.search.now) (first_rank c.args.search.now) c.args.search.now =
    record {
      ranked = c.requires.ranked;
      more = c.requires.more;
      here = refl;
      rank_is = refl;
    } in
    let k = ap (λ (i : ℕ). i + 1) (c.rank_of-rank.ensures
    ∙ ap (λ (i : ℕ). get_or c.args.search.now.ranks.items i 0) h) in
    let e1 = sym (c.next.ensures ∙ ap (λ (i : ℕ). next_of c.args.graph.now.mesh.now i) h) in
    let q1 = subst (λ (n : ℕ). IsRankReached c.next.result n c.args.search.now c.reach.new.self) k
    c.reach.ensures.reached in
    let p1 = ranking_next c.args.graph.now.mesh.now
    (cells_of c.args.graph.now.joins.now) c.requires.graph.mesh_is c.requires.graph.joins.known
    (first_of c.args.search.now) (first_rank c.args.search.now) c.args.search.now p0
    c.next.result (inl e1) c.reach.new.self q1 c.reach.ensures.passed c.reach.ensures.room in
    let e2 = sym (c.prev.ensures ∙ ap (λ (i : ℕ). prev_of c.args.graph.now.mesh.now i) h) in
    let s = ranking_sized c.args.graph.now.mesh.now
    (cells_of c.args.graph.now.joins.now) c.requires.graph.mesh_is c.requires.graph.joins.known
    (first_of c.args.search.now) (first_rank c.args.search.now) c.reach.new.self p1 in
    let w = rank_within c.args.graph.now.mesh.now
    (cells_of c.args.graph.now.joins.now) c.requires.graph.mesh_is c.requires.graph.joins.known
    (first_of c.args.search.now) (first_rank c.args.search.now) c.reach.new.self p1
    c.prev.result (inr (inl e2)) in
    omega (arith, s, w)

pub reach-requires-2-clause-room : goal.reach-requires-2-clause-room
reach-requires-2-clause-room c e =
    let h = get_or_read c.args.search.now.queue.items c.args.search.now.passed c.index-h.result.now
    c.requires.more c.index-h.ensures 0 in
    let p0 : IsRanking c.args.graph.now.mesh.now (cells_of c.args.graph.now.joins.now)
    (first_of c.args.search.now) (first_rank c.args.search.now) c.args.search.now =
    record {
      ranked = c.requires.ranked;
      more = c.requires.more;
      here = refl;
      rank_is = refl;
    } in
    let k = ap (λ (i : ℕ). i + 1) (c.rank_of-rank.ensures
    ∙ ap (λ (i : ℕ). get_or c.args.search.now.ranks.items i 0) h) in
    let e1 = sym (c.next.ensures ∙ ap (λ (i : ℕ). next_of c.args.graph.now.mesh.now i) h) in
    let q1 = subst (λ (n : ℕ). IsRankReached c.next.result n c.args.search.now c.reach.new.self) k
    c.reach.ensures.reached in
    let p1 = ranking_next c.args.graph.now.mesh.now
    (cells_of c.args.graph.now.joins.now) c.requires.graph.mesh_is c.requires.graph.joins.known
    (first_of c.args.search.now) (first_rank c.args.search.now) c.args.search.now p0
    c.next.result (inl e1) c.reach.new.self q1 c.reach.ensures.passed c.reach.ensures.room in
    let e2 = sym (c.prev.ensures ∙ ap (λ (i : ℕ). prev_of c.args.graph.now.mesh.now i) h) in
    let v : vec_len c.reach.new.self.queue ≡ length c.reach.new.self.queue.items = search rules in
    let r = ranking_room c.args.graph.now.mesh.now
    (cells_of c.args.graph.now.joins.now) c.requires.graph.mesh_is c.requires.graph.joins.known
    (first_of c.args.search.now) (first_rank c.args.search.now) c.reach.new.self p1
    c.prev.result
    (rank_within c.args.graph.now.mesh.now
    (cells_of c.args.graph.now.joins.now) c.requires.graph.mesh_is c.requires.graph.joins.known
    (first_of c.args.search.now) (first_rank c.args.search.now) c.reach.new.self p1
    c.prev.result (inr (inl e2))) e in
    omega (arith, r, v)

pub row-g-items-requires : goal.row-g-items-requires
row-g-items-requires c =
    let h = get_or_read c.args.search.now.queue.items c.args.search.now.passed c.index-h.result.now
    c.requires.more c.index-h.ensures 0 in
    let p0 : IsRanking c.args.graph.now.mesh.now (cells_of c.args.graph.now.joins.now)
    (first_of c.args.search.now) (first_rank c.args.search.now) c.args.search.now =
    record {
      ranked = c.requires.ranked;
      more = c.requires.more;
      here = refl;
      rank_is = refl;
    } in
    row_is (size c.args.graph.now.mesh.now)
    (cells_of c.args.graph.now.joins.now) c.args.graph.now.joins.now.partners
    c.requires.graph.joins.rows c.index-h.result.now
    (subst (λ (i : ℕ). i < size c.args.graph.now.mesh.now) (sym h)
    (ranking_within c.args.graph.now.mesh.now
    (cells_of c.args.graph.now.joins.now) c.requires.graph.mesh_is c.requires.graph.joins.known
    (first_of c.args.search.now) (first_rank c.args.search.now) c.args.search.now p0))

pub loop-g-init : goal.loop-g-init
loop-g-init c =
    let h = get_or_read c.args.search.now.queue.items c.args.search.now.passed c.index-h.result.now
    c.requires.more c.index-h.ensures 0 in
    let p0 : IsRanking c.args.graph.now.mesh.now (cells_of c.args.graph.now.joins.now)
    (first_of c.args.search.now) (first_rank c.args.search.now) c.args.search.now =
    record {
      ranked = c.requires.ranked;
      more = c.requires.more;
      here = refl;
      rank_is = refl;
    } in
    let k = ap (λ (i : ℕ). i + 1) (c.rank_of-rank.ensures
    ∙ ap (λ (i : ℕ). get_or c.args.search.now.ranks.items i 0) h) in
    let e1 = sym (c.next.ensures ∙ ap (λ (i : ℕ). next_of c.args.graph.now.mesh.now i) h) in
    let q1 = subst (λ (n : ℕ). IsRankReached c.next.result n c.args.search.now c.reach.new.self) k
    c.reach.ensures.reached in
    let p1 = ranking_next c.args.graph.now.mesh.now
    (cells_of c.args.graph.now.joins.now) c.requires.graph.mesh_is c.requires.graph.joins.known
    (first_of c.args.search.now) (first_rank c.args.search.now) c.args.search.now p0
    c.next.result (inl e1) c.reach.new.self q1 c.reach.ensures.passed c.reach.ensures.room in
    let e2 = sym (c.prev.ensures ∙ ap (λ (i : ℕ). prev_of c.args.graph.now.mesh.now i) h) in
    let q2 = subst (λ (n : ℕ). IsRankReached c.prev.result n c.reach.new.self c.reach-2.new.self) k
    c.reach-2.ensures.reached in
    let p2 = ranking_next c.args.graph.now.mesh.now
    (cells_of c.args.graph.now.joins.now) c.requires.graph.mesh_is c.requires.graph.joins.known
    (first_of c.args.search.now) (first_rank c.args.search.now) c.reach.new.self p1
    c.prev.result (inr (inl e2)) c.reach-2.new.self q2 c.reach-2.ensures.passed
    c.reach-2.ensures.room in
    let k1 = rank_stays c.args.graph.now.mesh.now
    (cells_of c.args.graph.now.joins.now) c.requires.graph.mesh_is c.requires.graph.joins.known
    (first_of c.args.search.now) (first_rank c.args.search.now) c.args.search.now p0
    c.next.result (inl e1) c.reach.new.self q1 c.reach.ensures.passed c.reach.ensures.room in
    let k2 = rank_stays c.args.graph.now.mesh.now
    (cells_of c.args.graph.now.joins.now) c.requires.graph.mesh_is c.requires.graph.joins.known
    (first_of c.args.search.now) (first_rank c.args.search.now) c.reach.new.self p1
    c.prev.result (inr (inl e2)) c.reach-2.new.self q2 c.reach-2.ensures.passed
    c.reach-2.ensures.room in
    let r1 = rank_reached c.args.graph.now.mesh.now
    (cells_of c.args.graph.now.joins.now) c.requires.graph.mesh_is c.requires.graph.joins.known
    (first_of c.args.search.now) (first_rank c.args.search.now) c.args.search.now p0
    c.next.result (inl e1) c.reach.new.self q1 c.reach.ensures.passed c.reach.ensures.room in
    let r2 = rank_reached c.args.graph.now.mesh.now
    (cells_of c.args.graph.now.joins.now) c.requires.graph.mesh_is c.requires.graph.joins.known
    (first_of c.args.search.now) (first_rank c.args.search.now) c.reach.new.self p1
    c.prev.result (inr (inl e2)) c.reach-2.new.self q2 c.reach-2.ensures.passed
    c.reach-2.ensures.room in
    let m0 = (let s = ranking_sized c.args.graph.now.mesh.now
    (cells_of c.args.graph.now.joins.now) c.requires.graph.mesh_is c.requires.graph.joins.known
    (first_of c.args.search.now) (first_rank c.args.search.now) c.args.search.now p0 in
    let w = rank_within c.args.graph.now.mesh.now
    (cells_of c.args.graph.now.joins.now) c.requires.graph.mesh_is c.requires.graph.joins.known
    (first_of c.args.search.now) (first_rank c.args.search.now) c.args.search.now p0
    c.next.result (inl e1) in omega_lt _ _ _ s w) in
    let m1 = (let s = ranking_sized c.args.graph.now.mesh.now
    (cells_of c.args.graph.now.joins.now) c.requires.graph.mesh_is c.requires.graph.joins.known
    (first_of c.args.search.now) (first_rank c.args.search.now) c.reach.new.self p1 in
    let w = rank_within c.args.graph.now.mesh.now
    (cells_of c.args.graph.now.joins.now) c.requires.graph.mesh_is c.requires.graph.joins.known
    (first_of c.args.search.now) (first_rank c.args.search.now) c.reach.new.self p1
    c.prev.result (inr (inl e2)) in omega_lt _ _ _ s w) in
    record {
      ranking = p2;
      same = c.reach-2.ensures.passed ∙ c.reach.ensures.passed;
      kept = kept_all c.args.search.now.ranks.items c.reach.new.self.ranks.items
          c.reach-2.new.self.ranks.items k1 k2;
      later = later_all c.args.search.now.ranks.items c.reach.new.self.ranks.items
          c.reach-2.new.self.ranks.items
          (reached_later c.next.result (c.rank_of-rank.result + 1) c.args.search.now
          c.reach.new.self m0 (omega arith) c.reach.ensures.reached)
          (reached_later c.prev.result (c.rank_of-rank.result + 1) c.reach.new.self
          c.reach-2.new.self m1 (omega arith) c.reach-2.ensures.reached);
      next = still_most _ c.reach.new.self.ranks.items c.reach-2.new.self.ranks.items _ k2
          (subst (λ (i : ℕ). HasRankMost c.reach.new.self.ranks.items i
          (first_rank c.args.search.now + 1)) (sym e1) r1);
      prev = subst
          (λ (i : ℕ). HasRankMost c.reach-2.new.self.ranks.items i
          (first_rank c.args.search.now + 1)) (sym e2) r2;
      row = λ i l. absurd (omega (arith, l));
      rank = k;
    }

pub reach-requires-in-loop-g-clause-within : goal.reach-requires-in-loop-g-clause-within
reach-requires-in-loop-g-clause-within c =
    let h = get_or_read c.args.search.now.queue.items c.args.search.now.passed c.index-h.result.now
    c.requires.more c.index-h.ensures 0 in
    let gi = get_or_read c.row-g-items.result.now c.loop-g.g-index c.g-item.result
    c.loop-g-test.true c.g-item.is 0 in
    let a : IsNear c.args.graph.now.mesh.now (cells_of c.args.graph.now.joins.now)
    (first_of c.args.search.now) c.g-item.result =
    in_row c.args.graph.now.mesh.now (cells_of c.args.graph.now.joins.now)
    c.args.graph.now.joins.now.partners c.requires.graph.joins.rows (first_of c.args.search.now)
    (ranking_within c.args.graph.now.mesh.now
    (cells_of c.args.graph.now.joins.now) c.requires.graph.mesh_is c.requires.graph.joins.known
    (first_of c.args.search.now) (first_rank c.args.search.now) c.loop-g.search
    c.loop-g.invariant.ranking) c.row-g-items.result.now c.loop-g.g-index c.g-item.result
    (c.row-g-items.ensures ∙ ap (λ (i : ℕ). row_of c.args.graph.now.joins.now.partners i) h)
    c.loop-g-test.true gi in
    let s = ranking_sized c.args.graph.now.mesh.now
    (cells_of c.args.graph.now.joins.now) c.requires.graph.mesh_is c.requires.graph.joins.known
    (first_of c.args.search.now) (first_rank c.args.search.now) c.loop-g.search
    c.loop-g.invariant.ranking in
    let w = rank_within c.args.graph.now.mesh.now
    (cells_of c.args.graph.now.joins.now) c.requires.graph.mesh_is c.requires.graph.joins.known
    (first_of c.args.search.now) (first_rank c.args.search.now) c.loop-g.search
    c.loop-g.invariant.ranking c.g-item.result a in
    omega (arith, s, w)

pub reach-requires-in-loop-g-clause-room : goal.reach-requires-in-loop-g-clause-room
reach-requires-in-loop-g-clause-room c e =
    let h = get_or_read c.args.search.now.queue.items c.args.search.now.passed c.index-h.result.now
    c.requires.more c.index-h.ensures 0 in
    let gi = get_or_read c.row-g-items.result.now c.loop-g.g-index c.g-item.result
    c.loop-g-test.true c.g-item.is 0 in
    let a : IsNear c.args.graph.now.mesh.now (cells_of c.args.graph.now.joins.now)
    (first_of c.args.search.now) c.g-item.result =
    in_row c.args.graph.now.mesh.now (cells_of c.args.graph.now.joins.now)
    c.args.graph.now.joins.now.partners c.requires.graph.joins.rows (first_of c.args.search.now)
    (ranking_within c.args.graph.now.mesh.now
    (cells_of c.args.graph.now.joins.now) c.requires.graph.mesh_is c.requires.graph.joins.known
    (first_of c.args.search.now) (first_rank c.args.search.now) c.loop-g.search
    c.loop-g.invariant.ranking) c.row-g-items.result.now c.loop-g.g-index c.g-item.result
    (c.row-g-items.ensures ∙ ap (λ (i : ℕ). row_of c.args.graph.now.joins.now.partners i) h)
    c.loop-g-test.true gi in
    let v : vec_len c.loop-g.search.queue ≡ length c.loop-g.search.queue.items = search rules in
    let r = ranking_room c.args.graph.now.mesh.now
    (cells_of c.args.graph.now.joins.now) c.requires.graph.mesh_is c.requires.graph.joins.known
    (first_of c.args.search.now) (first_rank c.args.search.now) c.loop-g.search
    c.loop-g.invariant.ranking c.g-item.result
    (rank_within c.args.graph.now.mesh.now
    (cells_of c.args.graph.now.joins.now) c.requires.graph.mesh_is c.requires.graph.joins.known
    (first_of c.args.search.now) (first_rank c.args.search.now) c.loop-g.search
    c.loop-g.invariant.ranking c.g-item.result a) e in
    omega (arith, r, v)

pub loop-g-preserved : goal.loop-g-preserved
loop-g-preserved c =
    let h = get_or_read c.args.search.now.queue.items c.args.search.now.passed c.index-h.result.now
    c.requires.more c.index-h.ensures 0 in
    let gi = get_or_read c.row-g-items.result.now c.loop-g.g-index c.g-item.result
    c.loop-g-test.true c.g-item.is 0 in
    let a : IsNear c.args.graph.now.mesh.now (cells_of c.args.graph.now.joins.now)
    (first_of c.args.search.now) c.g-item.result =
    in_row c.args.graph.now.mesh.now (cells_of c.args.graph.now.joins.now)
    c.args.graph.now.joins.now.partners c.requires.graph.joins.rows (first_of c.args.search.now)
    (ranking_within c.args.graph.now.mesh.now
    (cells_of c.args.graph.now.joins.now) c.requires.graph.mesh_is c.requires.graph.joins.known
    (first_of c.args.search.now) (first_rank c.args.search.now) c.loop-g.search
    c.loop-g.invariant.ranking) c.row-g-items.result.now c.loop-g.g-index c.g-item.result
    (c.row-g-items.ensures ∙ ap (λ (i : ℕ). row_of c.args.graph.now.joins.now.partners i) h)
    c.loop-g-test.true gi in
    let k = ap (λ (i : ℕ). i + 1) (c.rank_of-rank.ensures
    ∙ ap (λ (i : ℕ). get_or c.args.search.now.ranks.items i 0) h) in
    let i = c.loop-g.invariant in
    let r = c.reach-in-loop-g in
    let q = subst (λ (n : ℕ). IsRankReached c.g-item.result n c.loop-g.search r.new.self) k
    r.ensures.reached in
    let stays = rank_stays c.args.graph.now.mesh.now
    (cells_of c.args.graph.now.joins.now) c.requires.graph.mesh_is c.requires.graph.joins.known
    (first_of c.args.search.now) (first_rank c.args.search.now) c.loop-g.search i.ranking
    c.g-item.result a r.new.self q r.ensures.passed r.ensures.room in
    let most = rank_reached c.args.graph.now.mesh.now
    (cells_of c.args.graph.now.joins.now) c.requires.graph.mesh_is c.requires.graph.joins.known
    (first_of c.args.search.now) (first_rank c.args.search.now) c.loop-g.search i.ranking
    c.g-item.result a r.new.self q r.ensures.passed r.ensures.room in
    let m = (let s = ranking_sized c.args.graph.now.mesh.now
    (cells_of c.args.graph.now.joins.now) c.requires.graph.mesh_is c.requires.graph.joins.known
    (first_of c.args.search.now) (first_rank c.args.search.now) c.loop-g.search i.ranking in
    let w = rank_within c.args.graph.now.mesh.now
    (cells_of c.args.graph.now.joins.now) c.requires.graph.mesh_is c.requires.graph.joins.known
    (first_of c.args.search.now) (first_rank c.args.search.now) c.loop-g.search i.ranking
    c.g-item.result a in omega_lt _ _ _ s w) in
    record {
      ranking = ranking_next c.args.graph.now.mesh.now
          (cells_of c.args.graph.now.joins.now) c.requires.graph.mesh_is
          c.requires.graph.joins.known (first_of c.args.search.now)
          (first_rank c.args.search.now) c.loop-g.search i.ranking c.g-item.result a r.new.self q
          r.ensures.passed r.ensures.room;
      same = r.ensures.passed ∙ i.same;
      kept = kept_all c.args.search.now.ranks.items c.loop-g.search.ranks.items
          r.new.self.ranks.items i.kept stays;
      later = later_all c.args.search.now.ranks.items c.loop-g.search.ranks.items
          r.new.self.ranks.items i.later
          (reached_later c.g-item.result (c.rank_of-rank.result + 1) c.loop-g.search r.new.self m
          (omega arith) r.ensures.reached);
      next = still_most _ c.loop-g.search.ranks.items r.new.self.ranks.items _ stays i.next;
      prev = still_most _ c.loop-g.search.ranks.items r.new.self.ranks.items _ stays i.prev;
      row = row_ranked _ c.row-g-items.result.now c.loop-g.g-index c.loop-g.search.ranks.items
          r.new.self.ranks.items stays i.row
          (subst (λ (j : ℕ). HasRankMost r.new.self.ranks.items j
          (first_rank c.args.search.now + 1)) gi most);
      rank = k;
    }

pub returns-clause-ranked : goal.returns-clause-ranked
returns-clause-ranked c =
    let h = get_or_read c.args.search.now.queue.items c.args.search.now.passed c.index-h.result.now
    c.requires.more c.index-h.ensures 0 in
    ranked_one c.args.graph.now.mesh.now
    (cells_of c.args.graph.now.joins.now) c.requires.graph.mesh_is c.requires.graph.joins.known
    (first_of c.args.search.now) (first_rank c.args.search.now) c.loop-g.search
    c.loop-g.invariant.ranking
    (all_ranked c.args.graph.now.mesh.now
    (cells_of c.args.graph.now.joins.now) c.args.graph.now.joins.now.partners
    c.requires.graph.joins.rows (first_of c.args.search.now)
    (ranking_within c.args.graph.now.mesh.now
    (cells_of c.args.graph.now.joins.now) c.requires.graph.mesh_is c.requires.graph.joins.known
    (first_of c.args.search.now) (first_rank c.args.search.now) c.loop-g.search
    c.loop-g.invariant.ranking) (first_rank c.args.search.now + 1) c.loop-g.search.ranks.items
    c.row-g-items.result.now c.loop-g.g-index (c.row-g-items.ensures
    ∙ ap (λ (i : ℕ). row_of c.args.graph.now.joins.now.partners i) h) c.loop-g-test.false
    c.loop-g.invariant.next c.loop-g.invariant.prev c.loop-g.invariant.row)
    (record {
      ranks = c.loop-g.search.ranks;
      queue = c.loop-g.search.queue;
      passed = c.loop-g.search.passed + 1;
    }) refl refl refl refl
