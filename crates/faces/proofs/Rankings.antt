-- A search for ranks: what stays true when one more half-edge gets a rank.
use Rattle.std.proofs.Common.{◌≡◌, ℕ, zero, suc, ◌+◌, ◌<◌, ◌≤◌, ◌⊎◌, inl, inr, List, [], ◌∷◌, ◌++◌}
use Rattle.std.proofs.Common.{length, get_or, set, refl, arith, ap, sym, ◌∙◌, subst, vec_capacity}
use Rattle.std.proofs.lemmas.List.{get_or-set_same, get_or-set_other, length-append, length-set}
use Rattle.plane.specs.Lists.{Has}
use Rattle.plane.specs.Runs.Gaps.{Gap}
use Rattle.half_edges.specs.HalfEdges.{HalfEdges, size}
use Rattle.half_edges.specs.Meshes.{IsMesh}
use Rattle.faces.specs.declared.ranks.Ranks.{Ranks}
use Rattle.faces.specs.Joined.{AreKnown}
use Rattle.faces.specs.Ranking.{AreLater, HasRanked, IsRankReached, IsRanked, IsRanking}
use Rattle.faces.specs.Searching.{IsKept, IsNear, IsSet, unset}
use Rattle.faces.proofs.PairCounts.{by_lt, same_or}
use Rattle.faces.proofs.PairRows.{place_of}
use Rattle.faces.proofs.PlaneLaws.{has_append, has_at, has_back, has_front, once_append, room}
use Rattle.faces.proofs.Searches.{near_back, near_within}

pub queue_front : (xs : List ℕ) (h i : ℕ) → i < length xs
    → get_or (xs ++ h ∷ []) i 0 ≡ get_or xs i 0
queue_front [] h i m = absurd (omega (arith, m))
queue_front (x ∷ xs) h zero m = refl
queue_front (x ∷ xs) h (suc i) m = queue_front xs h i (omega (arith, m))

queue_last : (xs : List ℕ) (h i : ℕ) → length xs ≡ i → get_or (xs ++ h ∷ []) i 0 ≡ h
queue_last [] h zero e = refl
queue_last [] h (suc i) e = absurd (omega (arith, e))
queue_last (x ∷ xs) h zero e = absurd (omega (arith, e))
queue_last (x ∷ xs) h (suc i) e = queue_last xs h i (omega (arith, e))

module _ (mesh : HalfEdges) (cells : List Gap) (ranks queue : List ℕ) (passed : ℕ)
    (s : IsRanked mesh cells ranks queue passed) (h r : ℕ) (l : h < size mesh)
    (free : get_or ranks h 0 ≡ unset) (small : r < unset) (low : r ≤ length queue)
    (top : (i : ℕ) → i < length queue → get_or ranks (get_or queue i 0) 0 ≤ r)
    (flat : passed < length queue → r ≤ suc (get_or ranks (get_or queue passed 0) 0))
    (parent : (k : ℕ) → r ≡ suc k → (g : ℕ) × IsNear mesh cells h g × IsSet ranks g
    × (get_or ranks g 0 ≡ k)) where
  abbrev ranks' : List ℕ
  ranks' = set ranks h r

  abbrev queue' : List ℕ
  queue' = queue ++ h ∷ []

  grown : length queue' ≡ suc (length queue)
  grown = let z = length-append queue (h ∷ []) in omega (arith, z)

  here : get_or ranks' h 0 ≡ r
  here = get_or-set_same ranks h r 0 (let z = s.sized in omega (arith, l, z))

  other : (g : ℕ) → (g ≡ h → ⊥) → get_or ranks' g 0 ≡ get_or ranks g 0
  other g n = get_or-set_other ranks h g r 0 n

  differs : (g : ℕ) → IsSet ranks g → g ≡ h → ⊥
  differs g k e = k (ap (λ (i : ℕ). get_or ranks i 0) e ∙ free)

  pub rank_kept : IsKept ranks ranks'
  rank_kept g k = other g (differs g k)

  set_kept : (g : ℕ) → IsSet ranks g → IsSet ranks' g
  set_kept g k e = k (sym (rank_kept g k) ∙ e)

  here_set : IsSet ranks' h
  here_set e = let q = here in omega (arith, q, e, small)

  was : (g : ℕ) → IsSet ranks' g → (g ≡ h) ⊎ IsSet ranks g
  was g k = elim (same_or g h) [
    | inl e ↦ inl e
    | inr n ↦ inr (λ (q : get_or ranks g 0 ≡ unset). k (other g n ∙ q))
  ]

  in_queue : (i : ℕ) → i < length queue → IsSet ranks (get_or queue i 0)
  in_queue i m = s.set (get_or queue i 0) (has_at queue i 0 m)

  rank_front : (i : ℕ) → i < length queue
      → get_or ranks' (get_or queue' i 0) 0 ≡ get_or ranks (get_or queue i 0) 0
  rank_front i m = ap (λ (g : ℕ). get_or ranks' g 0) (queue_front queue h i m)
      ∙ rank_kept (get_or queue i 0) (in_queue i m)

  rank_last : (i : ℕ) → length queue ≡ i → get_or ranks' (get_or queue' i 0) 0 ≡ r
  rank_last i e = ap (λ (g : ℕ). get_or ranks' g 0) (queue_last queue h i e) ∙ here

  one : {P : Type 0} (g : ℕ) → Has g (h ∷ []) → (g ≡ h → P) → P
  one g (inl q) f = f q
  one g (inr k) f = absurd k

  lows : (i : ℕ) → i < length queue' → get_or ranks' (get_or queue' i 0) 0 ≤ i
  lows i m = by_lt i (length queue)
      (λ (b : i < length queue). let e = rank_front i b in let z = s.low i b in omega (arith, e, z))
      (λ (b : length queue ≤ i). let z = grown in let e = rank_last i (omega (arith, m, b, z)) in
      omega (arith, e, b, low))

  rising : (i j : ℕ) → i ≤ j → j < length queue'
      → get_or ranks' (get_or queue' i 0) 0 ≤ get_or ranks' (get_or queue' j 0) 0
  rising i j a m = by_lt j (length queue)
      (λ (b : j < length queue). let e = rank_front j b in
      let f = rank_front i (omega (arith, a, b)) in let z = s.rises i j a b in
      omega (arith, e, f, z))
      (λ (b : length queue ≤ j).
      let z = grown in
      let e = rank_last j (omega (arith, m, b, z)) in
      by_lt i (length queue)
      (λ (c : i < length queue). let f = rank_front i c in let t = top i c in
      omega (arith, e, f, t))
      (λ (c : length queue ≤ i). let f = rank_last i (omega (arith, m, a, c, z)) in
      omega (arith, e, f)))

  flats : (i : ℕ) → passed < length queue' → i < length queue'
      → get_or ranks' (get_or queue' i 0) 0 ≤ suc (get_or ranks' (get_or queue' passed 0) 0)
  flats i a m =
      let z = grown in
      by_lt passed (length queue)
      (λ (b : passed < length queue).
      let p = rank_front passed b in
      by_lt i (length queue)
      (λ (c : i < length queue). let e = rank_front i c in let w = s.flat i b c in
      omega (arith, p, e, w))
      (λ (c : length queue ≤ i). let e = rank_last i (omega (arith, m, c, z)) in let w = flat b in
      omega (arith, p, e, w)))
      (λ (b : length queue ≤ passed).
      let p = rank_last passed (omega (arith, a, b, z)) in
      by_lt i (length queue)
      (λ (c : i < length queue). let e = rank_front i c in let t = top i c in
      omega (arith, p, e, t))
      (λ (c : length queue ≤ i). let e = rank_last i (omega (arith, m, c, z)) in
      omega (arith, p, e)))

  closes : (i g : ℕ) → i < passed → IsNear mesh cells (get_or queue' i 0) g
      → IsSet ranks' g × (get_or ranks' g 0 ≤ suc (get_or ranks' (get_or queue' i 0) 0))
  closes i g a n =
      let m : i < length queue = (let w = s.within in omega (arith, a, w)) in
      let c = s.closed i g a
      (subst (λ (x : ℕ). IsNear mesh cells x g) (queue_front queue h i m) n) in
      let e = rank_front i m in
      let k = rank_kept g c.0 in
      let b = c.1 in
      (set_kept g c.0, omega (arith, e, k, b))

  parents : (g k : ℕ) → g < size mesh → IsSet ranks' g → get_or ranks' g 0 ≡ suc k
      → (i : ℕ) × IsNear mesh cells g i × IsSet ranks' i × (get_or ranks' i 0 ≡ k)
  parents g k m q e = elim (was g q) [
    | inl w ↦
        (let (i, n, b, z) = parent k (sym here ∙ ap (λ (x : ℕ). get_or ranks' x 0) (sym w) ∙ e) in
        (i, subst (λ (x : ℕ). IsNear mesh cells x i) (sym w) n, set_kept i b, rank_kept i b ∙ z))
    | inr o ↦ (let (i, n, b, z) = s.less g k m o (sym (rank_kept g o) ∙ e) in
        (i, n, set_kept i b, rank_kept i b ∙ z))
  ]

  pub ranked_put : IsRanked mesh cells ranks' queue' passed
  ranked_put = record {
    sized = length-set ranks h r ∙ s.sized;
    known = λ g k. elim (has_append g queue (h ∷ []) k) [
      | inl m ↦ s.known g m
      | inr m ↦ one g m (λ (q : g ≡ h). omega (arith, q, l))
    ];
    once = once_append queue (h ∷ []) s.once ((λ k. k), tt)
        (λ g m n. one g n (λ (q : g ≡ h). s.set g m (ap (λ (x : ℕ). get_or ranks x 0) q ∙ free)));
    set = λ g k. elim (has_append g queue (h ∷ []) k) [
      | inl m ↦ set_kept g (s.set g m)
      | inr m ↦ one g m (λ (q : g ≡ h). subst (λ (j : ℕ). IsSet ranks' j) (sym q) here_set)
    ];
    all = λ g m k. elim (was g k) [
      | inl q ↦ has_back g queue (h ∷ []) (inl q)
      | inr o ↦ has_front g queue (h ∷ []) (s.all g m o)
    ];
    within = let w = s.within in let z = grown in omega (arith, w, z);
    low = lows;
    rises = rising;
    flat = flats;
    closed = closes;
    less = parents;
    small = λ g m k. elim (was g k) [
      | inl q ↦ (let e = ap (λ (x : ℕ). get_or ranks' x 0) q ∙ here in omega (arith, e, small))
      | inr o ↦ (let e = rank_kept g o in let z = s.small g m o in omega (arith, e, z))
    ];
  }

-- there is room in the queue for a half-edge without rank
pub rank_room : (mesh : HalfEdges) (cells : List Gap) (ranks queue : List ℕ) (passed h : ℕ)
    → IsRanked mesh cells ranks queue passed → h < size mesh → get_or ranks h 0 ≡ unset
    → length queue < size mesh
rank_room mesh cells ranks queue passed h s l free =
    let all = room (size mesh) (queue ++ h ∷ [])
    (once_append queue (h ∷ []) s.once ((λ k. k), tt) apart) inside in
    let z = length-append queue (h ∷ []) in
    omega (arith, all, z)
  where
    apart : (g : ℕ) → Has g queue → Has g (h ∷ []) → ⊥
    apart g m (inl q) = s.set g m (ap (λ (j : ℕ). get_or ranks j 0) q ∙ free)
    apart g m (inr k) = k

    inside : (g : ℕ) → Has g (queue ++ h ∷ []) → g < size mesh
    inside g k =
        elim (has_append g queue (h ∷ []) k) [
          | inl m ↦ s.known g m
          | inr m ↦ elim m [ inl q ↦ omega (arith, q, l) | inr x ↦ absurd x ]
        ]

pub rank_room_all : (mesh : HalfEdges) (cells : List Gap) (ranks queue : List ℕ) (passed : ℕ)
    → IsRanked mesh cells ranks queue passed → length queue ≤ size mesh
rank_room_all mesh cells ranks queue passed s = room (size mesh) queue s.once s.known

-- ---- what reaching a half-edge changes
module _ (mesh : HalfEdges) (cells : List Gap) (h r : ℕ) (l : h < size mesh) (old new : Ranks)
    (s : HasRanked mesh cells old) (small : r < unset) (low : r ≤ length old.queue.items)
    (top : (i : ℕ) → i < length old.queue.items
    → get_or old.ranks.items (get_or old.queue.items i 0) 0 ≤ r)
    (flat : old.passed < length old.queue.items
    → r ≤ suc (get_or old.ranks.items (get_or old.queue.items old.passed 0) 0))
    (parent : (k : ℕ) → r ≡ suc k → (g : ℕ) × IsNear mesh cells h g × IsSet old.ranks.items g
    × (get_or old.ranks.items g 0 ≡ k))
    (q : IsRankReached h r old new) (p : new.passed ≡ old.passed)
    (c : vec_capacity new.queue ≡ vec_capacity old.queue) where
  ranked_next : IsRankReached h r old new
      → IsRanked mesh cells new.ranks.items new.queue.items new.passed
  ranked_next (inl x) =
      subst (λ (n : ℕ). IsRanked mesh cells new.ranks.items new.queue.items n) (sym p)
      (subst (λ (xs : List ℕ). IsRanked mesh cells new.ranks.items xs old.passed) (sym x.queue)
      (subst (λ (xs : List ℕ). IsRanked mesh cells xs (old.queue.items ++ h ∷ []) old.passed)
      (sym x.ranks)
      (ranked_put mesh cells old.ranks.items old.queue.items old.passed s.ranked h r l x.free small
      low top flat parent)))
  ranked_next (inr x) =
      subst (λ (n : ℕ). IsRanked mesh cells new.ranks.items new.queue.items n) (sym p)
      (subst (λ (xs : List ℕ). IsRanked mesh cells new.ranks.items xs old.passed) (sym x.queue)
      (subst (λ (xs : List ℕ). IsRanked mesh cells xs old.queue.items old.passed)
      (sym x.ranks) s.ranked))

  pub has_ranked : HasRanked mesh cells new
  has_ranked = record {
    ranked = ranked_next q;
    room = subst (λ (n : ℕ). size mesh ≤ n) (sym c) s.room;
  }

  kept_next : IsRankReached h r old new → IsKept old.ranks.items new.ranks.items
  kept_next (inl x) g k = ap (λ (xs : List ℕ). get_or xs g 0) x.ranks
      ∙ rank_kept mesh cells old.ranks.items old.queue.items old.passed s.ranked h r l x.free small
      low top flat parent g k
  kept_next (inr x) g k = ap (λ (xs : List ℕ). get_or xs g 0) x.ranks

  pub ranks_kept : IsKept old.ranks.items new.ranks.items
  ranks_kept = kept_next q

  now_set : IsRankReached h r old new
      → IsSet new.ranks.items h
      × ((get_or new.ranks.items h 0 ≡ r)
      ⊎ (get_or new.ranks.items h 0 ≡ get_or old.ranks.items h 0))
  now_set (inl x) =
      let e = ap (λ (xs : List ℕ). get_or xs h 0) x.ranks
      ∙ get_or-set_same old.ranks.items h r 0 (let z = s.ranked.sized in omega (arith, l, z)) in
      ((λ (w : get_or new.ranks.items h 0 ≡ unset). omega (arith, w, e, small)), inl e)
  now_set (inr x) =
      let e = ap (λ (xs : List ℕ). get_or xs h 0) x.ranks in
      ((λ (w : get_or new.ranks.items h 0 ≡ unset). x.has (sym e ∙ w)), inr e)

  pub rank_set : IsSet new.ranks.items h
      × ((get_or new.ranks.items h 0 ≡ r)
      ⊎ (get_or new.ranks.items h 0 ≡ get_or old.ranks.items h 0))
  rank_set = now_set q

  queue_next : IsRankReached h r old new → (i : ℕ) → i < length old.queue.items
      → (i < length new.queue.items) × (get_or new.queue.items i 0 ≡ get_or old.queue.items i 0)
  queue_next (inl x) i m = (
    (let z = length-append old.queue.items (h ∷ []) in let e = ap length x.queue in
        omega (arith, z, e, m)),
    ap (λ (xs : List ℕ). get_or xs i 0) x.queue
        ∙ queue_front old.queue.items h i m,
  )
  queue_next (inr x) i m = (
    (let e = ap length x.queue in omega (arith, e, m)),
    ap (λ (xs : List ℕ). get_or xs i 0) x.queue,
  )

  pub rank_queue : (i : ℕ) → i < length old.queue.items
      → (i < length new.queue.items) × (get_or new.queue.items i 0 ≡ get_or old.queue.items i 0)
  rank_queue = queue_next q

pub later_all : (a b d : List ℕ) → AreLater a b → AreLater b d → AreLater a d
later_all a b d f g h e = f h (g h e)

pub reached_later : (h r : ℕ) (old new : Ranks) → h < length old.ranks.items → 0 < r
    → IsRankReached h r old new → AreLater old.ranks.items new.ranks.items
reached_later h r old new l p (inl x) g e = elim (same_or g h) [
  | inl q ↦ absurd (let w = ap (λ (i : ℕ). get_or new.ranks.items i 0) (sym q) in
      let z = ap (λ (xs : List ℕ). get_or xs h 0) x.ranks
      ∙ get_or-set_same old.ranks.items h r 0 l in omega (arith, w, z, p, e))
  | inr n ↦ sym (get_or-set_other old.ranks.items h g r 0 n)
      ∙ sym (ap (λ (xs : List ℕ). get_or xs g 0) x.ranks) ∙ e
]
reached_later h r old new l p (inr x) g e = sym (ap (λ (xs : List ℕ). get_or xs g 0) x.ranks) ∙ e

-- ---- the half-edge h, of rank k, is being passed
module _ (mesh : HalfEdges) (cells : List Gap) (is : IsMesh mesh)
    (known : AreKnown (size mesh) cells) (h k : ℕ) (s : Ranks)
    (p : IsRanking mesh cells h k s) where
  pub ranking_within : h < size mesh
  ranking_within =
      subst (λ (n : ℕ). n < size mesh) p.here
      (p.ranked.ranked.known _ (has_at s.queue.items s.passed 0 p.more))

  ranking_set : IsSet s.ranks.items h
  ranking_set =
      subst (λ (n : ℕ). IsSet s.ranks.items n) p.here
      (p.ranked.ranked.set _ (has_at s.queue.items s.passed 0 p.more))

  head_rank : get_or s.ranks.items (get_or s.queue.items s.passed 0) 0 ≡ k
  head_rank = ap (λ (n : ℕ). get_or s.ranks.items n 0) p.here ∙ p.rank_is

  pub ranking_small : k + 1 < unset
  ranking_small =
      let a = p.ranked.ranked.low s.passed p.more in
      let e = head_rank in
      let r = rank_room_all mesh cells s.ranks.items s.queue.items s.passed p.ranked.ranked in
      let m = p.more in
      let f = is.few in
      let q = is.pairs in
      omega (arith, a, e, r, m, f, q)

  pub ranking_sized : length s.ranks.items ≡ size mesh
  ranking_sized = p.ranked.ranked.sized

  pub ranking_room : (g : ℕ) → g < size mesh → get_or s.ranks.items g 0 ≡ unset
      → length s.queue.items < vec_capacity s.queue
  ranking_room g l e =
      let r = rank_room mesh cells s.ranks.items s.queue.items s.passed g p.ranked.ranked l e in
      let c = p.ranked.room in omega (arith, r, c)

  top : (i : ℕ) → i < length s.queue.items
      → get_or s.ranks.items (get_or s.queue.items i 0) 0 ≤ k + 1
  top i m = let f = p.ranked.ranked.flat i p.more m in let e = head_rank in omega (arith, f, e)

  low : k + 1 ≤ length s.queue.items
  low =
      let a = p.ranked.ranked.low s.passed p.more in
      let e = head_rank in let m = p.more in omega (arith, a, e, m)

  flat : s.passed < length s.queue.items
      → k + 1 ≤ suc (get_or s.ranks.items (get_or s.queue.items s.passed 0) 0)
  flat m = let e = head_rank in omega (arith, e)

  module _ (g : ℕ) (n : IsNear mesh cells h g) where
    pub rank_within : g < size mesh
    rank_within = near_within mesh cells is known h g ranking_within n

    parent : (j : ℕ) → k + 1 ≡ suc j
        → (i : ℕ) × IsNear mesh cells g i × IsSet s.ranks.items i × (get_or s.ranks.items i 0 ≡ j)
    parent j e = (
      h,
      near_back mesh cells is known h g ranking_within n,
      ranking_set,
      (let r = p.rank_is in omega (arith, r, e)),
    )

    module _ (new : Ranks) (r : IsRankReached g (k + 1) s new) (q : new.passed ≡ s.passed)
        (c : vec_capacity new.queue ≡ vec_capacity s.queue) where
      pub rank_stays : IsKept s.ranks.items new.ranks.items
      rank_stays =
          ranks_kept mesh cells g (k + 1) rank_within s new p.ranked ranking_small low top flat
          parent r q c

      pub ranking_next : IsRanking mesh cells h k new
      ranking_next =
          let at = rank_queue mesh cells g
          (k + 1) rank_within s new p.ranked ranking_small low top flat parent r q c s.passed
          p.more in
          record {
            ranked = has_ranked mesh cells g
                (k + 1) rank_within s new p.ranked ranking_small low top flat parent r q c;
            more = subst (λ (i : ℕ). i < length new.queue.items) (sym q) at.0;
            here = ap (λ (i : ℕ). get_or new.queue.items i 0) q ∙ at.1 ∙ p.here;
            rank_is = rank_stays h ranking_set ∙ p.rank_is;
          }

      -- it has a rank now, of k + 1 at most
      pub rank_reached : IsSet new.ranks.items g × (get_or new.ranks.items g 0 ≤ k + 1)
      rank_reached =
          let t = rank_set mesh cells g (k + 1) rank_within s new p.ranked ranking_small low top
          flat parent r q c in
          (t.0, by_rank t.1 t.0)
        where
          by_rank : (get_or new.ranks.items g 0 ≡ k + 1)
              ⊎ (get_or new.ranks.items g 0 ≡ get_or s.ranks.items g 0)
              → IsSet new.ranks.items g → get_or new.ranks.items g 0 ≤ k + 1
          by_rank (inl e) m = omega (arith, e)
          by_rank (inr e) m =
              let (i, b, w) = place_of g s.queue.items
              (p.ranked.ranked.all g rank_within
              (λ (z : get_or s.ranks.items g 0 ≡ unset). m (e ∙ z))) in
              let t = top i b in
              let v = ap (λ (x : ℕ). get_or s.ranks.items x 0) w in
              omega (arith, e, t, v)

  -- all that a step leads to have a rank of k + 1 at most
  module _ (all : (g : ℕ) → IsNear mesh cells h g
      → IsSet s.ranks.items g × (get_or s.ranks.items g 0 ≤ k + 1)) (new : Ranks)
      (ef : new.ranks.items ≡ s.ranks.items) (eq : new.queue.items ≡ s.queue.items)
      (ec : vec_capacity new.queue ≡ vec_capacity s.queue) (ep : new.passed ≡ s.passed + 1) where
    closes_one : (i x : ℕ) → i < s.passed + 1 → IsNear mesh cells (get_or s.queue.items i 0) x
        → IsSet s.ranks.items x
        × (get_or s.ranks.items x 0 ≤ suc (get_or s.ranks.items (get_or s.queue.items i 0) 0))
    closes_one i x l n = by_lt i s.passed
        (λ (b : i < s.passed). p.ranked.ranked.closed i x b n)
        (λ (b : s.passed ≤ i).
        let e : s.passed ≡ i = omega (arith, l, b) in
        let at : get_or s.queue.items i 0 ≡ h = ap (λ (j : ℕ). get_or s.queue.items j 0) (sym e)
        ∙ p.here in
        let t = all x (subst (λ (j : ℕ). IsNear mesh cells j x) at n) in
        let v = ap (λ (j : ℕ). get_or s.ranks.items j 0) at ∙ p.rank_is in
        let u = t.1 in
        (t.0, omega (arith, u, v)))

    ranked_more : IsRanked mesh cells s.ranks.items s.queue.items (s.passed + 1)
    ranked_more =
        let z = p.ranked.ranked in
        record {
          sized = z.sized;
          known = z.known;
          once = z.once;
          set = z.set;
          all = z.all;
          within = (let m = p.more in omega (arith, m));
          low = z.low;
          rises = z.rises;
          flat = λ i a b. let f = top i b in let e = head_rank in
              let w = z.rises s.passed (s.passed + 1) (omega arith) a in omega (arith, f, e, w);
          closed = closes_one;
          less = z.less;
          small = z.small;
        }

    pub ranked_one : HasRanked mesh cells new
    ranked_one = record {
      ranked = subst (λ (n : ℕ). IsRanked mesh cells new.ranks.items new.queue.items n) (sym ep)
          (subst (λ (xs : List ℕ). IsRanked mesh cells new.ranks.items xs (s.passed + 1)) (sym eq)
          (subst (λ (xs : List ℕ). IsRanked mesh cells xs s.queue.items (s.passed + 1))
          (sym ef) ranked_more));
      room = subst (λ (n : ℕ). size mesh ≤ n) (sym ec) p.ranked.room;
    }
