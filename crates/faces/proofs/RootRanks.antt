-- The roots get rank 0, and what is so of ranks when the search ends.
use Rattle.std.proofs.Common.{◌≡◌, ℕ, zero, suc, ◌+◌, ◌<◌, ◌≤◌, inl, inr, List, [], ◌∷◌, length}
use Rattle.std.proofs.Common.{get_or, replicate, refl, arith, ap, sym, ◌∙◌, subst, vec_capacity}
use Rattle.std.proofs.lemmas.List.{get_or-set_other}
use Rattle.plane.specs.Lists.{Has}
use Rattle.plane.specs.Runs.Gaps.{Gap}
use Rattle.half_edges.specs.HalfEdges.{HalfEdges, size}
use Rattle.half_edges.specs.Meshes.{IsMesh}
use Rattle.faces.specs.declared.ranks.Ranks.{Ranks}
use Rattle.faces.specs.Joined.{AreKnown}
use Rattle.faces.specs.Ranking.{AreRanks, AreRooted, HasRankMost, HasRanked, IsRankReached}
use Rattle.faces.specs.Ranking.{IsRanked, Leads, step, there}
use Rattle.faces.specs.Searching.{IsKept, IsNear, IsSet, unset}
use Rattle.faces.proofs.Numbering.{none_replicated}
use Rattle.faces.proofs.PairCounts.{by_lt, same_or}
use Rattle.faces.proofs.PairRows.{place_of}
use Rattle.faces.proofs.Passes.{still_faced}
use Rattle.faces.proofs.PlaneLaws.{has_append, has_at}
use Rattle.faces.proofs.Rankings.{has_ranked, rank_room, rank_set, ranks_kept}
use Rattle.faces.proofs.Searches.{near_back, near_within}

replicated_size : (n x : ℕ) → length (replicate n x) ≡ n
replicated_size zero x = refl
replicated_size (suc n) x = ap (λ (k : ℕ). suc k) (replicated_size n x)

pub ranked_begun : (mesh : HalfEdges) (cells : List Gap) (s : Ranks)
    → s.ranks.items ≡ replicate (size mesh) unset → s.queue.items ≡ [] → s.passed ≡ 0
    → size mesh ≤ vec_capacity s.queue → HasRanked mesh cells s
ranked_begun mesh cells s e q p room = record {
  ranked = subst (λ (n : ℕ). IsRanked mesh cells s.ranks.items s.queue.items n) (sym p)
      (subst (λ (xs : List ℕ). IsRanked mesh cells s.ranks.items xs 0) (sym q)
      (subst (λ (xs : List ℕ). IsRanked mesh cells xs [] 0) (sym e) begun));
  room = room;
}
  where
    none : (h : ℕ) → h < size mesh → IsSet (replicate (size mesh) unset) h → ⊥
    none h l k = k (none_replicated (size mesh) h unset l)

    begun : IsRanked mesh cells (replicate (size mesh) unset) [] 0
    begun = record {
      sized = replicated_size (size mesh) unset;
      known = λ h k. absurd k;
      once = tt;
      set = λ h k. absurd k;
      all = λ h l k. absurd (none h l k);
      within = omega arith;
      low = λ i l. absurd (omega (arith, l));
      rises = λ i j a l. absurd (omega (arith, l));
      flat = λ i a l. absurd (omega (arith, l));
      closed = λ i g l. absurd (omega (arith, l));
      less = λ h k l m e. absurd (none h l m);
      small = λ h l k. absurd (none h l k);
    }

-- ---- one root more
module _ (mesh : HalfEdges) (cells : List Gap) (s new : Ranks) (ranked : HasRanked mesh cells s)
    (begun : s.passed ≡ 0) (all : (g : ℕ) → Has g s.queue.items → get_or s.ranks.items g 0 ≡ 0)
    (h : ℕ) (l : h < size mesh)
    (q : IsRankReached h 0 s new) (p : new.passed ≡ s.passed)
    (c : vec_capacity new.queue ≡ vec_capacity s.queue) where
  top : (i : ℕ) → i < length s.queue.items → get_or s.ranks.items (get_or s.queue.items i 0) 0 ≤ 0
  top i m = let e = all (get_or s.queue.items i 0) (has_at s.queue.items i 0 m) in omega (arith, e)

  flat : s.passed < length s.queue.items
      → 0 ≤ suc (get_or s.ranks.items (get_or s.queue.items s.passed 0) 0)
  flat m = omega arith

  parent : (k : ℕ) → 0 ≡ suc k
      → (g : ℕ) × IsNear mesh cells h g × IsSet s.ranks.items g × (get_or s.ranks.items g 0 ≡ k)
  parent k e = absurd (omega (arith, e))

  pub root_ranked : HasRanked mesh cells new
  root_ranked =
      has_ranked mesh cells h 0 l s new ranked (omega arith) (omega arith) top flat parent q p c

  root_kept : IsKept s.ranks.items new.ranks.items
  root_kept = ranks_kept mesh cells h 0 l s new ranked (omega arith)
      (omega arith) top flat parent q p c

  pub root_rank : get_or new.ranks.items h 0 ≡ 0
  root_rank =
      let t = rank_set mesh cells h 0 l s new ranked (omega arith)
      (omega arith) top flat parent q p c in
      elim t.1 [
        | inl e ↦ e
        | inr e ↦ e
            ∙ all h (ranked.ranked.all h l (λ (z : get_or s.ranks.items h 0 ≡ unset). t.0 (e ∙ z)))
      ]

  pub root_all : (g : ℕ) → Has g new.queue.items → get_or new.ranks.items g 0 ≡ 0
  root_all g k = by_reach q
    where
      by_reach : IsRankReached h 0 s new → get_or new.ranks.items g 0 ≡ 0
      by_reach (inl x) =
          elim (has_append g s.queue.items (h ∷ []) (subst (λ (xs : List ℕ). Has g xs) x.queue k)) [
            | inl m ↦ still_faced 0 s.ranks.items new.ranks.items g root_kept (omega arith) (all g m)
            | inr m ↦ elim m [
              | inl e ↦ ap (λ (i : ℕ). get_or new.ranks.items i 0) e ∙ root_rank
              | inr z ↦ absurd z
            ]
          ]
      by_reach (inr x) =
          still_faced 0 s.ranks.items new.ranks.items g root_kept (omega arith)
          (all g (subst (λ (xs : List ℕ). Has g xs) x.queue k))

  pub roots_next : (roots : List ℕ) (k : ℕ) → get_or roots k 0 ≡ h
      → ((i : ℕ) → i < k → get_or s.ranks.items (get_or roots i 0) 0 ≡ 0) → (i : ℕ) → i < k + 1
      → get_or new.ranks.items (get_or roots i 0) 0 ≡ 0
  roots_next roots k e f i m = by_lt i k
      (λ (b : i < k). still_faced 0 s.ranks.items new.ranks.items (get_or roots i 0) root_kept
      (omega arith) (f i b))
      (λ (b : k ≤ i). let w : k ≡ i = omega (arith, m, b) in
      subst (λ (j : ℕ). get_or new.ranks.items (get_or roots j 0) 0 ≡ 0) w
      (ap (λ (j : ℕ). get_or new.ranks.items j 0) e ∙ root_rank))

  pub zero_next : (roots : List ℕ) → Has h roots
      → ((g : ℕ) → g < size mesh → IsSet s.ranks.items g → Has g roots) → (g : ℕ) → g < size mesh
      → IsSet new.ranks.items g → Has g roots
  zero_next roots has f g m k = by_reach q
    where
      by_reach : IsRankReached h 0 s new → Has g roots
      by_reach (inl x) = elim (same_or g h) [
        | inl e ↦ subst (λ (i : ℕ). Has i roots) (sym e) has
        | inr n ↦ f g m
            (λ (z : get_or s.ranks.items g 0 ≡ unset). k
            (ap (λ (xs : List ℕ). get_or xs g 0) x.ranks ∙ get_or-set_other s.ranks.items h g 0 0 n
            ∙ z))
      ]
      by_reach (inr x) =
          f g m (λ (z : get_or s.ranks.items g 0 ≡ unset). k
          (ap (λ (xs : List ℕ). get_or xs g 0) x.ranks ∙ z))

pub root_room : (mesh : HalfEdges) (cells : List Gap) (s : Ranks) → HasRanked mesh cells s → (h : ℕ)
    → h < size mesh → get_or s.ranks.items h 0 ≡ unset → length s.queue.items < vec_capacity s.queue
root_room mesh cells s r h l e =
    let q = rank_room mesh cells s.ranks.items s.queue.items s.passed h r.ranked l e in
    let c = r.room in omega (arith, q, c)

-- ---- at the end
module _ (mesh : HalfEdges) (cells : List Gap) (is : IsMesh mesh)
    (known : AreKnown (size mesh) cells) (roots : List ℕ) (rooted : AreRooted mesh cells roots)
    (within : (h : ℕ) → Has h roots → h < size mesh) (s : Ranks) (ranked : HasRanked mesh cells s)
    (done : length s.queue.items ≤ s.passed)
    (root : (h : ℕ) → Has h roots → get_or s.ranks.items h 0 ≡ 0) (zero_is : (h : ℕ) → h < size mesh
    → get_or s.ranks.items h 0 ≡ 0 → Has h roots) where
  -- a half-edge near one that has a rank has one too, of one more at most
  near_set : (g h : ℕ) → g < size mesh → IsNear mesh cells g h → IsSet s.ranks.items g
      → HasRankMost s.ranks.items h (suc (get_or s.ranks.items g 0))
  near_set g h l n k =
      let (i, b, e) = place_of g s.queue.items (ranked.ranked.all g l k) in
      let c = ranked.ranked.closed i h (omega (arith, b, done))
      (subst (λ (x : ℕ). IsNear mesh cells x h) (sym e) n) in
      let v = ap (λ (x : ℕ). get_or s.ranks.items x 0) e in
      let u = c.1 in
      (c.0, omega (arith, u, v))

  leads_set : (h r : ℕ) → h < size mesh → Leads mesh cells h r → IsSet s.ranks.items r
      → IsSet s.ranks.items h
  leads_set _ _ l (there h r e) k = subst (λ (i : ℕ). IsSet s.ranks.items i) (sym e) k
  leads_set _ _ l (step h g r n j) k =
      let m = near_within mesh cells is known h g l n in
      (near_set g h m (near_back mesh cells is known h g l n) (leads_set g r m j k)).0

  all_set : (h : ℕ) → h < size mesh → IsSet s.ranks.items h
  all_set h l =
      let (r, has, j) = rooted h l in
      leads_set h r l j (λ (e : get_or s.ranks.items r 0 ≡ unset). let z = root r has in
      omega (arith, e, z))

  pub ranks_are : AreRanks mesh cells roots s.ranks.items
  ranks_are = record {
    sized = ranked.ranked.sized;
    small = λ h l. ranked.ranked.small h l (all_set h l);
    root = λ h l. (zero_is h l, root h);
    less = λ h k l e. let (g, n, b, z) = ranked.ranked.less h k l (all_set h l) e in (g, n, z);
    near = λ h g l n. let m = near_within mesh cells is known h g l n in
        (near_set g h m (near_back mesh cells is known h g l n) (all_set g m)).1;
  }
