-- A rank is the least number of steps to a root.
use Rattle.std.proofs.Common.{◌≡◌, ℕ, zero, suc, ◌<◌, ◌≤◌, List, get_or, refl, arith, ap, subst}
use Rattle.plane.specs.Lists.{Has}
use Rattle.plane.specs.Runs.Gaps.{Gap}
use Rattle.half_edges.specs.HalfEdges.{HalfEdges, size}
use Rattle.half_edges.specs.Meshes.{IsMesh}
use Rattle.faces.specs.Joined.{AreKnown}
use Rattle.faces.specs.Ranking.{AreRanks, LeadsIn, at_root, one_step}
use Rattle.faces.proofs.Searches.{near_within}

pub rank_least : (mesh : HalfEdges) (cells : List Gap) (roots ranks : List ℕ) → IsMesh mesh
    → AreKnown (size mesh) cells → AreRanks mesh cells roots ranks → (n h r : ℕ) → h < size mesh
    → Has r roots → LeadsIn mesh cells n h r → get_or ranks h 0 ≤ n
rank_least mesh cells roots ranks is known a _ _ _ l k (at_root n h r e q) =
    let z = (a.root r (subst (λ (i : ℕ). i < size mesh) q l)).1 k in
    let w = ap (λ (i : ℕ). get_or ranks i 0) q in
    omega (arith, z, w)
rank_least mesh cells roots ranks is known a _ _ _ l k (one_step n m h g r e s j) =
    let b = rank_least mesh cells roots ranks is known a m g r
    (near_within mesh cells is known h g l s) k j in
    let c = a.near h g l s in
    omega (arith, b, c, e)

pub rank_reached : (mesh : HalfEdges) (cells : List Gap) (roots ranks : List ℕ) → IsMesh mesh
    → AreKnown (size mesh) cells → AreRanks mesh cells roots ranks → (n h : ℕ) → h < size mesh
    → get_or ranks h 0 ≡ n → (r : ℕ) × Has r roots × LeadsIn mesh cells n h r
rank_reached mesh cells roots ranks is known a zero h l e =
    (h, (a.root h l).0 e, at_root zero h h refl refl)
rank_reached mesh cells roots ranks is known a (suc n) h l e =
    let (g, s, q) = a.less h n l e in
    let (r, k, j) = rank_reached mesh cells roots ranks is known a n g
    (near_within mesh cells is known h g l s) q in
    (r, k, one_step (suc n) n h g r refl s j)
