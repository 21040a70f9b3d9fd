-- The events at which tubes have corners that are no ends of their half arcs, and the first of them
-- at which another curve's edge ends.
use Rattle.std.specs.Prelude.{◌≡◌, ◌⊎◌, ℕ, suc, ◌<◌, ◌≤◌, List, length, slice_index_or}
use Rattle.plane.specs.Rule.BadPairs.{IsEndOf}
use Rattle.plane.specs.Rule.Plans.{Plan, curve}
use Rattle.plane.specs.declared.kinds.Curve.{Curve}
use Rattle.plane.specs.declared.kinds.Edge.{Edge}
use Rattle.plane.specs.declared.kinds.Point.{Point}
use Rattle.straight_predicates.specs.EdgeLists.{edge_of}
use Rattle.tubes.specs.Facings.{owner_at}
use Rattle.tubes.specs.declared.kinds.EdgeList.{EdgeList}
use Rattle.tubes.specs.declared.kinds.Owner.{Owner}
use Rattle.tubes.specs.declared.kinds.Part.{Part}
use Rattle.tubes.specs.declared.kinds.Part.TheVariants as part

-- Event k is that of the edge's end, which is no end of the curve.
abbrev pub IsCornerAt : Curve → Point → ℕ → ℕ → Type 0
IsCornerAt c p event k = (k ≡ event) × (IsEndOf c p → ⊥)

-- An edge of a tube, with these events at its ends, has such a corner at event k.
abbrev pub HasCornerAt : Part → Curve → Edge → ℕ → ℕ → ℕ → Type 0
HasCornerAt part.Straight c x low high k = ⊥
HasCornerAt part.Inner c x low high k = IsCornerAt c x.low low k ⊎ IsCornerAt c x.high high k
HasCornerAt part.Outer c x low high k = IsCornerAt c x.low low k ⊎ IsCornerAt c x.high high k

-- The entries of the events with P became the number, and no others changed.
pub record AreSet (number : ℕ) (P : ℕ → Type 0) (old new : List ℕ) : Type 0 where
  pub size : length new ≡ length old
  pub each : (k : ℕ)
      → (P k × (slice_index_or new k 0 ≡ number))
      ⊎ ((P k → ⊥) × (slice_index_or new k 0 ≡ slice_index_or old k 0))

-- Edge e of the list is of a tube and has such a corner at event k.
abbrev pub IsCornerOf : Plan → EdgeList → List ℕ → List ℕ → ℕ → ℕ → Type 0
IsCornerOf d list low high e k =
    HasCornerAt (owner_at list.owners.items e).part (curve d (owner_at list.owners.items e).curve)
    (edge_of list.edges.items e) (slice_index_or low e 0) (slice_index_or high e 0) k

-- By event a half arc whose tube has such a corner there, plus 1, among those of the first n edges;
-- 0 where there is none.
pub record AreTubesByEvent (d : Plan) (list : EdgeList) (low high : List ℕ) (events n : ℕ)
    (tubes : List ℕ) : Type 0 where
  pub size : length tubes ≡ events
  pub some : (e k : ℕ) → e < n → IsCornerOf d list low high e k → 0 < slice_index_or tubes k 0
  pub of : (k c : ℕ) → slice_index_or tubes k 0 ≡ suc c
      → (e : ℕ) × (e < n) × IsCornerOf d list low high e k
      × ((owner_at list.owners.items e).curve ≡ c)

-- There is a tube, and it is that of another curve.
pub record IsOther (tube c : ℕ) : Type 0 where
  pub some : tube ≡ 0 → ⊥
  pub other : tube ≡ suc c → ⊥

-- Edge e ends at event k, where a tube of another curve has such a corner.
pub record IsShared (owners : List Owner) (tubes low high : List ℕ) (e k : ℕ) : Type 0 where
  pub ends : (k ≡ slice_index_or low e 0) ⊎ (k ≡ slice_index_or high e 0)
  pub other : IsOther (slice_index_or tubes k 0) (owner_at owners e).curve

-- The event, where P holds and it is before the first so far; else that one.
pub record IsSooner (P : Type 0) (event first sooner : ℕ) : Type 0 where
  pub bound : sooner ≤ first
  pub least : P → sooner ≤ event
  pub some : (sooner ≡ first) ⊎ (P × (sooner ≡ event))

-- The least event that one of the first n edges shares, or the number of events.
pub record IsLeastShared (owners : List Owner) (tubes low high : List ℕ)
    (events n first : ℕ) : Type 0 where
  pub bound : first ≤ events
  pub least : (e k : ℕ) → e < n → IsShared owners tubes low high e k → first ≤ k
  pub some : (first ≡ events) ⊎ ((e : ℕ) × (e < n) × IsShared owners tubes low high e first)
