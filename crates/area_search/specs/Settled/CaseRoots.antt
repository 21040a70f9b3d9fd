-- The half-edges from which the links of a settled drawing begin: those that face a tube, those at
-- the border, and those beside the points.
use Rattle.std.specs.Prelude.{◌≡◌, ◌↔◌, ℕ, zero, suc, ◌<◌, Bool, true, false, List, [], ◌∷◌, ◌++◌}
use Rattle.std.specs.Prelude.{length, slice_index_or, ⊤}
use Rattle.std.specs.List.{flat_map}
use Rattle.faces.specs.Joins.{IsBorder, IsSmall}
use Rattle.half_edges.specs.HalfEdges.{over_of, under_of}
use Rattle.plane.specs.Runs.Gaps.{Gap}
use Rattle.tubes.specs.declared.kinds.Facing.{Facing}
use Rattle.tubes.specs.declared.kinds.Facing.TheVariants as facing
use Rattle.tubes.specs.declared.kinds.Owner.{Owner}
use Rattle.tubes.specs.declared.kinds.Part.{Part}
use Rattle.tubes.specs.declared.kinds.Part.TheVariants as part
use Rattle.area_search.specs.declared.settled.case.Spot.{Spot}
use Rattle.area_search.specs.declared.settled.case.Spot.TheVariants as spot
use Rattle.area_search.specs.declared.settled.case_roots.Chains.{Chains}
use Rattle.area_search.specs.Settled.Cases.{spot_at}
use Rattle.area_search.specs.Settled.Writing.{over_some, under_some}

abbrev pub no_owner : Owner
no_owner = record { curve = 0; part = part.Straight }

abbrev pub owner_at : List Owner → ℕ → Owner
owner_at owners e = slice_index_or owners e no_owner

abbrev pub facing_in : List Facing → ℕ → Facing
facing_in facings e = slice_index_or facings e facing.Neither

-- ---- the chains beside which a point lies
-- One of the first k points lies in the tube of curve c, on that side.
abbrev pub HoldsOne : List Spot → ℕ → Bool → ℕ → Type 0
HoldsOne spots k inside c = (j : ℕ) × (j < k) × (spot_at spots j ≡ spot.InTube c inside)

-- The entry of each curve says whether one of the first k points lies so.
abbrev pub AreMarked : List Spot → ℕ → Bool → List Bool → Type 0
AreMarked spots k inside marks =
    (c : ℕ) → c < length marks → (slice_index_or marks c false ≡ true) ↔ HoldsOne spots k inside c

pub record AreChains (spots : List Spot) (k curves : ℕ) (chains : Chains) : Type 0 where
  pub inner_size : length chains.inner.items ≡ curves
  pub outer_size : length chains.outer.items ≡ curves
  pub inner : AreMarked spots k true chains.inner.items
  pub outer : AreMarked spots k false chains.outer.items

-- the tube is that of one of so many curves
abbrev pub IsSpotIn : ℕ → Spot → Type 0
IsSpotIn curves (spot.InTube c inside) = c < curves
IsSpotIn curves (spot.On c) = ⊤
IsSpotIn curves (spot.Cell position lower upper) = ⊤

-- a point lies on the side of the edge's chain
abbrev pub is_marked : Chains → ℕ → Part → Bool
is_marked chains c part.Straight = false
is_marked chains c part.Inner = slice_index_or chains.inner.items c false
is_marked chains c part.Outer = slice_index_or chains.outer.items c false

-- ---- the half-edges of an edge
abbrev pub if_marked : Bool → ℕ → List ℕ
if_marked false h = []
if_marked true h = h ∷ []

-- The half-edge that faces the tube, and where a point lies beside the chain the other one too.
abbrev pub tube_sides : Facing → Bool → ℕ → List ℕ
tube_sides facing.Neither marked e = []
tube_sides facing.Below marked e = under_of e ∷ if_marked marked (over_of e)
tube_sides facing.Above marked e = over_of e ∷ if_marked marked (under_of e)

abbrev pub tube_roots : List Facing → List Owner → Chains → ℕ → List ℕ
tube_roots facings owners chains e =
    tube_sides (facing_in facings e)
    (is_marked chains (owner_at owners e).curve (owner_at owners e).part) e

-- those of the first n edges
abbrev pub roots_to : (ℕ → List ℕ) → ℕ → List ℕ
roots_to roots zero = []
roots_to roots (suc n) = roots_to roots n ++ roots n

-- the half-edges beside the cell of a point
abbrev pub spot_roots : Spot → List ℕ
spot_roots (spot.Cell position lower upper) = over_some lower ++ under_some upper
spot_roots (spot.On c) = []
spot_roots (spot.InTube c inside) = []

abbrev pub IsSmallSpot : Spot → Type 0
IsSmallSpot (spot.Cell position lower upper) = IsSmall lower × IsSmall upper
IsSmallSpot (spot.On c) = ⊤
IsSmallSpot (spot.InTube c inside) = ⊤

-- at edges of tubes, at the border, and beside the points in cells
abbrev pub case_roots : List Facing → List Owner → Chains → List ℕ → List Spot → List ℕ
case_roots facings owners chains border spots =
    roots_to (tube_roots facings owners chains) (length facings)
    ++ (border ++ flat_map spot_roots spots)

-- The roots are those of chains that are claimed rightly and of a border that is listed rightly.
pub record AreCaseRoots (facings : List Facing) (owners : List Owner) (curves : ℕ)
    (cells : List Gap) (spots : List Spot) (roots : List ℕ) : Type 0 where
  pub chains : Chains
  pub are_chains : AreChains spots (length spots) curves chains
  pub border : List ℕ
  pub border_is : IsBorder cells border
  pub roots_are : roots ≡ case_roots facings owners chains border spots
