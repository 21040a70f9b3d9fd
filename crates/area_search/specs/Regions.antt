-- Where places lie in the ground of a drawing that is an area.
use Rattle.std.specs.Prelude.{◌≡◌, ◌<◌, ℕ, ℤ, Bool, Option, Some, None, All, List, length, ⊤}
use Rattle.std.specs.Prelude.{slice_index_or}
use Rattle.plane.specs.Rule.Curves.{IsOn}
use Rattle.plane.specs.Rule.Partition.{IsOff, IsOuter, Joined}
use Rattle.plane.specs.Rule.Places.{Vector, point}
use Rattle.plane.specs.Rule.Plans.{Plan, curve, object}
use Rattle.plane.specs.Rule.Windows.{IsInside}
use Rattle.plane.specs.declared.kinds.Point.{Point}
use Rattle.straight_predicates.specs.EdgeLists.{no_point}
use Rattle.area_search.specs.declared.kinds.AreaAnswer.{AreaAnswer}
use Rattle.area_search.specs.declared.kinds.AreaAnswer.TheVariants.{Proved, Fault, Undecided}
use Rattle.area_search.specs.declared.kinds.FoundObjects.{FoundObjects}
use Rattle.area_search.specs.declared.kinds.Region.{Region}
use Rattle.area_search.specs.declared.kinds.Region.TheVariants as region
use Rattle.area_search.specs.Answers.{IsAnswer, IsUnsettled}
use Rattle.area_search.specs.Grounds.{IsAnswerBy, IsAnswerOfSettled, IsRightGround}
use Rattle.area_search.specs.Grounds.{IsUndecidedBent}

-- Each of the places is in the window of the drawing, its border included.
abbrev pub AreInWindow : Plan → List Point → Type 0
AreInWindow d places = All (IsInside d.window.low d.window.high) places

-- ---- the region of a place
-- In the ground g the place is on some curve; or it is on none and outer; or it is on none and
-- joined to the point of object k.
abbrev pub HasRegion : Plan → Vector → Region → Type 0
HasRegion g z region.OnCurve = (i : ℕ) × (i < length g.curves) × IsOn (curve g i) z
HasRegion g z region.Outer = IsOff g z × IsOuter g z
HasRegion g z (region.Of k) = (k < length g.points) × IsOff g z × Joined g z (point (object g k))

-- The place of a number. Beyond the last one it is not meant.
abbrev pub place_at : List Point → ℕ → Point
place_at places j = slice_index_or places j no_point

-- The region of a number. Beyond the last one it is not meant.
abbrev pub region_at : List Region → ℕ → Region
region_at regions j = slice_index_or regions j region.OnCurve

-- There is one region for each place, in order, which is that of the place in the ground g.
pub record AreRegionsIn (g : Plan) (places : List Point) (regions : List Region) : Type 0 where
  pub count : length regions ≡ length places
  pub each : (j : ℕ) → j < length places
      → HasRegion g (point (place_at places j)) (region_at regions j)

-- ---- the regions of an answer
-- They are those of the places in the ground of the drawing.
pub record AreRegionsOfGround (t : ℤ) (d : Plan) (is_bent : Bool) (places : List Point)
    (regions : List Region) : Type 0 where
  pub g : Plan
  pub origin : List ℕ
  pub right : IsRightGround t d is_bent g origin
  pub regions_are : AreRegionsIn g places regions

-- So they are where the answer is a certificate, by the ground that this is of; of any other answer
-- nothing is said.
abbrev pub AreRegionsBy : AreaAnswer → ℤ → Plan → List Point → List Region → Type 0
AreRegionsBy (Proved c) t d places regions = AreRegionsOfGround t d c.bent places regions
AreRegionsBy (Fault f) t d places regions = ⊤
AreRegionsBy (Undecided i j) t d places regions = ⊤

-- The regions that are found are those of the places, where the drawing has been proved.
abbrev pub AreRegions : ℤ → Plan → List Point → FoundObjects → Type 0
AreRegions t d places f = AreRegionsBy f.answer t d places f.regions.items

-- ---- what the parts of the search find
-- The answer to a drawing that permits an overlap of t units, and the regions of these places.
pub record IsFoundBy (t : ℤ) (d : Plan) (places : List Point) (f : FoundObjects) : Type 0 where
  pub answer : IsAnswerBy t d f.answer
  pub regions : AreRegions t d places f

-- Where the answer is a certificate, each place has its region in the drawing itself.
abbrev pub AreOwnRegions : AreaAnswer → Plan → List Point → List Region → Type 0
AreOwnRegions (Proved c) d places regions = AreRegionsIn d places regions
AreOwnRegions (Fault f) d places regions = ⊤
AreOwnRegions (Undecided i j) d places regions = ⊤

-- The answer to a drawing by itself, and the regions of these places.
pub record IsFound (d : Plan) (places : List Point) (f : FoundObjects) : Type 0 where
  pub answer : IsAnswer d f.answer
  pub regions : AreOwnRegions f.answer d places f.regions.items

-- What is found of a drawing that some level settles.
pub record IsFoundOfSettled (d : Plan) (places : List Point) (f : FoundObjects) : Type 0 where
  pub answer : IsAnswerOfSettled d f.answer
  pub regions : AreOwnRegions f.answer d places f.regions.items

-- that; none where no level settles the drawing
abbrev pub IsSettledFound : Plan → List Point → Option FoundObjects → Type 0
IsSettledFound d places None = IsUnsettled d
IsSettledFound d places (Some f) = IsFoundOfSettled d places f

-- what is found by the bent drawing; none where no level settles it
abbrev pub IsBentFound : ℤ → Plan → List Point → Option FoundObjects → Type 0
IsBentFound t d places None = IsUndecidedBent t d
IsBentFound t d places (Some f) = IsFoundBy t d places f
