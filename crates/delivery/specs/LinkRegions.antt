-- The regions of the points of pairs, and what they say of the pairs.
use Rattle.std.specs.Prelude.{◌≡◌, ◌↔◌, ℕ, ℤ, Bool, true, false, ◌==◌, ◌&&◌, if◌then◌else◌, int_le}
use Rattle.std.specs.Prelude.{List, [], ◌∷◌, ◌++◌, Option, Some, None, ⊤}
use Rattle.std.specs.List.{flat_map}
use Rattle.area_links.specs.declared.kinds.LinkPair.{LinkPair}
use Rattle.area_search.specs.Regions.{HasRegion}
use Rattle.area_search.specs.declared.kinds.Region.{Region}
use Rattle.area_search.specs.declared.kinds.Region.TheVariants.{Of}
use Rattle.plane.specs.Rule.Places.{point}
use Rattle.plane.specs.Rule.Plans.{Plan}
use Rattle.plane.specs.declared.kinds.Point.{Point}
use Rattle.plane.specs.declared.window.Window2.{Window2}

-- a number lies between two others, or is one of them
abbrev pub is_between : ℤ → ℤ → ℤ → Bool
is_between low high a = int_le low a && int_le a high

-- the point lies in the window, its border included
abbrev pub is_within : Window2 → Point → Bool
is_within w p = is_between w.low.x w.high.x p.x && is_between w.low.y w.high.y p.y

-- the points of pairs that lie in the window
abbrev pub inner_places : Window2 → List LinkPair → List Point
inner_places w [] = []
inner_places w (p ∷ ps) =
    if is_within w p.at then p.at ∷ inner_places w ps else inner_places w ps

-- the same of the pairs of all rules
abbrev pub all_inner : Window2 → List (List LinkPair) → List Point
all_inner w pss = flat_map (inner_places w) pss

-- ---- the regions of these points, one after another
-- the first of these regions, if there is one
abbrev pub first_region : List Region → Option Region
first_region [] = None
first_region (r ∷ rs) = Some r

-- those after it
abbrev pub after_first : List Region → List Region
after_first [] = []
after_first (r ∷ rs) = rs

-- the region of the pair's point, where it lies in the window
abbrev pub region_of : Window2 → LinkPair → List Region → Option Region
region_of w p rs = if is_within w p.at then first_region rs else None

-- the regions of the pairs after it
abbrev pub regions_after : Window2 → LinkPair → List Region → List Region
regions_after w p rs = if is_within w p.at then after_first rs else rs

-- the regions after some pairs
abbrev pub regions_left : Window2 → List LinkPair → List Region → List Region
regions_left w [] rs = rs
regions_left w (p ∷ ps) rs = regions_left w ps (regions_after w p rs)

-- the region is that of the object
abbrev pub is_of : Option Region → Option ℕ → Bool
is_of (Some (Of k)) (Some object) = k == object
is_of r object = false

-- that line, unless the test holds
abbrev pub line_unless : Bool → ℕ → List ℕ
line_unless b line = if b then [] else line ∷ []

-- the lines of the pairs whose points do not lie in the regions of their objects
abbrev pub lines_by : Window2 → List LinkPair → List Region → List ℕ
lines_by w [] rs = []
lines_by w (p ∷ ps) rs =
    line_unless (is_of (region_of w p rs) p.object) p.line ++ lines_by w ps (regions_after w p rs)

-- the same of the pairs of each rule
abbrev pub results_by : Window2 → List (List LinkPair) → List Region → List (List ℕ)
results_by w [] rs = []
results_by w (ps ∷ pss) rs = lines_by w ps rs ∷ results_by w pss (regions_left w ps rs)

-- ---- regions that are right
-- the region tells in the ground g in the region of which object the pair's point lies
abbrev pub Tells : Plan → LinkPair → Region → Type 0
Tells g p r = (k : ℕ) → HasRegion g (point p.at) (Of k) ↔ (r ≡ Of k)

-- the first region does, where the pair's point lies in the window
abbrev pub FirstTells : Bool → Plan → LinkPair → List Region → Type 0
FirstTells false g p rs = ⊤
FirstTells true g p [] = ⊥
FirstTells true g p (r ∷ rs) = Tells g p r

-- the regions do so of all pairs
abbrev pub AreTold : Plan → Window2 → List LinkPair → List Region → Type 0
AreTold g w [] rs = ⊤
AreTold g w (p ∷ ps) rs =
    FirstTells (is_within w p.at) g p rs × AreTold g w ps (regions_after w p rs)
