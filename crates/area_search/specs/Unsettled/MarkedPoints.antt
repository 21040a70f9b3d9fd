-- All objects' points on marked curves.
use Rattle.std.specs.Prelude.{◌≡◌, ℕ, ◌-◌, ◌^◌, ◌<◌, true, Bool, List, length, map, slice_index}
use Rattle.std.specs.Prelude.{slice_index_or}
use Rattle.std.specs.List.{Contains}
use Rattle.std.specs.List.Sorted.{IsStrictlyIncreasing}
use Rattle.plane.specs.Rule.Plans.{Plan}
use Rattle.fault_lists.specs.declared.kinds.OnAt.{OnAt}
use Rattle.near_pairs.specs.PairLists.{code}
use Rattle.area_search.specs.Faults.{LiesOn}
use Rattle.area_search.specs.Unsettled.CurvePoints.{IsPointOnCurve, LiesOnMarked}

-- The pairs are those of a point and a marked curve on which it lies.
pub record ArePairsOn (d : Plan) (marks : List Bool) (ons : List OnAt) : Type 0 where
  pub on : (o : OnAt) → Contains ons o → LiesOnMarked d marks true o.point o.curve
  pub all : (j i : ℕ) → LiesOnMarked d marks true j i
      → Contains ons (record { point = j; curve = i })

-- the number of a pair in the order of points, and of one point in that of curves
abbrev pub on_code : OnAt → ℕ
on_code o = code o.point o.curve

-- More than so many pairs of a point and a curve on which it lies.
pub record HasManyOn (d : Plan) (most : ℕ) : Type 0 where
  pub pairs : List OnAt
  pub on : (o : OnAt) → Contains pairs o → LiesOn d o.point o.curve
  pub rise : IsStrictlyIncreasing (map on_code pairs)
  pub many : most < length pairs

-- ---- pairs by their codes
-- The pair of a code: its first number is the point's, its second one, less the number of points,
-- that of the place of the curve among the numbers.
abbrev pub IsDecoded : Plan → List ℕ → ℕ → OnAt → Type 0
IsDecoded d numbers c o =
    (i j : ℕ) → j < 2 ^ 32 → c ≡ code i j → IsPointOnCurve d numbers i j
    → (o.point ≡ i) × (o.curve ≡ slice_index numbers (j - length d.points))

abbrev pub no_on : OnAt
no_on = record { point = 0; curve = 0 }

-- The pairs of the first n codes, in their order.
pub record AreDecoded (d : Plan) (numbers codes : List ℕ) (n : ℕ) (ons : List OnAt) : Type 0 where
  pub size : length ons ≡ n
  pub each : (k : ℕ) → k < n
      → IsDecoded d numbers (slice_index codes k) (slice_index_or ons k no_on)
