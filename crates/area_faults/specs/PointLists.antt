-- The points on curves that stay, joined with those on curves that are left out.
use Rattle.std.specs.Prelude.{◌≡◌, ◌≢◌, ℕ, ◌<◌, ◌≤◌, true, Bool, min, Option, Some, None, List, length, slice_index_or}
use Rattle.std.specs.List.{Contains}
use Rattle.plane.specs.Rule.Plans.{Plan}
use Rattle.fault_lists.specs.Faults.{LiesOn}
use Rattle.fault_lists.specs.declared.faces.PointPlace.{PointPlace}
use Rattle.fault_lists.specs.declared.faces.PointPlace.TheVariants.{InFace, OnCurve}
use Rattle.fault_lists.specs.declared.kinds.OnAt.{OnAt}

-- the pair of that number
abbrev pub pair_at : List OnAt → ℕ → OnAt
pair_at pairs k = slice_index_or pairs k (record { point = 0; curve = 0 })

-- The pairs are those of a point and a curve that is left out, on which it lies.
pub record ArePairsFor (d : Plan) (out : ℕ → Bool) (pairs : List OnAt) : Type 0 where
  pub lie : (o : OnAt) → Contains pairs o → LiesOn d o.point o.curve
  pub all : (j i : ℕ) → LiesOn d j i → out i ≡ true
      → Contains pairs (record { point = j; curve = i })

-- The point is among the first ones, of so many.
abbrev pub HasPointBelow : ℕ → OnAt → Type 0
HasPointBelow points o = o.point < points

-- the least curve that is noted for the point
abbrev pub least_at : List (Option ℕ) → ℕ → Option ℕ
least_at least j = slice_index_or least j None

-- the lesser of two curves, if there is another
abbrev pub lesser : ℕ → Option ℕ → ℕ
lesser curve None = curve
lesser curve (Some other) = min curve other

-- None of the first n pairs is of the point; or one of them is with this curve, and none with a
-- lesser one.
pub record IsLeastAmong (pairs : List OnAt) (n j curve : ℕ) : Type 0 where
  pub k : ℕ
  pub first : k < n
  pub point : (pair_at pairs k).point ≡ j
  pub curve_is : (pair_at pairs k).curve ≡ curve
  pub least : (m : ℕ) → m < n → (pair_at pairs m).point ≡ j → curve ≤ (pair_at pairs m).curve

abbrev pub TellsLeast : List OnAt → ℕ → ℕ → Option ℕ → Type 0
TellsLeast pairs n j None = (m : ℕ) → m < n → (pair_at pairs m).point ≡ j → ⊥
TellsLeast pairs n j (Some curve) = IsLeastAmong pairs n j curve

-- For each point what the first n pairs tell.
abbrev pub AreLeast : List OnAt → ℕ → List (Option ℕ) → Type 0
AreLeast pairs n least = (j : ℕ) → TellsLeast pairs n j (least_at least j)

-- The pair is noted for its point, and for no other one.
pub record IsNoted (pair : OnAt) (old new : List (Option ℕ)) : Type 0 where
  pub here : least_at new pair.point ≡ Some (lesser pair.curve (least_at old pair.point))
  pub elsewhere : (j : ℕ) → j ≢ pair.point → least_at new j ≡ least_at old j

-- the curve of a point, if it lies on one
abbrev pub chosen : PointPlace → Option ℕ → Option ℕ
chosen (OnCurve curve) least = Some (lesser curve least)
chosen (InFace n) least = least

-- The point lies on a curve, and this is the one that is chosen for it.
pub record IsChosen (places : List PointPlace) (least : List (Option ℕ)) (o : OnAt) : Type 0 where
  pub there : o.point < length places
  pub is : chosen (slice_index_or places o.point (InFace 0)) (least_at least o.point) ≡ Some o.curve
