-- The rings of faces.
use Rattle.std.specs.Prelude.{◌≡◌, ◌↔◌, ◌⊎◌, ℕ, ◌<◌, ◌≤◌, Bool, true, false, Some, List, [], ◌∷◌}
use Rattle.std.specs.Prelude.{◌++◌, length, map, slice_get, slice_index_or}
use Rattle.std.specs.List.Sorted.{IsStrictlyIncreasing}
use Rattle.plane.specs.Lists.{Has, Once}
use Rattle.plane.specs.Rule.Plans.{Plan, curve}
use Rattle.plane.specs.declared.kinds.Curve.{Curve}
use Rattle.plane.specs.declared.kinds.Point.{Point}
use Rattle.fault_lists.specs.declared.faces.DrawingFaces.{DrawingFaces}
use Rattle.fault_lists.specs.declared.kinds.Region.{Region}
use Rattle.fault_lists.specs.declared.kinds.SideAt.{SideAt}
use Rattle.fault_lists.specs.FaceLists.{IsSide, side_number}

-- ---- the ways of sides
-- Where a curve begins that is passed with that side of it on the left: at its first end with the
-- left side, and at its second end with the right one.
abbrev pub start_on : Bool → Curve → Point
start_on true c = c.from
start_on false c = c.to

-- where it ends
abbrev pub end_on : Bool → Curve → Point
end_on true c = c.to
end_on false c = c.from

-- where the way of a side begins, in a drawing
abbrev pub start_of : Plan → SideAt → Point
start_of d s = start_on s.left (curve d s.curve)

-- where it ends
abbrev pub end_of : Plan → SideAt → Point
end_of d s = end_on s.left (curve d s.curve)

-- The list is a way from the side s to the side t, which is not passed itself: it begins with s,
-- and each of its sides ends where the next one begins, the last one where t does.
abbrev pub Leads : Plan → SideAt → List SideAt → SideAt → Type 0
Leads d s [] t = s ≡ t
Leads d s (x ∷ xs) t =
    (s ≡ x) × ((n : SideAt) × (end_of d x ≡ start_of d n) × Leads d n xs t)

-- ---- rings
-- the first side of a ring
abbrev pub first_side : List SideAt → SideAt
first_side [] = record { curve = 0; left = true }
first_side (s ∷ ss) = s

-- The way leads back to its first side, which is the least one.
pub record IsRing (d : Plan) (ring : List SideAt) : Type 0 where
  pub some : Has (first_side ring) ring
  pub round : Leads d (first_side ring) ring (first_side ring)
  pub least : (s : SideAt) → Has s ring → side_number (first_side ring) ≤ side_number s

-- the sides of all rings
abbrev pub all_sides : List (List SideAt) → List SideAt
all_sides [] = []
all_sides (r ∷ rs) = r ++ all_sides rs

-- Rings in the order of their least sides, which have exactly the sides of which that is so, each
-- once.
pub record AreRings (d : Plan) (Is : SideAt → Type 0) (rings : List (List SideAt)) : Type 0 where
  pub each : (ring : List SideAt) → Has ring rings → IsRing d ring
  pub has : (s : SideAt) → Has s (all_sides rings) ↔ Is s
  pub once : Once (all_sides rings)
  pub rise : IsStrictlyIncreasing (map (λ ring. side_number (first_side ring)) rings)

-- ---- which sides follow which
-- The side t is said to follow the side s.
abbrev pub IsSaidNext : DrawingFaces → SideAt → SideAt → Type 0
IsSaidNext f s t = slice_get f.next.items (side_number s) ≡ Some (side_number t)

-- The sides that are said to follow one another go round the faces: each side of a face is followed
-- by one of the same face that begins where it ends, and no side follows two.
pub record GoRound (d : Plan) (f : DrawingFaces) : Type 0 where
  pub next : (n : ℕ) (s : SideAt) → IsSide f n s
      → (t : SideAt) × IsSaidNext f s t × IsSide f n t × (end_of d s ≡ start_of d t)
  pub once : (m n : ℕ) (s t u : SideAt) → IsSide f m s → IsSide f n t
      → IsSaidNext f s u → IsSaidNext f t u → s ≡ t

-- ---- regions
-- the side of that number in a list
abbrev pub side_at : List SideAt → ℕ → SideAt
side_at sides j = slice_index_or sides j (record { curve = 0; left = true })

-- Each is a side of a face, and no two are of one face.
pub record AreOfFaces (f : DrawingFaces) (sides : List SideAt) : Type 0 where
  pub each : (s : SideAt) → Has s sides → (n : ℕ) × IsSide f n s
  pub once : (i j n : ℕ) → i < length sides → j < length sides → IsSide f n (side_at sides i)
      → IsSide f n (side_at sides j) → i ≡ j

-- The rings are those of a face that has the side.
abbrev pub AreRingsOf : Plan → DrawingFaces → SideAt → List (List SideAt) → Type 0
AreRingsOf d f side rings = (n : ℕ) × IsSide f n side × AreRings d (IsSide f n) rings

-- The faces of these sides, each with its rings, or with no ring. With its rings where the sides
-- that are said to follow one another go round the faces, and these are of different faces.
pub record AreRegions (d : Plan) (f : DrawingFaces) (sides : List SideAt)
    (regions : List Region) : Type 0 where
  pub sides_are : map (λ (r : Region). r.side) regions ≡ sides
  pub rings : (r : Region) → Has r regions
      → (r.rings.items ≡ []) ⊎ AreRingsOf d f r.side r.rings.items
  pub told : GoRound d f → AreOfFaces f sides → (r : Region) → Has r regions
      → AreRingsOf d f r.side r.rings.items
