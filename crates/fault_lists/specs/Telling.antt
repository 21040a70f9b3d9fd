-- What the walks over the points, the curves and the faces find.
use Rattle.std.specs.Prelude.{◌≡◌, ◌↔◌, ℕ, ◌<◌, Bool, true, false, Option, Some, None, List, length}
use Rattle.std.specs.Prelude.{slice_index_or, [], ◌∷◌, ◌++◌}
use Rattle.fault_lists.specs.declared.faces.DrawingFaces.{DrawingFaces}
use Rattle.fault_lists.specs.declared.kinds.PointPair.{PointPair}
use Rattle.fault_lists.specs.declared.kinds.SideAt.{SideAt}
use Rattle.fault_lists.specs.DrawingFaces.{face_count}
use Rattle.fault_lists.specs.FaceLists.{ArePair, HasNoPoint, IsIn}

-- The point is the least one in the face.
pub record IsFirst (f : DrawingFaces) (n j : ℕ) : Type 0 where
  pub in_face : IsIn f j n
  pub least : (k : ℕ) → k < j → IsIn f k n → ⊥

-- What is said is the least point in the face, or that none is in it.
abbrev pub TellsFirst : DrawingFaces → ℕ → Option ℕ → Type 0
TellsFirst f n None = HasNoPoint f n
TellsFirst f n (Some j) = IsFirst f n j

-- what is said of the face of that number
abbrev pub first_of : List (Option ℕ) → ℕ → Option ℕ
first_of first n = slice_index_or first n None

-- Of each face its least point, where it has one.
pub record AreFirst (f : DrawingFaces) (first : List (Option ℕ)) : Type 0 where
  pub size : length first ≡ face_count f
  pub is : (n : ℕ) → n < face_count f → TellsFirst f n (first_of first n)

-- The pair is that of the point of that number, or there is no pair of it.
abbrev pub IsPairOf : DrawingFaces → ℕ → Option PointPair → Type 0
IsPairOf f j None = (p : PointPair) → ArePair f p → p.second ≡ j → ⊥
IsPairOf f j (Some p) = ArePair f p × (p.second ≡ j)

-- whether the face of that number is marked
abbrev pub is_marked : List Bool → ℕ → Bool
is_marked marks n = slice_index_or marks n false

-- There is a mark for each number below that, and marked are exactly those that are so.
pub record AreMarks (count : ℕ) (Is : ℕ → Type 0) (marks : List Bool) : Type 0 where
  pub size : length marks ≡ count
  pub is : (n : ℕ) → n < count → (is_marked marks n ≡ true) ↔ Is n

-- the sides with one more, where that is told
abbrev pub with_side : Bool → SideAt → List SideAt → List SideAt
with_side true s sides = sides ++ s ∷ []
with_side false s sides = sides
