-- The numbers of the faces of a drawing without the curves that are left out.
use Rattle.std.specs.Prelude.{◌≡◌, ◌↔◌, ◌⊎◌, ℕ, ◌<◌, Bool, true, false, Option, Some, None}
use Rattle.std.specs.Prelude.{length, slice_index_or, ⊤}
use Rattle.plane.specs.Rule.Cuts.{CrossesOne}
use Rattle.plane.specs.Rule.LeftOut.{IsClosed, IsOpen, IsRestOf}
use Rattle.plane.specs.Rule.Partition.{IsOff, Joined, IsOuter}
use Rattle.plane.specs.Rule.Places.{Vector, Place, point}
use Rattle.plane.specs.Rule.Plans.{Plan, curve, object}
use Rattle.fault_lists.specs.declared.faces.CurveFaces.{CurveFaces}
use Rattle.fault_lists.specs.declared.faces.DrawingFaces.{DrawingFaces}
use Rattle.fault_lists.specs.declared.faces.PointPlace.{PointPlace}
use Rattle.fault_lists.specs.declared.faces.PointPlace.TheVariants.{InFace, OnCurve}
use Rattle.fault_lists.specs.Faults.{LiesOn}
use Rattle.fault_lists.specs.Sides.{side_end}

-- the number of faces
abbrev pub face_count : DrawingFaces → ℕ
face_count f = length f.open.items

-- Whether the face of that number is open.
abbrev pub is_open : DrawingFaces → ℕ → Bool
is_open f n = slice_index_or f.open.items n false

-- Where the object's point of that number lies.
abbrev pub place_of : DrawingFaces → ℕ → PointPlace
place_of f j = slice_index_or f.points.items j (InFace 0)

-- The faces beside the curve of that number.
abbrev pub faces_of : DrawingFaces → ℕ → Option CurveFaces
faces_of f i = slice_index_or f.curves.items i None

-- The face of the place is below that number.
abbrev pub IsPlaceBelow : ℕ → PointPlace → Type 0
IsPlaceBelow count (OnCurve i) = ⊤
IsPlaceBelow count (InFace n) = n < count

-- Both faces, if any, are below that number.
abbrev pub AreFacesBelow : ℕ → Option CurveFaces → Type 0
AreFacesBelow count None = ⊤
AreFacesBelow count (Some f) = (f.left < count) × (f.right < count)

-- All faces that are named have numbers below that of all faces, of which there is one at least.
pub record IsNumbered (f : DrawingFaces) : Type 0 where
  pub some : 0 < face_count f
  pub points : (j : ℕ) → j < length f.points.items → IsPlaceBelow (face_count f) (place_of f j)
  pub curves : (i : ℕ) → i < length f.curves.items → AreFacesBelow (face_count f) (faces_of f i)

-- Each face has a place of its own, `at` its number, and each place off the curves is in a face;
-- face 0 is the outer one.
pub record AreFacePlaces (r : Plan) (count : ℕ) (at : ℕ → Vector) : Type 0 where
  pub some : 0 < count
  pub place : (n : ℕ) → n < count → Place (at n)
  pub off : (n : ℕ) → n < count → IsOff r (at n)
  pub once : (m n : ℕ) → m < count → n < count → Joined r (at m) (at n) → m ≡ n
  pub outer : (n : ℕ) → n < count → IsOuter r (at n) ↔ (n ≡ 0)
  pub all : (z : Vector) → Place z → IsOff r z → (n : ℕ) × (n < count) × Joined r z (at n)

-- The place is in the face of that number.
pub record IsInFace (r : Plan) (count : ℕ) (at : ℕ → Vector) (z : Vector) (n : ℕ) : Type 0 where
  pub there : n < count
  pub joined : Joined r z (at n)

-- The object's point lies on the curve, the least one of those that are not left out.
pub record IsLeastOn (d : Plan) (out : ℕ → Bool) (j i : ℕ) : Type 0 where
  pub on : LiesOn d j i
  pub kept : out i ≡ true → ⊥
  pub least : (k : ℕ) → k < i → (out k ≡ true → ⊥) → LiesOn d j k → ⊥

-- The object's point is off the curves of the rest, and in the face.
pub record IsPointInFace (d r : Plan) (count : ℕ) (at : ℕ → Vector) (j n : ℕ) : Type 0 where
  pub off : IsOff r (point (object d j))
  pub in_face : IsInFace r count at (point (object d j)) n

-- The object's point lies there.
abbrev pub IsPointPlace : (d r : Plan) (out : ℕ → Bool) (count : ℕ) (at : ℕ → Vector) → ℕ
    → PointPlace → Type 0
IsPointPlace d r out count at j (OnCurve i) = IsLeastOn d out j i
IsPointPlace d r out count at j (InFace n) = IsPointInFace d r count at j n

-- The faces of these numbers are on the two sides of the curve, which is number k of the rest: they
-- hold the ends of each segment that crosses it there. Some segment does and, where both faces are
-- closed, crosses the curve in the whole drawing too.
pub record HasCurveFaces (d r : Plan) (out : ℕ → Bool) (rest : IsRestOf d r out) (count : ℕ)
    (at : ℕ → Vector) (k : ℕ) (f : CurveFaces) : Type 0 where
  pub left : (p q : Vector) → CrossesOne r k p q
      → IsInFace r count at (side_end (curve r k) true p q) f.left
  pub right : (p q : Vector) → CrossesOne r k p q
      → IsInFace r count at (side_end (curve r k) false p q) f.right
  pub p : Vector
  pub q : Vector
  pub crossing : CrossesOne r k p q
  pub stays : IsClosed d r out p → IsClosed d r out q → CrossesOne d (rest.number k) p q

-- The curve has these faces on its sides, or is left out.
abbrev pub AreCurveFaces : (d r : Plan) (out : ℕ → Bool) → IsRestOf d r out → (count : ℕ)
    → (ℕ → Vector) → ℕ → Option CurveFaces → Type 0
AreCurveFaces d r out rest count at i None = out i ≡ true
AreCurveFaces d r out rest count at i (Some f) =
    (out i ≡ true → ⊥)
    × ((k : ℕ) × (k < length r.curves) × (rest.number k ≡ i)
    × HasCurveFaces d r out rest count at k f)

-- Some curve that is not left out has the face on one of its sides.
pub record HasCurveBeside (f : DrawingFaces) (n : ℕ) : Type 0 where
  pub i : ℕ
  pub there : i < length f.curves.items
  pub faces : CurveFaces
  pub is : faces_of f i ≡ Some faces
  pub on : (faces.left ≡ n) ⊎ (faces.right ≡ n)

-- The numbers are those of the faces of r, the rest of d without the curves that are left out.
pub record AreDrawingFaces (d r : Plan) (out : ℕ → Bool) (rest : IsRestOf d r out)
    (f : DrawingFaces) : Type 0 where
  pub at : ℕ → Vector
  pub none_out : (k : ℕ) → k < length r.curves → out (rest.number k) ≡ true → ⊥
  pub places : AreFacePlaces r (face_count f) at
  pub closed : (n : ℕ) → n < face_count f → is_open f n ≡ false → IsClosed d r out (at n)
  pub broken : (n : ℕ) → n < face_count f → is_open f n ≡ true → IsOpen d r out (at n)
  pub point_count : length f.points.items ≡ length d.points
  pub points : (j : ℕ) → j < length d.points
      → IsPointPlace d r out (face_count f) at j (place_of f j)
  pub curve_count : length f.curves.items ≡ length d.curves
  pub curves : (i : ℕ) → i < length d.curves
      → AreCurveFaces d r out rest (face_count f) at i (faces_of f i)
  pub sides : (n : ℕ) → n < face_count f → (n ≡ 0 → ⊥) → HasCurveBeside f n

-- The faces of the drawing without those curves are numbered.
abbrev pub HasFaces : Plan → (ℕ → Bool) → DrawingFaces → Type 0
HasFaces d out f = (r : Plan) × (rest : IsRestOf d r out) × AreDrawingFaces d r out rest f
