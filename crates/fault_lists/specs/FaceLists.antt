-- The faults that the numbers of faces tell, list by list.
use Rattle.std.specs.Prelude.{◌≡◌, ◌↔◌, ℕ, ◌+◌, ◌*◌, ◌<◌, Bool, true, false, if◌then◌else◌}
use Rattle.std.specs.Prelude.{Some, List, length, map}
use Rattle.std.specs.List.{Contains}
use Rattle.std.specs.List.Sorted.{IsStrictlyIncreasing}
use Rattle.fault_lists.specs.declared.faces.CurveFaces.{CurveFaces}
use Rattle.fault_lists.specs.declared.faces.DrawingFaces.{DrawingFaces}
use Rattle.fault_lists.specs.declared.faces.PointPlace.TheVariants.{InFace}
use Rattle.fault_lists.specs.declared.kinds.FaceFaults.{FaceFaults}
use Rattle.fault_lists.specs.declared.kinds.PointPair.{PointPair}
use Rattle.fault_lists.specs.declared.kinds.SideAt.{SideAt}
use Rattle.fault_lists.specs.DrawingFaces.{faces_of, is_open, place_of}

-- ---- faces, points and sides
-- The point is in the face.
pub record IsIn (f : DrawingFaces) (j n : ℕ) : Type 0 where
  pub there : j < length f.points.items
  pub in_face : place_of f j ≡ InFace n

-- No point is in the face.
abbrev pub HasNoPoint : DrawingFaces → ℕ → Type 0
HasNoPoint f n = (j : ℕ) → IsIn f j n → ⊥

-- The face is bounded and closed.
pub record IsJudged (f : DrawingFaces) (n : ℕ) : Type 0 where
  pub bounded : n ≡ 0 → ⊥
  pub closed : is_open f n ≡ false

-- The face is bounded and open.
pub record IsBroken (f : DrawingFaces) (n : ℕ) : Type 0 where
  pub bounded : n ≡ 0 → ⊥
  pub broken : is_open f n ≡ true

-- The face on that side of a curve.
abbrev pub face_beside : Bool → CurveFaces → ℕ
face_beside true c = c.left
face_beside false c = c.right

-- The side is a side of the face.
pub record IsSide (f : DrawingFaces) (n : ℕ) (s : SideAt) : Type 0 where
  pub there : s.curve < length f.curves.items
  pub faces : CurveFaces
  pub is : faces_of f s.curve ≡ Some faces
  pub on : face_beside s.left faces ≡ n

-- The number of a side in the order of sides: of one curve the left one comes before the right one.
abbrev pub side_number : SideAt → ℕ
side_number s = 2 * s.curve + (if s.left then 0 else 1)

-- The side is the least one of the face.
pub record IsLeastSide (f : DrawingFaces) (n : ℕ) (s : SideAt) : Type 0 where
  pub side : IsSide f n s
  pub least : (o : SideAt) → side_number o < side_number s → IsSide f n o → ⊥

-- The side is the least one of a face of that kind.
pub record IsLeastSideOf (f : DrawingFaces) (Is : ℕ → Type 0) (s : SideAt) : Type 0 where
  pub n : ℕ
  pub is : Is n
  pub side : IsLeastSide f n s

-- ---- what is at fault
-- The point is in the outer face, which is closed.
pub record IsOutside (f : DrawingFaces) (j : ℕ) : Type 0 where
  pub in_outer : IsIn f j 0
  pub closed : is_open f 0 ≡ false

-- Two points are in one bounded closed face, and no lesser one than the first is in it.
pub record ArePair (f : DrawingFaces) (p : PointPair) : Type 0 where
  pub n : ℕ
  pub judged : IsJudged f n
  pub first : IsIn f p.first n
  pub second : IsIn f p.second n
  pub order : p.first < p.second
  pub least : (k : ℕ) → k < p.first → IsIn f k n → ⊥

-- The face is bounded and closed, and no point is in it.
pub record IsEmptyFace (f : DrawingFaces) (n : ℕ) : Type 0 where
  pub judged : IsJudged f n
  pub none : HasNoPoint f n

-- The curve has one closed face on both sides.
pub record HasOneFace (f : DrawingFaces) (i : ℕ) : Type 0 where
  pub there : i < length f.curves.items
  pub faces : CurveFaces
  pub is : faces_of f i ≡ Some faces
  pub one : faces.left ≡ faces.right
  pub closed : is_open f faces.left ≡ false

-- The point is in an open face.
pub record IsUnjudged (f : DrawingFaces) (j : ℕ) : Type 0 where
  pub n : ℕ
  pub in_face : IsIn f j n
  pub broken : is_open f n ≡ true

-- ---- the lists
-- The list has exactly what is so, each once, in the order of their numbers.
pub record HasExactly {A : Type 0} (Is : A → Type 0) (number : A → ℕ) (xs : List A) : Type 0 where
  pub is : (x : A) → Contains xs x ↔ Is x
  pub rise : IsStrictlyIncreasing (map number xs)

-- What is at fault in the faces: each list has exactly what it is for, in order.
pub record AreFaceFaults (f : DrawingFaces) (t : FaceFaults) : Type 0 where
  pub outside : HasExactly (IsOutside f) (λ j. j) t.outside.items
  pub shared : HasExactly (ArePair f) (λ p. p.second) t.shared.items
  pub empty : HasExactly (IsLeastSideOf f (IsEmptyFace f)) side_number t.empty.items
  pub cuts : HasExactly (HasOneFace f) (λ i. i) t.cuts.items
  pub outer_open : t.outer_open ≡ is_open f 0
  pub broken : HasExactly (IsLeastSideOf f (IsBroken f)) side_number t.open.items
  pub unjudged : HasExactly (IsUnjudged f) (λ j. j) t.unjudged.items
