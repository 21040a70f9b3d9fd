-- How far the search for rings has come.
use Rattle.std.specs.Prelude.{◌≡◌, ◌↔◌, ◌⊎◌, ℕ, ◌*◌, ◌<◌, ◌≤◌, Bool, true, Option, Some, None}
use Rattle.std.specs.Prelude.{List, [], length, map, slice_get, slice_index_or, slice_set}
use Rattle.std.specs.List.Sorted.{IsStrictlyIncreasing}
use Rattle.plane.specs.Lists.{Has, Once}
use Rattle.plane.specs.Rule.Plans.{Plan}
use Rattle.fault_lists.specs.declared.faces.DrawingFaces.{DrawingFaces}
use Rattle.fault_lists.specs.declared.kinds.Region.{Region}
use Rattle.fault_lists.specs.declared.kinds.SideAt.{SideAt}
use Rattle.fault_lists.specs.DrawingFaces.{face_count}
use Rattle.fault_lists.specs.FaceLists.{IsSide, side_number}
use Rattle.fault_lists.specs.Rings.{AreRings, all_sides, end_of, first_side, GoRound, IsRing}
use Rattle.fault_lists.specs.Rings.{IsSaidNext, Leads, side_at, start_of}
use Rattle.fault_lists.specs.Telling.{is_marked}

-- ---- faces and their places in a list
-- The number is that of the face of the side, or nothing is said.
abbrev pub IsFaceOf : DrawingFaces → SideAt → Option ℕ → Type 0
IsFaceOf f s None = (n : ℕ) → IsSide f n s → ⊥
IsFaceOf f s (Some n) = (n < face_count f) × IsSide f n s

abbrev pub slot_of : List ℕ → ℕ → ℕ
slot_of slots n = slice_index_or slots n 0

-- The face of a side has the slot.
pub record HasSlot (f : DrawingFaces) (s : SideAt) (slots : List ℕ) (j : ℕ) : Type 0 where
  pub n : ℕ
  pub there : n < face_count f
  pub side : IsSide f n s
  pub slot : slot_of slots n ≡ j

-- The faces of the first k sides have their numbers as slots, and all others the number of sides.
pub record AreSlots (f : DrawingFaces) (sides : List SideAt) (k : ℕ)
    (slots : List ℕ) : Type 0 where
  pub size : length slots ≡ face_count f
  pub most : (n : ℕ) → n < face_count f → slot_of slots n ≤ length sides
  pub each : (j : ℕ) → j < k → HasSlot f (side_at sides j) slots j
  pub only : (n : ℕ) → n < face_count f → slot_of slots n < length sides
      → (slot_of slots n < k) × IsSide f n (side_at sides (slot_of slots n))

-- The face of the side had no slot, and has that one.
pub record IsSlotTaken (f : DrawingFaces) (s : SideAt) (place none : ℕ)
    (old new : List ℕ) : Type 0 where
  pub n : ℕ
  pub there : n < face_count f
  pub side : IsSide f n s
  pub free : slot_of old n ≡ none
  pub taken : new ≡ slice_set old n place

-- The side is of no face, or its face has a slot.
abbrev pub HasNoFreeSlot : DrawingFaces → SideAt → ℕ → List ℕ → Type 0
HasNoFreeSlot f s none slots =
    (n : ℕ) → IsSide f n s → (n < face_count f) × (slot_of slots n ≡ none → ⊥)

-- ---- one ring
abbrev pub is_passed : List Bool → SideAt → Bool
is_passed marks s = is_marked marks (side_number s)

-- That number is marked beside those that were.
abbrev pub IsMarked : List Bool → ℕ → List Bool → Type 0
IsMarked old k new = new ≡ slice_set old k true

-- The sides of the list are marked beside those that were.
pub record ArePassed (f : DrawingFaces) (old new : List Bool) (passed : List SideAt) : Type 0 where
  pub size : length new ≡ length old
  pub is : (s : SideAt) → s.curve < length f.curves.items
      → (is_passed new s ≡ true) ↔ ((is_passed old s ≡ true) ⊎ Has s passed)

-- Sides of a face, each once and none marked before, are passed from one side to another.
pub record IsWay (d : Plan) (f : DrawingFaces) (n : ℕ) (from : SideAt) (old new : List Bool)
    (passed : List SideAt) (to : SideAt) : Type 0 where
  pub leads : Leads d from passed to
  pub sides : (s : SideAt) → Has s passed → IsSide f n s
  pub fresh : (s : SideAt) → Has s passed → is_passed old s ≡ true → ⊥
  pub once : Once passed
  pub marks : ArePassed f old new passed

-- The side is said to follow a marked side of a face.
pub record FollowsMarked (f : DrawingFaces) (marks : List Bool) (t : SideAt) : Type 0 where
  pub n : ℕ
  pub s : SideAt
  pub side : IsSide f n s
  pub marked : is_passed marks s ≡ true
  pub next : IsSaidNext f s t

-- Each marked side of a face is said to follow a marked one.
abbrev pub AreFollowed : DrawingFaces → List Bool → Type 0
AreFollowed f marks =
    (n : ℕ) (t : SideAt) → IsSide f n t → is_passed marks t ≡ true → FollowsMarked f marks t

-- Such a way that leads back, with each marked side said to follow a marked one; or the sides do
-- not go round the faces.
abbrev pub IsRound : Plan → DrawingFaces → ℕ → SideAt → List Bool → List Bool
    → Option (List SideAt) → Type 0
IsRound d f n from old new None = GoRound d f → ⊥
IsRound d f n from old new (Some ring) =
    IsWay d f n from old new ring from × Has from ring × AreFollowed f new

-- The side is said to follow the other one, or none is.
abbrev pub TellsNext : DrawingFaces → SideAt → Option SideAt → Type 0
TellsNext f s None = slice_get f.next.items (side_number s) ≡ None
TellsNext f s (Some t) = IsSaidNext f s t

-- The side is said to follow the other one, is one of the face, and begins where the other one
-- ends; or the sides do not go round the faces.
abbrev pub Follows : Plan → DrawingFaces → ℕ → SideAt → Option SideAt → Type 0
Follows d f n s None = GoRound d f → ⊥
Follows d f n s (Some t) = IsSaidNext f s t × IsSide f n t × (end_of d s ≡ start_of d t)

-- ---- all rings
abbrev pub rings_at : List (List (List SideAt)) → ℕ → List (List SideAt)
rings_at rs j = slice_index_or rs j []

abbrev pub rings_of : List Region → List (List (List SideAt))
rings_of rs = map (λ (r : Region). r.rings.items) rs

abbrev pub sides_of : List Region → List SideAt
sides_of rs = map (λ (r : Region). r.side) rs

-- The regions of these sides have no ring.
pub record AreBlank (sides : List SideAt) (rs : List Region) : Type 0 where
  pub sides_are : sides_of rs ≡ sides
  pub blank : (r : Region) → Has r rs → r.rings.items ≡ []

-- Rings of a face, which have exactly the sides of it that are marked; each begins with a side
-- below that number.
pub record AreRingsTo (d : Plan) (f : DrawingFaces) (n k : ℕ) (marks : List Bool)
    (rings : List (List SideAt)) : Type 0 where
  pub each : (ring : List SideAt) → Has ring rings → IsRing d ring
  pub below : (ring : List SideAt) → Has ring rings → side_number (first_side ring) < k
  pub has : (s : SideAt) → Has s (all_sides rings) ↔ (IsSide f n s × (is_passed marks s ≡ true))
  pub once : Once (all_sides rings)
  pub rise : IsStrictlyIncreasing (map (λ ring. side_number (first_side ring)) rings)

-- The rings of all faces that have slots, with all their sides below k.
pub record AreTracedTo (d : Plan) (f : DrawingFaces) (slots : List ℕ) (k : ℕ)
    (marks : List Bool) (rs : List (List (List SideAt))) : Type 0 where
  pub size : length marks ≡ 2 * length f.curves.items
  pub followed : AreFollowed f marks
  pub rings : (n : ℕ) → n < face_count f → slot_of slots n < length rs
      → AreRingsTo d f n k marks (rings_at rs (slot_of slots n))
  pub passed : (n : ℕ) (s : SideAt) → n < face_count f → slot_of slots n < length rs → IsSide f n s
      → side_number s < k → is_passed marks s ≡ true

-- The rings of all faces that have slots.
abbrev pub AreTracedAll : Plan → DrawingFaces → List ℕ → List (List (List SideAt)) → Type 0
AreTracedAll d f slots rs =
    (n : ℕ) → n < face_count f → slot_of slots n < length rs
    → AreRings d (IsSide f n) (rings_at rs (slot_of slots n))
