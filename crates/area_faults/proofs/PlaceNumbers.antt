-- The face numbers of places in a run over a drawing of straights: of points with a position and of
-- the ends of crossing segments.
-- A place has a number where it is that of its cell in the replay with each weight of the events
-- and of some points and more.
use Rattle.std.proofs.Common.{◌≡◌, ◌↔◌, ℕ, ◌<◌, List, [], ◌∷◌, ◌++◌, length, pos, refl, inl, sym}
use Rattle.std.proofs.Common.{◌∙◌, subst}
use Rattle.plane.specs.declared.kinds.Point.{Point}
use Rattle.plane.specs.Lists.{Has}
use Rattle.plane.specs.declared.kinds.Edge.{Edge}
use Rattle.plane.specs.Rule.Places.{Vector, Place, point}
use Rattle.plane.specs.Rule.Plans.{Plan}
use Rattle.plane.specs.Rule.Partition.{IsOff, Joined, IsOuter}
use Rattle.plane.specs.Rule.CrossedCurves.{CrossesCurve}
use Rattle.plane.specs.Runs.Steps.{Step}
use Rattle.plane.specs.Faces.Replays.{Replay}
use Rattle.plane.specs.Faces.Cells.{Sector, IsSector, sector, position, Linked}
use Rattle.plane.specs.Faces.Halves.{Half, under, over, Beside}
use Rattle.plane.specs.Faces.Classes.{IsFaces, face_of, numbers}
use Rattle.plane.specs.Faces.PlacedPoints.{IsLocated}
use Rattle.plane.specs.Faces.DrawnRuns.{IsRunOf, drawn}
use Rattle.plane.proofs.FaceLemmas.CrossingSides.{crossing_tells}
use Rattle.plane.proofs.FaceLemmas.Drawn.{crossing_edge}
use Rattle.plane.proofs.FaceLemmas.DrawnFaces.{drawn_face, outer_face}
use Rattle.plane.proofs.FaceLemmas.FaceNumbers.{faces_matched, beside_face}
use Rattle.plane.proofs.FaceLemmas.PointCells as by
use Rattle.plane.proofs.LabelLemmas.HalfLabels.{linked_label}
use Rattle.plane.proofs.ListLemmas.Lists.{has_back, has_front}
use Rattle.plane.proofs.Turning.AnyWeight.{faces_to}

-- the number of the cell of a place, with a weight of the events and of these points
abbrev pub number_by : (e : Plan) (E : ℕ → Edge) (steps : List Step) → IsRunOf e E steps
    → (Half → ℕ) → List Point → Vector → ℕ
number_by e E steps on face more z =
    face_of (by.swept (pos 0) e E steps on more) face
    (sector (by.swept (pos 0) e E steps on more) z)

pub record HasNumber (e : Plan) (E : ℕ → Edge) (steps : List Step) (on : IsRunOf e E steps)
    (face : Half → ℕ) (z : Vector) (n : ℕ) : Type 0 where
  pub base : List Point
  pub is : (more : List Point) → ((a : Point) → Has a base → Has a more)
      → number_by e E steps on face more z ≡ n

module _ (e : Plan) (E : ℕ → Edge) (steps : List Step) (on : IsRunOf e E steps) (face : Half → ℕ)
    (faces : IsFaces (drawn (pos 0) e E steps) face) where
  abbrev Numbered : Vector → ℕ → Type 0
  Numbered z n = HasNumber e E steps on face z n

  module _ (more : List Point) where
    abbrev s : Replay
    s = by.swept (pos 0) e E steps on more

    faces_there : IsFaces s face
    faces_there =
        faces_to (pos 0) (by.chosen (pos 0) e E steps on more).weight
        (length e.curves) E steps face faces

    abbrev of_place : Vector → ℕ
    of_place z = face_of s face (sector s z)

    place_joined : (p q : Vector) → Place p → Place q → IsOff e p → IsOff e q
        → Joined e p q ↔ (of_place p ≡ of_place q)
    place_joined =
        drawn_face e s (by.chosen_run (pos 0) e E steps on more)
        (by.chosen_law (pos 0) e E steps on more)
        (by.chosen_draws (pos 0) e E steps on more) face faces_there

    place_outer : (p : Vector) → Place p → IsOff e p → IsOuter e p ↔ (of_place p ≡ 0)
    place_outer =
        outer_face e s (by.chosen_run (pos 0) e E steps on more)
        (by.chosen_law (pos 0) e E steps on more)
        (by.chosen_draws (pos 0) e E steps on more) face faces_there
        (by.chosen (pos 0) e E steps on more).positive

    spot_face : (a : Point) (k i : ℕ) → Has a more → IsLocated (drawn (pos 0) e E steps) a k i
        → of_place (point a) ≡ face_of (drawn (pos 0) e E steps) face (position k i)
    spot_face a k i h l =
        let q = (by.chosen_spot (pos 0) e E steps on more a k i h l).1 in
        subst (λ (c : Sector). of_place (point a) ≡ face_of s face c) q refl

    told : (h : Half) (z : Vector) (c : Sector) → IsSector s c → Linked s (sector s z) c
        → Beside s h c → of_place z ≡ face h
    told h z c C l b =
        let run = by.chosen_run (pos 0) e E steps on more in
        let law = by.chosen_law (pos 0) e E steps on more in
        linked_label s run law (numbers face) (faces_matched s run law face faces_there)
        (sector s z) c l ∙ beside_face s run law face faces_there h c C b

    sides : (i : ℕ) → i < length e.curves → (p q : Vector) → CrossesCurve e (E i) i p q
        → (of_place p ≡ face (over i)) × (of_place q ≡ face (under i))
    sides i l p q x =
        let t = crossing_tells s (by.chosen_run (pos 0) e E steps on more)
        (by.chosen_law (pos 0) e E steps on more) i p q l
        (crossing_edge e s (by.chosen_run (pos 0) e E steps on more)
        (by.chosen_draws (pos 0) e E steps on more) i l p q x) in (
          told (over i) p t.above t.above_is t.above_linked t.above_beside,
          told (under i) q t.below t.below_is t.below_linked t.below_beside,
        )

  -- ---- places with numbers
  pub numbers_joined : (p q : Vector) (m n : ℕ) → Place p → Place q → IsOff e p → IsOff e q
      → HasNumber e E steps on face p m → HasNumber e E steps on face q n → Joined e p q ↔ (m ≡ n)
  numbers_joined p q m n P Q p_off q_off h k =
      let more = h.base ++ k.base in
      let a = h.is more (λ v x. has_front v h.base k.base x) in
      let b = k.is more (λ v x. has_back v h.base k.base x) in
      let f = place_joined more p q P Q p_off q_off in
      ((λ j. sym a ∙ f.0 j ∙ b), (λ g. f.1 (a ∙ g ∙ sym b)))

  pub number_outer : (p : Vector) (n : ℕ) → Place p → IsOff e p → HasNumber e E steps on face p n
      → IsOuter e p ↔ (n ≡ 0)
  number_outer p n P off h =
      let a = h.is h.base (λ v x. x) in
      let f = place_outer h.base p P off in
      ((λ o. sym a ∙ f.0 o), (λ g. f.1 (a ∙ g)))

  pub above_number : (i : ℕ) (p q : Vector) → i < length e.curves → CrossesCurve e (E i) i p q
      → HasNumber e E steps on face p (face (over i))
  above_number i p q l x = record { base = []; is = λ more h. (sides more i l p q x).0 }

  pub below_number : (i : ℕ) (p q : Vector) → i < length e.curves → CrossesCurve e (E i) i p q
      → HasNumber e E steps on face q (face (under i))
  below_number i p q l x = record { base = []; is = λ more h. (sides more i l p q x).1 }

  pub point_number : (a : Point) (k i : ℕ) → IsLocated (drawn (pos 0) e E steps) a k i
      → HasNumber e E steps on face (point a)
      (face_of (drawn (pos 0) e E steps) face (position k i))
  point_number a k i at_a = record {
    base = a ∷ [];
    is = λ more h. spot_face more a k i (h a (inl refl)) at_a;
  }
