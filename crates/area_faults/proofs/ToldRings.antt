-- Faces that are told by their least sides are told with their rings, where the sides that are said
-- to follow one another go round the faces.
use Rattle.std.proofs.Common.{◌≡◌, inl, inr, ℕ, zero, suc, ◌+◌, ◌-◌, ◌<◌, true, List, [], ◌∷◌}
use Rattle.std.proofs.Common.{length, map, slice_index, sym, subst, arith}
use Rattle.std.specs.List.Sorted.{IsStrictlyIncreasing}
use Rattle.std.proofs.lemmas.Bool.{cases_eq, cases_lt}
use Rattle.std.proofs.lemmas.List.{get_or-map, length-map}
use Rattle.std.proofs.lemmas.List.Elements.{Contains-get_or}
use Rattle.fault_lists.specs.FaceLists.{HasExactly, IsLeastSideOf, IsSide, side_number}
use Rattle.fault_lists.specs.Rings.{AreOfFaces, AreRegions, GoRound, all_sides, side_at}
use Rattle.fault_lists.specs.declared.faces.DrawingFaces.{DrawingFaces}
use Rattle.fault_lists.specs.declared.kinds.Region.{Region}
use Rattle.fault_lists.specs.declared.kinds.SideAt.{SideAt}
use Rattle.fault_lists.proofs.LeastSides.{one_face_beside}
use Rattle.plane.specs.Lists.{Has}
use Rattle.plane.specs.Rule.Plans.{Plan}
use Rattle.area_faults.specs.Answers.{HaveRings}

-- numbers that rise, from place to place
rises : (ns : List ℕ) → IsStrictlyIncreasing ns → (i k : ℕ) → (i + suc k) < length ns
    → slice_index ns i < slice_index ns (i + suc k)
rises ns r i zero l =
    let e : i + suc zero ≡ i + 1 = omega arith in
    subst (λ (j : ℕ). slice_index ns i < slice_index ns j) (sym e) (r i (omega (arith, l)))
rises ns r i (suc k) l =
    let e : i + suc (suc k) ≡ (i + suc k) + 1 = omega arith in
    let a = rises ns r i k (omega (arith, l)) in
    let b = r (i + suc k) (omega (arith, l)) in
    subst (λ (j : ℕ). slice_index ns i < slice_index ns j) (sym e) (omega (arith, a, b))

rise_to : (ns : List ℕ) → IsStrictlyIncreasing ns → (i j : ℕ) → i < j → j < length ns
    → slice_index ns i < slice_index ns j
rise_to ns r i j l m =
    let k = (j - i) - 1 in
    let e : i + suc k ≡ j = omega (arith, l) in
    subst (λ (x : ℕ). slice_index ns i < slice_index ns x) e
    (rises ns r i k (subst (λ (x : ℕ). x < length ns) (sym e) m))

has_place : (s : SideAt) (sides : List SideAt) → Has s sides
    → (i : ℕ) × (i < length sides) × (side_at sides i ≡ s)
has_place s [] h = absurd h
has_place s (t ∷ sides) (inl e) = (0, omega arith, sym e)
has_place s (t ∷ sides) (inr h) =
    let (i, l, e) = has_place s sides h in
    (suc i, omega (arith, l), e)

module _ (d : Plan) (f : DrawingFaces) (Is : ℕ → Type 0) (sides : List SideAt)
    (exact : HasExactly (IsLeastSideOf f Is) side_number sides) where
  least_at : (i : ℕ) → i < length sides → IsLeastSideOf f Is (side_at sides i)
  least_at i l =
      (exact.is (side_at sides i)).0
      (Contains-get_or sides i (record { curve = 0; left = true }) l)

  -- no side of a face has a lesser number than its least one
  no_less : (i j n : ℕ) → i < length sides → j < length sides → IsSide f n (side_at sides i)
      → IsSide f n (side_at sides j)
      → side_number (side_at sides i) < side_number (side_at sides j) → ⊥
  no_less i j n l m a b less =
      let w = least_at j m in
      w.side.least (side_at sides i) less
      (subst (λ (k : ℕ). IsSide f k (side_at sides i))
      (one_face_beside f n w.n (side_at sides j) b w.side.side) a)

  number_at : (i : ℕ) → i < length sides
      → slice_index (map side_number sides) i ≡ side_number (side_at sides i)
  number_at i l = get_or-map side_number sides i (record { curve = 0; left = true }) 0 l

  risen : (i j : ℕ) → i < j → j < length sides
      → side_number (side_at sides i) < side_number (side_at sides j)
  risen i j l m =
      let n = length-map sides side_number in
      let r = rise_to (map side_number sides) exact.rise i j l (omega (arith, m, n)) in
      let a = number_at i (omega (arith, l, m)) in
      let b = number_at j m in
      omega (arith, r, a, b)

  of_faces : AreOfFaces f sides
  of_faces = record {
    each = λ s h.
        let (i, l, e) = has_place s sides h in
        let w = least_at i l in
        (w.n, subst (IsSide f w.n) e w.side.side);
    once = λ i j n l m a b. elim (cases_eq i j) [
      | inl e ↦ e
      | inr ne ↦ elim (cases_lt i j) [
        | inl less ↦ absurd (no_less i j n l m a b (risen i j less m))
        | inr more ↦ absurd (no_less j i n m l b a (risen j i (omega (arith, more, ne)) l))
      ]
    ];
  }

  pub have_rings : (regions : List Region) → AreRegions d f sides regions → GoRound d f
      → HaveRings regions
  have_rings regions are go x h none =
      let (n, side, rings) = are.told go of_faces x h in
      subst (λ (rs : List (List SideAt)). Has x.side (all_sides rs)) none
      ((rings.has x.side).1 side)
