-- Each fault of the drawing is in its list, or in a face that is told to be open.
use Rattle.std.proofs.Common.{◌≡◌, ◌⊎◌, inl, inr, ℕ, ◌<◌, Bool, true, false, length, pos, refl, sym}
use Rattle.std.proofs.Common.{◌∙◌, arith}
use Rattle.std.specs.List.{Contains}
use Rattle.plane.specs.Rule.CrossedCurves.{IsLost}
use Rattle.plane.specs.Rule.Cuts.{IsCut}
use Rattle.plane.specs.Rule.LeftOut.{IsClosed}
use Rattle.plane.specs.Rule.Partition.{IsOff, Joined, IsOuter}
use Rattle.plane.specs.Rule.Places.{Vector, Place, point}
use Rattle.plane.specs.Rule.Plans.{Plan, curve, object}
use Rattle.plane.proofs.Covers.PathLists.{joined_is_path}
use Rattle.plane.proofs.FewerCurves.ClosedFaces.{stays_outer}
use Rattle.plane.proofs.FewerCurves.Paths.{path_off}
use Rattle.plane.proofs.FewerCurves.Rests.{fewer_off, fewer_outer}
use Rattle.plane.proofs.Linear.EdgePlaces.{place_point}
use Rattle.fault_lists.specs.declared.kinds.Faults.{Faults}
use Rattle.fault_lists.specs.declared.kinds.SideAt.{SideAt}
use Rattle.fault_lists.specs.Faults.{AreTwo, LiesOutside}
use Rattle.fault_lists.specs.FaultLists.{AreFaults, AreToldTwo, IsBeside, IsMet, IsToldOpen}
use Rattle.fault_lists.specs.FaultLists.{IsToldOr}
use Rattle.fault_lists.proofs.FacesOfRest.{ends_off}

-- what is joined to a place is off the curves
pub first_off : (d : Plan) (p q : Vector) → Place p → Joined d p q → IsOff d p
first_off d p q P h = path_off d p q ((joined_is_path d p q P).0 h)

pub outer_off : (d : Plan) (p : Vector) → Place p → IsOuter d p → IsOff d p
outer_off d p P h = let (q, Q, j, l) = h (pos 0) in first_off d p q P j

module _ (d g : Plan) (origin : ℕ → ℕ) (f : Faults) (all : AreFaults d g origin f) where
  -- an outer point is told, or its face is
  outer_told : (b : Bool) → f.faces.outer_open ≡ b → (j : ℕ) → LiesOutside g j
      → IsToldOr d g origin f all (point (object g j)) (Contains f.faces.outside.items j)
  outer_told true e j h =
      inr (inl (
        fewer_outer g all.r all.out all.rest (point (object g j))
            (place_point (object g j)) h.outer,
        e,
      ))
  outer_told false e j h = inl (all.over.outside j h e)

  pub outside_told : (j : ℕ) → LiesOutside g j
      → IsToldOr d g origin f all (point (object g j)) (Contains f.faces.outside.items j)
  outside_told j h = outer_told f.faces.outer_open refl j h

  abbrev AreTold : ℕ → ℕ → Type 0
  AreTold i j =
      IsToldOr d g origin f all (point (object g i))
      (Contains f.faces.outside.items i ⊎ AreToldTwo f.faces i j)

  pub two_told : (i j : ℕ) → AreTwo g i j
      → IsToldOr d g origin f all (point (object g i))
      (Contains f.faces.outside.items i ⊎ AreToldTwo f.faces i j)
  two_told i j h = by (all.over.closed_or_told z Z off)
    where
      z : Vector
      z = point (object g i)

      Z : Place z
      Z = place_point (object g i)

      off : IsOff all.r z
      off = fewer_off g all.r all.out all.rest z (first_off g z (point (object g j)) Z h.joined)

      outer_two : IsToldOr d g origin f all z (Contains f.faces.outside.items i) → AreTold i j
      outer_two (inl t) = inl (inl t)
      outer_two (inr t) = inr t

      inside : IsClosed g all.r all.out z → IsOuter all.r z ⊎ (IsOuter all.r z → ⊥) → AreTold i j
      inside c (inl o) =
          outer_two (outside_told i (record {
            there = let a = h.order in let b = h.there in
                omega (arith, a, b);
            outer = (stays_outer g all.r all.out all.rest z Z c).1 o;
          }))
      inside c (inr n) = inl (inr (all.over.shared i j h c n))

      by : IsClosed g all.r all.out z ⊎ IsToldOpen g all.r all.out all.rest f.faces z → AreTold i j
      by (inl c) = inside c (all.over.outer_or_not z Z off)
      by (inr t) = inr t

  pub empty_told : (z : Vector) → Place z → IsOff g z → IsLost g z
      → IsToldOr d g origin f all z ((s : SideAt) × Contains f.faces.empty.items s
      × IsBeside g all.r all.out all.rest s z)
  empty_told z Z off lost =
      by (all.over.closed_or_told z Z (fewer_off g all.r all.out all.rest z off))
    where
      by : IsClosed g all.r all.out z ⊎ IsToldOpen g all.r all.out all.rest f.faces z
          → IsToldOr d g origin f all z ((s : SideAt) × Contains f.faces.empty.items s
          × IsBeside g all.r all.out all.rest s z)
      by (inl c) = inl (all.over.empty z Z off lost c)
      by (inr t) = inr t

  abbrev CutTold : ℕ → Vector → Vector → Type 0
  CutTold i p q =
      IsToldOr d g origin f all p
      (IsToldOr d g origin f all q (Contains f.faces.cuts.items i
      ⊎ (IsMet f.meetings.items (origin i) ⊎ (f.all_out ≡ true))))

  pub cut_told : (i : ℕ) (c : IsCut g i) → i < length g.curves
      → IsToldOr d g origin f all c.p
      (IsToldOr d g origin f all c.q (Contains f.faces.cuts.items i
      ⊎ (IsMet f.meetings.items (origin i) ⊎ (f.all_out ≡ true))))
  cut_told i c l = by (all.out i) refl
    where
      e : Place c.p × Place c.q × IsOff g c.p × IsOff g c.q
      e = ends_off (curve g i).kind g i c.p c.q c.crossing

      second : (all.out i ≡ true → ⊥) → IsClosed g all.r all.out c.p
          → IsClosed g all.r all.out c.q ⊎ IsToldOpen g all.r all.out all.rest f.faces c.q
          → CutTold i c.p c.q
      second kept cp (inl cq) = inl (inl (inl (all.over.cuts i c l kept cp cq)))
      second kept cp (inr t) = inl (inr t)

      first : (all.out i ≡ true → ⊥)
          → IsClosed g all.r all.out c.p ⊎ IsToldOpen g all.r all.out all.rest f.faces c.p
          → CutTold i c.p c.q
      first kept (inl cp) =
          second kept cp
          (all.over.closed_or_told c.q e.1 (fewer_off g all.r all.out all.rest c.q e.3))
      first kept (inr t) = inr t

      by : (b : Bool) → all.out i ≡ b → CutTold i c.p c.q
      by true t = inl (inl (inr ((all.out_is i l).0 t)))
      by false t =
          first (λ s. clash (sym t ∙ s))
          (all.over.closed_or_told c.p e.0 (fewer_off g all.r all.out all.rest c.p e.2))
        where
          clash : false ≡ true → ⊥
          clash x = cc
