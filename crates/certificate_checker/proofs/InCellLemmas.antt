-- The cell of a point, as a program looked it up, and the marks of the half-edges beside it.
use Rattle.std.proofs.Common.{◌≡◌, ◌↔◌, ◌⊎◌, ℕ, ◌+◌, ◌-◌, ◌*◌, ◌<◌, ◌≤◌, inl, inr, Bool, Option}
use Rattle.std.proofs.Common.{Some, None, List, length, get_or, arith, ap, sym, ◌∙◌, subst}
use Rattle.plane.specs.declared.kinds.Point.{Point}
use Rattle.plane.specs.Faces.Halves.{Half, half_of, over, under}
use Rattle.plane.specs.Runs.Timetables.{IsTimetable}
use Rattle.certificate.specs.declared.notes.PointPlace.TheVariants as place
use Rattle.certificate_checker.specs.InCells.{IsBetweenEdges, IsCellOf, IsInStrip, IsNextEvent}
use Rattle.certificate_checker.specs.Marked.{IsMarked}
use Rattle.certificate_checker.specs.Placed.{OfPoint}
use Rattle.certificate_checker.specs.Rules.{HasCounts, IsInOwnCell}
use Rattle.certificate_checker.specs.Subjects.{Subject, edge, event, index_of, live_list, place_at}
use Rattle.certificate_checker.specs.Subjects.{point_at, under_place}
use Rattle.certificate_checker.proofs.Marking.{half_over, half_under}
use Rattle.certificate_checker.proofs.Placing.{beside_cell, event_unplaced, placed_tests}
use Rattle.certificate_checker.proofs.Placing.{tests_placed}

some_one : (p q : Point) → Some p ≡ Some q → p ≡ q
some_one p q e = cc

none_some : (p : Point) → None ≡ Some p → ⊥
none_some p e = cc

cell_tube : (i : ℕ) (curve : ℕ) (inside : Bool) → place.Cell i ≡ place.Tube curve inside → ⊥
cell_tube i curve inside e = cc

pub tube_none : (s : Subject) (j curve : ℕ) (inside : Bool) → place_at s j ≡ place.Tube curve inside
    → IsInOwnCell s j → ⊥
tube_none s j curve inside e p = cell_tube (index_of s j) curve inside (sym p.cell ∙ e)

module _ (s : Subject) (t : IsTimetable (length s.edges) (edge s) s.table) (n : HasCounts s) (k : ℕ)
    (w : k ≤ length s.table) (j : ℕ) (strip : IsInStrip s k (point_at s j)) (live : List ℕ)
    (now : live ≡ live_list s k) where
  pub event_none : (upto : Option Point) (at : Point) → at ≡ point_at s j → IsNextEvent s k upto
      → upto ≡ Some at → IsInOwnCell s j → ⊥
  event_none None at e next q = absurd (none_some at q)
  event_none (Some v) at e next q =
      event_unplaced s t n k w j strip next.0 (sym e ∙ sym (some_one v at q) ∙ next.1)

  index_is : (i : ℕ) → place_at s j ≡ place.Cell i → i ≡ index_of s j
  index_is i e = sym (ap under_place e)

  pub tests_none : (i : ℕ) → place_at s j ≡ place.Cell i → (IsBetweenEdges s live j i → ⊥)
      → IsInOwnCell s j → ⊥
  tests_none i e f p =
      f (subst (λ (i : ℕ). IsBetweenEdges s live j i) (sym (index_is i e))
      (placed_tests s t n k w j strip live now p).1)

  no_event : (upto : Option Point) (at : Point) → at ≡ point_at s j → IsNextEvent s k upto
      → (upto ≡ Some at → ⊥) → k < length s.table → point_at s j ≡ (event s k).at → ⊥
  no_event None at e next f l q = omega (arith, next, l)
  no_event (Some v) at e next f l q = f (ap (λ (p : Point). Some p) (next.1 ∙ sym q ∙ sym e))

  pub tests_some : (upto : Option Point) (at : Point) (i : ℕ) → at ≡ point_at s j
      → IsNextEvent s k upto → place_at s j ≡ place.Cell i → (upto ≡ Some at → ⊥)
      → IsBetweenEdges s live j i → IsCellOf s j live (Some i)
  tests_some upto at i e next c f b =
      let q = index_is i c in (
        tests_placed s t n k w j strip live now (no_event upto at e next f) (c ∙ ap place.Cell q)
            (subst (λ (i : ℕ). IsBetweenEdges s live j i) q b),
        q,
        b.some,
        b.within,
      )

  pub cell_marked : (i : ℕ) (old mid new : List Bool) → IsCellOf s j live (Some i)
      → ((h : Half)
      → IsMarked mid h ↔ (IsMarked old h ⊎ (h ≡ half_of (2 * get_or live (i - 1) 0 + 1))))
      → ((h : Half) → IsMarked new h ↔ (IsMarked mid h ⊎ (h ≡ half_of (2 * get_or live i 0))))
      → (h : Half) → IsMarked new h ↔ (IsMarked old h ⊎ OfPoint s j h)
  cell_marked i old mid new cell f g h =
      let beside = beside_cell s t n k w j strip live now h
      (subst (λ (i : ℕ). i < length live) cell.1 cell.3)
      (subst (λ (i : ℕ). 0 < i) cell.1 cell.2) in (
        (λ x. elim ((g h).0 x) [
          | inl y ↦ elim ((f h).0 y) [
            | inl z ↦ inl z
            | inr q ↦ inr (
              cell.0,
              beside.1
                  (inl (subst (λ (i : ℕ). h ≡ over (get_or live (i - 1) 0)) cell.1 (q
                  ∙ half_over (get_or live (i - 1) 0)))),
            )
          ]
          | inr q ↦ inr (
            cell.0,
            beside.1
                (inr (subst (λ (i : ℕ). h ≡ under (get_or live i 0)) cell.1 (q
                ∙ half_under (get_or live i 0)))),
          )
        ]),
        (λ x. elim x [
          | inl z ↦ (g h).1 (inl ((f h).1 (inl z)))
          | inr q ↦ elim (beside.0 q.1) [
            | inl a ↦ (g h).1
                (inl ((f h).1
                (inr (subst (λ (i : ℕ). h ≡ over (get_or live (i - 1) 0)) (sym cell.1) a
                ∙ sym (half_over (get_or live (i - 1) 0))))))
            | inr a ↦ (g h).1
                (inr (subst (λ (i : ℕ). h ≡ under (get_or live i 0)) (sym cell.1) a
                ∙ sym (half_under (get_or live i 0))))
          ]
        ]),
      )

pub unmarked : (s : Subject) (j : ℕ) (marks : List Bool) → (IsInOwnCell s j → ⊥) → (h : Half)
    → IsMarked marks h ↔ (IsMarked marks h ⊎ OfPoint s j h)
unmarked s j marks f h = ((λ x. inl x), (λ x. elim x [ inl y ↦ y | inr q ↦ absurd (f q.0) ]))
