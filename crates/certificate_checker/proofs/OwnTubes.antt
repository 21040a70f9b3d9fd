-- Points that are placed in tubes, as a program looked them up.
use Rattle.std.proofs.Common.{◌≡◌, ◌↔◌, ℕ, suc, ◌<◌, Bool, false, IsTrue, List, length, get_or}
use Rattle.std.proofs.Common.{arith, sym, ◌∙◌, subst}
use Rattle.plane.specs.Faces.Halves.{Half, mark}
use Rattle.plane.specs.Rule.Plans.{Plan}
use Rattle.plane.specs.declared.kinds.Placed.{Placed}
use Rattle.certificate.specs.declared.notes.PointPlace.{PointPlace}
use Rattle.certificate.specs.declared.notes.PointPlace.TheVariants as place
use Rattle.certificate_checker.specs.declared.case.Case.{Case}
use Rattle.certificate_checker.specs.Cases.{IsFit, IsHeldAt, judged}
use Rattle.certificate_checker.specs.Ended.{IsAtOwnTube}
use Rattle.certificate_checker.specs.Rules.{BoundsTube, IsHeld, IsInOwnTube, LiesOutside}
use Rattle.certificate_checker.specs.Subjects.{Subject, labels, place_at, point_at, point_in}
use Rattle.certificate_checker.specs.Subjects.{side_label}
use Rattle.certificate_checker.proofs.Entries.{entry}

cell_tube : (i : ℕ) (curve : ℕ) (inside : Bool) → place.Cell i ≡ place.Tube curve inside → ⊥
cell_tube i curve inside e = cc

one_curve : (i j : ℕ) (a b : Bool) → place.Tube i a ≡ place.Tube j b → i ≡ j
one_curve i j a b e = cc

one_side : (i j : ℕ) (a b : Bool) → place.Tube i a ≡ place.Tube j b → a ≡ b
one_side i j a b e = cc

-- ---- a half-edge beside the tube of a point
pub not_beside : (s : Subject) (h : Half) (j i : ℕ) → place_at s j ≡ place.Cell i → BoundsTube s h j
    → ⊥
not_beside s h j i e b = cell_tube i b.curve b.inside (sym e ∙ b.tube)

pub beside_is : (s : Subject) (h : Half) (j curve : ℕ) (inside b : Bool)
    → place_at s j ≡ place.Tube curve inside → IsTrue b ↔ LiesOutside s h curve inside
    → IsTrue b ↔ BoundsTube s h j
beside_is s h j curve inside b e f = (
  (λ t. record { curve = curve; inside = inside; tube = e; outside = f.0 t }),
  (λ x.
      let q = sym x.tube ∙ e in
      f.1 (subst (λ (i : ℕ). LiesOutside s h i inside) (one_curve x.curve curve x.inside inside q)
      (subst (λ (a : Bool). LiesOutside s h x.curve a)
      (one_side x.curve curve x.inside inside q) x.outside))),
)

pub at_tube_is : (s : Subject) (h : Half) (j label : ℕ) (b : Bool) → label ≡ mark (labels s) h
    → label ≡ suc j → j < length s.points → IsTrue b ↔ BoundsTube s h j → IsTrue b ↔ IsAtOwnTube s h
at_tube_is s h j label b e q l f = (
  (λ t. (j, l, sym e ∙ q, f.0 t)),
  (λ x. let (i, k, r, y) = x in f.1 (subst (BoundsTube s h) (same i (sym r ∙ sym e ∙ q)) y)),
)
  where
    same : (i : ℕ) → suc i ≡ suc j → i ≡ j
    same i z = omega (arith, z)

-- ---- a point and its own tube
module _ (c : Case) (fit : IsFit c) (j : ℕ) (l : j < length (judged c).points) where
  abbrev s : Subject
  s = judged c

  abbrev d : Plan
  d = s.drawing

  pub held_count : length c.held.now ≡ length s.points
  held_count = fit.held.count ∙ fit.counts.places

  pub held_is : (z : Bool)
      → IsTrue (get_or c.held.now j z) ↔ IsHeldAt d s.claims.level (place_at s j) (point_at s j)
  held_is z =
      subst (λ (b : Bool). IsTrue b ↔ IsHeldAt d s.claims.level (place_at s j) (point_at s j))
      (entry c.held.now j false z (let a = held_count in omega (arith, l, a)))
      (subst (λ (ps : List Placed). IsTrue (get_or c.held.now j false)
      ↔ IsHeldAt d s.claims.level (place_at s j) (point_in ps j)) (sym fit.points_are)
      (fit.held.each j (let a = fit.counts.places in omega (arith, l, a))))

  module _ (curve : ℕ) (inside : Bool) (tube : place_at s j ≡ place.Tube curve inside) where
    pub held_in : IsHeldAt d s.claims.level (place_at s j) (point_at s j)
        → IsHeld d s.claims.level curve inside (point_at s j)
    held_in x = subst (λ (p : PointPlace). IsHeldAt d s.claims.level p (point_at s j)) tube x

    pub own_tube : (b : Bool) → IsHeldAt d s.claims.level (place_at s j) (point_at s j)
        → IsTrue b ↔ (side_label s inside curve ≡ suc j) → IsTrue b ↔ IsInOwnTube s j
    own_tube b x f = (
      (λ t. record {
        curve = curve;
        inside = inside;
        tube = tube;
        held = held_in x;
        label = f.0 t;
      }),
      (λ y.
          let q = sym y.tube ∙ tube in
          f.1 (subst (λ (i : ℕ). side_label s inside i ≡ suc j)
          (one_curve y.curve curve y.inside inside q)
          (subst (λ (a : Bool). side_label s a y.curve ≡ suc j)
          (one_side y.curve curve y.inside inside q) y.label))),
    )

  pub own_held : IsInOwnTube s j → IsHeldAt d s.claims.level (place_at s j) (point_at s j)
  own_held y =
      subst (λ (p : PointPlace). IsHeldAt d s.claims.level p (point_at s j)) (sym y.tube) y.held

  pub not_own : (i : ℕ) → place_at s j ≡ place.Cell i → IsInOwnTube s j → ⊥
  not_own i e y = cell_tube i y.curve y.inside (sym e ∙ y.tube)
