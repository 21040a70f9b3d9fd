-- The labels of an edge, as a program looked them up.
use Rattle.std.proofs.Common.{◌≡◌, ◌↔◌, ℕ, ◌≤◌, Bool, IsTrue, length, sym, subst}
use Rattle.plane.specs.CurveRuns.TubedRuns as runs
use Rattle.plane.specs.Faces.Halves.{Half, half_of, mark, twin}
use Rattle.certificate_checker.specs.Rules.{HasLabels, HasLabelsOf}
use Rattle.certificate_checker.specs.Subjects.{Subject, labels, outside_label, owned_of, side_label}
use Rattle.certificate_checker.specs.Subjects.{within}

pub labels_of : (s : Subject) (e : ℕ) (p : runs.Part) (b : Bool) → (owned_of s e).part ≡ p
    → IsTrue b ↔ HasLabelsOf s e p → IsTrue b ↔ HasLabels s e
labels_of s e p b q f = subst (λ (p : runs.Part). IsTrue b ↔ HasLabelsOf s e p) (sym q) f

pub inward_is : (s : Subject) (e h curve : ℕ) (b : Bool) → half_of h ≡ within s e
    → curve ≡ (owned_of s e).curve
    → IsTrue b ↔ (mark (labels s) (half_of h) ≡ runs.tube_label s.drawing curve)
    → IsTrue b ↔ (mark (labels s) (within s e) ≡ runs.tube_label s.drawing (owned_of s e).curve)
inward_is s e h curve b q r f =
    subst (λ (i : ℕ). IsTrue b ↔ (mark (labels s) (within s e) ≡ runs.tube_label s.drawing i)) r
    (subst (λ (x : Half). IsTrue b ↔ (mark (labels s) x ≡ runs.tube_label s.drawing curve)) q f)

pub low_is : (s : Subject) (e h : ℕ) (b : Bool) → half_of h ≡ twin (within s e)
    → IsTrue b ↔ (mark (labels s) (half_of h) ≤ length s.points)
    → IsTrue b ↔ (outside_label s e ≤ length s.points)
low_is s e h b q f = subst (λ (x : Half). IsTrue b ↔ (mark (labels s) x ≤ length s.points)) q f

pub one_is : (s : Subject) (e h curve : ℕ) (inside b : Bool) → half_of h ≡ twin (within s e)
    → curve ≡ (owned_of s e).curve
    → IsTrue b ↔ (mark (labels s) (half_of h) ≡ side_label s inside curve)
    → IsTrue b ↔ (outside_label s e ≡ side_label s inside (owned_of s e).curve)
one_is s e h curve inside b q r f =
    subst (λ (i : ℕ). IsTrue b ↔ (outside_label s e ≡ side_label s inside i)) r
    (subst (λ (x : Half). IsTrue b ↔ (mark (labels s) x ≡ side_label s inside curve)) q f)
