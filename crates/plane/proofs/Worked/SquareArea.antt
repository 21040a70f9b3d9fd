-- The square with a chord and one object's point in each of its two faces is a partition: a
-- certificate from end to end.
-- The drawing, its run, labels, ranks, links and positions meet the premises of the laws, and the
-- laws give true sentences of it.
use Rattle.std.proofs.Common.{ℕ, pos, [], ◌∷◌, get_or, refl, arith}
use Rattle.plane.specs.declared.window.Window2.{Window2}
use Rattle.plane.specs.Forms.Vectors.{point}
use Rattle.plane.specs.Rule.Plans.{Plan, straight}
use Rattle.plane.specs.Rule.Partition.{Joined, IsOuter, IsPartition}
use Rattle.plane.specs.Faces.Labels.{Labels}
use Rattle.plane.specs.Faces.Replays.{Replay}
use Rattle.plane.specs.Faces.Cells.{Sector}
use Rattle.plane.specs.Faces.Halves.{Half, under, over}
use Rattle.plane.specs.Faces.Classes.{Lead, root, next, previous}
use Rattle.plane.specs.Faces.Certified.{Certified}
use Rattle.plane.specs.Faces.DrawnRuns.{IsRunOf, drawn}
use Rattle.plane.specs.Faces.Parity.{same_point}
use Rattle.plane.proofs.Worked.DrawingTests.{edges_by_test}
use Rattle.plane.proofs.Worked.CertificateTests.{certified_by_test}
use Rattle.plane.proofs.FaceLemmas.CertifiedRuns.{run_partition}
use Rattle.plane.proofs.Worked.SquareRun.{at_point, edge, steps, square_runs}

abbrev at_cell : ℕ → ℕ → Sector
at_cell k i = record { strip = k; index = i }

-- the face under the chord has the label 1, the one over it the label 2
abbrev labels : Labels
labels = record {
  below = λ e. get_or (0 ∷ 1 ∷ 2 ∷ 2 ∷ 0 ∷ []) e 0;
  above = λ e. get_or (1 ∷ 2 ∷ 0 ∷ 0 ∷ 1 ∷ []) e 0;
}

abbrev rank : Half → ℕ
rank (under e) = get_or (0 ∷ 0 ∷ 1 ∷ 0 ∷ 0 ∷ []) e 0
rank (over e) = get_or (0 ∷ 0 ∷ 0 ∷ 0 ∷ 1 ∷ []) e 0

abbrev link : Half → Lead
link (under e) = get_or (root ∷ root ∷ previous (under 3) ∷ root ∷ root ∷ []) e root
link (over e) = get_or (root ∷ root ∷ root ∷ root ∷ next (under 1) ∷ []) e root

-- the cell or the event that shows a link
abbrev cell_by : Half → Sector
cell_by (under e) =
    get_or (at_cell 1 0 ∷ at_cell 2 1 ∷ at_cell 0 0 ∷ at_cell 2 2 ∷ at_cell 3 0 ∷ []) e
    (at_cell 0 0)
cell_by (over e) =
    get_or (at_cell 2 1 ∷ at_cell 2 2 ∷ at_cell 1 3 ∷ at_cell 2 3 ∷ at_cell 0 0 ∷ []) e
    (at_cell 0 0)

abbrev event_by : Half → ℕ
event_by (under e) = get_or (0 ∷ 0 ∷ 1 ∷ 0 ∷ 0 ∷ []) e 0
event_by (over e) = get_or (0 ∷ 0 ∷ 0 ∷ 0 ∷ 3 ∷ []) e 0

-- the positions of the points, and the edges below and above each
abbrev strip : ℕ → ℕ
strip j = get_or (2 ∷ 2 ∷ []) j 0

abbrev index : ℕ → ℕ
index j = get_or (1 ∷ 2 ∷ []) j 0

abbrev lower : ℕ → ℕ
lower j = get_or (0 ∷ 1 ∷ []) j 0

abbrev upper : ℕ → ℕ
upper j = get_or (1 ∷ 3 ∷ []) j 0

module _ (w : Window2) where
  abbrev pub square : Plan
  square = record {
    window = w;
    curves =
        straight (at_point (pos 0) (pos 0)) (at_point (pos 4) (pos 0)) 1
        ∷ straight (at_point (pos 4) (pos 4)) (at_point (pos 0) (pos 0)) 2
        ∷ straight (at_point (pos 0) (pos 4)) (at_point (pos 0) (pos 0)) 3
        ∷ straight (at_point (pos 4) (pos 4)) (at_point (pos 0) (pos 4)) 4
        ∷ straight (at_point (pos 4) (pos 0)) (at_point (pos 4) (pos 4)) 5
        ∷ [];
    points = record {
      at = at_point (pos 3) (pos 1);
      line = 6;
    } ∷ record { at = at_point (pos 1) (pos 3); line = 7 } ∷ [];
  }

  square_run : IsRunOf square edge steps
  unfolding same_point
  square_run = record { edges = edges_by_test edge square refl; run = square_runs }

  abbrev r : Replay
  r = drawn (pos 0) square edge steps

  certificate : Certified square r labels rank link
  certificate =
      certified_by_test r square labels rank link strip index cell_by event_by lower upper refl refl
      refl

  pub square_holds : IsPartition square
  square_holds = run_partition square edge steps labels rank link (pos 0) square_run certificate

  -- what the laws say of it: the point under the chord is not outer, and not joined to the one over
  -- it
  pub inner_point : IsOuter square (point (at_point (pos 3) (pos 1))) → ⊥
  inner_point = square_holds.bounded 0 (omega arith)

  pub two_faces : Joined square (point (at_point (pos 3) (pos 1)))
      (point (at_point (pos 1) (pos 3)))
      → ⊥
  two_faces = square_holds.alone 0 1 (omega arith) (omega arith) (λ e. absurd (omega (arith, e)))
