-- The ring with a hole, an island in the hole and a dangling edge, with one object's point in each
-- face, is a partition.
-- Faces here are not bounded by one ring each: the hole and the ring have two borders, and the
-- dangling edge has one face on both sides.
use Rattle.std.proofs.Common.{ℕ, pos, [], ◌∷◌, get_or, refl, arith}
use Rattle.plane.specs.declared.window.Window2.{Window2}
use Rattle.plane.specs.Forms.Vectors.{point}
use Rattle.plane.specs.Rule.Plans.{Plan, straight}
use Rattle.plane.specs.Rule.Partition.{Joined, IsOuter, IsPartition}
use Rattle.plane.specs.Faces.Labels.{Labels}
use Rattle.plane.specs.Faces.Replays.{Replay}
use Rattle.plane.specs.Faces.Cells.{Sector}
use Rattle.plane.specs.Faces.Halves.{Half, under, over}
use Rattle.plane.specs.Faces.Classes.{Lead, root, next, previous, across}
use Rattle.plane.specs.Faces.Certified.{Certified}
use Rattle.plane.specs.Faces.DrawnRuns.{IsRunOf, drawn}
use Rattle.plane.specs.Faces.Parity.{same_point}
use Rattle.plane.proofs.Worked.DrawingTests.{edges_by_test}
use Rattle.plane.proofs.Worked.CertificateTests.{certified_by_test}
use Rattle.plane.proofs.FaceLemmas.CertifiedRuns.{run_partition}
use Rattle.plane.proofs.Worked.HoleRun.{at_point, edge, steps, ring_runs}

abbrev at_cell : ℕ → ℕ → Sector
at_cell k i = record { strip = k; index = i }

-- the ring has the label 1, also on both sides of the dangling edge, the hole the label 2, the
-- island the label 3
abbrev labels : Labels
labels = record {
  below = λ e. get_or (0 ∷ 1 ∷ 1 ∷ 0 ∷ 1 ∷ 2 ∷ 2 ∷ 1 ∷ 2 ∷ 3 ∷ 3 ∷ 1 ∷ []) e 0;
  above = λ e. get_or (1 ∷ 0 ∷ 0 ∷ 1 ∷ 2 ∷ 1 ∷ 1 ∷ 2 ∷ 3 ∷ 2 ∷ 2 ∷ 1 ∷ []) e 0;
}

abbrev rank : Half → ℕ
rank (under e) = get_or (0 ∷ 1 ∷ 0 ∷ 0 ∷ 1 ∷ 1 ∷ 0 ∷ 1 ∷ 1 ∷ 0 ∷ 1 ∷ 1 ∷ []) e 0
rank (over e) = get_or (0 ∷ 0 ∷ 0 ∷ 1 ∷ 0 ∷ 1 ∷ 1 ∷ 1 ∷ 0 ∷ 1 ∷ 1 ∷ 1 ∷ []) e 0

abbrev link : Half → Lead
link (under e) =
    get_or (root ∷ previous (under 2) ∷ root ∷ root ∷ across (over 0) ∷ previous (under 6) ∷ root
    ∷ across (over 0) ∷ across (over 4) ∷ root ∷ next (under 9) ∷ across (over 0) ∷ []) e root
link (over e) =
    get_or (root ∷ root ∷ root ∷ next (under 2) ∷ root ∷ across (under 2) ∷ across (under 2)
    ∷ next (under 6) ∷ root ∷ across (under 6) ∷ across (under 6) ∷ across (under 2) ∷ []) e root

-- the cell or the event that shows a link
abbrev cell_by : Half → Sector
cell_by (under e) =
    get_or (at_cell 1 0 ∷ at_cell 0 0 ∷ at_cell 2 1 ∷ at_cell 11 0 ∷ at_cell 3 1 ∷ at_cell 0 0
    ∷ at_cell 4 2 ∷ at_cell 8 1 ∷ at_cell 5 2 ∷ at_cell 5 3 ∷ at_cell 0 0 ∷ at_cell 9 1 ∷ []) e
    (at_cell 0 0)
cell_by (over e) =
    get_or (at_cell 2 1 ∷ at_cell 1 2 ∷ at_cell 2 2 ∷ at_cell 0 0 ∷ at_cell 4 2 ∷ at_cell 3 3
    ∷ at_cell 4 3 ∷ at_cell 0 0 ∷ at_cell 5 3 ∷ at_cell 5 4 ∷ at_cell 6 4 ∷ at_cell 9 2 ∷ []) e
    (at_cell 0 0)

abbrev event_by : Half → ℕ
event_by (under e) = get_or (0 ∷ 1 ∷ 0 ∷ 0 ∷ 0 ∷ 3 ∷ 0 ∷ 0 ∷ 0 ∷ 0 ∷ 5 ∷ 0 ∷ []) e 0
event_by (over e) = get_or (0 ∷ 0 ∷ 0 ∷ 11 ∷ 0 ∷ 0 ∷ 0 ∷ 8 ∷ 0 ∷ 0 ∷ 0 ∷ 0 ∷ []) e 0

-- the positions of the points, and the edges below and above each
abbrev strip : ℕ → ℕ
strip j = get_or (2 ∷ 4 ∷ 5 ∷ []) j 0

abbrev index : ℕ → ℕ
index j = get_or (1 ∷ 2 ∷ 3 ∷ []) j 0

abbrev lower : ℕ → ℕ
lower j = get_or (0 ∷ 4 ∷ 8 ∷ []) j 0

abbrev upper : ℕ → ℕ
upper j = get_or (2 ∷ 6 ∷ 9 ∷ []) j 0

module _ (w : Window2) where
  abbrev pub ring : Plan
  ring = record {
    window = w;
    curves =
        straight (at_point (pos 0) (pos 0)) (at_point (pos 12) (pos 0)) 1
        ∷ straight (at_point (pos 0) (pos 12)) (at_point (pos 0) (pos 0)) 2
        ∷ straight (at_point (pos 0) (pos 12)) (at_point (pos 12) (pos 12)) 3
        ∷ straight (at_point (pos 12) (pos 12)) (at_point (pos 12) (pos 0)) 4
        ∷ straight (at_point (pos 2) (pos 2)) (at_point (pos 10) (pos 2)) 5
        ∷ straight (at_point (pos 2) (pos 2)) (at_point (pos 2) (pos 10)) 6
        ∷ straight (at_point (pos 10) (pos 10)) (at_point (pos 2) (pos 10)) 7
        ∷ straight (at_point (pos 10) (pos 2)) (at_point (pos 10) (pos 10)) 8
        ∷ straight (at_point (pos 4) (pos 4)) (at_point (pos 8) (pos 4)) 9
        ∷ straight (at_point (pos 6) (pos 8)) (at_point (pos 4) (pos 4)) 10
        ∷ straight (at_point (pos 6) (pos 8)) (at_point (pos 8) (pos 4)) 11
        ∷ straight (at_point (pos 11) (pos 11)) (at_point (pos 10) (pos 10)) 12
        ∷ [];
    points = record {
      at = at_point (pos 1) (pos 6);
      line = 13;
    } ∷ record {
      at = at_point (pos 3) (pos 6);
      line = 14;
    } ∷ record { at = at_point (pos 6) (pos 5); line = 15 } ∷ [];
  }

  ring_run : IsRunOf ring edge steps
  unfolding same_point
  ring_run = record { edges = edges_by_test edge ring refl; run = ring_runs }

  abbrev r : Replay
  r = drawn (pos 0) ring edge steps

  certificate : Certified ring r labels rank link
  certificate =
      certified_by_test r ring labels rank link strip index cell_by event_by lower upper refl refl
      refl

  pub ring_holds : IsPartition ring
  ring_holds = run_partition ring edge steps labels rank link (pos 0) ring_run certificate

  -- what the laws say of it: no two of the ring, the hole and the island are joined, and the
  -- island's point is not outer
  pub ring_and_hole : Joined ring (point (at_point (pos 1) (pos 6)))
      (point (at_point (pos 3) (pos 6)))
      → ⊥
  ring_and_hole = ring_holds.alone 0 1 (omega arith) (omega arith) (λ e. absurd (omega (arith, e)))

  pub island_and_hole : Joined ring (point (at_point (pos 6) (pos 5)))
      (point (at_point (pos 3) (pos 6)))
      → ⊥
  island_and_hole =
      ring_holds.alone 2 1 (omega arith) (omega arith) (λ e. absurd (omega (arith, e)))

  pub island : IsOuter ring (point (at_point (pos 6) (pos 5))) → ⊥
  island = ring_holds.bounded 2 (omega arith)
