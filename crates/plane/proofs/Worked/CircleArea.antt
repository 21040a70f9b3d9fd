-- The circle of four half arcs with one object's point in its middle is a partition: a certificate
-- from end to end.
-- So the middle is not outer.
use Rattle.std.proofs.Common.{ℕ, [], ◌∷◌, pos, get_or, refl, arith}
use Rattle.plane.specs.declared.window.Window2.{Window2}
use Rattle.plane.specs.Forms.Vectors.{point}
use Rattle.plane.specs.Rule.Partition.{IsOuter, IsPartition}
use Rattle.plane.specs.Faces.Replays.{Replay, replay}
use Rattle.plane.specs.Faces.Cells.{Sector}
use Rattle.plane.specs.Faces.Halves.{Half, under, over}
use Rattle.plane.specs.Faces.Classes.{Lead, root, next, previous}
use Rattle.plane.specs.CurveRuns.CertifiedCurves.{CertifiedCurves}
use Rattle.plane.proofs.Worked.CurveCertificateTests.{curves_by_test}
use Rattle.plane.proofs.CurveAreas.TubedPartition.{tubed_partition}
use Rattle.plane.proofs.Worked.CircleRun.{at_point, edge, steps}
use Rattle.plane.proofs.Worked.CircleTubes.{bays, labels, within, inside, outside, circle}
use Rattle.plane.proofs.Worked.CircleTubes.{circle_run, circle_labels}

abbrev at_cell : ℕ → ℕ → Sector
at_cell k i = record { strip = k; index = i }

abbrev rank : Half → ℕ
rank (under e) =
    get_or (2 ∷ 1 ∷ 1 ∷ 0 ∷ 0 ∷ 0 ∷ 1 ∷ 0 ∷ 0 ∷ 0 ∷ 0 ∷ 0 ∷ 0 ∷ 0 ∷ 0 ∷ 0 ∷ 0 ∷ 0 ∷ 0 ∷ 0 ∷ []) e 0
rank (over e) =
    get_or (0 ∷ 0 ∷ 0 ∷ 0 ∷ 0 ∷ 0 ∷ 0 ∷ 0 ∷ 0 ∷ 0 ∷ 2 ∷ 1 ∷ 1 ∷ 0 ∷ 0 ∷ 0 ∷ 1 ∷ 0 ∷ 0 ∷ 0 ∷ []) e 0

abbrev link : Half → Lead
link (under e) =
    get_or (next (under 1) ∷ next (under 5) ∷ next (over 19) ∷ root ∷ root ∷ root
    ∷ previous (under 5) ∷ root ∷ root ∷ root ∷ root ∷ root ∷ root ∷ root ∷ root ∷ root ∷ root
    ∷ root ∷ root ∷ root ∷ []) e root
link (over e) =
    get_or (root ∷ root ∷ root ∷ root ∷ root ∷ root ∷ root ∷ root ∷ root ∷ root ∷ previous (under 6)
    ∷ next (over 15) ∷ next (under 9) ∷ root ∷ root ∷ root ∷ previous (over 15) ∷ root ∷ root ∷ root
    ∷ []) e root

-- the cell or the event that shows a link
abbrev cell_by : Half → Sector
cell_by (under e) =
    get_or (at_cell 0 0 ∷ at_cell 0 0 ∷ at_cell 0 0 ∷ at_cell 0 0 ∷ at_cell 0 0 ∷ at_cell 0 0
    ∷ at_cell 0 0 ∷ at_cell 0 0 ∷ at_cell 0 0 ∷ at_cell 1 0 ∷ at_cell 0 0 ∷ at_cell 0 0
    ∷ at_cell 0 0 ∷ at_cell 2 0 ∷ at_cell 7 0 ∷ at_cell 0 0 ∷ at_cell 0 0 ∷ at_cell 8 0
    ∷ at_cell 10 0 ∷ at_cell 0 0 ∷ []) e (at_cell 0 0)
cell_by (over e) =
    get_or (at_cell 0 0 ∷ at_cell 0 0 ∷ at_cell 0 0 ∷ at_cell 11 4 ∷ at_cell 9 4 ∷ at_cell 0 0
    ∷ at_cell 0 0 ∷ at_cell 6 4 ∷ at_cell 1 2 ∷ at_cell 0 0 ∷ at_cell 0 0 ∷ at_cell 0 0
    ∷ at_cell 0 0 ∷ at_cell 0 0 ∷ at_cell 0 0 ∷ at_cell 0 0 ∷ at_cell 0 0 ∷ at_cell 0 0
    ∷ at_cell 0 0 ∷ at_cell 15 2 ∷ []) e (at_cell 0 0)

abbrev event_by : Half → ℕ
event_by (under e) =
    get_or (12 ∷ 8 ∷ 13 ∷ 0 ∷ 0 ∷ 0 ∷ 4 ∷ 0 ∷ 0 ∷ 0 ∷ 0 ∷ 0 ∷ 0 ∷ 0 ∷ 0 ∷ 0 ∷ 0 ∷ 0 ∷ 0 ∷ 0 ∷ []) e
    0
event_by (over e) =
    get_or (0 ∷ 0 ∷ 0 ∷ 0 ∷ 0 ∷ 0 ∷ 0 ∷ 0 ∷ 0 ∷ 0 ∷ 2 ∷ 7 ∷ 2 ∷ 0 ∷ 0 ∷ 0 ∷ 11 ∷ 0 ∷ 0 ∷ 0 ∷ []) e 0

-- the middle lies over edge 15 and under edge 5
abbrev strip : ℕ → ℕ
strip j = 8

abbrev index : ℕ → ℕ
index j = 2

abbrev lower : ℕ → ℕ
lower j = 15

abbrev upper : ℕ → ℕ
upper j = 5

module _ (w : Window2) where
  abbrev r : Replay
  r = replay (pos 0) 20 edge steps

  certificate : CertifiedCurves (circle w) bays r labels within inside outside rank link
  certificate =
      curves_by_test (circle w) bays r labels within inside outside rank link strip index lower
      upper cell_by event_by (circle_labels w (pos 0)) refl refl

  pub circle_holds : IsPartition (circle w)
  circle_holds =
      tubed_partition (pos 0) (circle w) bays 20 edge steps labels within inside outside rank link
      (circle_run w) certificate

  -- what the laws say of it
  pub middle_inner : IsOuter (circle w) (point (at_point 500000 500000)) → ⊥
  middle_inner = circle_holds.bounded 0 (omega arith)
