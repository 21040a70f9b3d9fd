-- What a crossing segment tells of the two sides of its edge, in short.
-- The cell of each end is linked to a cell beside the edge.
use Rattle.std.proofs.Common.{ℕ, ◌<◌}
use Rattle.plane.specs.Forms.Vectors.{Vector, Place}
use Rattle.plane.specs.Faces.Replays.{Replay}
use Rattle.plane.proofs.Runs.RunWords.{IsRun, IsLawful}
use Rattle.plane.specs.Faces.Cells.{Sector, IsSector, sector, Linked}
use Rattle.plane.specs.Faces.Halves.{over, under, Beside}
use Rattle.plane.proofs.FaceLemmas.EdgeCrossings.{IsCrossing}
use Rattle.plane.proofs.Strips.Columns.{cell_is}
use Rattle.plane.proofs.FaceLemmas.Crossed.{high, low, high_place, low_place, near_place, top}
use Rattle.plane.proofs.FaceLemmas.Crossed.{bottom, crossed}

-- the cell of the upper end is linked to one above the edge, that of the lower end to one below it
pub record IsTold (r : Replay) (e : ℕ) (p q : Vector) : Type 0 where
  pub above : Sector
  pub below : Sector
  pub above_is : IsSector r above
  pub below_is : IsSector r below
  pub above_linked : Linked r (sector r p) above
  pub above_beside : Beside r (over e) above
  pub below_linked : Linked r (sector r q) below
  pub below_beside : Beside r (under e) below

pub crossing_tells : (r : Replay) (run : IsRun r) (law : IsLawful r) (e : ℕ) (p q : Vector)
    → e < r.edges → IsCrossing r e p q → IsTold r e p q
crossing_tells r run law e p q l x =
    let c = crossed r run law e p q l x in
    let t = top r run law e p q l x in
    let b = bottom r run law e p q l x in
    let T : Place t = near_place r run law e p q l x (high r run law e p q l x)
    (high_place r run law e p q l x) in
    let B : Place b = near_place r run law e p q l x (low r run law e p q l x)
    (low_place r run law e p q l x) in
    record {
      above = sector r t;
      below = sector r b;
      above_is = cell_is r run law t T;
      below_is = cell_is r run law b B;
      above_linked = c.0;
      above_beside = c.1;
      below_linked = c.2;
      below_beside = c.3;
    }
