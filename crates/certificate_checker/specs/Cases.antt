-- What is judged, as the code holds it.
use Rattle.std.specs.Prelude.{◌≡◌, ◌↔◌, ℕ, ◌<◌, ◌^◌, Bool, false, IsTrue, List, length, map, get_or}
use Rattle.plane.specs.CurveRuns.TubedRuns as runs
use Rattle.plane.specs.Rule.Plans.{Plan, object, plan}
use Rattle.plane.specs.Runs.Timetables.{IsTimetable, Timed}
use Rattle.plane.specs.declared.kinds.Point.{Point}
use Rattle.straight_predicates.specs.EdgeLists.{AreAllClose, AreSorted, IsCloseToAll, edge_of}
use Rattle.straight_predicates.specs.Tables.{table_of}
use Rattle.tubes.specs.Settled.{AreFacings, edges_at}
use Rattle.tubes.specs.TubedEdges.{AreUsable, IsTubedList, drawn_bays, owner_as}
use Rattle.tubes.specs.declared.kinds.EdgeList.{EdgeList}
use Rattle.certificate.specs.declared.notes.PointPlace.{PointPlace}
use Rattle.certificate.specs.declared.notes.PointPlace.TheVariants as place
use Rattle.certificate_checker.specs.declared.case.Case.{Case}
use Rattle.certificate_checker.specs.Rules.{CornerAt, HasCounts, IsHeld}
use Rattle.certificate_checker.specs.Subjects.{Claims, Subject, point_at, subject}
use Rattle.certificate_checker.specs.Verdicts.{IsTableOf, subject_of}

abbrev pub judged : Case → Subject
judged c =
    subject (plan c.drawing.now) c.edges.now c.points.now (table_of c.table.now) c.certificate.now

-- For each curve the number of its first edge.
pub record AreFirsts (d : Plan) (level : ℕ) (firsts : List ℕ) : Type 0 where
  pub count : length firsts ≡ length d.curves
  pub each : (i : ℕ) → i < length d.curves
      → get_or firsts i 0 ≡ runs.first_edge (drawn_bays d (λ n. level)) 0 d.curves i

-- The place is in a tube that holds the point, on that side of its circle.
abbrev pub IsHeldAt : Plan → ℕ → PointPlace → Point → Type 0
IsHeldAt d level (place.Cell position) p = ⊥
IsHeldAt d level (place.Tube i inside) p = IsHeld d level i inside p

-- For each place whether it is in a tube that holds its point.
pub record AreHeld (d : Plan) (level : ℕ) (places : List PointPlace)
    (held : List Bool) : Type 0 where
  pub count : length held ≡ length places
  pub each : (j : ℕ) → j < length places
      → IsTrue (get_or held j false)
      ↔ IsHeldAt d level (get_or places j (place.Cell 0)) (object d j)

-- The edges of a drawing at the claimed level with their timetable. Rules 2 and 3 hold.
pub record IsListed (d : Plan) (c : Claims) (list : EdgeList) (table : List Timed) : Type 0 where
  pub few_edges : length list.edges.items < 2 ^ 31
  pub edges : IsTubedList d (λ n. c.level) list
  pub usable : AreUsable d list.edges.items
  pub is_table : IsTableOf d c.level table
  pub counts : HasCounts (subject_of d c table)
  pub corners : (k : ℕ) → k < length table → CornerAt (subject_of d c table) k

-- The edges of a drawing at a level with their timetable, and with their owners and the sides that
-- face tubes; its points; and a certificate with as many parts. Corners of tubes are their own.
pub record IsFit (c : Case) : Type 0 where
  pub few_edges : length (judged c).edges < 2 ^ 31
  pub few_points : length (judged c).points < 2 ^ 30
  pub sorted : AreSorted (judged c).edges
  pub close : AreAllClose (judged c).edges
  pub near : (j : ℕ) → j < length (judged c).points
      → IsCloseToAll (judged c).edges (point_at (judged c) j)
  pub table : IsTimetable (length (judged c).edges) (edge_of (judged c).edges) (judged c).table
  pub counts : HasCounts (judged c)
  pub corners : (k : ℕ) → k < length (judged c).table → CornerAt (judged c) k
  pub edges_are : (judged c).edges ≡ edges_at (judged c).drawing (λ n. (judged c).claims.level)
  pub points_are : (judged c).points ≡ (judged c).drawing.points
  pub owners : c.owners.now
      ≡ map owner_as
      (runs.edge_list
      (drawn_bays (judged c).drawing (λ n. (judged c).claims.level)) 0 (judged c).drawing.curves)
  pub facings : AreFacings (judged c).drawing (λ n. (judged c).claims.level) c.facings.now
  pub firsts : AreFirsts (judged c).drawing (judged c).claims.level c.firsts.now
  pub held : AreHeld (judged c).drawing (judged c).claims.level (judged c).claims.places c.held.now
