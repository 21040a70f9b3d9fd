-- How far the replay has come.
use Rattle.std.specs.Prelude.{◌≡◌, ◌↔◌, ℕ, ◌<◌, ◌≤◌, Bool, List, [], length}
use Rattle.std.specs.Prelude.{vec_capacity}
use Rattle.plane.specs.Faces.Halves.{Half}
use Rattle.plane.specs.Runs.Gaps.{Gap, opened}
use Rattle.plane.specs.Runs.Moves.{step_of, steps_from}
use Rattle.plane.specs.Runs.Timetables.{move_at}
use Rattle.straight_predicates.specs.EdgeEvents.{width}
use Rattle.half_edges.specs.HalfEdges.{HalfEdges}
use Rattle.event_mesh.specs.Turned.{IsTurned}
use Rattle.certificate_checker.specs.declared.state.State.{State}
use Rattle.certificate_checker.specs.LiveLists.{live_count}
use Rattle.certificate_checker.specs.Marked.{IsAtBorder, IsMarked, NamesAcross, OfSome}
use Rattle.certificate_checker.specs.Placed.{ArePlacedTo}
use Rattle.certificate_checker.specs.Rules.{PassesEvent}
use Rattle.certificate_checker.specs.Subjects.{Subject, edge, event, live_list, moves, position_at}

-- the new neighbours of the event
abbrev pub opened_at : Subject → ℕ → List Gap
opened_at s k = opened k (step_of (live_list s k) (move_at (event s k) (position_at s k)))

-- P holds of a gap that one of the first k events opened, and the half-edge
abbrev pub OfOpened : Subject → (Gap → Half → Type 0) → ℕ → Half → Type 0
OfOpened s P k h = (j : ℕ) × (j < k) × OfSome P (opened_at s j) h

-- exactly the half-edges of which P holds with such a gap are marked
pub record AreMarkedTo (s : Subject) (P : Gap → Half → Type 0) (k : ℕ)
    (marks : List Bool) : Type 0 where
  pub size : length marks ≡ length s.claims.notes
  pub each : (h : Half) → IsMarked marks h ↔ OfOpened s P k h

-- The first k events pass; the live list is the one after them; the mesh is turned at them, and
-- there is room for the half-edges of each event.
pub record IsMovedTo (s : Subject) (k : ℕ) (now : List ℕ) (most : ℕ)
    (mesh : HalfEdges) : Type 0 where
  pub passes : (j : ℕ) → j < k → PassesEvent s j
  pub live : now ≡ live_list s k
  pub fan : (j : ℕ) → j < length s.table → width (event s j) ≤ most
  pub turned : IsTurned (length s.edges) (edge s) (steps_from [] (moves s)) mesh k

-- So many edges are no fewer than are live at any time.
abbrev pub HasRoom : Subject → ℕ → Type 0
HasRoom s most = (j : ℕ) → j ≤ length s.table → live_count s.table j ≤ most

-- There is room for what the events that are left need.
pub record HasReplayed (s : Subject) (k : ℕ) (state : State) : Type 0 where
  pub moved : IsMovedTo s k state.live.edges (length state.fan.items) state.mesh
  pub room : HasRoom s state.live.most
  pub block : length state.fan.items ≤ vec_capacity state.ending
  pub border : AreMarkedTo s IsAtBorder k state.marks.border.items
  pub across : AreMarkedTo s (NamesAcross s.claims.notes) k state.marks.across.items
  pub points : ArePlacedTo s k state.placing.next state.placing.bad state.placing.spots.items
      state.marks.point.items
