-- What is judged: a drawing with its edges, what a certificate claims of them, and the replay that
-- it says.
use Rattle.std.specs.Prelude.{ℕ, suc, ◌+◌, Bool, true, false, pos, cond, List, [], ◌∷◌, length}
use Rattle.std.specs.Prelude.{take, get_or}
use Rattle.plane.specs.declared.kinds.Edge.{Edge}
use Rattle.plane.specs.declared.kinds.Placed.{Placed}
use Rattle.plane.specs.declared.kinds.Point.{Point}
use Rattle.plane.specs.CurveRuns.TubedRuns as runs
use Rattle.plane.specs.Faces.Cells.{Sector, position}
use Rattle.plane.specs.Faces.Halves.{Half, under, over, number, mark, twin}
use Rattle.plane.specs.Faces.Labels.{Labels}
use Rattle.plane.specs.Faces.Replays.{Replay, replay}
use Rattle.plane.specs.Rule.Plans.{Plan}
use Rattle.plane.specs.Runs.Moves.{Move, live_from, steps_from}
use Rattle.plane.specs.Runs.Timetables.{Timed, moves_at, no_event}
use Rattle.plane.specs.Tubes.Bays.{Bay}
use Rattle.straight_predicates.specs.EdgeLists.{edge_of}
use Rattle.tubes.specs.DrawnEdges.{comes_first}
use Rattle.tubes.specs.TubedEdges.{drawn_bays}
use Rattle.certificate.specs.declared.notes.Certificate.{Certificate}
use Rattle.certificate.specs.declared.notes.HalfNote.{HalfNote}
use Rattle.certificate.specs.declared.notes.Link.TheVariants as link
use Rattle.certificate.specs.declared.notes.PointPlace.{PointPlace}
use Rattle.certificate.specs.declared.notes.PointPlace.TheVariants as place

-- a certificate without its names, and without of which drawing it is: its level, the position of
-- each event, the note of each half-edge by its number, the place of each point
pub record Claims : Type 0 where
  pub level : ℕ
  pub positions : List ℕ
  pub notes : List HalfNote
  pub places : List PointPlace

-- what a certificate claims, as lists
abbrev pub claims : Certificate → Claims
claims c =
    record {
      level = c.level;
      positions = c.positions.items;
      notes = c.notes.items;
      places = c.places.items;
    }

-- a drawing, its edges and points by number, the timetable of the edges, and what is claimed of
-- them
pub record Subject : Type 0 where
  pub drawing : Plan
  pub edges : List Edge
  pub points : List Placed
  pub table : List Timed
  pub claims : Claims

abbrev pub subject : Plan → List Edge → List Placed → List Timed → Certificate → Subject
subject d edges points table c =
    record { drawing = d; edges = edges; points = points; table = table; claims = claims c }

-- ---- by number; beyond the last one nothing is meant
-- the edge of a number
abbrev pub edge : Subject → ℕ → Edge
edge s = edge_of s.edges

-- the point of a number in a list
abbrev pub point_in : List Placed → ℕ → Point
point_in points j = (get_or points j (record { at = record { x = pos 0; y = pos 0 }; line = 0 })).at

-- the point of a number
abbrev pub point_at : Subject → ℕ → Point
point_at s j = point_in s.points j

-- the event of a number
abbrev pub event : Subject → ℕ → Timed
event s k = get_or s.table k no_event

-- the claimed position of an event
abbrev pub position_at : Subject → ℕ → ℕ
position_at s k = get_or s.claims.positions k 0

-- the claimed place of a point
abbrev pub place_at : Subject → ℕ → PointPlace
place_at s j = get_or s.claims.places j (place.Cell 0)

-- the note of a half-edge in a list
abbrev pub note_in : List HalfNote → Half → HalfNote
note_in notes h = get_or notes (number h) (record { label = 0; link = link.Root; rank = 0 })

-- the claimed note of a half-edge
abbrev pub note_at : Subject → Half → HalfNote
note_at s h = note_in s.claims.notes h

-- the claimed rank of a half-edge
abbrev pub rank : Subject → Half → ℕ
rank s h = (note_at s h).rank

-- the claimed label on each side of each edge
abbrev pub labels_in : List HalfNote → Labels
labels_in notes =
    record {
      below = λ e. (note_in notes (under e)).label;
      above = λ e. (note_in notes (over e)).label;
    }

-- the claimed labels
abbrev pub labels : Subject → Labels
labels s = labels_in s.claims.notes

-- ---- the tubes at the claimed level
-- the bays of each half arc's tube, by the number of its curve
abbrev pub bays_of : Subject → ℕ → List Bay
bays_of s = drawn_bays s.drawing (λ n. s.claims.level)

-- the curve of an edge, and what the edge is of it
abbrev pub owned_of : Subject → ℕ → runs.Owned
owned_of s e = runs.owned s.drawing (bays_of s) e

-- the half-edge of an edge of a tube that faces the tube from within
abbrev pub within : Subject → ℕ → Half
within s e = runs.half_within s.drawing (bays_of s) (edge s) e

-- the claimed label on the other side of an edge of a tube
abbrev pub outside_label : Subject → ℕ → ℕ
outside_label s e = mark (labels s) (twin (within s e))

-- the chain of a tube that is inside the circle, and that outside
abbrev pub side_part : Bool → runs.Part
side_part true = runs.inner
side_part false = runs.outer

-- the first edge of that chain of the curve's tube
abbrev pub first_of : Subject → Bool → ℕ → ℕ
first_of s true i = runs.first_edge (bays_of s) 0 s.drawing.curves i
first_of s false i = runs.first_edge (bays_of s) 0 s.drawing.curves i + length (bays_of s i)

-- the claimed label outside the first edge of that chain
abbrev pub side_label : Subject → Bool → ℕ → ℕ
side_label s inside i = outside_label s (first_of s inside i)

-- ---- the replay that the claimed positions say
-- each event with its claimed position
abbrev pub moves : Subject → List Move
moves s = moves_at s.table s.claims.positions

-- the live list after the first k events
abbrev pub live_list : Subject → ℕ → List ℕ
live_list s k = live_from [] (take k (moves s))

-- the replay of all events at their claimed positions
abbrev pub replay_of : Subject → Replay
replay_of s = replay (pos 0) (length s.edges) (edge s) (steps_from [] (moves s))

-- how many of the events, which rise by x, then y, come before the point
abbrev pub events_before : List Timed → Point → ℕ
events_before [] p = 0
events_before (t ∷ table) p = cond (comes_first t.at p) (suc (events_before table p)) 0

-- how many edges of the live list lie under a point that is placed in a cell
abbrev pub under_place : PointPlace → ℕ
under_place (place.Cell i) = i
under_place (place.Tube curve inside) = 0

-- the claimed cell of point j
abbrev pub strip_of : Subject → ℕ → ℕ
strip_of s j = events_before s.table (point_at s j)

-- how many edges of the live list lie under point j, as its claimed cell says
abbrev pub index_of : Subject → ℕ → ℕ
index_of s j = under_place (place_at s j)

-- the piece of a cell in which point j is claimed to lie
abbrev pub sector_of : Subject → ℕ → Sector
sector_of s j = position (strip_of s j) (index_of s j)
