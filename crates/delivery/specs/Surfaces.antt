-- SURFACEs: the boundaries of the objects of a table, and what is answered to them.
use Rattle.std.specs.Prelude.{◌≡◌, ℕ, Bool, true, false, not, ◌&&◌, ◌||◌, nat_lt, int_le, ◌-ℤ◌, pos}
use Rattle.std.specs.Prelude.{◌^◌, List, [], ◌∷◌, ◌++◌, map, slice_get, slice_index_or}
use Rattle.std.specs.List.{All, AllZip, Any, count_by, filter, list_any}
use Rattle.resolver.specs.Resolved.{Limits, LineForm, Window}
use Rattle.table_layout.specs.Layouts.{Layout}
use Rattle.itf_reader.specs.Forms.{Row}
use Rattle.ident_refs.specs.Rows.{has_identification}
use Rattle.plane.specs.declared.kinds.Curve.{Curve}
use Rattle.plane.specs.declared.kinds.CurveKind.{CurveKind}
use Rattle.plane.specs.declared.kinds.CurveKind.TheVariants as kind
use Rattle.plane.specs.declared.kinds.Edge.{Edge}
use Rattle.plane.specs.declared.window.Window2.{Window2}
use Rattle.tubes.specs.DrawnEdges.{nth_curve, straight_edge}
use Rattle.surface_rings.specs.Surfaces.{SurfaceHolds, HasParts, IsLeastOdd, IsMeeting}
use Rattle.area_drawings.specs.AreaLimits.{area_limit, vertex_count}
use Rattle.area_drawings.specs.Drawings.{curves_by, lines_in}
use Rattle.area_drawings.specs.Strokes.{has_curve}
use Rattle.reports.specs.Surfaces.{SurfaceOf, surfaces}
use Rattle.reports.specs.declared.lines.SurfaceAnswer.{SurfaceAnswer}
use Rattle.reports.specs.declared.lines.SurfaceAnswer.TheVariants.{Proved, Meeting, Odd, Parts}

-- ---- boundaries
-- the boundary of an object: the line of the object in the transfer, and its curves
pub record Boundary : Type 0 where
  pub line : ℕ
  pub curves : List Curve

-- the reference of a row of a helper table, which is its first value
abbrev pub reference_of : Row → List ℕ
reference_of r = slice_index_or r.fields 1 []

-- the row of a helper table is one of the object: its reference is the object's identification
abbrev pub is_of : Row → Row → Bool
is_of object r = has_identification (reference_of r) object

-- the curves of an object: those of the rows of the helper table that are its own, in order
abbrev pub surface_curves : List LineForm → List Row → Row → List Curve
surface_curves forms rows object = curves_by forms (filter (is_of object) rows)

-- the boundary of an object, by the rows of the helper table and the form of their lines
abbrev pub boundary : List LineForm → List Row → Row → Boundary
boundary forms rows object =
    record { line = object.line; curves = surface_curves forms rows object }

-- the boundaries of a SURFACE, one for each object of its main table, in order
abbrev pub boundaries : Layout → List (List Row) → SurfaceOf → List Boundary
boundaries l rows s =
    map (boundary (lines_in (slice_get l.tables s.lines)) (slice_index_or rows s.lines []))
    (slice_index_or rows s.main [])

-- ---- which boundaries are judged
-- the curve is a half arc
abbrev pub is_bent : CurveKind → Bool
is_bent kind.HalfArc = true
is_bent kind.Straight = false

-- a half arc is among the curves
abbrev pub has_half_arc : List Curve → Bool
has_half_arc cs = list_any (λ c. is_bent c.kind) cs

-- limits that lie 2 ^ 40 units apart or more
abbrev pub are_apart : Limits → Bool
are_apart b = int_le (pos (2 ^ 40)) (b.high -ℤ b.low)

-- a window of 2 ^ 40 units or more in an axis
abbrev pub is_wide : Window → Bool
is_wide w = are_apart w.x || are_apart w.y

-- no boundary is judged: the window of the lines is wide, or they have too many vertices
abbrev pub are_all_skipped : Layout → List (List Row) → SurfaceOf → Bool
are_all_skipped l rows s =
    list_any (λ (f : LineForm). is_wide f.window) (lines_in (slice_get l.tables s.lines))
    || nat_lt area_limit (vertex_count (slice_index_or rows s.lines []))

-- the object is looked at: it has a straight or a half arc
abbrev pub is_looked_at : Boundary → Bool
is_looked_at b = has_curve b.curves

-- it is looked at and skipped: it has a half arc, or no boundary is judged
abbrev pub is_skipped : Bool → Boundary → Bool
is_skipped all b = is_looked_at b && (all || has_half_arc b.curves)

-- it is looked at and judged
abbrev pub is_judged : Bool → Boundary → Bool
is_judged all b = is_looked_at b && not (all || has_half_arc b.curves)

-- ---- answers
-- the edges of a boundary of straights, one for each curve in their order
abbrev pub edges_of : Boundary → List Edge
edges_of b = map straight_edge b.curves

-- the line of the transfer of a curve, by its number
abbrev pub line_at : Boundary → ℕ → ℕ
line_at b i = (nth_curve b.curves i).line

-- the straights are rings around one connected region (no definition reads the window)
abbrev pub Holds : Boundary → Type 0
Holds b = (u : Window2) → SurfaceHolds u (edges_of b)

-- it is not judged, or it holds
abbrev pub IsRight : Bool → Boundary → Type 0
IsRight all b = is_judged all b ≡ true → Holds b

-- what is wrong with a boundary that is judged, by lines of the transfer
pub data IsFault (b : Boundary) (x : SurfaceAnswer) : Type 0 where
  -- two straights meet elsewhere than in common ends
  meeting : (i j : ℕ) → IsMeeting (edges_of b) i j → x ≡ Meeting (line_at b i) (line_at b j)
      → IsFault b x
  -- no two do, and this is the first with an end at which an odd number of them end
  odd : (e : ℕ) → IsLeastOdd (edges_of b) e → x ≡ Odd (line_at b e) → IsFault b x
  -- neither is so, and they bound more than one region
  parts : ((u : Window2) → HasParts u (edges_of b)) → x ≡ Parts b.line → IsFault b x

-- the boundary of an object is judged and at fault
abbrev pub IsFaulty : Bool → SurfaceAnswer → Boundary → Type 0
IsFaulty all x b = (is_judged all b ≡ true) × IsFault b x

-- The answer to boundaries, in the order of their objects.
pub data IsAnswer (all : Bool) (bs : List Boundary) (x : SurfaceAnswer) : Type 0 where
  -- all that are judged hold: how many these are, and how many are skipped
  proved : All (IsRight all) bs
      → x ≡ Proved (count_by (is_judged all) bs) (count_by (is_skipped all) bs)
      → IsAnswer all bs x
  -- one is at fault, and those before it that are judged hold
  faulty : (before : List Boundary) (b : Boundary) (after : List Boundary)
      → bs ≡ before ++ b ∷ after → All (IsRight all) before → IsFaulty all x b
      → IsAnswer all bs x

-- the answer to a SURFACE of the layout
abbrev pub IsSurfaceAnswer : Layout → List (List Row) → SurfaceOf → SurfaceAnswer → Type 0
IsSurfaceAnswer l rows s x = IsAnswer (are_all_skipped l rows s) (boundaries l rows s) x

-- the answers to some SURFACEs, in order
abbrev pub AreSurfaceAnswers : Layout → List (List Row) → List SurfaceOf → List SurfaceAnswer
    → Type 0
AreSurfaceAnswers l rows ss xs = AllZip (IsSurfaceAnswer l rows) ss xs

-- ---- what the answers say
-- the boundaries of a SURFACE that are judged are rings around one region each
abbrev pub AreRight : Layout → List (List Row) → SurfaceOf → Type 0
AreRight l rows s = All (IsRight (are_all_skipped l rows s)) (boundaries l rows s)

-- so are those of each SURFACE
abbrev pub AreRightSurfaces : Layout → List (List Row) → Type 0
AreRightSurfaces l rows = All (AreRight l rows) (surfaces l)

-- a boundary that is judged is at fault, so that it does not hold
pub record IsFaultyBoundary (all : Bool) (b : Boundary) : Type 0 where
  pub answer : SurfaceAnswer
  pub faulty : IsFaulty all answer b
  pub no_region : Holds b → ⊥

-- some boundary of the SURFACE is so
abbrev pub HasFaultyBoundary : Layout → List (List Row) → SurfaceOf → Type 0
HasFaultyBoundary l rows s =
    Any (IsFaultyBoundary (are_all_skipped l rows s)) (boundaries l rows s)

-- some boundary of some SURFACE is so
abbrev pub HasFaultySurface : Layout → List (List Row) → Type 0
HasFaultySurface l rows = Any (HasFaultyBoundary l rows) (surfaces l)
