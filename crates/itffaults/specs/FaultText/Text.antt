-- The text of the faults of areas.
use Rattle.std.specs.Prelude.{ℕ, Bool, true, false, List, [], ◌++◌, codes, decimal, get_or, pos}
use Rattle.std.specs.Prelude.{if◌then◌else◌, length, map, nat_lt}
use Rattle.std.specs.List.{flat_map}
use Rattle.decimals.specs.Written.{spelling_of}
use Rattle.plane.specs.Rule.Plans.{Plan, curve, plan}
use Rattle.plane.specs.declared.kinds.Curve.{Curve}
use Rattle.plane.specs.declared.kinds.CurveKind.{CurveKind}
use Rattle.plane.specs.declared.kinds.CurveKind.TheVariants as kind
use Rattle.plane.specs.declared.kinds.Placed.{Placed}
use Rattle.plane.specs.declared.kinds.Point.{Point}
use Rattle.area_faults.specs.declared.kinds.AreaFaults.{AreaFaults}
use Rattle.area_faults.specs.declared.kinds.AreaFaults.TheVariants.{Bent, Many, Told, Unsettled}
use Rattle.area_search.specs.declared.kinds.AreaAnswer.{AreaAnswer}
use Rattle.area_search.specs.declared.kinds.AreaAnswer.TheVariants as found
use Rattle.area_search.specs.declared.kinds.AreaFinding.{AreaFinding}
use Rattle.area_search.specs.declared.kinds.AreaFinding.TheVariants as fault
use Rattle.fault_lists.specs.declared.kinds.Faults.{Faults}
use Rattle.fault_lists.specs.declared.kinds.MeetingAt.{MeetingAt}
use Rattle.fault_lists.specs.declared.kinds.OnAt.{OnAt}
use Rattle.fault_lists.specs.declared.kinds.PointPair.{PointPair}
use Rattle.fault_lists.specs.declared.kinds.Region.{Region}
use Rattle.fault_lists.specs.declared.kinds.SideAt.{SideAt}
use Rattle.fault_lists.specs.Rings.{start_on}
use Rattle.itffaults.specs.declared.fault_text.kinds.AreaTelling.{AreaTelling}
use Rattle.itffaults.specs.declared.fault_text.verdicts.Counts.{Counts}
use Rattle.itffaults.specs.FaultText.Verdicts.{counts_of}

-- The names of an area's topic, of its main table and of its attribute, how many decimals its
-- coordinates have, its drawing, and what is told of that.
pub record Telling : Type 0 where
  pub topic : List ℕ
  pub table : List ℕ
  pub attribute : List ℕ
  pub scale : ℕ
  pub drawing : Plan
  pub faults : AreaFaults

-- what the code tells of an area, without where it lies in memory
abbrev pub telling_of : AreaTelling → Telling
telling_of t =
    record {
      topic = t.topic;
      table = t.table;
      attribute = t.attribute;
      scale = t.scale;
      drawing = plan t.drawing.now;
      faults = t.faults;
    }

abbrev pub tellings : List AreaTelling → List Telling
tellings ts = map telling_of ts

-- The object's point of a number. Beyond the last one it is not meant: no list names it.
abbrev pub placed : Plan → ℕ → Placed
placed d j = get_or d.points j (record { at = record { x = pos 0; y = pos 0 }; line = 0 })

-- ---- words
-- two lines of the transfer
abbrev pub pair_text : ℕ → ℕ → List ℕ
pair_text first second = decimal first ++ codes " " ++ decimal second

-- left or right, with a blank before it
abbrev pub side_text : Bool → List ℕ
side_text true = codes " LEFT"
side_text false = codes " RIGHT"

-- the two numbers of a place in so many decimals, with a blank between them
abbrev pub corner_text : ℕ → Point → List ℕ
corner_text s p = spelling_of p.x s ++ codes " " ++ spelling_of p.y s

-- the same with a blank before each
abbrev pub place_text : ℕ → Point → List ℕ
place_text s p = codes " " ++ corner_text s p

-- the places of the two ends of a curve, and the end of the line
abbrev pub ends_text : ℕ → Curve → List ℕ
ends_text s c = place_text s c.from ++ place_text s c.to ++ codes "\n"

-- ---- lines, in so many decimals, of a drawing
-- two curves that meet badly, and the place
abbrev pub meeting_line : ℕ → Plan → MeetingAt → List ℕ
meeting_line s d m =
    codes "MEETING " ++ pair_text (curve d m.first).line (curve d m.second).line
    ++ place_text s m.at ++ codes "\n"

-- an object whose point lies on a curve, the curve, and the object's place
abbrev pub on_line : ℕ → Plan → OnAt → List ℕ
on_line s d o =
    codes "ON " ++ pair_text (placed d o.point).line (curve d o.curve).line
    ++ place_text s (placed d o.point).at ++ codes "\n"

-- a word, an object and its place
abbrev pub object_line : List ℕ → ℕ → Plan → ℕ → List ℕ
object_line word s d j =
    word ++ decimal (placed d j).line ++ place_text s (placed d j).at ++ codes "\n"

-- two objects whose points share a face, and their places
abbrev pub two_line : ℕ → Plan → PointPair → List ℕ
two_line s d p =
    codes "TWO " ++ pair_text (placed d p.first).line (placed d p.second).line
    ++ place_text s (placed d p.first).at ++ place_text s (placed d p.second).at ++ codes "\n"

-- a word, a side of a curve, and the ends of the curve
abbrev pub side_line : List ℕ → ℕ → Plan → SideAt → List ℕ
side_line word s d x =
    word ++ decimal (curve d x.curve).line ++ side_text x.left ++ ends_text s (curve d x.curve)

-- a curve with one face on both sides, and its ends
abbrev pub cut_line : ℕ → Plan → ℕ → List ℕ
cut_line s d i = codes "CUT " ++ decimal (curve d i).line ++ ends_text s (curve d i)

-- of a half arc a third point of its circle
abbrev pub third_of : CurveKind → ℕ → Curve → List ℕ
third_of kind.Straight s c = []
third_of kind.HalfArc s c = place_text s c.third

-- the third point of a half arc, and nothing of a straight
abbrev pub third_text : ℕ → Curve → List ℕ
third_text s c = third_of c.kind s c

-- where a side begins, as it is passed with the region on the left, and the third point of an arc
abbrev pub corner_line : ℕ → Plan → SideAt → List ℕ
corner_line s d x =
    corner_text s (start_on x.left (curve d x.curve)) ++ third_text s (curve d x.curve)
    ++ codes "\n"

-- a ring: how many sides it has, and where each begins
abbrev pub ring_text : ℕ → Plan → List SideAt → List ℕ
ring_text s d sides =
    codes "RING " ++ decimal (length sides) ++ codes "\n" ++ flat_map (corner_line s d) sides

-- a region: a word, its first side, and its rings
abbrev pub region_text : List ℕ → ℕ → Plan → Region → List ℕ
region_text word s d r = side_line word s d r.side ++ flat_map (ring_text s d) r.rings.items

-- whether the outer face is open
abbrev pub outer_text : Bool → List ℕ
outer_text true = codes "OUTER\n"
outer_text false = []

-- ---- lists of faults
-- pairs of curves that meet badly, and points on curves
abbrev pub first_text : ℕ → Plan → Faults → List ℕ
first_text s d f =
    flat_map (meeting_line s d) f.meetings.items ++ flat_map (on_line s d) f.on.items

-- open faces, and points in them
abbrev pub open_text : ℕ → Plan → Faults → List ℕ
open_text s d f =
    outer_text f.faces.outer_open ++ flat_map (region_text (codes "OPEN ") s d) f.open.items
    ++ flat_map (object_line (codes "UNJUDGED ") s d) f.faces.unjudged.items

-- what is at fault in faces, and which are open
abbrev pub faces_text : ℕ → Plan → Faults → List ℕ
faces_text s d f =
    flat_map (object_line (codes "OUTSIDE ") s d) f.faces.outside.items
    ++ flat_map (two_line s d) f.faces.shared.items
    ++ flat_map (region_text (codes "EMPTY ") s d) f.empty.items
    ++ flat_map (cut_line s d) f.faces.cuts.items ++ open_text s d f

-- the first fault that a search names
abbrev pub fault_words : Plan → AreaFinding → List ℕ
fault_words d (fault.Meeting i j) = codes "MEETING " ++ pair_text (curve d i).line (curve d j).line
fault_words d (fault.On j i) = codes "ON " ++ pair_text (placed d j).line (curve d i).line
fault_words d (fault.Outside j) = codes "OUTSIDE " ++ decimal (placed d j).line
fault_words d (fault.Two i j) = codes "TWO " ++ pair_text (placed d i).line (placed d j).line
fault_words d (fault.Empty i left) = codes "EMPTY " ++ decimal (curve d i).line ++ side_text left
fault_words d (fault.Cut i) = codes "CUT " ++ decimal (curve d i).line

-- the answer of a search: the level at which the area is proved, two curves that show that it is
-- not decided, or its first fault
abbrev pub answer_words : Plan → AreaAnswer → List ℕ
answer_words d (found.Proved c) = codes "PROVED " ++ decimal c.level
answer_words d (found.Undecided i j) =
    codes "UNDECIDED " ++ pair_text (curve d i).line (curve d j).line
answer_words d (found.Fault f) = codes "FIRST " ++ fault_words d f

-- What is told of an area. Where its forks are bent, what is at fault in faces is told by the
-- curves of the bent drawing. Where no level settles it, no face is judged, and the answer of the
-- search follows.
abbrev pub told_text : ℕ → Plan → AreaFaults → List ℕ
told_text s d (Told f) = first_text s d f ++ faces_text s d f
told_text s d (Bent f b) =
    first_text s d f ++ codes "BENT\n" ++ faces_text s (plan b.drawing) f
told_text s d (Unsettled f a) =
    first_text s d f ++ codes "UNSETTLED\n" ++ answer_words d a ++ codes "\n"
told_text s d (Many ms) = flat_map (meeting_line s d) ms.items ++ codes "MANY\n"

-- eight counts, with a blank before each
abbrev pub counts_text : Counts → List ℕ
counts_text c =
    codes " " ++ decimal c.meetings ++ codes " " ++ decimal c.on ++ codes " " ++ decimal c.outside
    ++ codes " " ++ decimal c.two ++ codes " " ++ decimal c.empty ++ codes " " ++ decimal c.cuts
    ++ codes " " ++ decimal c.open_faces ++ codes " " ++ decimal c.unjudged

-- ---- the whole text
-- the names of an area
abbrev pub names_text : Telling → List ℕ
names_text t =
    codes "AREA" ++ codes " " ++ t.topic ++ codes " " ++ t.table ++ codes " " ++ t.attribute

-- an area: its names, what is told of it, and how many faults there are
abbrev pub area_text : Telling → List ℕ
area_text t =
    (names_text t ++ codes "\n") ++ told_text t.scale t.drawing t.faults
    ++ codes "COUNTS" ++ counts_text (counts_of t.faults) ++ codes "\n"

-- the first lines, with the number of areas
abbrev pub head_text : ℕ → List ℕ
head_text n = codes "ITFFAULTS 1\nAREAS " ++ decimal n ++ codes "\n"

-- the text of areas, with these lines of SURFACEs
abbrev pub fault_text : List Telling → List ℕ → List ℕ
fault_text ts surfaces =
    head_text (length ts) ++ flat_map area_text ts ++ surfaces ++ codes "END\n"

-- ---- a transfer that is rejected before its areas are drawn
-- how many findings there are, where there are some
abbrev pub findings_text : ℕ → List ℕ
findings_text n = if nat_lt 0 n then codes "FINDINGS " ++ decimal n ++ codes "\n" else []

-- the text of such a transfer with so many findings, and with these lines of the report
abbrev pub rejected_text : ℕ → List ℕ → List ℕ
rejected_text n lines = codes "ITFFAULTS 1\n" ++ findings_text n ++ lines ++ codes "END\n"
