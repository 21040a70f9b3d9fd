-- From the edges of a drawing at a level to the drawing.
use Rattle.std.proofs.Common.{◌≡◌, Result, Ok, Err, IfOk, ℕ, ◌<◌, ◌^◌, Option, Some, List, length}
use Rattle.std.proofs.Common.{refl, sym, ◌∙◌, subst}
use Rattle.plane.specs.Rule.Plans.{Plan, object, plan}
use Rattle.plane.specs.Runs.Timetables.{IsTimetable, Timed}
use Rattle.plane.specs.declared.kinds.Edge.{Edge}
use Rattle.plane.specs.declared.kinds.Placed.{Placed}
use Rattle.straight_predicates.specs.EdgeEvents.{AreEventsOf}
use Rattle.straight_predicates.specs.EdgeLists.{AreAllClose, AreSorted, IsCloseToAll, edge_of}
use Rattle.straight_predicates.specs.Tables.{table_of}
use Rattle.tubes.specs.Settled.{AreFacings, IsFirstForeign, edges_at}
use Rattle.tubes.specs.TubedEdges.{IsTubedList}
use Rattle.tubes.specs.declared.kinds.EdgeList.{EdgeList}
use Rattle.certificate_checker.specs.declared.case.Case.{Case}
use Rattle.certificate_checker.specs.Cases.{AreFirsts, AreHeld, IsFit, IsListed, judged}
use Rattle.certificate_checker.specs.Rules.{HasCounts, HasEdges}
use Rattle.certificate_checker.specs.Subjects.{Claims, Subject, claims, point_in}
use Rattle.certificate_checker.specs.Verdicts.{AllRules, FirstBroken, IsBroken, IsTableOf, Proves}
use Rattle.certificate_checker.specs.Verdicts.{corner, counts, first, subject_of}

-- a subject with other lists of edges and points
abbrev subject_with : Plan → Claims → List Timed → List Edge → List Placed → Subject
subject_with d c table edges points =
    record { drawing = d; edges = edges; points = points; table = table; claims = c }

to_lists : (P : Subject → Type 0) (d : Plan) (c : Claims) (table : List Timed) (edges : List Edge)
    (points : List Placed)
    → edges ≡ edges_at d (λ n. c.level) → points ≡ d.points → P (subject_of d c table)
    → P (subject_with d c table edges points)
to_lists P d c table edges points e q x =
    subst (λ es. P (subject_with d c table es points)) (sym e)
    (subst (λ ps. P (subject_with d c table (edges_at d (λ n. c.level)) ps)) (sym q) x)

from_lists : (P : Subject → Type 0) (d : Plan) (c : Claims) (table : List Timed) (edges : List Edge)
    (points : List Placed)
    → edges ≡ edges_at d (λ n. c.level) → points ≡ d.points
    → P (subject_with d c table edges points)
    → P (subject_of d c table)
from_lists P d c table edges points e q x =
    subst (λ ps. P (subject_with d c table (edges_at d (λ n. c.level)) ps)) q
    (subst (λ es. P (subject_with d c table es points)) e x)

-- ---- rules 2 and 3
pub table_at : (d : Plan) (level : ℕ) (edges : List Edge) (table : List Timed)
    → edges ≡ edges_at d (λ n. level) → IsTimetable (length edges) (edge_of edges) table
    → IsTableOf d level table
table_at d level edges table e t = subst (λ es. IsTimetable (length es) (edge_of es) table) e t

pub counts_at : (d : Plan) (c : Claims) (table : List Timed) (edges : List Edge)
    → edges ≡ edges_at d (λ n. c.level) → HasCounts (subject_with d c table edges d.points)
    → HasCounts (subject_of d c table)
counts_at d c table edges e x = from_lists HasCounts d c table edges d.points e refl x

pub miscounted : (d : Plan) (c : Claims) (table : List Timed) (edges : List Edge)
    → HasEdges d c.level → edges ≡ edges_at d (λ n. c.level) → IsTableOf d c.level table
    → (HasCounts (subject_with d c table edges d.points) → ⊥) → IsBroken d c 2 0
miscounted d c table edges h e t n =
    first h table t
    (counts refl refl (λ x. n (to_lists HasCounts d c table edges d.points e refl x)))

pub foreign : (d : Plan) (c : Claims) (table : List Timed) (k : ℕ) → HasEdges d c.level
    → IsTableOf d c.level table → HasCounts (subject_of d c table)
    → IsFirstForeign d (λ n. c.level) table (Some k) → IsBroken d c 3 k
foreign d c table k h t n x =
    first h table t (corner refl x.0 (record { counts = n; corners = x.2 }) x.1)

pub found_is : (d : Plan) (level : ℕ) (list : EdgeList) (table : List Timed) (es fs : List Edge)
    (low high lows highs : List ℕ) (events : ℕ) (found : Option ℕ)
    → IsTubedList d (λ n. level) list
    → ((level : ℕ → ℕ) (table : List Timed) → IsTubedList d level list
    → IsTimetable (length list.edges.items) (edge_of list.edges.items) table
    → AreEventsOf list.edges.items table lows highs → length table ≡ events
    → IsFirstForeign d level table found)
    → es ≡ list.edges.items → IsTimetable (length es) (edge_of es) table → fs ≡ list.edges.items
    → AreEventsOf fs table low high → lows ≡ low → highs ≡ high → events ≡ length table
    → IsFirstForeign d (λ n. level) table found
found_is d level list table es fs low high lows highs events found l f e t g a p q n =
    f (λ n. level) table l (subst (λ es. IsTimetable (length es) (edge_of es) table) e t)
    (subst (λ ls. AreEventsOf list.edges.items table ls highs) (sym p)
    (subst (λ hs. AreEventsOf list.edges.items table low hs) (sym q)
    (subst (λ es. AreEventsOf es table low high) g a))) (sym n)

-- ---- a case
pub fits : (k : Case) (list : EdgeList)
    → IsListed (plan k.drawing.now) (claims k.certificate.now) list (table_of k.table.now)
    → k.edges.now ≡ list.edges.items → k.owners.now ≡ list.owners.items
    → k.points.now ≡ (plan k.drawing.now).points → length (plan k.drawing.now).points < 2 ^ 30
    → AreFacings (plan k.drawing.now) (λ n. (claims k.certificate.now).level) k.facings.now
    → AreFirsts (plan k.drawing.now) (claims k.certificate.now).level k.firsts.now
    → AreHeld (plan k.drawing.now) (claims k.certificate.now).level
    (claims k.certificate.now).places k.held.now → IsFit k
fits k list l e o p few facings firsts held =
    let d = plan k.drawing.now in
    let c = claims k.certificate.now in
    let table = table_of k.table.now in
    let at : k.edges.now ≡ edges_at d (λ n. c.level) = e ∙ l.edges.edges in record {
      few_edges = subst (λ es. length es < 2 ^ 31) (sym e) l.few_edges;
      few_points = subst (λ ps. length ps < 2 ^ 30) (sym p) few;
      sorted = subst AreSorted (sym e) l.usable.sorted;
      close = subst AreAllClose (sym e) l.usable.close;
      near = subst (λ ps. (j : ℕ) → j < length ps → IsCloseToAll k.edges.now (point_in ps j))
          (sym p) (subst (λ es. (j : ℕ) → j < length d.points → IsCloseToAll es (object d j))
          (sym e) l.usable.points);
      table = subst (λ es. IsTimetable (length es) (edge_of es) table) (sym at) l.is_table;
      counts = to_lists HasCounts d c table k.edges.now k.points.now at p l.counts;
      corners = l.corners;
      edges_are = at;
      points_are = p;
      owners = o ∙ l.edges.owners;
      facings = facings;
      firsts = firsts;
      held = held;
    }

pub case_proves : (k : Case) → IsFit k → AllRules (judged k)
    → Proves (plan k.drawing.now) (claims k.certificate.now)
case_proves k f x = record {
  table = table_of k.table.now;
  is_table = table_at (plan k.drawing.now) (claims k.certificate.now).level k.edges.now
      (table_of k.table.now) f.edges_are f.table;
  rules = from_lists AllRules (plan k.drawing.now) (claims k.certificate.now)
      (table_of k.table.now) k.edges.now k.points.now f.edges_are f.points_are x;
}

pub case_broken : (k : Case) (rule place : ℕ) → IsFit k → FirstBroken (judged k) rule place
    → IsBroken (plan k.drawing.now) (claims k.certificate.now) rule place
case_broken k rule place f x =
    first f.counts.edges (table_of k.table.now)
    (table_at (plan k.drawing.now) (claims k.certificate.now).level k.edges.now
    (table_of k.table.now) f.edges_are f.table)
    (from_lists (λ s. FirstBroken s rule place) (plan k.drawing.now) (claims k.certificate.now)
    (table_of k.table.now) k.edges.now k.points.now f.edges_are f.points_are x)

pub if_ok : {A E : Type 0} (P Q : A → Type 0) (r : Result A E) → ((a : A) → P a → Q a) → IfOk r P
    → IfOk r Q
if_ok P Q (Ok a) f x = f a x
if_ok P Q (Err e) f x = x
