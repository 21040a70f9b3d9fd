-- The edges beside a place of the live list, and those that start at an event, are few enough for
-- cells.
use Rattle.std.proofs.Common.{◌≡◌, ℕ, zero, suc, ◌^◌, ◌<◌, Option, List, [], ◌∷◌, length}
use Rattle.std.proofs.Common.{arith, get_or, subst, sym}
use Rattle.plane.specs.declared.kinds.Edge.{Edge}
use Rattle.plane.specs.Lists.{Has}
use Rattle.plane.specs.Runs.Gaps.{edge_at, edge_before}
use Rattle.plane.specs.Runs.Timetables.{IsTimetable, Timed, no_event}
use Rattle.straight_predicates.specs.EdgeLists.{AreBelow, edge_of}
use Rattle.line_sweep.specs.CellEdges.{IsCellEdge}
use Rattle.line_sweep.proofs.EventEdges.{event_timed}

module _ (m : ℕ) (few : m < 2 ^ 31) where
  at_known : (es : List ℕ) (i : ℕ) → AreBelow m es → IsCellEdge (edge_at es i)
  at_known [] i k = tt
  at_known (e ∷ es) zero k = let l = k 0 (omega arith) in omega (arith, l, few)
  at_known (e ∷ es) (suc i) k = at_known es i (λ j l. k (suc j) (omega (arith, l)))

  before_known : (es : List ℕ) (i : ℕ) → AreBelow m es → IsCellEdge (edge_before es i)
  before_known es zero k = tt
  before_known es (suc i) k = at_known es i k

  pub upper_known : (es : List ℕ) (i : ℕ) (o : Option ℕ) → AreBelow m es → o ≡ edge_at es i
      → IsCellEdge o
  upper_known es i o k q = subst IsCellEdge (sym q) (at_known es i k)

  pub lower_known : (es : List ℕ) (i : ℕ) (o : Option ℕ) → AreBelow m es → o ≡ edge_before es i
      → IsCellEdge o
  lower_known es i o k q = subst IsCellEdge (sym q) (before_known es i k)

pub starting_known : (edges : List Edge) (table : List Timed) (k : ℕ) → length edges < 2 ^ 31
    → IsTimetable (length edges) (edge_of edges) table → k < length table
    → (starting : List ℕ) → starting ≡ (get_or table k no_event).starting → (e : ℕ)
    → Has e starting → e < 2 ^ 31
starting_known edges table k few t l starting q e h =
    let b = ((event_timed edges table k t l).starting e).0
    (subst (λ (es : List ℕ). Has e es) q h) in
    let n = b.0 in
    omega (arith, n, few)
