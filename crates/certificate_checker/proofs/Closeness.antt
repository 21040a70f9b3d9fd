-- Points that are close to all edges, and the edges at an event.
use Rattle.std.proofs.Common.{ℕ, ◌<◌, inl, inr, List, [], ◌∷◌, length, map, get_or, ap, subst}
use Rattle.plane.specs.declared.kinds.Edge.{Edge}
use Rattle.plane.specs.Forms.Meets.{IsEnd}
use Rattle.plane.specs.Lists.{Has}
use Rattle.plane.specs.Runs.Timetables.{IsTimed, IsTimetable, Timed, no_event}
use Rattle.plane.proofs.ListLemmas.Lists.{each_has}
use Rattle.straight_predicates.specs.EdgeLists.{AreAllClose, AreBelow, IsCloseToAll, edge_of}
use Rattle.straight_predicates.specs.Meetings.{AreClose, EdgesAreClose}
use Rattle.certificate_checker.proofs.PlaneLaws.{has_at}

pub high_close : (edges : List Edge) (e : ℕ) → AreAllClose edges → e < length edges
    → IsCloseToAll edges (edge_of edges e).high
high_close edges e close m = record {
  ends = λ d l. (close d d l l).first;
  point = λ d l. (close d e l m).low_high;
}

map_has : (table : List Timed) (t : Timed) → Has t table
    → Has t.at (map (λ (t : Timed). t.at) table)
map_has [] t h = absurd h
map_has (u ∷ table) t (inl e) = inl (ap (λ (w : Timed). w.at) e)
map_has (u ∷ table) t (inr h) = inr (map_has table t h)

module _ (edges : List Edge) (table : List Timed) (k : ℕ)
    (t : IsTimetable (length edges) (edge_of edges) table) (l : k < length table) where
  pub event_timed : IsTimed (length edges) (edge_of edges) (get_or table k no_event)
  event_timed =
      each_has (IsTimed (length edges) (edge_of edges)) table (get_or table k no_event) t.timed
      (has_at table k no_event l)

  pub event_close : AreAllClose edges → IsCloseToAll edges (get_or table k no_event).at
  event_close close =
      let (d, m, end) = t.events.events (get_or table k no_event).at
      (map_has table (get_or table k no_event) (has_at table k no_event l)) in
      record { ends = λ e i. (close e e i i).first; point = λ e i. near d e (close e d i m) end }
    where
      near : (d e : ℕ) → EdgesAreClose (edge_of edges e) (edge_of edges d)
          → IsEnd (edge_of edges d) (get_or table k no_event).at
          → AreClose (edge_of edges e).low (get_or table k no_event).at
      near d e c (inl q) = subst (λ p. AreClose (edge_of edges e).low p) q c.low_low
      near d e c (inr q) = subst (λ p. AreClose (edge_of edges e).low p) q c.low_high

  pub starting_below : AreBelow (length edges) (get_or table k no_event).starting
  starting_below i m =
      ((event_timed.starting (get_or (get_or table k no_event).starting i 0)).0
      (has_at (get_or table k no_event).starting i 0 m)).0
