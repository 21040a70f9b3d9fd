-- Before the first event.
use Rattle.std.proofs.Common.{◌≡◌, ℕ, zero, suc, ◌<◌, Bool, true, false, List, [], length}
use Rattle.std.proofs.Common.{replicate, get_or, arith, ap, sym, ◌∙◌, subst}
use Rattle.std.proofs.lemmas.List.{length-replicate}
use Rattle.plane.specs.declared.kinds.Edge.{Edge}
use Rattle.plane.specs.Faces.Halves.{Half, number}
use Rattle.plane.specs.Runs.Gaps.{Gap}
use Rattle.plane.specs.Runs.Moves.{steps_from}
use Rattle.plane.specs.Runs.Timetables.{Timed}
use Rattle.straight_predicates.specs.EdgeEvents.{AreEventsOf, IsWidest}
use Rattle.half_edges.specs.HalfEdges.{HalfEdges}
use Rattle.event_mesh.proofs.MovedEvents.{move_event_at}
use Rattle.event_mesh.proofs.TurnedEvents.{begin}
use Rattle.event_mesh.specs.Built.{AreEnds, IsMeshOf}
use Rattle.event_mesh.specs.Turned.{IsEventAt, IsTurned}
use Rattle.certificate_checker.specs.declared.state.Spot.{Spot}
use Rattle.certificate_checker.specs.Marked.{IsMarked}
use Rattle.certificate_checker.specs.Placed.{ArePlacedTo, AreSpots}
use Rattle.certificate_checker.specs.Progress.{AreMarkedTo, IsMovedTo}
use Rattle.certificate_checker.specs.Rules.{HasCounts}
use Rattle.certificate_checker.specs.Subjects.{Subject, edge, moves}

clash : false ≡ true → ⊥
clash e = cc

none_set : (n i : ℕ) → get_or (replicate n false) i false ≡ true → ⊥
none_set zero i e = clash e
none_set (suc n) zero e = clash e
none_set (suc n) (suc i) e = none_set n i e

pub unmarked : (marks : List Bool) (n : ℕ) (h : Half) → marks ≡ replicate n false → IsMarked marks h
    → ⊥
unmarked marks n h e m = none_set n (number h) (subst (λ (ms : List Bool). IsMarked ms h) e m)

pub none_marked : (s : Subject) (P : Gap → Half → Type 0) (marks : List Bool) (n : ℕ)
    → marks ≡ replicate n false → n ≡ length s.claims.notes → AreMarkedTo s P 0 marks
none_marked s P marks n e f = record {
  size = ap length e ∙ length-replicate n false ∙ f;
  each = λ h. (
    (λ m. absurd (unmarked marks n h e m)),
    (λ q. absurd (let l = q.1 in omega (arith, l))),
  );
}

pub none_placed : (s : Subject) (spots : List Spot) (marks : List Bool) (n next bad : ℕ)
    → AreSpots s.points spots → next ≡ 0 → bad ≡ length s.points → marks ≡ replicate n false
    → n ≡ length s.claims.notes
    → ArePlacedTo s 0 next bad spots marks
none_placed s spots marks n next bad a e b m f = record {
  sorted = a;
  within = omega (arith, e);
  later = λ i j k l q. absurd (omega (arith, q));
  judged = λ i l. absurd (omega (arith, l, e));
  most = omega (arith, b);
  unplaced = λ l. absurd (omega (arith, l, b));
  size = ap length m ∙ length-replicate n false ∙ f;
  each = λ h. (
    (λ x. absurd (unmarked marks n h m x)),
    (λ q. absurd (let l = q.1 in omega (arith, l, e))),
  );
}

pub ends_of : (edges : List Edge) (table : List Timed) (events : ℕ) (low high : List ℕ)
    → events ≡ length table → AreEventsOf edges table low high → AreEnds events low high
ends_of edges table events low high e a = record {
  pairs = a.high_count ∙ sym a.low_count;
  low_within = λ i l. (let m = a.low_within i (inside i l) in omega (arith, m, e));
  high_within = λ i l. (let m = a.high_within i (inside i l) in omega (arith, m, e));
  apart = λ i l. a.apart i (inside i l);
}
  where
    inside : (i : ℕ) → i < length low → i < length edges
    inside i l = let c = a.low_count in omega (arith, l, c)

module _ (s : Subject) (n : HasCounts s) (events : ℕ) (low high : List ℕ)
    (a : AreEventsOf s.edges s.table low high) where
  low_at : (e : ℕ) → e < length low
      → IsEventAt (steps_from [] (moves s)) (get_or low e 0) (edge s e).low
  low_at e l =
      let m : e < length s.edges = (let c = a.low_count in omega (arith, l, c)) in
      subst (IsEventAt (steps_from [] (moves s)) (get_or low e 0)) (a.low_at e m)
      (move_event_at [] s.table s.claims.positions (get_or low e 0) n.positions
      (a.low_within e m))

  high_at : (e : ℕ) → e < length low
      → IsEventAt (steps_from [] (moves s)) (get_or high e 0) (edge s e).high
  high_at e l =
      let m : e < length s.edges = (let c = a.low_count in omega (arith, l, c)) in
      subst (IsEventAt (steps_from [] (moves s)) (get_or high e 0)) (a.high_at e m)
      (move_event_at [] s.table s.claims.positions (get_or high e 0) n.positions
      (a.high_within e m))

  pub none_turned : (mesh : HalfEdges) → IsMeshOf events low high (length low) mesh
      → IsTurned (length s.edges) (edge s) (steps_from [] (moves s)) mesh 0
  none_turned mesh is =
      subst (λ (m : ℕ). IsTurned m (edge s) (steps_from [] (moves s)) mesh 0) a.low_count
      (begin (edge s) (steps_from [] (moves s)) events low high mesh is low_at high_at)

pub none_moved : (s : Subject) (live : List ℕ) (most fan : ℕ) (mesh : HalfEdges) → live ≡ []
    → IsWidest s.table (length s.table) most → fan ≡ most
    → IsTurned (length s.edges) (edge s) (steps_from [] (moves s)) mesh 0
    → IsMovedTo s 0 live fan mesh
none_moved s live most fan mesh e w f t = record {
  passes = λ j l. absurd (omega (arith, l));
  live = e;
  fan = λ j l. (let m = w.most j l in omega (arith, m, f));
  turned = t;
}
