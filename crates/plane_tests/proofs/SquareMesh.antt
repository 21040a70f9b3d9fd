-- The square with a chord: a mesh of its events can be turned event by event.
use Rattle.std.proofs.Common.{◌≢◌, ℕ, zero, suc, ◌<◌, List, [], ◌∷◌, slice_index, refl, arith}
use Rattle.plane.specs.Runs.Sweeps.{IsEventList}
use Rattle.plane.proofs.Turning.FanNumbers.{run_good}
use Rattle.plane.proofs.Worked.SquareRun.{edge, steps, square_runs}
use Rattle.plane.proofs.Worked.SquareTimetable.{run_events}
use Rattle.half_edges.specs.HalfEdges.{HalfEdges}
use Rattle.event_mesh.specs.Built.{AreEnds, IsMeshOf}
use Rattle.event_mesh.specs.Fans.{CanTurn}
use Rattle.event_mesh.specs.Turned.{IsEvent, IsEventAt, IsTurned, nth_step, points_of}
use Rattle.event_mesh.proofs.TurnedEvents.{begin, can_turn}

abbrev pub lows : List ℕ
lows = 0 ∷ 0 ∷ 0 ∷ 1 ∷ 2 ∷ []

abbrev pub highs : List ℕ
highs = 2 ∷ 3 ∷ 1 ∷ 3 ∷ 3 ∷ []

-- what holds of each of five numbers
five : (P : ℕ → Type 0) → P 0 → P 1 → P 2 → P 3 → P 4 → (e : ℕ) → e < 5 → P e
five P a b c d f zero l = a
five P a b c d f (suc zero) l = b
five P a b c d f (suc (suc zero)) l = c
five P a b c d f (suc (suc (suc zero))) l = d
five P a b c d f (suc (suc (suc (suc zero)))) l = f
five P a b c d f (suc (suc (suc (suc (suc n))))) l = absurd (omega (arith, l))

pub square_ends : AreEnds 4 lows highs
square_ends = record {
  pairs = refl;
  low_within =
      five (λ e. slice_index lows e < 4) (omega arith) (omega arith) (omega arith) (omega arith)
      (omega arith);
  high_within =
      five (λ e. slice_index highs e < 4) (omega arith) (omega arith) (omega arith) (omega arith)
      (omega arith);
  apart = five (λ e. slice_index lows e ≢ slice_index highs e) (λ q. omega (arith, q))
      (λ q. omega (arith, q)) (λ q. omega (arith, q)) (λ q. omega (arith, q))
      (λ q. omega (arith, q));
}

at : (k : ℕ) → k < 4 → IsEventAt steps k (nth_step steps k).at
at k l = record { within = l; point = refl }

pub begun : (mesh : HalfEdges) → IsMeshOf 4 lows highs 5 mesh → IsTurned 5 edge steps mesh 0
begun mesh is =
    begin edge steps 4 lows highs mesh is
    (five (λ e. IsEventAt steps (slice_index lows e) (edge e).low) (at 0 (omega arith))
    (at 0 (omega arith)) (at 0 (omega arith)) (at 1 (omega arith)) (at 2 (omega arith)))
    (five (λ e. IsEventAt steps (slice_index highs e) (edge e).high) (at 2 (omega arith))
    (at 3 (omega arith)) (at 1 (omega arith)) (at 3 (omega arith)) (at 3 (omega arith)))

pub square_events : IsEventList 5 edge (points_of steps)
square_events = run_events 5 edge steps square_runs

pub square_event : (k : ℕ) → k < 4
    → IsEvent 5 edge steps k (nth_step steps k).starting (nth_step steps k).ending
square_event k l = record {
  within = l;
  good = run_good 5 edge steps k square_runs l;
  starting = refl;
  ending = refl;
}

pub square_turns : (mesh : HalfEdges) (k : ℕ) → k < 4 → IsTurned 5 edge steps mesh k
    → CanTurn mesh (nth_step steps k).starting (nth_step steps k).ending
square_turns mesh k l is =
    can_turn 5 edge steps square_events mesh k is (nth_step steps k).starting
    (nth_step steps k).ending (square_event k l) (omega arith)
