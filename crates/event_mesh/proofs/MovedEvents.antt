-- The events of moves.
use Rattle.std.proofs.Common.{◌≡◌, ℕ, suc, ◌<◌, List, [], ◌∷◌, length, map, take, get_or, refl}
use Rattle.std.proofs.Common.{arith, ap, sym, ◌∙◌, subst}
use Rattle.std.proofs.Math.ListN.{get_or-map}
use Rattle.std.proofs.Math.Seq.{take-suc}
use Rattle.plane.specs.declared.kinds.Point.{Point}
use Rattle.plane.specs.declared.kinds.Edge.{Edge}
use Rattle.plane.specs.Runs.Steps.{Step, GoodStep, Replayed, after}
use Rattle.plane.specs.Runs.Moves.{AreGood, Move, live_from, made, no_move, step_of, steps_from}
use Rattle.plane.specs.Runs.Timetables.{Timed, move_at, moves_at, no_event}
use Rattle.plane.specs.Faces.Replays.{no_step}
use Rattle.plane.proofs.MoveLemmas.MadeSteps.{live_made, made_more, replayed, step_is, steps_length}
use Rattle.plane.proofs.MoveLemmas.TimetableRuns.{moves_length}
use Rattle.event_mesh.specs.Turned.{IsEvent, IsEventAt, ending_at, points_of}

-- the points of the steps of a timetable's moves are those of the timetable
pub points_of_moves : (now : List ℕ) (table : List Timed) (ps : List ℕ) → length ps ≡ length table
    → points_of (steps_from now (moves_at table ps)) ≡ map (λ (t : Timed). t.at) table
points_of_moves now [] ps e = refl
points_of_moves now (t ∷ table) [] e = absurd (omega (arith, e))
points_of_moves now (t ∷ table) (p ∷ ps) e =
    ap (λ (pts : List Point). t.at ∷ pts)
    (points_of_moves (after (step_of now (move_at t p))) table ps (omega (arith, e)))

pub move_event_at : (now : List ℕ) (table : List Timed) (ps : List ℕ) (k : ℕ)
    → length ps ≡ length table → k < length table
    → IsEventAt (steps_from now (moves_at table ps)) k (get_or table k no_event).at
move_event_at now table ps k e l =
    let steps = steps_from now (moves_at table ps) in
    let n = steps_length now (moves_at table ps) ∙ moves_length table ps e in
    record {
      within = omega (arith, n, l);
      point = sym (get_or-map (λ (s : Step). s.at) (steps_from now (moves_at table ps)) k no_step)
          ∙ ap (λ (pts : List Point). get_or pts k no_step.at) (points_of_moves now table ps e)
          ∙ get_or-map (λ (t : Timed). t.at) table k no_event;
    }

-- a good move is an event
pub good_event : (m : ℕ) (E : ℕ → Edge) (vs : List Move) (k : ℕ) → k < length vs
    → AreGood m E [] (take (suc k) vs)
    → IsEvent m E (steps_from [] vs) k (get_or vs k no_move).starting
    (ending_at (live_from [] (take k vs)) (get_or vs k no_move))
good_event m E vs k l good =
    let v = get_or vs k no_move in
    let is = step_is [] vs k l in
    let n = steps_length [] vs in
    let done = subst (λ (ws : List Move). Replayed m E (made [] ws)) (take-suc vs k no_move l)
    (replayed m E [] (take (suc k) vs) tt good) in
    let last = subst (λ (ss : List Step). Replayed m E ss) (made_more [] (take k vs) v) done in
    record {
      within = omega (arith, n, l);
      good = subst (λ (s : Step). GoodStep m E s)
          (ap (λ (now : List ℕ). step_of now v) (live_made [] (take k vs)) ∙ sym is) last.1;
      starting = ap (λ (s : Step). s.starting) is;
      ending = ap (λ (s : Step). s.ending) is;
    }
