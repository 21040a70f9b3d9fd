-- Events that pass make a run.
use Rattle.std.proofs.Common.{◌≡◌, ℕ, zero, suc, ◌<◌, ◌≤◌, List, [], length, take, get_or, arith}
use Rattle.std.proofs.Common.{ap, ◌∙◌, subst}
use Rattle.std.proofs.lemmas.List.{take_all}
use Rattle.plane.specs.Faces.Replays.{no_step}
use Rattle.plane.specs.Runs.Moves.{AreGood, no_move, step_of, steps_from}
use Rattle.plane.specs.Runs.Steps.{Run}
use Rattle.plane.specs.Runs.Timetables.{IsTimetable, PassesAt, move_at}
use Rattle.certificate_checker.specs.Subjects.{Subject, edge, event, live_list, moves, position_at}
use Rattle.certificate_checker.specs.Rules.{HasCounts, PassesEvent}
use Rattle.certificate_checker.proofs.PlaneLaws.{moved_at, moves_length, step_is, table_goes_on}
use Rattle.certificate_checker.proofs.PlaneLaws.{timetable_run}

pub front_all : {X : Type 0} (xs : List X) (n : ℕ) → length xs ≡ n → take n xs ≡ xs
front_all xs n e = take_all n xs (omega (arith, e))

module _ (s : Subject) (t : IsTimetable (length s.edges) (edge s) s.table) (n : HasCounts s) where
  pub moves_size : length (moves s) ≡ length s.table
  moves_size = moves_length s.table s.claims.positions n.positions

  pub move_is : (k : ℕ) → k < length s.table
      → get_or (moves s) k no_move ≡ move_at (event s k) (position_at s k)
  move_is k l = moved_at s.table s.claims.positions k n.positions l

  passes : (k : ℕ) → PassesEvent s k
      → PassesAt (edge s) (live_list s k) (event s k) (position_at s k)
  passes k p = record {
    block = p.block.within;
    ends = p.block.ends;
    below = p.between.below;
    above = p.between.above;
    slopes = p.slopes;
  }

  pub good_to : (k : ℕ) → k ≤ length s.table → ((j : ℕ) → j < k → PassesEvent s j)
      → AreGood (length s.edges) (edge s) [] (take k (moves s))
  good_to zero l f = tt
  good_to (suc k) l f =
      table_goes_on (length s.edges) (edge s) s.table s.claims.positions t n.positions k l
      (good_to k (omega (arith, l)) (λ j m. f j (omega (arith, m))))
      (passes k (f k (omega arith)))

  module _ (all : (k : ℕ) → k < length s.table → PassesEvent s k) where
    pub all_good : AreGood (length s.edges) (edge s) [] (moves s)
    all_good = subst (AreGood (length s.edges) (edge s) [])
        (front_all (moves s) (length s.table) moves_size)
        (good_to (length s.table) (omega arith) all)

    pub is_run : Run (length s.edges) (edge s) (steps_from [] (moves s))
    is_run = timetable_run (length s.edges)
        (edge s) s.table s.claims.positions t n.positions all_good

  pub step_at_event : (k : ℕ) → k < length s.table
      → get_or (steps_from [] (moves s)) k no_step
      ≡ step_of (live_list s k) (move_at (event s k) (position_at s k))
  step_at_event k l = step_is [] (moves s) k (let e = moves_size in omega (arith, l, e))
      ∙ ap (λ v. step_of (live_list s k) v) (move_is k l)
