-- The square with a chord as a timetable with positions: the moves make its steps, and each pair of
-- neighbours is closed once.
use Rattle.std.proofs.Common.{◌≡◌, ◌↔◌, ℕ, zero, suc, ◌<◌, ◌⊎◌, Option, Some, None, inl, inr, List}
use Rattle.std.proofs.Common.{[], ◌∷◌, map, get_or, pos, ◌<ℤ◌, refl, arith, sym, subst, take}
use Rattle.std.proofs.lemmas.Int.{ints}
use Rattle.plane.specs.declared.kinds.Point.{Point}
use Rattle.plane.specs.Lists.{Has, Neighbours}
use Rattle.plane.specs.Forms.Vectors.{Edge, Before}
use Rattle.plane.specs.Runs.Steps.{Step, GoodStep, Run, AtSome}
use Rattle.plane.specs.Runs.Sweeps.{IsEventList}
use Rattle.plane.specs.Runs.Positions.{turn_at}
use Rattle.plane.specs.Faces.Replays.{no_step}
use Rattle.plane.specs.Runs.Moves.{Move, steps_from, live_from, AreGood}
use Rattle.plane.specs.Runs.Timetables.{Timed, IsTimed, IsTimetable, moves_at, no_event, PassesAt}
use Rattle.plane.specs.Runs.Gaps.{Gap, closed_gaps}
use Rattle.plane.proofs.Turning.FanNumbers.{run_good}
use Rattle.plane.proofs.MoveLemmas.TimetableRuns.{point_at, has_point, table_goes_on, timetable_run}
use Rattle.plane.proofs.Worked.SquareRun.{at_point, edge, steps, square_runs}

abbrev pub table : List Timed
table =
    record { at = at_point (pos 0) (pos 0); ending = []; starting = 0 ∷ 1 ∷ 2 ∷ [] }
    ∷ record { at = at_point (pos 0) (pos 4); ending = 2 ∷ []; starting = 3 ∷ [] }
    ∷ record { at = at_point (pos 4) (pos 0); ending = 0 ∷ []; starting = 4 ∷ [] }
    ∷ record { at = at_point (pos 4) (pos 4); ending = 1 ∷ 3 ∷ 4 ∷ []; starting = [] }
    ∷ []

abbrev pub places : List ℕ
places = 0 ∷ 2 ∷ 0 ∷ 0 ∷ []

abbrev pub moves : List Move
moves = moves_at table places

-- ---- its steps and its gaps compute
pub square_steps : steps_from [] moves ≡ steps
square_steps = refl

abbrev gap : Option ℕ → Option ℕ → ℕ → Gap
gap l u k = record { lower = l; upper = u; event = k }

pub square_gaps : closed_gaps moves
    ≡ gap (Some 1) (Some 2) 0 ∷ gap (Some 2) None 0 ∷ gap None (Some 0) 0 ∷ gap (Some 0) (Some 1) 0
    ∷ gap None (Some 4) 2 ∷ gap (Some 4) (Some 1) 2 ∷ gap (Some 1) (Some 3) 1 ∷ gap (Some 3) None 1
    ∷ []
square_gaps = refl

-- ---- it is a timetable
-- the points of a run are exactly the ends of its edges
at_has : (p : Point) (ss : List Step) → AtSome p ss → Has p (map point_at ss)
at_has p ss (s, h, q) = subst (λ (x : Point). Has x (map point_at ss)) (sym q) (has_point s ss h)

has_step : (p : Point) (ss : List Step) → Has p (map point_at ss) → AtSome p ss
has_step p [] h = absurd h
has_step p (s ∷ ss) (inl q) = (s, inl refl, q)
has_step p (s ∷ ss) (inr h) = let (t, k, q) = has_step p ss h in (t, inr k, q)

rising : (ss : List Step) → Neighbours (λ s t. Before s.at t.at) ss
    → Neighbours Before (map point_at ss)
rising [] h = tt
rising (s ∷ []) h = (tt, tt)
rising (s ∷ (t ∷ ss)) h = (h.0, rising (t ∷ ss) h.1)

pub run_events : (m : ℕ) (E : ℕ → Edge) (ss : List Step) → Run m E ss
    → IsEventList m E (map point_at ss)
run_events m E ss run = record {
  rises = rising ss run.rises;
  ends = λ e l. (at_has (E e).low ss (run.ends e l).0, at_has (E e).high ss (run.ends e l).1);
  events = λ p h. let (s, k, q) = has_step p ss h in
      subst (λ (x : Point). (e : ℕ) × (e < m) × (((E e).low ≡ x) ⊎ ((E e).high ≡ x))) (sym q)
      (run.events s k);
  edges = run.edges;
}

good : (k : ℕ) → k < 4 → GoodStep 5 edge (get_or steps k no_step)
good k l = run_good 5 edge steps k square_runs l

starts : (k : ℕ) (l : k < 4) (e : ℕ)
    → Has e (get_or steps k no_step).starting
    ↔ ((e < 5) × ((edge e).low ≡ (get_or steps k no_step).at))
starts k l e = ((λ h. (good k l).starting_only e h), (λ a. (good k l).starting_all e a.0 a.1))

ends : (k : ℕ) (l : k < 4) (e : ℕ)
    → Has e (get_or steps k no_step).ending
    ↔ ((e < 5) × ((edge e).high ≡ (get_or steps k no_step).at))
ends k l e = ((λ h. (good k l).ending_only e h), (λ a. (good k l).ending_all e a.0 a.1))

turned : (e : ℕ) → Has e (1 ∷ 3 ∷ 4 ∷ []) → Has e (4 ∷ 1 ∷ 3 ∷ [])
turned e (inl q) = inr (inl q)
turned e (inr (inl q)) = inr (inr (inl q))
turned e (inr (inr (inl q))) = inl q
turned e (inr (inr (inr n))) = absurd n

back : (e : ℕ) → Has e (4 ∷ 1 ∷ 3 ∷ []) → Has e (1 ∷ 3 ∷ 4 ∷ [])
back e (inl q) = inr (inr (inl q))
back e (inr (inl q)) = inl q
back e (inr (inr (inl q))) = inr (inl q)
back e (inr (inr (inr n))) = absurd n

first : IsTimed 5 edge (get_or table 0 no_event)
first = record {
  starting = starts 0 (omega arith);
  by_slope = (inl (omega (arith, ints)), (inl (omega (arith, ints)), (tt, tt)));
  ending = ends 0 (omega arith);
  by_number = tt;
}

second : IsTimed 5 edge (get_or table 1 no_event)
second = record {
  starting = starts 1 (omega arith);
  by_slope = (tt, tt);
  ending = ends 1 (omega arith);
  by_number = (tt, tt);
}

third : IsTimed 5 edge (get_or table 2 no_event)
third = record {
  starting = starts 2 (omega arith);
  by_slope = (tt, tt);
  ending = ends 2 (omega arith);
  by_number = (tt, tt);
}

fourth : IsTimed 5 edge (get_or table 3 no_event)
fourth = record {
  starting = starts 3 (omega arith);
  by_slope = tt;
  ending = λ e. (
    (λ h. (ends 3 (omega arith) e).0 (turned e h)),
    (λ a. back e ((ends 3 (omega arith) e).1 a)),
  );
  by_number = (omega arith, (omega arith, (tt, tt)));
}

pub square_timetable : IsTimetable 5 edge table
square_timetable = record {
  events = run_events 5 edge steps square_runs;
  timed = (first, (second, (third, (fourth, tt))));
}

-- ---- its moves pass their tests, and so are a run
one_of : (P : ℕ → Type 0) (a : ℕ) → P a → (e : ℕ) → Has e (a ∷ []) → P e
one_of P a p e (inl q) = subst P (sym q) p
one_of P a p e (inr n) = absurd n

three_of : (P : ℕ → Type 0) (a b c : ℕ) → P a → P b → P c → (e : ℕ) → Has e (a ∷ b ∷ c ∷ []) → P e
three_of P a b c p q r e (inl i) = subst P (sym i) p
three_of P a b c p q r e (inr (inl i)) = subst P (sym i) q
three_of P a b c p q r e (inr (inr (inl i))) = subst P (sym i) r
three_of P a b c p q r e (inr (inr (inr n))) = absurd n

pass_first : PassesAt edge [] (get_or table 0 no_event) 0
pass_first = record {
  block = omega arith;
  ends = λ e h. absurd h;
  below = λ i q. absurd (omega (arith, q));
  above = λ l. absurd (omega (arith, l));
  slopes = three;
}
  where
    three : (i : ℕ) → suc i < 3
        → pos 0 <ℤ turn_at edge (get_or (0 ∷ 1 ∷ 2 ∷ []) i 0)
        (edge (get_or (0 ∷ 1 ∷ 2 ∷ []) (suc i) 0)).high
    three zero l = omega (arith, ints)
    three (suc zero) l = omega (arith, ints)
    three (suc (suc i)) l = absurd (omega (arith, l))

pass_second : PassesAt edge (0 ∷ 1 ∷ 2 ∷ []) (get_or table 1 no_event) 2
pass_second = record {
  block = omega arith;
  ends = one_of (λ e. (edge e).high ≡ at_point (pos 0) (pos 4)) 2 refl;
  below = lower;
  above = λ l. absurd (omega (arith, l));
  slopes = λ i l. absurd (omega (arith, l));
}
  where
    lower : (i : ℕ) → 2 ≡ suc i
        → pos 0 <ℤ turn_at edge (get_or (0 ∷ 1 ∷ 2 ∷ []) i 0) (at_point (pos 0) (pos 4))
    lower zero q = absurd (omega (arith, q))
    lower (suc zero) q = omega (arith, ints)
    lower (suc (suc i)) q = absurd (omega (arith, q))

pass_third : PassesAt edge (0 ∷ 1 ∷ 3 ∷ []) (get_or table 2 no_event) 0
pass_third = record {
  block = omega arith;
  ends = one_of (λ e. (edge e).high ≡ at_point (pos 4) (pos 0)) 0 refl;
  below = λ i q. absurd (omega (arith, q));
  above = λ l. omega (arith, ints);
  slopes = λ i l. absurd (omega (arith, l));
}

pass_fourth : PassesAt edge (4 ∷ 1 ∷ 3 ∷ []) (get_or table 3 no_event) 0
pass_fourth = record {
  block = omega arith;
  ends = three_of (λ e. (edge e).high ≡ at_point (pos 4) (pos 4)) 4 1 3 refl refl refl;
  below = λ i q. absurd (omega (arith, q));
  above = λ l. absurd (omega (arith, l));
  slopes = λ i l. absurd (omega (arith, l));
}

pub square_run_by_tests : Run 5 edge (steps_from [] moves)
square_run_by_tests =
    let goes : (k : ℕ) → k < 4 → AreGood 5 edge [] (take k moves)
    → PassesAt edge (live_from [] (take k moves)) (get_or table k no_event) (get_or places k 0)
    → AreGood 5 edge [] (take (suc k) moves) =
    λ k l. table_goes_on 5 edge table places square_timetable refl k l in
    timetable_run 5 edge table places square_timetable refl
    (goes 3 (omega arith)
    (goes 2 (omega arith)
    (goes 1 (omega arith) (goes 0 (omega arith) tt pass_first) pass_second) pass_third)
    pass_fourth)
