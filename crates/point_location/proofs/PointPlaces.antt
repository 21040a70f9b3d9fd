-- What the place in the live list says of a point in a run.
use Rattle.std.proofs.Common.{◌≡◌, ℕ, zero, suc, ◌+◌, ◌-◌, ◌^◌, ◌<◌, ◌≤◌, inl, inr, pos, ◌<ℤ◌}
use Rattle.std.proofs.Common.{Option, List, [], ◌∷◌, length, take, drop, get_or, refl, arith, ap}
use Rattle.std.proofs.Common.{sym, ◌∙◌, subst}
use Rattle.std.proofs.lemmas.Int.{ints}
use Rattle.plane.specs.declared.kinds.Point.{Point}
use Rattle.plane.specs.declared.kinds.Edge.{Edge}
use Rattle.plane.specs.Lists.{Has}
use Rattle.plane.specs.Forms.Meets.{IsEnd, OnStraight}
use Rattle.plane.specs.Forms.Vectors.{point, side, Before}
use Rattle.plane.specs.Runs.Gaps.{edge_at, edge_before}
use Rattle.plane.specs.Runs.Moves.{Fit, Move, live_from, made, no_move, step_of, steps_from}
use Rattle.plane.specs.Runs.Positions.{turn_at}
use Rattle.plane.specs.Runs.Steps.{GoodStep, Run, Step}
use Rattle.plane.specs.Faces.Halves.{At, AtBefore}
use Rattle.plane.specs.Faces.Replays.{list_after, no_step}
use Rattle.straight_predicates.specs.EdgeLists.{edge_of, AreBelow}
use Rattle.point_location.specs.declared.places.Place.{Place}
use Rattle.point_location.specs.declared.places.Place.TheVariants as place
use Rattle.point_location.specs.Between.{IsBetween, IsGapOf, IsOnLine}
use Rattle.point_location.specs.Places.{IsCell, IsLeastOn, IsPlaceOf}
use Rattle.point_location.specs.Replaying.{EndsOrStarts, IsMoment}
use Rattle.point_location.proofs.PlaneLaws.{before_other, has_at, side-cross, live_made, list_is}
use Rattle.point_location.proofs.PlaneLaws.{step_is, steps_length, run_known, live_line, one_line}
use Rattle.point_location.proofs.PlaneLaws.{event_end, run_good}
use Rattle.point_location.proofs.Moments.{live_room, fits_at, end_is_on, cut_run, later}
use Rattle.point_location.proofs.Moments.{done_before, todo_after}

pub event_fits : (vs : List Move) (k : ℕ) (now : List ℕ) (v : Point) → IsMoment vs k now v
    → Fit [] vs → k < length vs
    → (get_or vs k no_move).position + (get_or vs k no_move).ending ≤ length now
event_fits vs k now v at fit l =
    subst (λ (xs : List ℕ). (get_or vs k no_move).position
    + (get_or vs k no_move).ending ≤ length xs) (sym at.values) (fits_at [] vs k fit l)

at_is : (xs : List ℕ) (i e : ℕ) → At xs i e → (i < length xs) × (e ≡ get_or xs i 0)
at_is [] i e h = absurd h
at_is (x ∷ xs) zero e h = (omega arith, h)
at_is (x ∷ xs) (suc i) e h = let r = at_is xs i e h in (let l = r.0 in omega (arith, l), r.1)

module _ (edges : List Edge) (vs : List Move)
    (run : Run (length edges) (edge_of edges) (steps_from [] vs)) (k : ℕ) (now : List ℕ) (v : Point)
    (at : IsMoment vs k now v) where
  pub now_known : AreBelow (length edges) now
  now_known i l =
      run_known (length edges) (edge_of edges) vs k (get_or now i 0) run at.known
      (subst (λ (xs : List ℕ). Has (get_or now i 0) xs) at.values (has_at now i 0 l))

  pub now_room : length now ≤ length edges
  now_room = subst (λ (xs : List ℕ). length xs ≤ length edges) (sym at.values)
      (live_room (length edges) (edge_of edges) vs run k at.known)

  -- ---- at an event
  module _ (l : k < length vs) (here : (get_or vs k no_move).at ≡ v) where
    abbrev s : Step
    s = get_or (steps_from [] vs) k no_step

    s_is : s ≡ step_of now (get_or vs k no_move)
    s_is = step_is [] vs k l
        ∙ ap (λ (xs : List ℕ). step_of xs (get_or vs k no_move)) (sym at.values)

    s_at : s.at ≡ v
    s_at = ap (λ (t : Step). t.at) s_is ∙ here

    s_within : k < length (steps_from [] vs)
    s_within = let n = steps_length [] vs in omega (arith, n, l)

    s_good : GoodStep (length edges) (edge_of edges) s
    s_good = run_good (length edges) (edge_of edges) (steps_from [] vs) k run s_within

    ends_all : (e : ℕ) → e < length edges → IsEnd (edge_of edges e) s.at → EndsOrStarts s e
    ends_all e m (inl q) = inr (s_good.starting_all e m q)
    ends_all e m (inr q) = inl (s_good.ending_all e m q)

    ends_only : (e : ℕ) → EndsOrStarts s e → (e < length edges) × IsEnd (edge_of edges e) s.at
    ends_only e (inl h) = let r = s_good.ending_only e h in (r.0, inr r.1)
    ends_only e (inr h) = let r = s_good.starting_only e h in (r.0, inl r.1)

    pub some_edge : length edges < 2 ^ 31
        → (e : ℕ) × (e < 2 ^ 32 - 1) × EndsOrStarts (step_of now (get_or vs k no_move)) e
    some_edge few =
        let (e, m, end) = run.events s (has_at (steps_from [] vs) k no_step s_within) in
        (e, omega (arith, m, few), subst (λ (t : Step). EndsOrStarts t e) s_is (ends_all e m end))

    pub least_at_event : (e : ℕ) → EndsOrStarts (step_of now (get_or vs k no_move)) e
        → ((d : ℕ) → EndsOrStarts (step_of now (get_or vs k no_move)) d → e ≤ d)
        → IsLeastOn edges v e
    least_at_event e h f =
        let r = ends_only e (subst (λ (t : Step). EndsOrStarts t e) (sym s_is) h) in
        record {
          known = r.0;
          on = end_is_on (length edges) (edge_of edges) vs run e v r.0
              (subst (λ p. IsEnd (edge_of edges e) p) s_at r.1);
          least = λ d b on.
              let m : d < length edges = let q = r.0 in omega (arith, b, q) in
              let end = event_end (length edges) (edge_of edges) (steps_from [] vs) run s
              (has_at (steps_from [] vs) k no_step s_within) d m
              (subst (λ p. OnStraight (edge_of edges d) (point p)) (sym s_at) on) in
              let n = f d (subst (λ (t : Step). EndsOrStarts t d) s_is (ends_all d m end)) in
              omega (arith, b, n);
        }

  -- ---- between two events
  module _ (off : k < length vs → (get_or vs k no_move).at ≡ v → ⊥) where
    after_it : k < length vs → Before v (get_or vs k no_move).at
    after_it l = before_other (get_or vs k no_move).at v (at.coming l) (off l)

    on_one : (e : ℕ) → IsOnLine (edge_of edges) now v e → IsLeastOn edges v e
    on_one e h =
        let todo = steps_from (live_from [] (take k vs)) (drop k vs) in
        let whole = cut_run (length edges) (edge_of edges) vs run k in
        let before = done_before (length edges)
        (edge_of edges) vs run k v at.known at.passed after_it in
        let after = todo_after (length edges)
        (edge_of edges) vs run k v at.known at.passed after_it in
        let in_list = subst (λ (xs : List ℕ). Has e xs) at.values h.live_edge in
        let m = run_known (length edges) (edge_of edges) vs k e run at.known in_list in
        let on = live_line (length edges) (edge_of edges)
        (made [] (take k vs)) todo v whole before after e
        (subst (λ (xs : List ℕ). Has e xs) (sym (live_made [] (take k vs))) in_list) h.line in
        record {
          known = m;
          on = on;
          least = λ d b also. one_line (length edges) (edge_of edges)
              (made [] (take k vs)) todo v whole before after d e (omega (arith, b, m)) m
              (λ q. omega (arith, b, q)) also on;
        }

    in_cell : (p : ℕ) (lower upper : Option ℕ) → IsGapOf (edge_of edges) now v p lower upper
        → IsCell edges vs v p lower upper
    in_cell p lower upper g =
        let same : now ≡ list_after [] (steps_from [] vs) k = at.values
        ∙ sym (list_is [] vs k at.known) in
        record {
          events = k;
          known = at.known;
          located = λ w. record {
            fits = let n = steps_length [] vs in let l = at.known in omega (arith, n, l);
            index = subst (λ (xs : List ℕ). p ≤ length xs) same g.within;
            passed = λ j b. subst (λ q. Before q v)
                (sym (point_of j (let l = at.known in omega (arith, b, l)))) (at.passed j b);
            coming = λ j b l.
                let n = steps_length [] vs in
                let c : j < length vs = omega (arith, n, l) in
                subst (λ q. Before v q) (sym (point_of j c))
                (later (length edges) (edge_of edges) vs run k v after_it j b c);
            above = λ e h. over p e (λ i q. g.above i q)
                (subst (λ (xs : List ℕ). AtBefore xs p e) (sym same) h);
            below = λ e h. under e (subst (λ (xs : List ℕ). At xs p e) (sym same) h);
          };
          lower_is = g.lower_is ∙ ap (λ (xs : List ℕ). edge_before xs p) at.values;
          upper_is = g.upper_is ∙ ap (λ (xs : List ℕ). edge_at xs p) at.values;
        }
      where
        point_of : (j : ℕ) → j < length vs
            → (get_or (steps_from [] vs) j no_step).at ≡ (get_or vs j no_move).at
        point_of j l = ap (λ (t : Step). t.at) (step_is [] vs j l)

        over : (p e : ℕ)
            → ((i : ℕ) → p ≡ suc i → pos 0 <ℤ turn_at (edge_of edges) (get_or now i 0) v)
            → AtBefore now p e → pos 0 <ℤ side (edge_of edges e) (point v)
        over zero e f h = absurd h
        over (suc i) e f h =
            let c = side-cross (edge_of edges e) v in
            let t = subst (λ (d : ℕ). pos 0 <ℤ turn_at (edge_of edges) d v)
            (sym (at_is now i e h).1) (f i refl) in
            omega (arith, ints, c, t)

        under : (e : ℕ) → At now p e → side (edge_of edges e) (point v) <ℤ pos 0
        under e h =
            let a = at_is now p e h in
            let c = side-cross (edge_of edges e) v in
            let t = subst (λ (d : ℕ). turn_at (edge_of edges) d v <ℤ pos 0) (sym a.1)
            (g.below a.0) in
            omega (arith, ints, c, t)

    pub place_is : (a : Place) → IsBetween (edge_of edges) now v a → IsPlaceOf edges vs v a
    place_is (place.Cell p lower upper) g = in_cell p lower upper g
    place_is (place.OnEdge e) h = on_one e h
