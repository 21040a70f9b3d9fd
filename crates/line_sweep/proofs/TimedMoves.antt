-- The moves of a complete run are those of the timetable of its edges.
use Rattle.std.proofs.Common.{◌≡◌, ℕ, ◌+◌, ◌≤◌, inl, List, [], ◌∷◌, ◌++◌, map, length, take, drop}
use Rattle.std.proofs.Common.{get_or, refl, arith, ap, sym, ◌∙◌, subst}
use Rattle.std.proofs.lemmas.Int.{ints}
use Rattle.std.proofs.lemmas.List.{length-take, length-drop}
use Rattle.plane.specs.declared.kinds.Edge.{Edge}
use Rattle.plane.specs.declared.kinds.Point.{Point}
use Rattle.plane.specs.Lists.{Each, Neighbours}
use Rattle.plane.specs.Runs.Moves.{Fit, Move, made, step_of, steps_from}
use Rattle.plane.specs.Runs.Steps.{GoodStep, IsReplay, Run, Step, Turns, after}
use Rattle.plane.specs.Runs.Sweeps.{IsEventList, trail}
use Rattle.plane.specs.Runs.Timetables.{BySlope, IsTimed, IsTimetable, Timed, move_at, moves_at}
use Rattle.line_sweep.specs.Sweeping.{points_of}
use Rattle.line_sweep.proofs.PlaneLaws.{at_most, ending_once, one_timetable, side-cross}

abbrev pub positions_of : List Move → List ℕ
positions_of vs = map (λ (v : Move). v.position) vs

abbrev at_of : Move → Point
at_of v = v.at

pub trail_made : (done : List Step) (vs : List Move) (ps : List Point)
    → trail (made done vs) ps ≡ trail done (map at_of vs ++ ps)
trail_made done [] ps = refl
trail_made done (v ∷ vs) ps = trail_made (step_of _ v ∷ done) vs ps

-- the moves with the ending edges of the timetable
abbrev timed : List Move → List Timed → List Timed
timed [] table = []
timed (v ∷ vs) [] = []
timed (v ∷ vs) (t ∷ table) = record {
  at = v.at;
  ending = t.ending;
  starting = v.starting;
} ∷ timed vs table

module _ (m : ℕ) (E : ℕ → Edge) where
  by_slope : (es : List ℕ) → Neighbours (Turns E) es → Neighbours (BySlope E) es
  by_slope [] h = tt
  by_slope (e ∷ []) h = (tt, tt)
  by_slope (e ∷ (f ∷ es)) h = (
    inl (let a = side-cross (E e) (E f).high in let b = h.0 in omega (arith, ints, a, b)),
    by_slope (f ∷ es) h.1,
  )

  event_timed : (now : List ℕ) (v : Move) (t : Timed) → GoodStep m E (step_of now v) → IsTimed m E t
      → v.at ≡ t.at → IsTimed m E (record { at = v.at; ending = t.ending; starting = v.starting })
  event_timed now v t g h e = record {
    starting = λ f. (g.starting_only f, λ p. g.starting_all f p.0 p.1);
    by_slope = by_slope v.starting g.turns;
    ending = λ f. (
      (λ k. let p = (h.ending f).0 k in (p.0, p.1 ∙ sym e)),
      λ p. (h.ending f).1 (p.0, p.1 ∙ e),
    );
    by_number = h.by_number;
  }

  all_timed : (now : List ℕ) (vs : List Move) (table : List Timed)
      → IsReplay m E now (steps_from now vs) → Each (IsTimed m E) table
      → map at_of vs ≡ points_of table → Each (IsTimed m E) (timed vs table)
  all_timed now [] table r h e = tt
  all_timed now (v ∷ vs) [] r h e = absurd (omega (arith, ap length e))
  all_timed now (v ∷ vs) (t ∷ table) r h e = (
    event_timed now v t r.1 h.0 (ap (λ (ps : List Point). get_or ps 0 v.at) e),
    all_timed (after (step_of now v)) vs table r.2 h.1
        (ap (λ (ps : List Point). drop 1 ps) e),
  )

  points_timed : (vs : List Move) (table : List Timed) → map at_of vs ≡ points_of table
      → points_of (timed vs table) ≡ points_of table
  points_timed [] table e = e
  points_timed (v ∷ vs) [] e = refl
  points_timed (v ∷ vs) (t ∷ table) e =
      let tail = points_timed vs table (ap (λ (ps : List Point). drop 1 ps) e) in
      ap (λ (ps : List Point). v.at ∷ ps) tail
      ∙ ap (λ (p : Point). p ∷ points_of table) (ap (λ (ps : List Point). get_or ps 0 v.at) e)

  -- a step takes as many edges out as the timetable has ending ones
  ending_size : (now : List ℕ) (v : Move) (t : Timed) → GoodStep m E (step_of now v) → IsTimed m E t
      → v.at ≡ t.at → (v.position + v.ending) ≤ length now → v.ending ≡ length t.ending
  ending_size now v t g h e l =
      let es = take v.ending (drop v.position now) in
      let size : length es ≡ v.ending = (let a = length-take v.ending (drop v.position now) in
      let b = length-drop v.position now in omega (arith, a, b, l)) in
      let below = at_most es t.ending g.ending_once (λ f k. let p = g.ending_only f k in
      (h.ending f).1 (p.0, p.1 ∙ e)) in
      let above = at_most t.ending es (ending_once m E t h) (λ f k. let p = (h.ending f).0 k in
      g.ending_all f p.0 (p.1 ∙ sym e)) in
      omega (arith, size, below, above)

  same_moves : (now : List ℕ) (vs : List Move) (table : List Timed)
      → IsReplay m E now (steps_from now vs) → Fit now vs → Each (IsTimed m E) table
      → map at_of vs ≡ points_of table → table ≡ timed vs table
      → vs ≡ moves_at table (positions_of vs)
  same_moves now [] [] r f h e q = refl
  same_moves now [] (t ∷ table) r f h e q = absurd (omega (arith, ap length e))
  same_moves now (v ∷ vs) [] r f h e q = absurd (omega (arith, ap length e))
  same_moves now (v ∷ vs) (t ∷ table) r f h e q =
      let at : v.at ≡ t.at = ap (λ (ps : List Point). get_or ps 0 v.at) e in
      let starting : t.starting ≡ v.starting = ap
      (λ (ts : List Timed). (get_or ts 0 t).starting) q in
      let size = ending_size now v t r.1 h.0 at f.0 in
      let head : v ≡ move_at t v.position =
      ap (λ (p : Point). record {
        at = p;
        position = v.position;
        ending = v.ending;
        starting = v.starting;
      }) at
      ∙ ap (λ (n : ℕ). record {
        at = t.at;
        position = v.position;
        ending = n;
        starting = v.starting;
      }) size
      ∙ ap (λ (es : List ℕ). record {
        at = t.at;
        position = v.position;
        ending = length t.ending;
        starting = es;
      }) (sym starting) in
      let tail = same_moves (after (step_of now v)) vs table r.2 f.1 h.1
      (ap (λ (ps : List Point). drop 1 ps) e) (ap (λ (ts : List Timed). drop 1 ts) q) in
      ap (λ (w : Move). w ∷ vs) head ∙ ap (λ (ws : List Move). move_at t v.position ∷ ws) tail

  pub run_is_timed : (vs : List Move) (table : List Timed) → IsTimetable m E table
      → Run m E (steps_from [] vs) → Fit [] vs → map at_of vs ≡ points_of table
      → vs ≡ moves_at table (positions_of vs)
  run_is_timed vs table t r f e =
      let own : IsTimetable m E (timed vs table) = record {
        events = subst (IsEventList m E) (sym (points_timed vs table e)) t.events;
        timed = all_timed [] vs table r.replays t.timed e;
      } in
      same_moves [] vs table r.replays f t.timed e (one_timetable m E table (timed vs table) t own)
