-- From one event of a sweep to the next, and its beginning and end.
use Rattle.std.proofs.Common.{◌≡◌, ℕ, suc, ◌+◌, ◌<◌, Option, List, [], ◌∷◌, ◌++◌, length, map}
use Rattle.std.proofs.Common.{take, drop, filter, get_or, refl, arith, ap, sym, ◌∙◌}
use Rattle.std.proofs.Common.{subst, add-one, drop_of_length-le}
use Rattle.std.proofs.lemmas.List.{append-nil, length-map}
use Rattle.plane.specs.declared.kinds.Edge.{Edge}
use Rattle.plane.specs.Runs.Gaps.{Gap, gaps_between, is_real, no_gap}
use Rattle.plane.specs.Forms.Meets.{Bad}
use Rattle.plane.specs.Runs.Moves.{Move, made, steps_from}
use Rattle.plane.specs.Runs.Steps.{Run}
use Rattle.plane.specs.Runs.Sweeps.{IsUnderWay}
use Rattle.plane.specs.Runs.Timetables.{Timed, IsTimetable, no_event}
use Rattle.slab.specs.Slab.{Slab}
use Rattle.straight_predicates.specs.EdgeLists.{edge_of, AreSorted}
use Rattle.line_sweep.specs.declared.kinds.Cell.{Cell}
use Rattle.line_sweep.specs.Blocks.{AreBeside, IsBlock}
use Rattle.line_sweep.specs.Held.{IsHeld, gaps_held}
use Rattle.line_sweep.specs.Kinds.{move_at_block}
use Rattle.line_sweep.specs.OpenGaps.{AreFine}
use Rattle.line_sweep.specs.Sweeping.{HasTimetable, IsSweptTo, points_of}
use Rattle.line_sweep.proofs.NextEvent.{swept_next}
use Rattle.line_sweep.proofs.TimedMoves.{run_is_timed, trail_made}
use Rattle.line_sweep.proofs.PlaneLaws.{all_made, begins, ends_as_run, ends_fine}

pub begun : (edges : List Edge) (table : List Timed) (live keys ended : List ℕ) (slab : Slab Cell)
    (moves : List Move) (told : List Gap)
    → IsTimetable (length edges) (edge_of edges) table
    → live ≡ [] → IsHeld slab keys (no_gap ∷ []) → ended ≡ [] → moves ≡ [] → told ≡ []
    → IsSweptTo edges table 0 live keys ended slab moves told
begun edges table live keys ended slab moves told t e h i f g =
    subst (λ (ns : List ℕ). IsSweptTo edges table 0 ns keys ended slab moves told) (sym e)
    (subst (λ vs. IsSweptTo edges table 0 [] keys ended slab vs told) (sym f)
    (subst (λ gs. IsSweptTo edges table 0 [] keys ended slab [] gs) (sym g) (record {
      size = refl;
      way = begins (length edges) (edge_of edges) (points_of table) t.events;
      fit = tt;
      lives = refl;
      held = h;
      closed = refl;
      endings = i;
    })))

-- at the end nothing is to come
way_at_end : (edges : List Edge) (table : List Timed) (live keys ended : List ℕ)
    (slab : Slab Cell) (moves : List Move) (told : List Gap)
    → IsSweptTo edges table (length table) live keys ended slab moves told
    → IsUnderWay (length edges) (edge_of edges) (points_of table) (made [] moves) []
way_at_end edges table live keys ended slab moves told s =
    subst (λ ps. IsUnderWay (length edges) (edge_of edges) (points_of table) (made [] moves) ps)
    (drop_of_length-le (points_of table) (let e = length-map table (λ (t : Timed). t.at) in
    omega (arith, e))) s.way

pub run_at_end : (edges : List Edge) (table : List Timed) (live keys ended : List ℕ)
    (slab : Slab Cell) (moves : List Move) (told : List Gap)
    → IsSweptTo edges table (length table) live keys ended slab moves told
    → Run (length edges) (edge_of edges) (steps_from [] moves)
run_at_end edges table live keys ended slab moves told s =
    subst (Run (length edges) (edge_of edges)) (all_made moves)
    (ends_as_run (length edges) (edge_of edges) (points_of table) (made [] moves)
    (way_at_end edges table live keys ended slab moves told s))

pub timed_at_end : (edges : List Edge) (table : List Timed) (live keys ended : List ℕ)
    (slab : Slab Cell) (moves : List Move) (told : List Gap)
    → IsTimetable (length edges) (edge_of edges) table
    → IsSweptTo edges table (length table) live keys ended slab moves told
    → HasTimetable edges moves
timed_at_end edges table live keys ended slab moves told t s =
    let points = sym (trail_made [] moves [])
    ∙ (way_at_end edges table live keys ended slab moves told s).front.is in
    record {
      table = table;
      is_table = t;
      size = sym s.size;
      is = run_is_timed (length edges) (edge_of edges) moves table t
          (run_at_end edges table live keys ended slab moves told s) s.fit
          (sym (append-nil (map (λ (v : Move). v.at) moves)) ∙ points);
    }

pub clear_at_end : (edges : List Edge) (table : List Timed) (live keys ended : List ℕ)
    (slab : Slab Cell) (moves : List Move) (told : List Gap)
    → IsSweptTo edges table (length table) live keys ended slab moves told
    → (a b : ℕ) → a < length edges → b < length edges → (a ≡ b → ⊥)
    → Bad (edge_of edges a) (edge_of edges b) → ⊥
clear_at_end edges table live keys ended slab moves told s a b l m n bad =
    bad.no_end (ends_fine (length edges) (edge_of edges) (points_of table) (made [] moves) a b
    (way_at_end edges table live keys ended slab moves told s) l m n bad.at bad.place bad.of_first
    bad.of_second)

module _ (edges : List Edge) (table : List Timed) (k : ℕ) (live keys ended : List ℕ)
    (slab : Slab Cell) (moves : List Move) (told : List Gap) (sorted : AreSorted edges)
    (t : IsTimetable (length edges) (edge_of edges) table) (l : k < length table)
    (s : IsSweptTo edges table k live keys ended slab moves told) (p n : ℕ)
    (b : IsBlock (edge_of edges) live (get_or table k no_event).at p n) (lower upper : Option ℕ)
    (beside : AreBeside live p n lower upper)
    (fine : AreFine edges lower (get_or table k no_event).starting upper) where
  pub step_next : (live' keys' ended' : List ℕ) (slab' : Slab Cell) (starting : List ℕ)
      (moves' : List Move) (told' : List Gap)
      → starting ≡ (get_or table k no_event).starting
      → live' ≡ take p live ++ (starting ++ drop (p + n) live)
      → IsHeld slab' keys' (take p (gaps_held slab keys)
      ++ (gaps_between k lower starting upper ++ drop (suc (p + n)) (gaps_held slab keys)))
      → ended' ≡ ended ++ take n (drop p live)
      → told' ≡ told ++ filter is_real (take (suc n) (drop p (gaps_held slab keys)))
      → moves' ≡ moves ++ move_at_block (get_or table k no_event) p n ∷ []
      → IsSweptTo edges table (k + 1) live' keys' ended' slab' moves' told'
  step_next live' keys' ended' slab' starting moves' told' e a h i c v =
      let gaps = gaps_held slab keys in
      let held = subst (λ (es : List ℕ). IsHeld slab' keys'
      (take p gaps ++ (gaps_between k lower es upper ++ drop (suc (p + n)) gaps))) e h in
      let next = swept_next edges table k live keys ended slab moves told sorted t l s p n b lower
      upper beside fine keys' ended' slab' told' held i c in
      let live_is = a ∙ ap (λ (ns : List ℕ). take p live ++ (ns ++ drop (p + n) live)) e in
      subst (λ (j : ℕ). IsSweptTo edges table j live' keys' ended' slab' moves' told')
      (sym (add-one k))
      (subst (λ (ns : List ℕ). IsSweptTo edges table (suc k) ns keys' ended' slab' moves' told')
      (sym live_is)
      (subst (λ vs. IsSweptTo edges table (suc k)
      (take p live ++ ((get_or table k no_event).starting ++ drop (p + n) live)) keys' ended' slab'
      vs told') (sym v) next))
