-- One event of a sweep: the step that its block makes, what the fault of a block shows, and what is
-- so after the event.
use Rattle.std.proofs.Common.{◌≡◌, ℕ, zero, suc, ◌+◌, ◌^◌, ◌<◌, ◌≤◌, ℤ, pos, ◌<ℤ◌, ◌≤ℤ◌, inl, inr}
use Rattle.std.proofs.Common.{Option, None, List, [], ◌∷◌, ◌++◌, length, take, drop, filter}
use Rattle.std.proofs.Common.{get_or, refl, arith, ap, sym, ◌∙◌, subst}
use Rattle.std.proofs.lemmas.Int.{ints, by_lt_z}
use Rattle.std.proofs.lemmas.List.{get_or-take, length-append, length-drop, length-map}
use Rattle.std.proofs.lemmas.List.{length-take-le}
use Rattle.plane.specs.declared.kinds.Point.{Point}
use Rattle.plane.specs.declared.kinds.Edge.{Edge}
use Rattle.plane.specs.Lists.{Has}
use Rattle.plane.specs.Runs.Gaps.{Gap, closed_gaps, edge_at, edge_before, first_or, gaps_between}
use Rattle.plane.specs.Runs.Gaps.{is_real, last_or, open_gaps, opened}
use Rattle.plane.specs.Forms.Meets.{IsEnd}
use Rattle.plane.specs.Runs.Moves.{Move, live_from, made, step_of, steps_from}
use Rattle.plane.specs.Runs.Positions.{turn_at}
use Rattle.plane.specs.Runs.Steps.{Step, after, live as lives}
use Rattle.plane.specs.Runs.Sweeps.{Clear, IsUnderWay, Made, OnLive}
use Rattle.plane.specs.Runs.Timetables.{Timed, IsTimed, IsTimetable, no_event}
use Rattle.plane.proofs.Algebra.Ring.{at, num, minus, times, vars, ring}
use Rattle.slab.specs.Slab.{Slab}
use Rattle.straight_predicates.specs.EdgeLists.{edge_of, AreSorted}
use Rattle.line_sweep.specs.declared.kinds.Cell.{Cell}
use Rattle.line_sweep.specs.Blocks.{AreBeside, IsBlock, IsThrough}
use Rattle.line_sweep.specs.Held.{IsHeld, gaps_held}
use Rattle.line_sweep.specs.Kinds.{AreBad, ended_at, move_at_block}
use Rattle.line_sweep.specs.OpenGaps.{AreFine, AreNeighbours}
use Rattle.line_sweep.specs.Sweeping.{IsSweptTo, points_of}
use Rattle.line_sweep.proofs.EventEdges.{event_timed}
use Rattle.line_sweep.proofs.OpenGaps.{ended_more, gap_neighbour, neighbour_gap}
use Rattle.line_sweep.proofs.Parts.{drop_twice, first_after, last_before}
use Rattle.line_sweep.proofs.PlaneLaws.{has_at, live_made, made_more, live_more, fit_more}
use Rattle.line_sweep.proofs.PlaneLaws.{open_more, all_closed_more, open_size, opened_go_on}
use Rattle.line_sweep.proofs.PlaneLaws.{opened_differ, block_ends, on_live_is_bad, on_live_line}
use Rattle.line_sweep.proofs.PlaneLaws.{false_after_event, known_live, room_live, made_by_turns}
use Rattle.line_sweep.proofs.PlaneLaws.{starting_once, slopes_rise}

drop_points : (table : List Timed) (k : ℕ) → k < length table
    → drop k (points_of table) ≡ (get_or table k no_event).at ∷ drop (suc k) (points_of table)
drop_points [] k l = absurd (omega (arith, l))
drop_points (t ∷ table) zero l = refl
drop_points (t ∷ table) (suc k) l = drop_points table k (omega (arith, l))

turn_end : (E : ℕ → Edge) (e : ℕ) (v : Point) → (E e).high ≡ v → turn_at E e v ≡ pos 0
turn_end E e v q =
    ap (λ (p : Point). turn_at E e p) (sym q)
    ∙ ring (minus (times (minus (at 2) (at 0)) (minus (at 3) (at 1)))
    (times (minus (at 3) (at 1)) (minus (at 2) (at 0)))) (num (pos 0))
    (vars ((E e).low.x ∷ (E e).low.y ∷ (E e).high.x ∷ (E e).high.y ∷ [])) refl

below_zero : (z : ℤ) → z ≤ℤ pos 0 → (z ≡ pos 0 → ⊥) → z <ℤ pos 0
below_zero z l n =
    by_lt_z z (pos 0) (λ (k : z <ℤ pos 0). k)
    (λ (k : pos 0 ≤ℤ z). absurd (n (omega (arith, ints, l, k))))

at_drop : (xs : List ℕ) (p j d : ℕ) → get_or (drop p xs) j d ≡ get_or xs (p + j) d
at_drop xs zero j d = ap (λ (k : ℕ). get_or xs k d) (none j)
  where
    none : (j : ℕ) → j ≡ 0 + j
    none j = omega arith
at_drop [] (suc p) j d = refl
at_drop (x ∷ xs) (suc p) j d = at_drop xs p j d ∙ ap (λ (k : ℕ). get_or (x ∷ xs) k d) (shift p j)
  where
    shift : (p j : ℕ) → suc (p + j) ≡ suc p + j
    shift p j = omega arith

index : (x : ℕ) (xs : List ℕ) → Has x xs → (k : ℕ) × (k < length xs) × (get_or xs k 0 ≡ x)
index x [] h = absurd h
index x (y ∷ ys) (inl e) = (0, omega arith, sym e)
index x (y ∷ ys) (inr h) = let (k, l, e) = index x ys h in (suc k, omega (arith, l), e)

-- each edge of a part of the list is at a place of the list
in_block : (now : List ℕ) (p n e : ℕ) → p + n ≤ length now → Has e (take n (drop p now))
    → (i : ℕ) × (p ≤ i) × (i < p + n) × (get_or now i 0 ≡ e)
in_block now p n e w h =
    let (k, l, q) = index e (take n (drop p now)) h in
    let s : length (take n (drop p now))
    ≡ n = length-take-le n (drop p now) (let d = length-drop p now in omega (arith, d, w)) in
    let j : k < n = omega (arith, l, s) in (
      p + k,
      omega arith,
      omega (arith, j),
      sym (at_drop now p k 0)
          ∙ sym (get_or-take n (drop p now) k 0 j) ∙ q,
    )

pub opened_is : (k : ℕ) (live : List ℕ) (t : Timed) (p n : ℕ) → p ≤ length live
    → gaps_between k (edge_before live p) t.starting (edge_at live (p + n))
    ≡ opened k (step_of live (move_at_block t p n))
opened_is k live t p n l =
    ap (λ (o : Option ℕ). gaps_between k o t.starting (edge_at live (p + n)))
    (sym (last_before live p l))
    ∙ ap (λ (o : Option ℕ). gaps_between k (last_or None (take p live)) t.starting o)
    (sym (first_after live (p + n))
    ∙ ap (λ (ns : List ℕ). first_or None ns) (sym (drop_twice p n live)))

-- the same from the edges beside the block
pub opened_as : (k : ℕ) (lower upper : Option ℕ) (live : List ℕ) (t : Timed) (p n : ℕ)
    → AreBeside live p n lower upper → p + n ≤ length live
    → gaps_between k lower t.starting upper ≡ opened k (step_of live (move_at_block t p n))
opened_as k lower upper live t p n b l =
    ap (λ (o : Option ℕ). gaps_between k o t.starting upper) b.lower
    ∙ ap (λ (o : Option ℕ). gaps_between k (edge_before live p) t.starting o) b.upper
    ∙ opened_is k live t p n (omega (arith, l))

-- where nothing comes after, nothing is live
no_elements : {X : Type 0} (xs : List X) → ((x : X) → Has x xs → ⊥) → length xs ≡ 0
no_elements [] f = refl
no_elements (x ∷ xs) f = absurd (f x (inl refl))

module _ (edges : List Edge) (table : List Timed) (k : ℕ) (live keys ended : List ℕ)
    (slab : Slab Cell) (moves : List Move) (told : List Gap) (sorted : AreSorted edges)
    (t : IsTimetable (length edges) (edge_of edges) table) (l : k < length table)
    (s : IsSweptTo edges table k live keys ended slab moves told) where
  abbrev pub timed : Timed
  timed = get_or table k no_event

  way : IsUnderWay (length edges) (edge_of edges) (points_of table) (made [] moves)
      (timed.at ∷ drop (suc k) (points_of table))
  way = subst (λ ps. IsUnderWay (length edges) (edge_of edges) (points_of table) (made [] moves) ps)
      (drop_points table k l) s.way

  is_live : live ≡ lives (made [] moves)
  is_live = s.lives ∙ sym (live_made [] moves)

  timed_is : IsTimed (length edges) (edge_of edges) timed
  timed_is = event_timed edges table k t l

  pub live_known : (i : ℕ) → i < length live → get_or live i 0 < length edges
  live_known i j =
      (known_live (length edges) (edge_of edges) (points_of table) (made [] moves)
      (timed.at ∷ drop (suc k) (points_of table)) (get_or live i 0) way
      (subst (λ (ns : List ℕ). Has (get_or live i 0) ns) is_live (has_at live i 0 j))).0

  pub live_size : length live ≤ length edges
  live_size =
      let r = room_live (length edges) (edge_of edges) (points_of table) (made [] moves) timed.at
      (drop (suc k) (points_of table)) way in
      let e = ap length is_live in
      omega (arith, r, e)

  pub keys_size : length keys ≡ suc (length live)
  keys_size = sym (length-map keys _) ∙ ap length s.held.gaps ∙ open_size moves s.fit
      ∙ ap (λ (ns : List ℕ). suc (length ns)) (sym s.lives)

  -- ---- a live edge through the event
  pub through_is_bad : (e d : ℕ) → IsThrough (edge_of edges) live timed.at e → d < length edges
      → IsEnd (edge_of edges d) timed.at → AreBad edges e d
  through_is_bad e d b m end =
      let has : Has e (lives (made [] moves)) = subst (λ (ns : List ℕ). Has e ns) is_live
      (subst (λ (i : ℕ). Has i live) (sym b.is) (has_at live b.place 0 b.within)) in
      let on : OnLive (edge_of edges) (lives (made [] moves)) timed.at = record {
        edge = e;
        lives = has;
        on = on_live_line (length edges) (edge_of edges) (points_of table) (made [] moves) timed.at
            (drop (suc k) (points_of table)) e way has b.line;
        no_end = b.no_end;
      } in
      let bad = on_live_is_bad (length edges) (edge_of edges) (points_of table)
      (made [] moves) timed.at (drop (suc k) (points_of table)) way on d m end in
      record {
        first = (known_live (length edges) (edge_of edges) (points_of table) (made [] moves)
            (timed.at ∷ drop (suc k) (points_of table)) e way has).0;
        second = m;
        differ = bad.0;
        bad = bad.1;
      }

  -- ---- the step at a block
  module _ (p n : ℕ) (b : IsBlock (edge_of edges) live timed.at p n) where
    abbrev pub move : Move
    move = move_at_block timed p n

    pub block_few : length edges < 2 ^ 31 → p + n < 2 ^ 31
    block_few few = let z = live_size in let w = b.within in omega (arith, z, w, few)

    abbrev the_step : Step
    the_step = step_of (lives (made [] moves)) move

    block : IsBlock (edge_of edges) (lives (made [] moves)) timed.at p n
    block = subst (λ (ns : List ℕ). IsBlock (edge_of edges) ns timed.at p n) is_live b

    made_step : Made (length edges) (edge_of edges) (lives (made [] moves)) the_step
    made_step =
        made_by_turns (length edges) (edge_of edges) timed.at
        (lives (made [] moves)) p n timed.starting block.within (λ e. (timed_is.starting e).0)
        (λ e a q. (timed_is.starting e).1 (a, q))
        (λ i j. slopes_rise (length edges) (edge_of edges) timed i timed_is j) block.below
        block.first
        (λ i q. let z = turn_end (edge_of edges) (get_or (lives (made [] moves)) (p + i) 0) timed.at
        (block.ends (p + i) (omega arith) (omega (arith, q))) in omega (arith, ints, z))
        (λ j. below_zero _
        (false_after_event (length edges) (edge_of edges) (points_of table)
        (made [] moves) timed.at (drop (suc k) (points_of table)) p (p + n) 0 way
        (omega arith) j (block.first (omega (arith, j)))) (block.next j))

    clear : Clear (edge_of edges) (lives (made [] moves)) timed.at
    clear =
        block_ends (length edges) (edge_of edges) (points_of table) (made [] moves) the_step
        (drop (suc k) (points_of table)) way made_step
        (λ e h. let (i, a, c, q) = in_block (lives (made [] moves)) p n e block.within h in
        subst (λ (j : ℕ). (edge_of edges j).high ≡ timed.at) q (block.ends i a c))

    same_step : step_of live move ≡ the_step
    same_step = ap (λ (ns : List ℕ). step_of ns move) is_live

    -- the new neighbours are two edges
    module _ (lower upper : Option ℕ) (beside : AreBeside live p n lower upper) where
      opened_here : gaps_between k lower timed.starting upper ≡ opened k (step_of live move)
      opened_here = opened_as k lower upper live timed p n beside b.within

      pub neighbours_known : (d e : ℕ) → AreNeighbours lower timed.starting upper d e
          → (d < length edges) × (e < length edges) × (d ≡ e → ⊥)
      neighbours_known d e h =
          let (g, i, q, r) = neighbour_gap k lower timed.starting upper d e h in
          opened_differ (length edges) (edge_of edges) (points_of table) (made [] moves) the_step
          (drop (suc k) (points_of table)) way made_step k g d e
          (starting_once (length edges) (edge_of edges) sorted timed timed_is)
          (subst (λ st. Has g (opened k st)) same_step (subst (Has g) opened_here i)) q r

      module _ (fine : AreFine edges lower timed.starting upper) where
        goes_on : IsUnderWay (length edges) (edge_of edges) (points_of table)
            (the_step ∷ made [] moves) (drop (suc k) (points_of table))
        goes_on =
            opened_go_on (length edges) (edge_of edges) (points_of table) (made [] moves) the_step
            (drop (suc k) (points_of table)) way made_step k clear
            (λ g d e h q r. fine d e
            (gap_neighbour k lower timed.starting upper g d e
            (subst (Has g) (sym opened_here)
            (subst (λ st. Has g (opened k st)) (sym same_step) h)) q r))

        -- the live list after the event
        abbrev pub next_live : List ℕ
        next_live = take p live ++ (timed.starting ++ drop (p + n) live)

        next_is : next_live ≡ after the_step
        next_is =
            ap (λ (ns : List ℕ). take p live ++ (timed.starting ++ ns)) (sym (drop_twice p n live))
            ∙ ap (λ (ns : List ℕ). take p ns ++ (timed.starting ++ drop n (drop p ns))) is_live

        gaps_next : take p (gaps_held slab keys)
            ++ (gaps_between k lower timed.starting upper
            ++ drop (suc (p + n)) (gaps_held slab keys))
            ≡ open_gaps (moves ++ move ∷ [])
        gaps_next =
            ap (λ gs. take p gs
            ++ (gaps_between k lower timed.starting upper ++ drop (suc (p + n)) gs)) s.held.gaps
            ∙ ap (λ gs. take p (open_gaps moves) ++ (gs ++ drop (suc (p + n)) (open_gaps moves)))
            (opened_here
            ∙ ap (λ (ns : List ℕ). opened k (step_of ns move)) s.lives
            ∙ ap (λ (j : ℕ). opened j (step_of (live_from [] moves) move)) (sym s.size))
            ∙ sym (open_more moves move)

        pub swept_next : (keys' ended' : List ℕ) (slab' : Slab Cell) (told' : List Gap)
            → IsHeld slab' keys' (take p (gaps_held slab keys)
            ++ (gaps_between k lower timed.starting upper
            ++ drop (suc (p + n)) (gaps_held slab keys)))
            → ended' ≡ ended ++ take n (drop p live)
            → told' ≡ told ++ filter is_real (take (suc n) (drop p (gaps_held slab keys)))
            → IsSweptTo edges table (suc k) next_live keys' ended' slab' (moves ++ move ∷ []) told'
        swept_next keys' ended' slab' told' h a c = record {
          size = (let a = length-append moves (move ∷ []) in let z = s.size in omega (arith, a, z));
          way = subst (λ d. IsUnderWay (length edges) (edge_of edges) (points_of table) d
              (drop (suc k) (points_of table))) (sym (made_more [] moves move)) goes_on;
          fit = fit_more [] moves move s.fit
              (subst (λ (ns : List ℕ). (p + n) ≤ length ns) s.lives b.within);
          lives = next_is ∙ ap (λ (ns : List ℕ). after (step_of ns move)) (live_made [] moves)
              ∙ sym (live_more [] moves move);
          held = subst (IsHeld slab' keys') gaps_next h;
          closed = c
              ∙ ap (λ gs. gs ++ filter is_real (take (suc n) (drop p (gaps_held slab keys))))
              s.closed
              ∙ ap (λ gs. closed_gaps moves ++ filter is_real (take (suc n) (drop p gs)))
              s.held.gaps
              ∙ sym (all_closed_more moves move);
          endings = a ∙ ap (λ (es : List ℕ). es ++ take n (drop p live)) s.endings
              ∙ ap (λ (ns : List ℕ). ended_at (steps_from [] moves) ++ take n (drop p ns)) s.lives
              ∙ sym (ended_more moves move);
        }
