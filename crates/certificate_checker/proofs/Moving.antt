-- One event of the replay.
use Rattle.std.proofs.Common.{◌≡◌, ℕ, suc, ◌+◌, ◌<◌, ◌≤◌, ◌^◌, inl, inr, Bool, Option, Some, None}
use Rattle.std.proofs.Common.{List, [], ◌∷◌, ◌++◌, length, take, drop, get_or, arith, ap, sym, ◌∙◌}
use Rattle.std.proofs.Common.{◌-◌, zero, refl, subst}
use Rattle.std.proofs.lemmas.List.{length-append, length-drop, length-take-le}
use Rattle.std.proofs.Math.Seq.{take-suc}
use Rattle.plane.specs.Faces.Halves.{Half, over, under}
use Rattle.plane.specs.Lists.{Has}
use Rattle.plane.specs.Runs.Gaps.{Gap, edge_at, edge_before, first_or, gaps_between, last_or}
use Rattle.plane.specs.Runs.Moves.{no_move, live_from, step_of, steps_from}
use Rattle.plane.specs.Runs.Steps.{after}
use Rattle.plane.specs.Runs.Sweeps.{IsEventList}
use Rattle.plane.specs.Runs.Timetables.{IsTimetable, move_at}
use Rattle.certificate_checker.proofs.Entries.{by_lt}
use Rattle.straight_predicates.specs.EdgeLists.{AreBelow}
use Rattle.half_edges.specs.HalfEdges.{HalfEdges}
use Rattle.event_mesh.proofs.MovedEvents.{good_event, points_of_moves}
use Rattle.event_mesh.specs.Fans.{CanTurn}
use Rattle.event_mesh.specs.Turned.{IsEvent, IsTurned, points_of}
use Rattle.event_mesh.proofs.TurnedEvents.{can_turn}
use Rattle.certificate.specs.declared.notes.HalfNote.{HalfNote}
use Rattle.certificate_checker.specs.LiveLists.{live_count}
use Rattle.certificate_checker.specs.Marked.{AreMarked, IsAtBorder, NamesAcross, OfSome}
use Rattle.certificate_checker.specs.Progress.{AreMarkedTo, HasRoom, opened_at}
use Rattle.certificate_checker.specs.Rules.{HasCounts, PassesEvent}
use Rattle.certificate_checker.specs.Subjects.{Subject, edge, event, live_list, moves, position_at}
use Rattle.certificate_checker.proofs.ListParts.{drop_twice, first_after, last_before}
use Rattle.certificate_checker.proofs.PlaneLaws.{good_known, has_at, live_more}
use Rattle.certificate_checker.proofs.Runs.{good_to, move_is, moves_size}

module _ (s : Subject) (t : IsTimetable (length s.edges) (edge s) s.table) (n : HasCounts s) where
  -- ---- the live list
  pub live_below : (k : ℕ) → k ≤ length s.table → ((j : ℕ) → j < k → PassesEvent s j)
      → (live : List ℕ) → live ≡ live_list s k → AreBelow (length s.edges) live
  live_below k w f live e i l =
      subst (λ (ns : List ℕ). get_or ns i 0 < length s.edges) (sym e)
      (good_known (length s.edges) (edge s) (take k (moves s)) (good_to s t n k w f)
      (get_or (live_list s k) i 0)
      (has_at (live_list s k) i 0 (subst (λ (ns : List ℕ). i < length ns) e l))).0

  pub next_list : (k : ℕ) → k < length s.table
      → live_list s (suc k)
      ≡ after (step_of (live_list s k) (move_at (event s k) (position_at s k)))
  next_list k l =
      ap (λ vs. live_from [] vs) (take-suc (moves s) k no_move (let e = moves_size s t n in
      omega (arith, l, e)))
      ∙ live_more [] (take k (moves s)) (get_or (moves s) k no_move)
      ∙ ap (λ v. after (step_of (live_list s k) v)) (move_is s t n k l)

  pub next_live : (k : ℕ) (live starting : List ℕ) (p m : ℕ) → k < length s.table
      → live ≡ live_list s k → starting ≡ (event s k).starting → p ≡ position_at s k
      → m ≡ length (event s k).ending
      → take p live ++ (starting ++ drop (p + m) live) ≡ live_list s (suc k)
  next_live k live starting p m l e f g h =
      ap (λ (ns : List ℕ). take p live ++ (starting ++ ns)) (sym (drop_twice p m live))
      ∙ ap (λ (ns : List ℕ). take p ns ++ (starting ++ drop m (drop p ns))) e
      ∙ ap (λ (ns : List ℕ). take p (live_list s k) ++ (ns ++ drop m (drop p (live_list s k)))) f
      ∙ ap (λ (i : ℕ). take i (live_list s k)
      ++ ((event s k).starting ++ drop m (drop i (live_list s k)))) g
      ∙ ap (λ (i : ℕ). take (position_at s k) (live_list s k)
      ++ ((event s k).starting ++ drop i (drop (position_at s k) (live_list s k)))) h
      ∙ sym (next_list k l)

  -- how many edges are live
  next_size : (k : ℕ) → k < length s.table → PassesEvent s k
      → length (live_list s (suc k))
      ≡ length (live_list s k) - length (event s k).ending + length (event s k).starting
  next_size k l x =
      let live = live_list s k in
      let starting = (event s k).starting in
      let m = length (event s k).ending in
      let p = position_at s k in
      let e = ap length (next_live k live starting p m l refl refl refl refl) in
      let w = x.block.within in
      let a = length-append (take p live) (starting ++ drop (p + m) live) in
      let b = length-append starting (drop (p + m) live) in
      let d = length-drop (p + m) live in
      let h = length-take-le p live (omega (arith, w)) in
      omega (arith, e, w, a, b, d, h)

  pub live_size : (k : ℕ) → k ≤ length s.table → ((j : ℕ) → j < k → PassesEvent s j)
      → length (live_list s k) ≡ live_count s.table k
  live_size zero w f = refl
  live_size (suc k) w f =
      let a = next_size k (omega (arith, w)) (f k (omega arith)) in
      let b = live_size k (omega (arith, w)) (λ j l. f j (omega (arith, l))) in
      omega (arith, a, b)

  pub room_after : (k : ℕ) (live starting : List ℕ) (m most : ℕ) → k < length s.table
      → live ≡ live_list s k → starting ≡ (event s k).starting
      → m ≡ length (event s k).ending → ((j : ℕ) → j < k → PassesEvent s j) → HasRoom s most
      → length live - m + length starting ≤ most
  room_after k live starting m most l e f h passes room =
      let a = ap length e in
      let b = ap length f in
      let n = live_size k (omega (arith, l)) passes in
      let r = room (suc k) (omega (arith, l)) in
      omega (arith, a, b, h, n, r)

  pub block_within : (k : ℕ) (live : List ℕ) (p m : ℕ) → live ≡ live_list s k → p ≡ position_at s k
      → m ≡ length (event s k).ending → PassesEvent s k → p + m ≤ length live
  block_within k live p m e g h x =
      let w = x.block.within in let a = ap length e in omega (arith, w, a, g, h)

  pub passes_to : (k : ℕ) → ((j : ℕ) → j < k → PassesEvent s j) → PassesEvent s k → (j : ℕ)
      → j < suc k → PassesEvent s j
  passes_to k f x j l =
      by_lt j k (λ (m : j < k). f j m) (λ (m : k ≤ j). subst (PassesEvent s) (last j k l m) x)
    where
      last : (j k : ℕ) → j < suc k → k ≤ j → k ≡ j
      last j k l m = omega (arith, l, m)

  -- ---- the mesh
  pub events_are : IsEventList (length s.edges) (edge s) (points_of (steps_from [] (moves s)))
  events_are =
      subst (IsEventList (length s.edges) (edge s))
      (sym (points_of_moves [] s.table s.claims.positions n.positions)) t.events

  pub is_event : (k : ℕ) (live starting block : List ℕ) (p m : ℕ) → k < length s.table
      → live ≡ live_list s k → starting ≡ (event s k).starting → p ≡ position_at s k
      → m ≡ length (event s k).ending
      → block ≡ take m (drop p live) → ((j : ℕ) → j < suc k → PassesEvent s j)
      → IsEvent (length s.edges) (edge s) (steps_from [] (moves s)) k starting block
  is_event k live starting block p m l e f g h b all =
      let v = good_event (length s.edges) (edge s) (moves s) k (let q = moves_size s t n in
      omega (arith, l, q)) (good_to s t n (suc k) l all) in
      let i = move_is s t n k l in
      record {
        within = v.within;
        good = v.good;
        starting = v.starting ∙ ap (λ v. v.starting) i ∙ sym f;
        ending = v.ending ∙ ap (λ v. take v.ending (drop v.position (live_list s k))) i
            ∙ sym (b ∙ ap (λ (ns : List ℕ). take m (drop p ns)) e
            ∙ ap (λ (i : ℕ). take m (drop i (live_list s k))) g
            ∙ ap (λ (i : ℕ). take i (drop (position_at s k) (live_list s k))) h);
      }

  pub can_turn_at : (k : ℕ) (mesh : HalfEdges) (starting block : List ℕ) → length s.edges ≤ 2 ^ 31
      → IsTurned (length s.edges) (edge s) (steps_from [] (moves s)) mesh k
      → IsEvent (length s.edges) (edge s) (steps_from [] (moves s)) k starting block
      → CanTurn mesh starting block
  can_turn_at k mesh starting block few is v =
      can_turn (length s.edges) (edge s)
      (steps_from [] (moves s)) events_are mesh k is starting block v few

  -- ---- the new neighbours
  pub opened_is : (k : ℕ) (live starting : List ℕ) (p m : ℕ) (lower upper : Option ℕ)
      → live ≡ live_list s k → starting ≡ (event s k).starting → p ≡ position_at s k
      → m ≡ length (event s k).ending → p ≤ length live
      → lower ≡ edge_before live p → upper ≡ edge_at live (p + m)
      → gaps_between k lower starting upper ≡ opened_at s k
  opened_is k live starting p m lower upper e f g h w a b =
      ap (λ (o : Option ℕ). gaps_between k o starting upper) (a ∙ sym (last_before live p w))
      ∙ ap (λ (o : Option ℕ). gaps_between k (last_or None (take p live)) starting o) (b
      ∙ sym (first_after live (p + m)) ∙ ap (first_or None) (sym (drop_twice p m live)))
      ∙ ap (λ (ns : List ℕ). gaps_between k (last_or None (take p ns)) starting
      (first_or None (drop m (drop p ns)))) e
      ∙ ap (λ (ns : List ℕ). gaps_between k (last_or None (take p (live_list s k))) ns
      (first_or None (drop m (drop p (live_list s k))))) f
      ∙ ap (λ (i : ℕ). gaps_between k (last_or None (take i (live_list s k))) (event s k).starting
      (first_or None (drop m (drop i (live_list s k))))) g
      ∙ ap (λ (i : ℕ). gaps_between k (last_or None (take (position_at s k) (live_list s k)))
      (event s k).starting (first_or None (drop i (drop (position_at s k) (live_list s k))))) h

-- the event's number in a gap is not read
abbrev with_event : ℕ → Gap → Gap
with_event k g = record { lower = g.lower; upper = g.upper; event = k }

module _ (P : Gap → Half → Type 0) (same : (g : Gap) (k : ℕ) (h : Half) → P g h
    → P (with_event k g) h) where
  has_other : (i k : ℕ) (l : Option ℕ) (es : List ℕ) (u : Option ℕ) (g : Gap)
      → Has g (gaps_between i l es u) → Has (with_event k g) (gaps_between k l es u)
  has_other i k l [] u g (inl e) = inl (ap (with_event k) e)
  has_other i k l [] u g (inr h) = absurd h
  has_other i k l (x ∷ es) u g (inl e) = inl (ap (with_event k) e)
  has_other i k l (x ∷ es) u g (inr h) = inr (has_other i k (Some x) es u g h)

  some_other : (i k : ℕ) (l : Option ℕ) (es : List ℕ) (u : Option ℕ) (h : Half)
      → OfSome P (gaps_between i l es u) h → OfSome P (gaps_between k l es u) h
  some_other i k l es u h q = (with_event k q.0, has_other i k l es u q.0 q.1, same q.0 k h q.2)

  pub marked_at : (k : ℕ) (l : Option ℕ) (es : List ℕ) (u : Option ℕ) (old new : List Bool)
      → AreMarked P (gaps_between 0 l es u) old new → AreMarked P (gaps_between k l es u) old new
  marked_at k l es u old new m = record {
    each = λ h. (
      (λ x. elim ((m.each h).0 x) [ inl y ↦ inl y | inr q ↦ inr (some_other 0 k l es u h q) ]),
      (λ x. (m.each h).1 (elim x [ inl y ↦ inl y | inr q ↦ inr (some_other k 0 l es u h q) ])),
    );
  }

  pub marked_more : (s : Subject) (k : ℕ) (old new : List Bool) → length new ≡ length old
      → AreMarkedTo s P k old → AreMarked P (opened_at s k) old new → AreMarkedTo s P (suc k) new
  marked_more s k old new e m a = record {
    size = e ∙ m.size;
    each = λ h. (
      (λ x. elim ((a.each h).0 x) [
        | inl b ↦ (let (j, l, q) = (m.each h).0 b in
            (j, omega (arith, l), q))
        | inr q ↦ (k, omega arith, q)
      ]),
      (λ q. (a.each h).1 (by_lt q.0 k
          (λ (l : q.0 < k). inl ((m.each h).1 (q.0, l, q.2)))
          (λ (l : k ≤ q.0). inr
          (subst (λ (j : ℕ). OfSome P (opened_at s j) h) (last q.0 k q.1 l) q.2)))),
    );
  }
    where
      last : (j k : ℕ) → j < suc k → k ≤ j → j ≡ k
      last j k l m = omega (arith, l, m)

pub border_event : (g : Gap) (k : ℕ) (h : Half) → IsAtBorder g h → IsAtBorder (with_event k g) h
border_event g k (under e) q = q
border_event g k (over e) q = q

pub across_event : (notes : List HalfNote) (g : Gap) (k : ℕ) (h : Half) → NamesAcross notes g h
    → NamesAcross notes (with_event k g) h
across_event notes g k (under e) q = q
across_event notes g k (over e) q = q
