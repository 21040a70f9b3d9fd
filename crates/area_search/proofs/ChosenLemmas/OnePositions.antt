-- Two complete replays of one timetable have the same positions: where the live lists are equal,
-- one event has one place.
use Rattle.std.proofs.Common.{◌≡◌, ℕ, zero, suc, ◌+◌, ◌<◌, ◌≤◌, ◌<ℤ◌, pos, inl, inr, List, [], ◌∷◌}
use Rattle.std.proofs.Common.{length, take, drop, get_or, refl, arith, ap, sym, ◌∙◌, subst}
use Rattle.std.proofs.lemmas.Int.{ints}
use Rattle.std.proofs.lemmas.List.{same_lists}
use Rattle.plane.specs.declared.kinds.Edge.{Edge}
use Rattle.plane.specs.declared.kinds.Point.{Point}
use Rattle.plane.specs.Faces.Replays.{no_step}
use Rattle.plane.specs.Lists.{Each, Has}
use Rattle.plane.specs.Rule.Plans.{Plan}
use Rattle.plane.specs.Runs.Moves.{step_of, steps_from}
use Rattle.plane.specs.Runs.Positions.{turn_at}
use Rattle.plane.specs.Runs.Steps.{Step, after}
use Rattle.plane.specs.Runs.Timetables.{IsTimetable, Timed, move_at}
use Rattle.plane.proofs.Algebra.Ring.{at, minus, times, vars, ring_zero}
use Rattle.plane.proofs.ListLemmas.Lists.{each_has}
use Rattle.plane.proofs.ListLemmas.SortedLists.{has_at}
use Rattle.plane.proofs.MoveLemmas.MadeSteps.{steps_length}
use Rattle.plane.proofs.Runs.RunLaws.{beside_event}
use Rattle.certificate.specs.declared.notes.HalfNote.{HalfNote}
use Rattle.certificate.specs.declared.notes.PointPlace.{PointPlace}
use Rattle.certificate_checker.specs.Rules.{HasCounts, PassesEvent}
use Rattle.certificate_checker.specs.Subjects.{Claims, Subject, edge, event, live_list, moves}
use Rattle.certificate_checker.specs.Subjects.{position_at}
use Rattle.certificate_checker.specs.Verdicts.{AllRules, IsTableOf, subject_of}
use Rattle.certificate_checker.proofs.Entries.{by_lt, entry}
use Rattle.certificate_checker.proofs.ListParts.{drop_twice}
use Rattle.certificate_checker.proofs.Moving.{next_list}
use Rattle.certificate_checker.proofs.Runs.{is_run, moves_size, step_at_event}

-- an edge that ends at a point does not turn there
turn_high : (E : ℕ → Edge) (e : ℕ) (v : Point) → (E e).high ≡ v → turn_at E e v ≡ pos 0
turn_high E e v q =
    subst (λ (p : Point). turn_at E e p ≡ pos 0) q
    (ring_zero
    (minus (times (minus (at 0) (at 1)) (minus (at 2) (at 3)))
    (times (minus (at 2) (at 3)) (minus (at 0) (at 1))))
    (vars ((E e).high.x ∷ (E e).low.x ∷ (E e).high.y ∷ (E e).low.y ∷ [])) refl)

-- ---- a place of a list, in the block of n from place p on, or after it
in_front : (n i : ℕ) (xs : List ℕ) → i < n → i < length xs → Has (get_or xs i 0) (take n xs)
in_front zero i xs l m = absurd (omega (arith, l))
in_front (suc n) i [] l m = absurd (omega (arith, m))
in_front (suc n) zero (x ∷ xs) l m = inl refl
in_front (suc n) (suc i) (x ∷ xs) l m = inr (in_front n i xs (omega (arith, l)) (omega (arith, m)))

in_block : (p n i : ℕ) (xs : List ℕ) → p ≤ i → i < p + n → i < length xs
    → Has (get_or xs i 0) (take n (drop p xs))
in_block zero n i xs a l m = in_front n i xs (omega (arith, l)) m
in_block (suc p) n i [] a l m = absurd (omega (arith, m))
in_block (suc p) n zero (x ∷ xs) a l m = absurd (omega (arith, a))
in_block (suc p) n (suc i) (x ∷ xs) a l m = in_block p n i xs (omega (arith, a)) (omega (arith, l))
    (omega (arith, m))

in_rest : (p i : ℕ) (xs : List ℕ) → p ≤ i → i < length xs → Has (get_or xs i 0) (drop p xs)
in_rest zero i xs a m = has_at xs i 0 m
in_rest (suc p) i [] a m = absurd (omega (arith, m))
in_rest (suc p) zero (x ∷ xs) a m = absurd (omega (arith, a))
in_rest (suc p) (suc i) (x ∷ xs) a m = in_rest p i xs (omega (arith, a)) (omega (arith, m))

apart : (p q : ℕ) → p < q → ((i : ℕ) → q ≡ suc i → p ≤ i → ⊥) → ⊥
apart p zero l f = absurd (omega (arith, l))
apart p (suc i) l f = f i refl (omega (arith, l))

-- ---- one replay
module _ (s : Subject) (t : IsTimetable (length s.edges) (edge s) s.table) (n : HasCounts s)
    (all : (k : ℕ) → k < length s.table → PassesEvent s k) (k : ℕ) (l : k < length s.table) where
  steps_size : length (steps_from [] (moves s)) ≡ length s.table
  steps_size = steps_length [] (moves s) ∙ moves_size s t n

  -- all edges over the block are strictly over the event
  over_event : Each (λ e. turn_at (edge s) e (event s k).at <ℤ pos 0)
      (drop (length (event s k).ending) (drop (position_at s k) (live_list s k)))
  over_event =
      subst (λ (x : Step). Each (λ e. turn_at (edge s) e x.at <ℤ pos 0) x.above)
      (step_at_event s t n k l)
      (beside_event (length s.edges) (edge s) (steps_from [] (moves s)) (is_run s t n all)
      (get_or (steps_from [] (moves s)) k no_step)
      (has_at (steps_from [] (moves s)) k no_step (omega (arith, l, steps_size)))).1

  -- so no edge from the position on is strictly below it
  pub none_under : (i : ℕ) → position_at s k ≤ i → i < length (live_list s k)
      → pos 0 <ℤ turn_at (edge s) (get_or (live_list s k) i 0) (event s k).at → ⊥
  none_under i a b up =
      by_lt i (position_at s k + length (event s k).ending)
      (λ (m : i < (position_at s k + length (event s k).ending)).
      let h = (all k l).block.ends (get_or (live_list s k) i 0)
      (in_block (position_at s k) (length (event s k).ending) i (live_list s k) a m b) in
      let z = turn_high (edge s) (get_or (live_list s k) i 0) (event s k).at h in
      omega (arith, ints, z, up))
      (λ (m : (position_at s k + length (event s k).ending) ≤ i).
      let h = in_rest (position_at s k + length (event s k).ending) i (live_list s k) m b in
      let z = each_has (λ e. turn_at (edge s) e (event s k).at <ℤ pos 0)
      (drop (length (event s k).ending) (drop (position_at s k) (live_list s k)))
      (get_or (live_list s k) i 0) over_event
      (subst (λ (xs : List ℕ). Has (get_or (live_list s k) i 0) xs)
      (sym (drop_twice (position_at s k) (length (event s k).ending) (live_list s k))) h) in
      omega (arith, ints, z, up))

-- ---- two replays at one level
-- what these claims say of a drawing
abbrev pub told : Plan → List Timed → ℕ → List ℕ → List HalfNote → List PointPlace → Subject
told d table level ps ns xs = subject_of d
    (record { level = level; positions = ps; notes = ns; places = xs }) table

-- the second position is not above the first one
not_above : (d : Plan) (table : List Timed) (level : ℕ) → IsTableOf d level table
    → (ps qs : List ℕ) (ns ms : List HalfNote) (xs ys : List PointPlace)
    → AllRules (told d table level ps ns xs) → AllRules (told d table level qs ms ys) → (k : ℕ)
    → k < length table
    → live_list (told d table level ps ns xs) k ≡ live_list (told d table level qs ms ys) k
    → position_at (told d table level ps ns xs) k < position_at (told d table level qs ms ys) k → ⊥
not_above d table level is_table ps qs ns ms xs ys a b k l e m =
    let s = told d table level ps ns xs in
    let t = told d table level qs ms ys in
    apart (position_at s k) (position_at t k) m
    (λ i q least. none_under s is_table a.counts a.events k l i least
    (let w = (b.events k l).block.within in let c = ap length e in omega (arith, w, c, q))
    (subst (λ (es : List ℕ). pos 0 <ℤ turn_at (edge s) (get_or es i 0) (event s k).at) (sym e)
    ((b.events k l).between.below i q)))

module _ (d : Plan) (table : List Timed) (level : ℕ) (is_table : IsTableOf d level table)
    (ps qs : List ℕ) (ns ms : List HalfNote) (xs ys : List PointPlace) where
  abbrev s : Subject
  s = told d table level ps ns xs

  abbrev t : Subject
  t = told d table level qs ms ys

  module _ (a : AllRules s) (b : AllRules t) where
    position_is : (k : ℕ) → k < length table → live_list s k ≡ live_list t k
        → position_at s k ≡ position_at t k
    position_is k l e =
        by_lt (position_at s k) (position_at t k)
        (λ (m : position_at s k < position_at t k). absurd
        (not_above d table level is_table ps qs ns ms xs ys a b k l e m))
        (λ (m : position_at t k ≤ position_at s k).
        by_lt (position_at t k) (position_at s k)
        (λ (h : position_at t k < position_at s k). absurd
        (not_above d table level is_table qs ps ms ns ys xs b a k l (sym e) h))
        (λ (h : position_at s k ≤ position_at t k). omega (arith, m, h)))

    lists_are : (k : ℕ) → k ≤ length table → live_list s k ≡ live_list t k
    lists_are zero l = refl
    lists_are (suc k) l =
        let e = lists_are k (omega (arith, l)) in
        next_list s is_table a.counts k l
        ∙ ap (λ (es : List ℕ). after (step_of es (move_at (event s k) (position_at s k)))) e
        ∙ ap (λ (p : ℕ). after (step_of (live_list t k) (move_at (event s k) p)))
        (position_is k l e)
        ∙ sym (next_list t is_table b.counts k l)

    pub positions_are : ps ≡ qs
    positions_are =
        same_lists ps qs (a.counts.positions ∙ sym b.counts.positions)
        (λ k x l. entry ps k x 0 l ∙ at_event k l ∙ entry qs k 0 x
        (let i = a.counts.positions in let j = b.counts.positions in omega (arith, l, i, j)))
      where
        at_event : (k : ℕ) → k < length ps → get_or ps k 0 ≡ get_or qs k 0
        at_event k l =
            let h : k < length table = (let i = a.counts.positions in omega (arith, l, i)) in
            position_is k h (lists_are k (omega (arith, h)))
