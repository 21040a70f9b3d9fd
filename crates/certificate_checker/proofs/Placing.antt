-- A point is placed exactly where the tests at its place of the live list say so.
use Rattle.std.proofs.Common.{◌≡◌, ◌↔◌, ℕ, zero, suc, ◌-◌, ◌<◌, ◌≤◌, ◌⊎◌, ◌<ℤ◌, ◌≤ℤ◌, pos, inl, inr}
use Rattle.std.proofs.Common.{Bool, false, cond, List, [], ◌∷◌, length, map, get_or, refl, arith}
use Rattle.std.proofs.Common.{ap, sym, ◌∙◌, subst}
use Rattle.std.proofs.lemmas.Int.{ints, by_lt_z}
use Rattle.straight_predicates.proofs.Orders.{int_equal}
use Rattle.certificate_checker.proofs.Entries.{by_lt}
use Rattle.plane.specs.declared.kinds.Point.{Point}
use Rattle.plane.specs.Faces.Halves.{AtBefore, Beside, Half, over, under}
use Rattle.plane.specs.Faces.Replays.{no_step}
use Rattle.plane.specs.Forms.Vectors.{Before}
use Rattle.plane.specs.Lists.{Neighbours}
use Rattle.plane.specs.Runs.Moves.{steps_from}
use Rattle.plane.specs.Runs.Positions.{turn_at}
use Rattle.plane.specs.Runs.Timetables.{IsTimetable, Timed, no_event}
use Rattle.tubes.proofs.EdgeLemmas.{first_is, later_is}
use Rattle.tubes.specs.DrawnEdges.{comes_first}
use Rattle.certificate.specs.declared.notes.PointPlace.TheVariants as place
use Rattle.certificate_checker.specs.InCells.{IsBetweenEdges, IsInStrip}
use Rattle.certificate_checker.specs.Rules.{HasCounts, IsInOwnCell}
use Rattle.certificate_checker.specs.Subjects.{Subject, edge, event, events_before, index_of}
use Rattle.certificate_checker.specs.Subjects.{live_list, moves, note_at, place_at, point_at}
use Rattle.certificate_checker.specs.Subjects.{replay_of, sector_of, strip_of}
use Rattle.certificate_checker.proofs.ListParts.{at_of, of_at}
use Rattle.certificate_checker.proofs.PlaneLaws.{before_trans, list_is, never, side-cross}
use Rattle.certificate_checker.proofs.PlaneLaws.{steps_length}
use Rattle.certificate_checker.proofs.Runs.{moves_size, step_at_event}

-- ---- how many events come before a point
never_first : (p q : Point) → (Before p q → ⊥) → comes_first p q ≡ false
never_first p q n =
    by_lt_z p.x q.x (λ (l : p.x <ℤ q.x). absurd (n (inl l))) (λ (l : q.x ≤ℤ p.x).
    by_lt_z q.x p.x (λ (k : q.x <ℤ p.x). later_is p q (inl k)) (λ (k : p.x ≤ℤ q.x).
    let x : p.x ≡ q.x = omega (arith, ints, l, k) in
    by_lt_z p.y q.y (λ (a : p.y <ℤ q.y). absurd (n (inr (x, a)))) (λ (a : q.y ≤ℤ p.y).
    by_lt_z q.y p.y (λ (b : q.y <ℤ p.y). later_is p q (inr (sym x, b))) (λ (b : p.y ≤ℤ q.y).
    let y : p.y ≡ q.y = omega (arith, ints, a, b) in
    let cx = int_equal p.x q.x x in
    let cy = int_equal p.y q.y y in
    rw (cx, cy) refl))))

pub strip_is : (table : List Timed) (p : Point) (k : ℕ) → k ≤ length table
    → ((j : ℕ) → j < k → Before (get_or table j no_event).at p)
    → (k < length table → Before (get_or table k no_event).at p → ⊥)
    → events_before table p ≡ k
strip_is [] p k l f n = omega (arith, l)
strip_is (t ∷ table) p zero l f n =
    ap (λ (b : Bool). cond b (suc (events_before table p)) 0) (never_first t.at p (n (omega arith)))
strip_is (t ∷ table) p (suc k) l f n =
    ap (λ (b : Bool). cond b (suc (events_before table p)) 0) (first_is t.at p (f 0 (omega arith)))
    ∙ ap (λ (n : ℕ). suc n)
    (strip_is table p k (omega (arith, l)) (λ j m. f (suc j) (omega (arith, m)))
    (λ m. n (omega (arith, m))))

-- ---- events rise
abbrev points_of : List Timed → List Point
points_of table = map (λ (t : Timed). t.at) table

head_before : (t : Timed) (table : List Timed) (j : ℕ) → Neighbours Before (points_of (t ∷ table))
    → j < length table → Before t.at (get_or table j no_event).at
head_before t [] j h l = absurd (omega (arith, l))
head_before t (u ∷ table) zero h l = h.0
head_before t (u ∷ table) (suc j) h l =
    before_trans t.at u.at (get_or table j no_event).at h.0
    (head_before u table j h.1 (omega (arith, l)))

pub events_rise : (table : List Timed) (i j : ℕ) → Neighbours Before (points_of table) → i < j
    → j < length table → Before (get_or table i no_event).at (get_or table j no_event).at
events_rise [] i j h l m = absurd (omega (arith, m))
events_rise (t ∷ table) i zero h l m = absurd (omega (arith, l))
events_rise (t ∷ table) zero (suc j) h l m = head_before t table j h (omega (arith, m))
events_rise (t ∷ table) (suc i) (suc j) h l m =
    events_rise table i j h.1 (omega (arith, l)) (omega (arith, m))

pub not_before : (p q : Point) → (Before p q → ⊥) → (p ≡ q → ⊥) → Before q p
not_before p q n d =
    by_lt_z p.x q.x (λ (l : p.x <ℤ q.x). absurd (n (inl l))) (λ (l : q.x ≤ℤ p.x).
    by_lt_z q.x p.x (λ (k : q.x <ℤ p.x). inl k) (λ (k : p.x ≤ℤ q.x).
    let x : p.x ≡ q.x = omega (arith, ints, l, k) in
    by_lt_z p.y q.y (λ (a : p.y <ℤ q.y). absurd (n (inr (x, a)))) (λ (a : q.y ≤ℤ p.y).
    by_lt_z q.y p.y (λ (b : q.y <ℤ p.y). inr (sym x, b)) (λ (b : p.y ≤ℤ q.y).
    let y : p.y ≡ q.y = omega (arith, ints, a, b) in
    absurd (d (λ i. record { x = x i; y = y i }))))))

-- what comes after one that is not after another comes after that too
pub after_all : (v p q : Point) → Before v p → (Before q p → ⊥) → Before v q
after_all v p q b n =
    by_lt_z p.x q.x (λ (l : p.x <ℤ q.x). before_trans v p q b (inl l)) (λ (l : q.x ≤ℤ p.x).
    by_lt_z q.x p.x (λ (k : q.x <ℤ p.x). absurd (n (inl k))) (λ (k : p.x ≤ℤ q.x).
    let x : p.x ≡ q.x = omega (arith, ints, l, k) in
    by_lt_z p.y q.y (λ (a : p.y <ℤ q.y). before_trans v p q b (inr (x, a))) (λ (a : q.y ≤ℤ p.y).
    by_lt_z q.y p.y (λ (c : q.y <ℤ p.y). absurd (n (inr (sym x, c)))) (λ (c : p.y ≤ℤ q.y).
    let y : p.y ≡ q.y = omega (arith, ints, a, c) in
    subst (λ (r : Point). Before v r) (λ i. record { x = x i; y = y i }) b))))

pub before_of : (es : List ℕ) (i e : ℕ) → 0 < i → i ≤ length es → get_or es (i - 1) 0 ≡ e
    → AtBefore es i e
before_of es zero e l m q = absurd (omega (arith, l))
before_of es (suc i) e l m q =
    at_of es i e (omega (arith, m)) (ap (λ (k : ℕ). get_or es k 0) (back i) ∙ q)
  where
    back : (i : ℕ) → i ≡ suc i - 1
    back i = omega arith

pub of_before : (es : List ℕ) (i e : ℕ) → AtBefore es i e → (0 < i) × (get_or es (i - 1) 0 ≡ e)
of_before es zero e h = absurd h
of_before es (suc i) e h =
    (omega arith, ap (λ (k : ℕ). get_or es k 0) (back i) ∙ (of_at es i e h).1)
  where
    back : (i : ℕ) → suc i - 1 ≡ i
    back i = omega arith

under_one : (d e : ℕ) → under d ≡ under e → d ≡ e
under_one d e q = cc

over_one : (d e : ℕ) → over d ≡ over e → d ≡ e
over_one d e q = cc

under_over : (d e : ℕ) → under d ≡ over e → ⊥
under_over d e q = cc

over_under : (d e : ℕ) → over d ≡ under e → ⊥
over_under d e q = cc

module _ (s : Subject) (t : IsTimetable (length s.edges) (edge s) s.table) (n : HasCounts s) (k : ℕ)
    (w : k ≤ length s.table) (j : ℕ) (strip : IsInStrip s k (point_at s j)) where
  is_strip : strip_of s j ≡ k
  is_strip = strip_is s.table (point_at s j) k w strip.passed strip.next

  list_now : (replay_of s).list (strip_of s j) ≡ live_list s k
  list_now = ap (λ (i : ℕ). (replay_of s).list i) is_strip
      ∙ list_is [] (moves s) k (let e = moves_size s t n in omega (arith, w, e))

  step_point : (i : ℕ) → i < length s.table
      → (get_or (steps_from [] (moves s)) i no_step).at ≡ (event s i).at
  step_point i l = ap (λ x. x.at) (step_at_event s t n i l)

  steps_size : length (steps_from [] (moves s)) ≡ length s.table
  steps_size = steps_length [] (moves s) ∙ moves_size s t n

  -- a point at an event is placed nowhere
  pub event_unplaced : k < length s.table → point_at s j ≡ (event s k).at → IsInOwnCell s j → ⊥
  event_unplaced l e p =
      let b = p.between.coming k (let a = is_strip in omega (arith, a)) (let a = steps_size in
      omega (arith, l, a)) in
      never (point_at s j) (subst (λ q. Before (point_at s j) q) (step_point k l ∙ sym e) b)

  module _ (live : List ℕ) (now : live ≡ live_list s k) where
    list_is_live : live ≡ (replay_of s).list (strip_of s j)
    list_is_live = now ∙ sym list_now

    pub placed_tests : IsInOwnCell s j
        → (place_at s j ≡ place.Cell (index_of s j)) × IsBetweenEdges s live j (index_of s j)
    placed_tests p =
        let es = (replay_of s).list (strip_of s j) in
        let (lo, le) = of_before es (index_of s j) p.between.lower p.between.is_lower in
        let (hi, he) = of_at es (index_of s j) p.between.upper p.between.is_upper in (
          p.cell,
          subst (λ (xs : List ℕ). IsBetweenEdges s xs j (index_of s j)) (sym list_is_live) (record {
            some = lo;
            within = hi;
            sides = record {
              above = (let c = side-cross (edge s p.between.lower) (point_at s j) in
                  let a = p.between.above in
                  subst (λ (x : ℕ). pos 0 <ℤ turn_at (edge s) x (point_at s j)) (sym le)
                  (omega (arith, ints, a, c)));
              below = (let c = side-cross (edge s p.between.upper) (point_at s j) in
                  let a = p.between.below in
                  subst (λ (x : ℕ). turn_at (edge s) x (point_at s j) <ℤ pos 0) (sym he)
                  (omega (arith, ints, a, c)));
            };
            labels = record {
              lower = subst (λ (x : ℕ). (note_at s (over x)).label ≡ suc j) (sym le) p.lower;
              upper = subst (λ (x : ℕ). (note_at s (under x)).label ≡ suc j) (sym he) p.upper;
            };
          }),
        )

    pub tests_placed : (k < length s.table → point_at s j ≡ (event s k).at → ⊥)
        → place_at s j ≡ place.Cell (index_of s j) → IsBetweenEdges s live j (index_of s j)
        → IsInOwnCell s j
    tests_placed d q b =
        let es = (replay_of s).list (strip_of s j) in
        let b = subst (λ (xs : List ℕ). IsBetweenEdges s xs j (index_of s j)) list_is_live b in
        record {
          cell = q;
          between = record {
            fits = (let a = is_strip in let e = steps_size in omega (arith, a, e, w));
            passed = λ i l. (let m : i < k = (let a = is_strip in omega (arith, a, l)) in
                subst (λ x. Before x (point_at s j)) (sym (step_point i (omega (arith, m, w))))
                (strip.passed i m));
            coming = λ i l m. (let r : i < length s.table = (let e = steps_size in
                omega (arith, m, e)) in
                subst (λ x. Before (point_at s j) x) (sym (step_point i r))
                (later i (let a = is_strip in omega (arith, a, l)) r));
            lower = get_or es (index_of s j - 1) 0;
            upper = get_or es (index_of s j) 0;
            is_lower = before_of es (index_of s j) _ b.some (let a = b.within in
                omega (arith, a)) refl;
            is_upper = at_of es (index_of s j) _ b.within refl;
            above = (let c = side-cross (edge s (get_or es (index_of s j - 1) 0)) (point_at s j) in
                let a = b.sides.above in omega (arith, ints, a, c));
            below = (let c = side-cross (edge s (get_or es (index_of s j) 0)) (point_at s j) in
                let a = b.sides.below in omega (arith, ints, a, c));
          };
          lower = b.labels.lower;
          upper = b.labels.upper;
        }
      where
        later : (i : ℕ) → k ≤ i → i < length s.table → Before (point_at s j) (event s i).at
        later i l m =
            let h : k < length s.table = omega (arith, l, m) in
            let first : Before (point_at s j) (event s k).at = not_before (event s k).at
            (point_at s j) (strip.next h) (λ e. d h (sym e)) in
            by_lt k i (λ (g : k < i). before_trans (point_at s j) (event s k).at
            (event s i).at first (events_rise s.table k i t.events.rises g m))
            (λ (g : i ≤ k). subst (λ (x : ℕ). Before (point_at s j) (event s x).at)
            (same k i l g) first)
          where
            same : (k i : ℕ) → k ≤ i → i ≤ k → k ≡ i
            same k i l m = omega (arith, l, m)

    -- the half-edges beside the cell of a placed point
    pub beside_cell : (h : Half) → index_of s j < length live → 0 < index_of s j
        → Beside (replay_of s) h (sector_of s j)
        ↔ ((h ≡ over (get_or live (index_of s j - 1) 0))
        ⊎ (h ≡ under (get_or live (index_of s j) 0)))
    beside_cell h l m =
        subst (λ (xs : List ℕ). Beside (replay_of s) h (sector_of s j)
        ↔ ((h ≡ over (get_or xs (index_of s j - 1) 0)) ⊎ (h ≡ under (get_or xs (index_of s j) 0))))
        (sym list_is_live) (by_half h)
      where
        inside : index_of s j < length ((replay_of s).list (strip_of s j))
        inside = subst (λ (xs : List ℕ). index_of s j < length xs) list_is_live l

        by_half : (h : Half)
            → Beside (replay_of s) h (sector_of s j)
            ↔ ((h ≡ over (get_or ((replay_of s).list (strip_of s j)) (index_of s j - 1) 0))
            ⊎ (h ≡ under (get_or ((replay_of s).list (strip_of s j)) (index_of s j) 0)))
        by_half (under e) = (
          (λ a. inr (ap under
              (sym (of_at ((replay_of s).list (strip_of s j)) (index_of s j) e a).1))),
          (λ x. elim x [
            | inl q ↦ absurd
                (under_over e (get_or ((replay_of s).list (strip_of s j)) (index_of s j - 1) 0) q)
            | inr q ↦ at_of ((replay_of s).list (strip_of s j)) (index_of s j) e inside
                (sym (under_one e (get_or ((replay_of s).list (strip_of s j)) (index_of s j) 0) q))
          ]),
        )
        by_half (over e) = (
          (λ a. inl (ap over
              (sym (of_before ((replay_of s).list (strip_of s j)) (index_of s j) e a).1))),
          (λ x. elim x [
            | inl q ↦ before_of ((replay_of s).list (strip_of s j)) (index_of s j) e m
                (let a = inside in omega (arith, a))
                (sym (over_one e (get_or ((replay_of s).list (strip_of s j)) (index_of s j - 1) 0)
                q))
            | inr q ↦ absurd
                (over_under e (get_or ((replay_of s).list (strip_of s j)) (index_of s j) 0) q)
          ]),
        )
