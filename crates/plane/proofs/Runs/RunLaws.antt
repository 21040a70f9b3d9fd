-- The laws of a complete run with no weight in sight: how its edges meet, what its events are,
-- which edges are live, and how a
-- point divides a live list. Each takes a weight of the run, and of the point that it speaks of.
use Rattle.std.proofs.Common.{◌≡◌, ℕ, ◌<◌, ◌⊎◌, ℤ, pos, ◌*ℤ◌, ◌<ℤ◌, ◌≤ℤ◌, List, [], ◌∷◌, length}
use Rattle.std.proofs.Common.{inl, inr, refl, arith, ap, sym, subst}
use Rattle.std.proofs.lemmas.Int.{ints}
use Rattle.plane.specs.declared.kinds.Point.{Point}
use Rattle.plane.specs.Runs.Positions.{turn_at}
use Rattle.plane.specs.Lists.{Each, Has, Once}
use Rattle.plane.specs.Forms.Vectors.{point, Edge, side, sweep, Before}
use Rattle.plane.specs.Runs.Steps.{Step, Run, WeighedRun, AtSome, onto, live, Divides}
use Rattle.plane.specs.Forms.Meets.{OnStraight, IsEnd, Disjoint, Touch, Fine}
use Rattle.plane.specs.Rule.Triangles as curves
use Rattle.plane.specs.Rule.Plans.{Plan, curve}
use Rattle.plane.specs.Faces.DrawnRuns.{IsRunOf}
use Rattle.plane.proofs.ListLemmas.Lists.{each_has, each_from, each_map}
use Rattle.plane.proofs.Linear.EdgePlaces.{place_point, side-cross}
use Rattle.plane.proofs.Linear.Straights.{on_is}
use Rattle.plane.proofs.Covers.CurveEdges.{on_edge_is, controls_from}
use Rattle.plane.proofs.Covers.StraightCovers.{straights_apart_is}
use Rattle.plane.proofs.Runs.LiveEdges.{live_started, live_ends, is_live}
use Rattle.plane.proofs.Runs.Moments.{moment, not_done, todo_onto}
use Rattle.plane.proofs.Runs.Order.{event_sides}
use Rattle.plane.proofs.Runs.Places.{place_divides}
use Rattle.plane.proofs.Runs.Meeting.{event_is_end, ends_differ, live_once}
use Rattle.plane.proofs.Sweep.SweepEnd.{run_fine}
use Rattle.plane.proofs.Sweep.UnderWay.{fine_is}
use Rattle.plane.proofs.Runs.RunWeights.{run_weight}

-- ---- how edges meet
module _ (m : ℕ) (E : ℕ → Edge) (steps : List Step) (run : Run m E steps) where
  pub run_is_fine : (a b : ℕ) → a < m → b < m → (a ≡ b → ⊥) → Fine (E a) (E b)
  run_is_fine a b la lb n =
      let u = run_weight m E steps [] run in run_fine u.weight m E steps a b u.swept la lb n

  pub run_meets : (a b : ℕ) → a < m → b < m → (a ≡ b → ⊥) → Disjoint (E a) (E b) ⊎ Touch (E a) (E b)
  run_meets a b la lb n =
      fine_is (E a) (E b) (run.edges a la) (run.edges b lb) (run_is_fine a b la lb n)

  pub run_differ : (a b : ℕ) → a < m → b < m → (a ≡ b → ⊥) → E a ≡ E b → ⊥
  run_differ a b la lb n =
      let u = run_weight m E steps [] run in ends_differ u.weight m E steps a b u.swept la lb n

pub curves_apart : (d : Plan) (E : ℕ → Edge) (steps : List Step) → IsRunOf d E steps → (i j : ℕ)
    → i < length d.curves → j < length d.curves → (i ≡ j → ⊥) → curves.Apart (curve d i) (curve d j)
curves_apart d E steps on i j li lj n =
    let edges = on.edges in
    (straights_apart_is (curve d i) (curve d j) (edges.straight i li) (edges.straight j lj)).1
    (λ z Z a b.
    controls_from (E i) (E j) (curve d i) (curve d j) z (edges.edge i li) (edges.edge j lj)
    (run_is_fine (length d.curves) E steps on.run i j li lj n z Z
    ((on_edge_is (E i) (curve d i) z (edges.edge i li) (edges.straight i li) Z).1 a)
    ((on_edge_is (E j) (curve d j) z (edges.edge j lj) (edges.straight j lj) Z).1 b)))

-- ---- events
-- a list of steps cut at one of them
split_at : (s : Step) (done steps : List Step) → Has s steps
    → (d : List Step) × (t : List Step) × (onto done steps ≡ onto d (s ∷ t))
split_at s done [] h = absurd h
split_at s done (x ∷ steps) (inl e) =
    (done, steps, ap (λ (y : Step). onto done (y ∷ steps)) (sym e))
split_at s done (x ∷ steps) (inr h) = split_at s (x ∷ done) steps h

module _ (m : ℕ) (E : ℕ → Edge) (steps : List Step) (run : Run m E steps) (s : Step)
    (has : Has s steps) where
  moment_of : (w : ℤ) × (done : List Step) × (todo : List Step)
      × WeighedRun w m E (onto done (s ∷ todo))
  moment_of =
      let u = run_weight m E steps [] run in
      let (d, t, e) = split_at s [] steps has in
      (u.weight, d, t, subst (λ (x : List Step). WeighedRun u.weight m E x) e u.swept)

  pub event_end : (e : ℕ) → e < m → OnStraight (E e) (point s.at) → IsEnd (E e) s.at
  event_end e l on =
      let (w, d, t, all) = moment_of in
      event_is_end w m E d t s e all l
      ((on_is w (E e) (point s.at) (all.rises e l) (place_point s.at)).1 on)

  -- all edges below an event, and all above it, are strictly so
  pub beside_event : Each (λ e. pos 0 <ℤ turn_at E e s.at) s.below
      × Each (λ e. turn_at E e s.at <ℤ pos 0) s.above
  beside_event =
      let (w, d, t, all) = moment_of in
      let k = event_sides w m E d t s all in (
        each_map (λ e. pos 0 <ℤ side (E e) (point s.at)) (λ e. pos 0 <ℤ turn_at E e s.at) s.below
            (λ e (x : pos 0 <ℤ side (E e) (point s.at)). let q = side-cross (E e) s.at in
            omega (arith, ints, q, x)) k.0,
        each_map (λ e. side (E e) (point s.at) <ℤ pos 0) (λ e. turn_at E e s.at <ℤ pos 0) s.above
            (λ e (x : side (E e) (point s.at) <ℤ pos 0). let q = side-cross (E e) s.at in
            omega (arith, ints, q, x)) k.1,
      )

-- ---- live lists
pub done_onto : (s : Step) (done todo : List Step) → Has s done → Has s (onto done todo)
done_onto s [] todo h = absurd h
done_onto s (x ∷ done) todo (inl e) = todo_onto s done (x ∷ todo) (inl e)
done_onto s (x ∷ done) todo (inr h) = done_onto s done (x ∷ todo) h

module _ (m : ℕ) (E : ℕ → Edge) (done todo : List Step) (run : Run m E (onto done todo)) where
  heavy : (w : ℤ) × WeighedRun w m E (onto done todo)
  heavy = let u = run_weight m E (onto done todo) [] run in (u.weight, u.swept)

  pub run_live : (e : ℕ) → e < m → AtSome (E e).low done → AtSome (E e).high todo
      → Has e (live done)
  run_live e l low high =
      let (w, all) = heavy in
      let i = moment w m E done todo all in
      is_live m E done e l i.done_good low (not_done w m E done todo (E e).high i high)

  pub run_started : (e : ℕ) → Has e (live done)
      → (e < m) × (AtSome (E e).low done × AtSome (E e).high todo)
  run_started e k =
      let (w, all) = heavy in
      let i = moment w m E done todo all in
      let s = live_started m E done e i.done_good k in
      (s.0, (s.1, live_ends m E (live done) todo e i.todo_good k))

  pub run_once : Once (live done)
  run_once = let (w, all) = heavy in live_once w m E done todo all

  -- a point on no edge, after the events that are done and before those to come, divides the live
  -- list
  pub point_divides : (v : Point) → Each (λ s. Before s.at v) done → Each (λ s. Before v s.at) todo
      → ((e : ℕ) → e < m → OnStraight (E e) (point v) → ⊥) → Divides E (point v) (live done)
  point_divides v before after off =
      let u = run_weight m E (onto done todo) (v ∷ []) run in
      let w = u.weight in
      let has : (s : Step) → Has s (onto done todo)
      → Has s.at u.points =
      λ s h. each_has (λ s. Has s.at u.points) (onto done todo) s u.events h in
      let known = u.known v (inl refl) in
      place_divides w m E done todo (point v) u.swept
      (record {
        passed = each_from (λ s. (sweep w (point s.at) *ℤ (point v).n) ≤ℤ sweep w (point v)) done
            (λ s h. let l = u.heavy s.at v (has s (done_onto s done todo h)) known
            (each_has (λ s. Before s.at v) done s before h) in omega (arith, ints, l));
        coming = each_from (λ s. sweep w (point v) <ℤ (sweep w (point s.at) *ℤ (point v).n)) todo
            (λ s h. let l = u.heavy v s.at known (has s (todo_onto s done todo h))
            (each_has (λ s. Before v s.at) todo s after h) in omega (arith, ints, l));
      }) (place_point v)
      (λ e l on. off e l ((on_is w (E e) (point v) (u.swept.rises e l) (place_point v)).0 on))
