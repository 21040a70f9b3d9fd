-- A sweep with no weight in sight: it begins, goes on, ends as a complete run, or comes to a fault
-- that shows a bad pair.
-- The weight is chosen when the sweep begins, and kept.
use Rattle.std.proofs.Common.{◌≡◌, ℕ, ◌<◌, ◌≤◌, ◌⊎◌, ℤ, pos, ◌<ℤ◌, ◌≤ℤ◌, List, [], ◌∷◌, ◌++◌}
use Rattle.std.proofs.Common.{length, get_or, inl, inr, refl, arith}
use Rattle.std.proofs.lemmas.Int.{ints}
use Rattle.plane.specs.declared.kinds.Point.{Point}
use Rattle.plane.specs.Runs.Positions.{turn_at}
use Rattle.plane.specs.Forms.Vectors.{Edge, rise, Before, point}
use Rattle.plane.specs.Lists.{Neighbours, Joint, Has, Once}
use Rattle.plane.specs.Forms.Weights.{Weight}
use Rattle.plane.specs.Runs.Steps.{Step, Run, after, onto, live}
use Rattle.plane.specs.Forms.Meets.{Fine, Bad, IsEnd, Disjoint, Touch, OnStraight}
use Rattle.plane.specs.Runs.Sweeps.{IsEventList, FinePair, Clear, Made, SomeNeighbours, OnLive}
use Rattle.plane.specs.Runs.Sweeps.{IsUnderWay, IsFaulty}
use Rattle.plane.proofs.Sweep.SweepWords.{Ready, Found}
use Rattle.plane.proofs.Linear.EdgePlaces.{side-cross}
use Rattle.plane.proofs.Linear.Weights.{rise_positive}
use Rattle.plane.proofs.Linear.SomeWeight.{some_weight}
use Rattle.plane.proofs.Sweep.SweepEnd.{ready, start, complete, complete_fine}
use Rattle.plane.proofs.Sweep.Fronts.{falls, front_cut, first_least}
use Rattle.plane.proofs.Sweep.Steps.{next, at_done}
use Rattle.plane.proofs.Runs.LiveEdges.{live_started}
use Rattle.plane.proofs.Sweep.Pairs.{on_straight}
use Rattle.plane.proofs.Sweep.Meets.{fine_cases}
use Rattle.plane.proofs.Sweep.Decisions.{meet_decided, swept_or_found, bad_is_found}
use Rattle.plane.proofs.Sweep.Finding.{on_live_bad}
use Rattle.plane.proofs.Sweep.SweepTests.{true_down, false_up, next_all, bad_after_pair, tested}
use Rattle.plane.proofs.Sweep.SweepTests.{block_clear}

-- ---- two edges, with a weight of their ends
rises : (a b : Edge) → Before a.low a.high → Before b.low b.high
    → (w : ℤ) × (pos 0 <ℤ rise w a) × (pos 0 <ℤ rise w b)
rises a b i j =
    let pts = a.low ∷ a.high ∷ b.low ∷ b.high ∷ [] in
    let (w, l, heavy) = some_weight pts in (
      w,
      rise_positive w pts a heavy (inl refl) (inr (inl refl)) i,
      rise_positive w pts b heavy (inr (inr (inl refl))) (inr (inr (inr (inl refl)))) j,
    )

pub decided : (a b : Edge) → Before a.low a.high → Before b.low b.high → Fine a b ⊎ Bad a b
decided a b i j = let (w, u, v) = rises a b i j in meet_decided w a b u v

pub fine_is : (a b : Edge) → Before a.low a.high → Before b.low b.high → Fine a b
    → Disjoint a b ⊎ Touch a b
fine_is a b i j f = let (w, u, v) = rises a b i j in fine_cases w a b u v f

module _ (m : ℕ) (E : ℕ → Edge) (pts : List Point) where
  pub begins : IsEventList m E pts → IsUnderWay m E pts [] pts
  begins ev =
      let (w, l, heavy) = some_weight pts in
      record { weight = w; heavy = heavy; ends = ev; front = start w m E pts }

  -- the record of the weight
  ready_for : (done : List Step) (coming : List Point) (u : IsUnderWay m E pts done coming)
      → Ready u.weight m E pts
  ready_for done coming u = ready u.weight m E pts u.heavy u.ends

  -- ---- the live list is divided by the next event
  pub true_before_event : (done : List Step) (v : Point) (coming : List Point) (i j d : ℕ)
      → IsUnderWay m E pts done (v ∷ coming) → i ≤ j → j < length (live done)
      → pos 0 <ℤ turn_at E (get_or (live done) j d) v
      → pos 0 <ℤ turn_at E (get_or (live done) i d) v
  true_before_event done v coming i j d u h k x =
      let a = side-cross (E (get_or (live done) j d)) v in
      let b = side-cross (E (get_or (live done) i d)) v in
      let y = true_down E v i j d (live done)
      (falls u.weight m E pts done v coming (ready_for done (v ∷ coming) u) u.front) h k
      (omega (arith, ints, a, x)) in
      omega (arith, ints, b, y)

  pub false_after_event : (done : List Step) (v : Point) (coming : List Point) (i j d : ℕ)
      → IsUnderWay m E pts done (v ∷ coming) → i ≤ j → j < length (live done)
      → turn_at E (get_or (live done) i d) v ≤ℤ pos 0
      → turn_at E (get_or (live done) j d) v ≤ℤ pos 0
  false_after_event done v coming i j d u h k x =
      let a = side-cross (E (get_or (live done) i d)) v in
      let b = side-cross (E (get_or (live done) j d)) v in
      let y = false_up E v i j d (live done)
      (falls u.weight m E pts done v coming (ready_for done (v ∷ coming) u) u.front) h k
      (omega (arith, ints, a, x)) in
      omega (arith, ints, b, y)

  -- ---- the next step
  pub goes_on : (done : List Step) (s : Step) (coming : List Point)
      → IsUnderWay m E pts done (s.at ∷ coming) → Clear E (live done) s.at → Made m E (live done) s
      → Joint (FinePair E) s.below (s.starting ++ s.above) → Neighbours (FinePair E) s.starting
      → Joint (FinePair E) s.starting s.above → IsUnderWay m E pts (s ∷ done) coming
  goes_on done s coming u clear made lower inner upper = record {
    weight = u.weight;
    heavy = u.heavy;
    ends = u.ends;
    front = next u.weight m E pts done s coming
        (ready_for done (s.at ∷ coming) u) u.front clear made
        (tested (FinePair E) m E (live done) s u.front.fine made lower inner upper);
  }

  pub goes_on_all : (done : List Step) (s : Step) (coming : List Point)
      → IsUnderWay m E pts done (s.at ∷ coming)
      → ((a b : ℕ) → a < m → b < m → (a ≡ b → ⊥) → Fine (E a) (E b))
      → Made m E (live done) s → Once s.starting → IsUnderWay m E pts (s ∷ done) coming
  goes_on_all done s coming u all made once =
      record {
        weight = u.weight;
        heavy = u.heavy;
        ends = u.ends;
        front = next_all u.weight m E pts done s coming u.heavy u.ends all u.front made once;
      }

  pub block_ends : (done : List Step) (s : Step) (coming : List Point)
      → IsUnderWay m E pts done (s.at ∷ coming) → Made m E (live done) s
      → ((e : ℕ) → Has e s.ending → (E e).high ≡ s.at) → Clear E (live done) s.at
  block_ends done s coming u made ends =
      block_clear u.weight m E pts done s coming
      (ready_for done (s.at ∷ coming) u) u.front made ends

  -- ---- the end
  pub ends_as_run : (done : List Step) → IsUnderWay m E pts done [] → Run m E (onto done [])
  ends_as_run done u = complete u.weight m E pts done u.ends u.front

  pub ends_fine : (done : List Step) (a b : ℕ) → IsUnderWay m E pts done [] → a < m → b < m
      → (a ≡ b → ⊥) → Fine (E a) (E b)
  ends_fine done a b u = complete_fine u.weight m E pts done a b u.heavy u.ends u.front

  -- ---- faults
  faulty : (w : ℤ) → Weight w pts → IsEventList m E pts → Found w m E pts → IsFaulty m E pts
  faulty w heavy ev f = record {
    done = f.done;
    event = f.event;
    coming = f.coming;
    under_way = record { weight = w; heavy = heavy; ends = ev; front = f.front };
    fault = f.fault;
  }

  pub ends_or_faulty : IsEventList m E pts
      → ((done : List Step) × IsUnderWay m E pts done []) ⊎ IsFaulty m E pts
  ends_or_faulty ev =
      let (w, l, heavy) = some_weight pts in
      elim (swept_or_found w m E pts heavy ev) [
        | inl (done, front) ↦ inl (
          done,
          record {
            weight = w;
            heavy = heavy;
            ends = ev;
            front = front;
          },
        )
        | inr f ↦ inr (faulty w heavy ev f)
      ]

  pub bad_is_faulty : (a b : ℕ) → IsEventList m E pts → a < m → b < m → (a ≡ b → ⊥)
      → Bad (E a) (E b) → IsFaulty m E pts
  bad_is_faulty a b ev la lb n bad =
      let (w, l, heavy) = some_weight pts in
      faulty w heavy ev (bad_is_found w m E pts a b heavy ev la lb n bad)

  pub on_live_is_bad : (done : List Step) (v : Point) (coming : List Point)
      → IsUnderWay m E pts done (v ∷ coming) → (o : OnLive E (live done) v) (d : ℕ) → d < m
      → IsEnd (E d) v
      → (o.edge ≡ d → ⊥) × Bad (E o.edge) (E d)
  on_live_is_bad done v coming u =
      on_live_bad u.weight m E pts done v coming (ready_for done (v ∷ coming) u) u.front

  -- a live edge whose line goes through the next event goes through it
  pub on_live_line : (done : List Step) (v : Point) (coming : List Point) (e : ℕ)
      → IsUnderWay m E pts done (v ∷ coming) → Has e (live done) → turn_at E e v ≡ pos 0
      → OnStraight (E e) (point v)
  on_live_line done v coming e u k t =
      let w = u.weight in
      let f = u.front in
      let h = ready_for done (v ∷ coming) u in
      let c = front_cut w m E pts done (v ∷ coming) h f in
      let st = live_started m E done e f.replayed k in
      let low = at_done w m E done v (E e).low coming c st.1 in
      let high = first_least w v (E e).high coming c.rising (f.late e k) in
      let z = side-cross (E e) v in
      on_straight w (E e) (point v) (h.rises e st.0) (omega (arith, ints))
      (record {
        line = omega (arith, ints, z, t);
        low = omega (arith, ints, low);
        high = omega (arith, ints, high);
      })

  pub after_is_bad : (done : List Step) (s : Step) (coming : List Point)
      → IsUnderWay m E pts done (s.at ∷ coming) → Made m E (live done) s → Once s.starting
      → SomeNeighbours (λ a b. Bad (E a) (E b)) (after s)
      → (a : ℕ) × (b : ℕ) × (a < m) × (b < m) × (a ≡ b → ⊥) × Bad (E a) (E b)
  after_is_bad done s coming u =
      bad_after_pair u.weight m E pts done s coming (ready_for done (s.at ∷ coming) u) u.front
