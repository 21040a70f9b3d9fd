-- A sweep that comes to its end without a fault is a complete run.
-- Then no two edges are bad.
use Rattle.std.proofs.Common.{◌≡◌, ℕ, ◌<◌, ℤ, ◌<ℤ◌, inl, inr, List, [], ◌∷◌, refl, arith, ap, sym}
use Rattle.std.proofs.Common.{◌∙◌, subst}
use Rattle.std.proofs.lemmas.Int.{ints}
use Rattle.plane.specs.declared.kinds.Point.{Point}
use Rattle.plane.specs.Forms.Vectors.{point, Edge, sweep, Before}
use Rattle.plane.specs.Lists.{First, Neighbours, Has}
use Rattle.plane.specs.Runs.Steps.{Step, IsReplay, AtSome, Run, onto, live, Replayed, WeighedRun}
use Rattle.plane.specs.Forms.Weights.{Weight}
use Rattle.plane.specs.Forms.Meets.{Fine, Bad}
use Rattle.plane.specs.Runs.Sweeps.{IsEventList, trail, Front}
use Rattle.plane.proofs.Sweep.SweepWords.{RisingPoints, Ready}
use Rattle.plane.proofs.ListLemmas.Lists.{each_from, each_map, neighbours_map}
use Rattle.plane.proofs.Linear.Vectors.{rise-is}
use Rattle.plane.proofs.Runs.Moments.{swept}
use Rattle.plane.proofs.Runs.Meeting.{meet_in_ends}
use Rattle.plane.proofs.Sweep.Pairs.{straight_on}

-- ---- events with a weight
pub points_rise : (w : ℤ) (ps : List Point)
    → Neighbours (λ p q. sweep w (point p) <ℤ sweep w (point q)) ps → RisingPoints w ps
points_rise w [] h = tt
points_rise w (p ∷ []) h = (tt, tt)
points_rise w (p ∷ (q ∷ ps)) h =
    let rest = points_rise w (q ∷ ps) h.1 in
    let l : sweep w (point p) <ℤ sweep w (point q) = h.0 in (
      (
        l,
        each_map (λ r. sweep w (point q) <ℤ sweep w (point r))
            (λ r. sweep w (point p) <ℤ sweep w (point r)) ps
            (λ r (k : sweep w (point q) <ℤ sweep w (point r)). omega (arith, ints, l, k)) rest.0,
      ),
      rest,
    )

pub ready : (w : ℤ) (m : ℕ) (E : ℕ → Edge) (pts : List Point) → Weight w pts → IsEventList m E pts
    → Ready w m E pts
ready w m E pts h ev = record {
  rising = points_rise w pts
      (neighbours_map Before (λ p q. sweep w (point p) <ℤ sweep w (point q)) pts
      (λ p q kp kq b. h p q kp kq b) ev.rises);
  ends = ev.ends;
  rises = λ e l.
      let up = h (E e).low (E e).high (ev.ends e l).0 (ev.ends e l).1 (ev.edges e l) in
      let r = rise-is w (E e) in
      omega (arith, ints, up, r);
}

-- ---- the start
pub start : (w : ℤ) (m : ℕ) (E : ℕ → Edge) (pts : List Point) → Front w m E pts [] pts
start w m E pts = record { replayed = tt; is = refl; late = λ e k. absurd k; order = tt; fine = tt }

-- ---- the end
abbrev pub points_of : List Step → List Point
points_of [] = []
points_of (s ∷ steps) = s.at ∷ points_of steps

trail_onto : (done steps : List Step) → trail done (points_of steps) ≡ points_of (onto done steps)
trail_onto [] steps = refl
trail_onto (s ∷ done) steps = trail_onto done (s ∷ steps)

nothing_live : (E : ℕ → Edge) (now : List ℕ) → ((e : ℕ) → Has e now → Has (E e).high []) → now ≡ []
nothing_live E [] h = refl
nothing_live E (e ∷ now) h = absurd (h e (inl refl))

replays_onto : (m : ℕ) (E : ℕ → Edge) (done todo : List Step) → Replayed m E done
    → IsReplay m E (live done) todo → IsReplay m E [] (onto done todo)
replays_onto m E [] todo h k = k
replays_onto m E (s ∷ done) todo h k = replays_onto m E done (s ∷ todo) h.2 (h.0, h.1, k)

steps_first : (s : Step) (steps : List Step) → First (Before s.at) (points_of steps)
    → First (λ t. Before s.at t.at) steps
steps_first s [] h = tt
steps_first s (t ∷ steps) h = h

steps_rise : (steps : List Step) → Neighbours Before (points_of steps)
    → Neighbours (λ s t. Before s.at t.at) steps
steps_rise [] h = tt
steps_rise (s ∷ steps) h = (steps_first s steps h.0, steps_rise steps h.1)

at_point : (p : Point) (steps : List Step) → Has p (points_of steps) → AtSome p steps
at_point p [] k = absurd k
at_point p (s ∷ steps) (inl e) = (s, inl refl, e)
at_point p (s ∷ steps) (inr k) = let (t, l, q) = at_point p steps k in (t, inr l, q)

point_at : (s : Step) (steps : List Step) → Has s steps → Has s.at (points_of steps)
point_at s [] k = absurd k
point_at s (t ∷ steps) (inl e) = inl (ap (λ (u : Step). u.at) e)
point_at s (t ∷ steps) (inr k) = inr (point_at s steps k)

pub complete : (w : ℤ) (m : ℕ) (E : ℕ → Edge) (pts : List Point) (done : List Step)
    → IsEventList m E pts → Front w m E pts done [] → Run m E (onto done [])
complete w m E pts done ev f =
    let same : points_of (onto done []) ≡ pts = sym (trail_onto done []) ∙ f.is in
    record {
      replays = replays_onto m E done [] f.replayed (nothing_live E (live done) f.late);
      rises = steps_rise (onto done []) (subst (λ ps. Neighbours Before ps) (sym same) ev.rises);
      ends = λ e l. (
        at_point (E e).low (onto done [])
            (subst (λ ps. Has (E e).low ps) (sym same) (ev.ends e l).0),
        at_point (E e).high (onto done [])
            (subst (λ ps. Has (E e).high ps) (sym same) (ev.ends e l).1),
      );
      events = λ s k. ev.events s.at (subst (λ ps. Has s.at ps) same (point_at s (onto done []) k));
      edges = ev.edges;
    }

pub complete_swept : (w : ℤ) (m : ℕ) (E : ℕ → Edge) (pts : List Point) (done : List Step)
    → Weight w pts → IsEventList m E pts → Front w m E pts done [] → WeighedRun w m E (onto done [])
complete_swept w m E pts done h ev f =
    let same : points_of (onto done []) ≡ pts = sym (trail_onto done []) ∙ f.is in
    swept w pts m E (onto done []) h
    (each_from (λ s. Has s.at pts) (onto done [])
    (λ s k. subst (λ ps. Has s.at ps) same (point_at s (onto done []) k)))
    (complete w m E pts done ev f)

-- ---- in a run no two edges are bad
pub run_fine : (w : ℤ) (m : ℕ) (E : ℕ → Edge) (steps : List Step) (a b : ℕ) → WeighedRun w m E steps
    → a < m → b < m → (a ≡ b → ⊥) → Fine (E a) (E b)
run_fine w m E steps a b h la lb differ z hz oa ob =
    meet_in_ends w m E steps z a b h la lb differ hz (straight_on w (E a) z (h.rises a la) hz oa)
    (straight_on w (E b) z (h.rises b lb) hz ob)

pub fine_not_bad : (a b : Edge) → Fine a b → Bad a b → ⊥
fine_not_bad a b fine bad = bad.no_end (fine bad.at bad.place bad.of_first bad.of_second)

pub run_not_bad : (w : ℤ) (m : ℕ) (E : ℕ → Edge) (steps : List Step) (a b : ℕ)
    → WeighedRun w m E steps → a < m → b < m → (a ≡ b → ⊥) → Bad (E a) (E b) → ⊥
run_not_bad w m E steps a b h la lb differ =
    fine_not_bad (E a) (E b) (run_fine w m E steps a b h la lb differ)

-- no two edges are bad
pub complete_fine : (w : ℤ) (m : ℕ) (E : ℕ → Edge) (pts : List Point) (done : List Step) (a b : ℕ)
    → Weight w pts → IsEventList m E pts → Front w m E pts done [] → a < m → b < m → (a ≡ b → ⊥)
    → Fine (E a) (E b)
complete_fine w m E pts done a b h ev f =
    run_fine w m E (onto done []) a b (complete_swept w m E pts done h ev f)
