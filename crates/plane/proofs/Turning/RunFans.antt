-- The fan of a step holds all half-edges that start at its event.
-- So in every run the next half-edge is the first one clockwise, with no premise of its own.
use Rattle.std.proofs.Common.{◌≡◌, ℕ, zero, suc, ◌<◌, ◌≤◌, List, [], ◌∷◌, length, ℤ, pos, arith, ap}
use Rattle.std.proofs.Common.{sym, inl, inr, subst}
use Rattle.std.proofs.lemmas.Int.{ints}
use Rattle.plane.specs.declared.kinds.Point.{Point}
use Rattle.plane.specs.Lists.{Neighbours, Has}
use Rattle.plane.specs.Forms.Vectors.{point, Edge, side, sweep}
use Rattle.plane.specs.Runs.Steps.{Step, after, Turns, IsReplay, Run, WeighedRun}
use Rattle.plane.specs.Faces.Replays.{Replay, replay}
use Rattle.plane.proofs.Runs.RunWords.{IsRun, IsLawful}
use Rattle.plane.specs.Faces.Halves.{Half, under, over, edge_of, twin}
use Rattle.plane.specs.Faces.Classes.{starting_halves, ending_halves, fan, Next}
use Rattle.plane.specs.Faces.Directions.{origin, IsClockwiseNext}
use Rattle.plane.proofs.ListLemmas.Lists.{has_front, has_back, has_three}
use Rattle.plane.proofs.Linear.Vectors.{side-low, side-high, rise-is}
use Rattle.plane.proofs.Strips.ToTheRight.{reach_most}
use Rattle.plane.proofs.Strips.Columns.{by_less}
use Rattle.plane.proofs.Runs.Numbered.{nth, swept_run}
use Rattle.plane.proofs.Runs.Lawful.{swept_lawful}
use Rattle.plane.proofs.Turning.FanOrder.{outward_has, inward_has, next_clockwise}

module _ (r : Replay) (run : IsRun r) (law : IsLawful r) where
  not_below : (k e : ℕ) → k < r.steps → side (r.edge e) (point (r.step k).at) ≡ pos 0
      → Has e (r.step k).below → ⊥
  not_below k e l z h = let a = law.under k l e h in omega (arith, ints, a, z)

  not_above : (k e : ℕ) → k < r.steps → side (r.edge e) (point (r.step k).at) ≡ pos 0
      → Has e (r.step k).above → ⊥
  not_above k e l z h = let a = law.over k l e h in omega (arith, ints, a, z)

  -- an edge that starts at the event is one of the starting ones, and one that ends there is one of
  -- the ending ones
  starts : (k e : ℕ) → k < r.steps → e < r.edges → (r.edge e).low ≡ (r.step k).at
      → Has e (r.step k).starting
  starts k e l f q =
      let d = run.ends e f in
      let later : k < d.0 = by_less k d.0 (λ h. h)
      (λ (h : d.0 ≤ k).
      let a = reach_most r run d.0 k h l in
      let b = ap (λ (p : Point). sweep r.weight (point p)) d.2 in
      let c = ap (λ (p : Point). sweep r.weight (point p)) q in
      let u = run.rise e f in
      let v = rise-is r.weight (r.edge e) in
      absurd (omega (arith, ints, a, b, c, u, v))) in
      let has = law.alive (suc k) e k d.0 f (omega arith) (sym q) later d.1 d.2 in
      let s = r.step k in
      let zero : side (r.edge e) (point s.at)
      ≡ pos 0 = subst (λ (p : Point). side (r.edge e) (point p) ≡ pos 0) q
      (side-low (r.edge e)) in
      elim (has_three e s.below s.starting s.above
      (subst (λ (es : List ℕ). Has e es) (run.after k l) has)) [
        | inl h ↦ absurd (not_below k e l zero h)
        | inr h ↦ elim h [ inl h ↦ h | inr h ↦ absurd (not_above k e l zero h) ]
      ]

  finishes : (k e : ℕ) → k < r.steps → e < r.edges → (r.edge e).high ≡ (r.step k).at
      → Has e (r.step k).ending
  finishes k e l f q =
      let b = run.begins e f in
      let sooner : b.0 < k = by_less b.0 k (λ h. h)
      (λ (h : k ≤ b.0).
      let a = reach_most r run k b.0 h b.1 in
      let c = ap (λ (p : Point). sweep r.weight (point p)) b.2 in
      let d = ap (λ (p : Point). sweep r.weight (point p)) q in
      let u = run.rise e f in
      let v = rise-is r.weight (r.edge e) in
      absurd (omega (arith, ints, a, c, d, u, v))) in
      let has = law.alive k e b.0 k f sooner b.2 (omega arith) l (sym q) in
      let s = r.step k in
      let zero : side (r.edge e) (point s.at)
      ≡ pos 0 = subst (λ (p : Point). side (r.edge e) (point p) ≡ pos 0) q
      (side-high (r.edge e)) in
      elim (has_three e s.below s.ending s.above
      (subst (λ (es : List ℕ). Has e es) (run.before k l) has)) [
        | inl h ↦ absurd (not_below k e l zero h)
        | inr h ↦ elim h [ inl h ↦ h | inr h ↦ absurd (not_above k e l zero h) ]
      ]

  pub fan_all : (k : ℕ) → k < r.steps → (x : Half) → edge_of x < r.edges
      → origin r.edge x ≡ (r.step k).at → Has x (fan (r.step k))
  fan_all k l (under e) f q =
      let s = r.step k in
      has_back (under e) (starting_halves s.starting) (ending_halves s.ending)
      (inward_has e s.ending (finishes k e l f q))
  fan_all k l (over e) f q =
      let s = r.step k in
      has_front (over e) (starting_halves s.starting) (ending_halves s.ending)
      (outward_has e s.starting (starts k e l f q))

-- ---- over a run
pub turns_at : (m : ℕ) (E : ℕ → Edge) (now : List ℕ) (steps : List Step) (k : ℕ)
    → IsReplay m E now steps → k < length steps → Neighbours (Turns E) (nth steps k).starting
turns_at m E now [] k r h = absurd (omega arith)
turns_at m E now (s ∷ steps) zero r h = r.1.turns
turns_at m E now (s ∷ steps) (suc k) r h = turns_at m E (after s) steps k r.2 (omega arith)

pub next_is_clockwise : (w : ℤ) (m : ℕ) (E : ℕ → Edge) (steps : List Step) (h g : Half)
    → Run m E steps → WeighedRun w m E steps → Next (replay w m E steps) h g
    → IsClockwiseNext m E (twin h) g
next_is_clockwise w m E steps h g run swept n =
    let r = replay w m E steps in
    let a = swept_run w m E steps swept in
    let b = swept_lawful w m E steps swept in
    next_clockwise r a b (λ k l. turns_at m E [] steps k run.replays l) run.edges
    (fan_all r a b) h g n
