-- A run has a weight, which may be a weight of further points too.
-- The laws on runs choose it, for the events and for the points that they speak of.
use Rattle.std.proofs.Common.{ℕ, zero, suc, ◌<◌, List, [], ◌∷◌, ◌++◌, ℤ, pos, ◌<ℤ◌, refl, arith, ap}
use Rattle.std.proofs.Common.{inl, inr}
use Rattle.plane.specs.declared.kinds.Point.{Point}
use Rattle.plane.specs.Lists.{Each, Has}
use Rattle.plane.specs.Forms.Vectors.{Edge}
use Rattle.plane.specs.Runs.Steps.{Step, Run, WeighedRun}
use Rattle.plane.specs.Faces.Replays.{replay}
use Rattle.plane.specs.Forms.Weights.{Weight}
use Rattle.plane.proofs.ListLemmas.Lists.{each_map, each_has, has_back}
use Rattle.plane.proofs.Linear.SomeWeight.{some_weight}
use Rattle.plane.proofs.Strips.OneStrip.{by_last}
use Rattle.plane.proofs.Runs.Moments.{swept}
use Rattle.plane.proofs.Runs.Numbered.{has_nth}

-- ---- points by number
abbrev pub points_of : (ℕ → Point) → ℕ → List Point
points_of f zero = []
points_of f (suc n) = f n ∷ points_of f n

pub points_has : (f : ℕ → Point) (n j : ℕ) → j < n → Has (f j) (points_of f n)
points_has f zero j h = absurd (omega arith)
points_has f (suc n) j h = by_last j n h (λ l. inr (points_has f n j l)) (λ e. inl (ap f e))

-- ---- the events of a run
abbrev pub events_of : List Step → List Point
events_of [] = []
events_of (s ∷ steps) = s.at ∷ events_of steps

pub events_each : (steps : List Step) (more : List Point)
    → Each (λ s. Has s.at (events_of steps ++ more)) steps
events_each [] more = tt
events_each (s ∷ steps) more = (
  inl refl,
  each_map (λ t. Has t.at (events_of steps ++ more))
      (λ t. Has t.at (events_of (s ∷ steps) ++ more)) steps (λ t h. inr h) (events_each steps more),
)

-- a weight of a run and of further points
pub record RunWeight (m : ℕ) (E : ℕ → Edge) (steps : List Step) (more : List Point) : Type 0 where
  pub weight : ℤ
  pub points : List Point
  pub positive : pos 0 <ℤ weight
  pub heavy : Weight weight points
  pub events : Each (λ s. Has s.at points) steps
  pub known : (p : Point) → Has p more → Has p points
  pub swept : WeighedRun weight m E steps

pub run_weight : (m : ℕ) (E : ℕ → Edge) (steps : List Step) (more : List Point) → Run m E steps
    → RunWeight m E steps more
run_weight m E steps more run =
    let pts = events_of steps ++ more in
    let w = some_weight pts in
    record {
      weight = w.0;
      points = pts;
      positive = w.1;
      heavy = w.2;
      events = events_each steps more;
      known = λ p h. has_back p (events_of steps) more h;
      swept = swept w.0 pts m E steps w.2 (events_each steps more) run;
    }

pub event_known : (m : ℕ) (E : ℕ → Edge) (steps : List Step) (more : List Point)
    (u : RunWeight m E steps more) (j : ℕ)
    → j < (replay u.weight m E steps).steps → Has ((replay u.weight m E steps).step j).at u.points
event_known m E steps more u j l =
    let r = replay u.weight m E steps in
    each_has (λ s. Has s.at u.points) steps (r.step j) u.events (has_nth steps j l)
