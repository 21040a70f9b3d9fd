-- A run at one of its moments: the words of the lemmas on runs.
use Rattle.std.specs.Prelude.{◌≡◌, ℕ, ◌<◌, ℤ, pos, ◌<ℤ◌, ◌≤ℤ◌, ◌⊎◌, List}
use Rattle.plane.specs.Forms.Vectors.{Vector, point, Edge, side, sweep, rise}
use Rattle.plane.specs.Lists.{Has}
use Rattle.plane.specs.Runs.Steps.{Step, Turns, IsReplay, AtSome, live, Replayed}

-- a moment of a swept run: what is done and what is to do, with the order between them
pub record Moment (w : ℤ) (m : ℕ) (E : ℕ → Edge) (done todo : List Step) : Type 0 where
  pub done_good : Replayed m E done
  pub todo_good : IsReplay m E (live done) todo
  pub cut : (s t : Step) → Has s done → Has t todo → sweep w (point s.at) <ℤ sweep w (point t.at)
  pub ends : (e : ℕ) → e < m
      → (AtSome (E e).low done ⊎ AtSome (E e).low todo)
      × (AtSome (E e).high done ⊎ AtSome (E e).high todo)
  pub rises : (e : ℕ) → e < m → pos 0 <ℤ rise w (E e)

-- a came to lie below b at some step that is done: a is not under its point and b not over it, and
-- not both go through it,
-- unless both start there and b turns left from a
pub record Began (E : ℕ → Edge) (done : List Step) (a b : ℕ) : Type 0 where
  pub step : Step
  pub passed : Has step done
  pub lower : pos 0 ≤ℤ side (E a) (point step.at)
  pub upper : side (E b) (point step.at) ≤ℤ pos 0
  pub apart : (side (E b) (point step.at) <ℤ side (E a) (point step.at))
      ⊎ (((E a).low ≡ step.at) × ((E b).low ≡ step.at) × Turns E a b)

-- a still lies below b at some step that is to do, and not both go through its point, unless both
-- end there
pub record Ends (E : ℕ → Edge) (todo : List Step) (a b : ℕ) : Type 0 where
  pub step : Step
  pub comes : Has step todo
  pub lower : pos 0 ≤ℤ side (E a) (point step.at)
  pub upper : side (E b) (point step.at) ≤ℤ pos 0
  pub apart : (side (E b) (point step.at) <ℤ side (E a) (point step.at))
      ⊎ (((E a).high ≡ step.at) × ((E b).high ≡ step.at))

-- what is not under b is strictly over a
abbrev pub Over : (ℕ → Edge) → Vector → ℕ → ℕ → Type 0
Over E z a b = pos 0 ≤ℤ side (E b) z → pos 0 <ℤ side (E a) z
