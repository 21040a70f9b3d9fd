-- A sweep between two events: the words of the lemmas on sweeps.
use Rattle.std.specs.Prelude.{◌≡◌, ℕ, ◌<◌, ℤ, pos, ◌<ℤ◌, ◌≤ℤ◌, ◌⊎◌, List, [], ◌∷◌, ◌++◌}
use Rattle.plane.specs.declared.kinds.Point.{Point}
use Rattle.plane.specs.Forms.Vectors.{point, Edge, side, sweep, rise}
use Rattle.plane.specs.Lists.{Each, First, Neighbours, Has}
use Rattle.plane.specs.Runs.Steps.{Step, live}
use Rattle.plane.specs.Runs.Sweeps.{Front, OnLive, BadAfter}

-- each point is before all later ones on the sweep
abbrev pub RisingPoints : ℤ → List Point → Type 0
RisingPoints w [] = Unit {0}
RisingPoints w (p ∷ ps) = Each (λ q. sweep w (point p) <ℤ sweep w (point q)) ps × RisingPoints w ps

-- the same points, seen by the sweep with weight w
pub record Ready (w : ℤ) (m : ℕ) (E : ℕ → Edge) (pts : List Point) : Type 0 where
  pub rising : RisingPoints w pts
  pub ends : (e : ℕ) → e < m → Has (E e).low pts × Has (E e).high pts
  pub rises : (e : ℕ) → e < m → pos 0 <ℤ rise w (E e)

-- from neighbour to neighbour upwards at p: what is strictly above the upper one is strictly above
-- the lower one,
-- what is strictly below the lower one is strictly below the upper one
pub record FallsUp (E : ℕ → Edge) (p : Point) (a b : ℕ) : Type 0 where
  pub above : pos 0 <ℤ side (E b) (point p) → pos 0 <ℤ side (E a) (point p)
  pub below : side (E a) (point p) <ℤ pos 0 → side (E b) (point p) <ℤ pos 0

-- the sweep has come to a fault: all is well up to some event, and that one is on a live edge or
-- has bad neighbours after it
pub record Found (w : ℤ) (m : ℕ) (E : ℕ → Edge) (pts : List Point) : Type 0 where
  pub done : List Step
  pub event : Point
  pub coming : List Point
  pub front : Front w m E pts done (event ∷ coming)
  pub fault : OnLive E (live done) event ⊎ BadAfter m E (live done) event

-- what a walk along the live list from its front gives
pub record Walked (E : ℕ → Edge) (p : Point) (now : List ℕ) : Type 0 where
  pub below : List ℕ
  pub ending : List ℕ
  pub above : List ℕ
  pub is : now ≡ below ++ (ending ++ above)
  pub below_all : Each (λ e. pos 0 <ℤ side (E e) (point p)) below
  pub stops : First (λ e. side (E e) (point p) ≤ℤ pos 0) (ending ++ above)
  pub ending_all : Each (λ e. side (E e) (point p) ≡ pos 0) ending
  pub goes_on : First (λ e. side (E e) (point p) ≡ pos 0 → ⊥) above

-- the edges with numbers below m that start at p, by slope
pub record Fan (m : ℕ) (E : ℕ → Edge) (p : Point) : Type 0 where
  pub list : List ℕ
  pub only : (e : ℕ) → Has e list → (e < m) × ((E e).low ≡ p)
  pub all : (e : ℕ) → e < m → (E e).low ≡ p → Has e list
  pub sorted : Neighbours (λ a b. pos 0 ≤ℤ side (E a) (point (E b).high)) list
