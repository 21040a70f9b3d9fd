-- The steps of a sweep over edges, and what a complete replay of them is.
-- A moment of a run is the list of the steps done, the latest first, and the list of those to do.
use Rattle.std.specs.Prelude.{◌≡◌, ℕ, ◌<◌, ℤ, pos, ◌*ℤ◌, ◌<ℤ◌, ◌≤ℤ◌, ◌⊎◌, List, [], ◌∷◌, ◌++◌}
use Rattle.plane.specs.declared.kinds.Point.{Point}
use Rattle.plane.specs.Forms.Vectors.{Vector, point, Edge, side, sweep, rise, Before}
use Rattle.plane.specs.Lists.{Each, First, Last, Neighbours, Has, Once}

-- one step: its point, and the numbers of the edges below it, of those that end and that start
-- there, and of those above it
pub record Step : Type 0 where
  pub at : Point
  pub below : List ℕ
  pub ending : List ℕ
  pub starting : List ℕ
  pub above : List ℕ

-- the edges from bottom to top just before the step
abbrev pub before : Step → List ℕ
before s = s.below ++ (s.ending ++ s.above)

-- the edges from bottom to top just after the step
abbrev pub after : Step → List ℕ
after s = s.below ++ (s.starting ++ s.above)

-- the direction of b is left of the direction of a, for edges with one low end
abbrev pub Turns : (ℕ → Edge) → ℕ → ℕ → Type 0
Turns E a b = pos 0 <ℤ side (E a) (point (E b).high)

-- the step is right for the edges with numbers below m: its lists of ending and of starting edges
-- are exactly those of its point, the starting ones turn left from neighbour to neighbour, and the
-- nearest edges below and above are strictly so
pub record GoodStep (m : ℕ) (E : ℕ → Edge) (s : Step) : Type 0 where
  pub ending_only : (e : ℕ) → Has e s.ending → (e < m) × ((E e).high ≡ s.at)
  pub ending_all : (e : ℕ) → e < m → (E e).high ≡ s.at → Has e s.ending
  pub ending_once : Once s.ending
  pub starting_only : (e : ℕ) → Has e s.starting → (e < m) × ((E e).low ≡ s.at)
  pub starting_all : (e : ℕ) → e < m → (E e).low ≡ s.at → Has e s.starting
  pub turns : Neighbours (Turns E) s.starting
  pub nearest_below : Last (λ e. pos 0 <ℤ side (E e) (point s.at)) s.below
  pub nearest_above : First (λ e. side (E e) (point s.at) <ℤ pos 0) s.above

-- from the live list `now` on, the steps are good, each begins with what the one before left, and
-- they leave nothing
abbrev pub IsReplay : ℕ → (ℕ → Edge) → List ℕ → List Step → Type 0
IsReplay m E now [] = now ≡ []
IsReplay m E now (s ∷ steps) = (now ≡ before s) × GoodStep m E s × IsReplay m E (after s) steps

-- the point is that of one of the steps
abbrev pub AtSome : Point → List Step → Type 0
AtSome p steps = (s : Step) × (Has s steps) × (p ≡ s.at)

-- a complete run over the edges with numbers below m
pub record Run (m : ℕ) (E : ℕ → Edge) (steps : List Step) : Type 0 where
  pub replays : IsReplay m E [] steps
  pub rises : Neighbours (λ s t. Before s.at t.at) steps
  pub ends : (e : ℕ) → e < m → AtSome (E e).low steps × AtSome (E e).high steps
  pub events : (s : Step) → Has s steps
      → (e : ℕ) × (e < m) × (((E e).low ≡ s.at) ⊎ ((E e).high ≡ s.at))
  pub edges : (e : ℕ) → e < m → Before (E e).low (E e).high

-- ---- moments of a run: the steps that are done, the latest first, and those that are still to do
abbrev pub onto : List Step → List Step → List Step
onto [] steps = steps
onto (s ∷ done) steps = onto done (s ∷ steps)

-- the live list after the steps that are done
abbrev pub live : List Step → List ℕ
live [] = []
live (s ∷ done) = after s

-- the steps that are done are good, and each began with what the one before left, the first one
-- with nothing
abbrev pub Replayed : ℕ → (ℕ → Edge) → List Step → Type 0
Replayed m E [] = Unit {0}
Replayed m E (s ∷ done) = (live done ≡ before s) × GoodStep m E s × Replayed m E done

-- each step is before all later ones on the sweep
abbrev pub Rising : ℤ → List Step → Type 0
Rising w [] = Unit {0}
Rising w (s ∷ steps) =
    Each (λ t. sweep w (point s.at) <ℤ sweep w (point t.at)) steps × Rising w steps

-- a run seen by the sweep with weight w
pub record WeighedRun (w : ℤ) (m : ℕ) (E : ℕ → Edge) (steps : List Step) : Type 0 where
  pub replays : IsReplay m E [] steps
  pub rising : Rising w steps
  pub ends : (e : ℕ) → e < m → AtSome (E e).low steps × AtSome (E e).high steps
  pub events : (s : Step) → Has s steps
      → (e : ℕ) × (e < m) × (((E e).low ≡ s.at) ⊎ ((E e).high ≡ s.at))
  pub rises : (e : ℕ) → e < m → pos 0 <ℤ rise w (E e)

-- the steps up to the sweep value of z are done, and no others
pub record IsAt (w : ℤ) (done todo : List Step) (z : Vector) : Type 0 where
  pub passed : Each (λ s. (sweep w (point s.at) *ℤ z.n) ≤ℤ sweep w z) done
  pub coming : Each (λ s. sweep w z <ℤ (sweep w (point s.at) *ℤ z.n)) todo

-- the list is cut in two: the edges strictly below z, then those strictly above it
pub record Divides (E : ℕ → Edge) (z : Vector) (xs : List ℕ) : Type 0 where
  pub lower : List ℕ
  pub upper : List ℕ
  pub is : xs ≡ lower ++ upper
  pub under : Each (λ e. pos 0 <ℤ side (E e) z) lower
  pub over : Each (λ e. side (E e) z <ℤ pos 0) upper
