-- What holds of a run by the numbers of its steps: the words of the lemmas on runs.
use Rattle.std.specs.Prelude.{◌≡◌, ℕ, suc, ◌<◌, ◌≤◌, ◌⊎◌, List, [], pos, ◌*ℤ◌, ◌<ℤ◌, ◌≤ℤ◌}
use Rattle.plane.specs.Lists.{Has, Neighbours}
use Rattle.plane.specs.Forms.Vectors.{Vector, Place, point, side, sweep, rise, gap}
use Rattle.plane.specs.Runs.Steps.{before, after, Divides}
use Rattle.plane.specs.Faces.Replays.{Replay, reach, IsOffEdges}

-- between the events k - 1 and k, neither on the first one's sweep line nor on the second one's
pub record IsBetweenEvents (r : Replay) (k : ℕ) (z : Vector) : Type 0 where
  pub from : (j : ℕ) → j < k → (reach r j *ℤ z.n) <ℤ sweep r.weight z
  pub to : (j : ℕ) → k ≤ j → j < r.steps → sweep r.weight z <ℤ (reach r j *ℤ z.n)

-- the same, closed at the left
pub record IsStrip (r : Replay) (k : ℕ) (z : Vector) : Type 0 where
  pub fits : k ≤ r.steps
  pub from : (j : ℕ) → j < k → (reach r j *ℤ z.n) ≤ℤ sweep r.weight z
  pub to : (j : ℕ) → k ≤ j → j < r.steps → sweep r.weight z <ℤ (reach r j *ℤ z.n)

-- each edge of the list is strictly below the next at the sweep value of z
abbrev pub IsOrdered : Replay → Vector → List ℕ → Type 0
IsOrdered r z = Neighbours (λ a b. gap r.weight (r.edge a) (r.edge b) z <ℤ pos 0)

-- what a run is, by its steps
pub record IsRun (r : Replay) : Type 0 where
  pub first : r.list 0 ≡ []
  pub before : (k : ℕ) → k < r.steps → r.list k ≡ before (r.step k)
  pub after : (k : ℕ) → k < r.steps → r.list (suc k) ≡ after (r.step k)
  pub ending : (k : ℕ) → k < r.steps → (e : ℕ) → Has e (r.step k).ending
      → (r.edge e).high ≡ (r.step k).at
  pub starting : (k : ℕ) → k < r.steps → (e : ℕ) → Has e (r.step k).starting
      → (r.edge e).low ≡ (r.step k).at
  -- each event is an end of an edge
  pub met : (k : ℕ) → k < r.steps
      → (e : ℕ) × (e < r.edges)
      × (((r.edge e).low ≡ (r.step k).at) ⊎ ((r.edge e).high ≡ (r.step k).at))
  -- each edge's ends are events
  pub begins : (e : ℕ) → e < r.edges → (j : ℕ) × (j < r.steps) × ((r.step j).at ≡ (r.edge e).low)
  pub ends : (e : ℕ) → e < r.edges → (j : ℕ) × (j < r.steps) × ((r.step j).at ≡ (r.edge e).high)
  -- the weight
  pub rising : (j k : ℕ) → j < k → k < r.steps → reach r j <ℤ reach r k
  pub rise : (e : ℕ) → e < r.edges → pos 0 <ℤ rise r.weight (r.edge e)

-- what the laws of runs say of a complete run
pub record IsLawful (r : Replay) : Type 0 where
  -- which edges are live
  pub live : (k e : ℕ) → k ≤ r.steps → Has e (r.list k) → e < r.edges
  pub begun : (k e : ℕ) → k ≤ r.steps → Has e (r.list k)
      → (j : ℕ) × (j < k) × ((r.step j).at ≡ (r.edge e).low)
  pub open_still : (k e : ℕ) → k ≤ r.steps → Has e (r.list k)
      → (j : ℕ) × (k ≤ j) × (j < r.steps) × ((r.step j).at ≡ (r.edge e).high)
  pub alive : (k e i j : ℕ) → e < r.edges → i < k → (r.step i).at ≡ (r.edge e).low → k ≤ j
      → j < r.steps → (r.step j).at ≡ (r.edge e).high → Has e (r.list k)
  -- neighbours of a live list are in strict order
  pub ordered : (k : ℕ) (z : Vector) → k ≤ r.steps → Place z → IsBetweenEvents r k z
      → IsOrdered r z (r.list k)
  pub ordered_below : (k : ℕ) → k < r.steps → IsOrdered r (point (r.step k).at) (r.step k).below
  pub ordered_above : (k : ℕ) → k < r.steps → IsOrdered r (point (r.step k).at) (r.step k).above
  -- at an event the edges below it are strictly below, those above strictly above
  pub under : (k : ℕ) → k < r.steps → (e : ℕ) → Has e (r.step k).below
      → pos 0 <ℤ side (r.edge e) (point (r.step k).at)
  pub over : (k : ℕ) → k < r.steps → (e : ℕ) → Has e (r.step k).above
      → side (r.edge e) (point (r.step k).at) <ℤ pos 0
  -- a place off the edges divides the live list of its strip
  pub divided : (k : ℕ) (z : Vector) → Place z → IsOffEdges r z → IsStrip r k z
      → Divides r.edge z (r.list k)
