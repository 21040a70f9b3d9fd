-- A run by numbers: its steps, the live list after each, strips between events, and what the laws
-- of runs say of them.
-- The laws that speak of cells, half-edges and faces stand over this form; lists of steps done and
-- to do give it.
use Rattle.std.specs.Prelude.{ℕ, zero, suc, ◌<◌, List, [], ◌∷◌, length, get_or, ℤ, pos}
use Rattle.plane.specs.Forms.Vectors.{Vector, point, Edge, sweep, On}
use Rattle.plane.specs.Runs.Steps.{Step, after}

-- edges by number, steps by number, and the live list after so many steps
pub record Replay : Type 0 where
  pub weight : ℤ
  pub edges : ℕ
  pub edge : ℕ → Edge
  pub steps : ℕ
  pub step : ℕ → Step
  pub list : ℕ → List ℕ

-- a step beyond the last one; it is not meant
abbrev pub no_step : Step
no_step =
    record {
      at = record { x = pos 0; y = pos 0 };
      below = [];
      ending = [];
      starting = [];
      above = [];
    }

-- the live list k steps further on
abbrev pub list_after : List ℕ → List Step → ℕ → List ℕ
list_after now steps zero = now
list_after now [] (suc k) = []
list_after now (s ∷ steps) (suc k) = list_after (after s) steps k

-- the replay of a list of steps over the edges with numbers below m
abbrev pub replay : ℤ → ℕ → (ℕ → Edge) → List Step → Replay
replay w m E steps =
    record {
      weight = w;
      edges = m;
      edge = E;
      steps = length steps;
      step = λ k. get_or steps k no_step;
      list = λ k. list_after [] steps k;
    }

-- the sweep value of a step's event
abbrev pub reach : Replay → ℕ → ℤ
reach r k = sweep r.weight (point (r.step k).at)

-- the place is on no edge
abbrev pub IsOffEdges : Replay → Vector → Type 0
IsOffEdges r z = (e : ℕ) → e < r.edges → On r.weight (r.edge e) z → ⊥
