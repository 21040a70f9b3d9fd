-- Complete runs over the edges of a drawing of straights.
-- The number of an edge is the number of its curve.
use Rattle.std.specs.Prelude.{ℕ, ℤ, List, length}
use Rattle.plane.specs.Forms.Vectors.{Edge}
use Rattle.plane.specs.Rule.Plans.{Plan}
use Rattle.plane.specs.Forms.Segments.{AreEdgesOf}
use Rattle.plane.specs.Runs.Steps.{Step, Run, WeighedRun}
use Rattle.plane.specs.Faces.Replays.{Replay, replay}

-- The drawing has straights alone, E gives their edges, and the steps are a complete run over them.
pub record IsRunOf (d : Plan) (E : ℕ → Edge) (steps : List Step) : Type 0 where
  pub edges : AreEdgesOf E d
  pub run : Run (length d.curves) E steps

-- The replay of such a run, swept with the weight w.
abbrev pub drawn : ℤ → Plan → (ℕ → Edge) → List Step → Replay
drawn w d E steps = replay w (length d.curves) E steps

-- It is such a run, and the weight sweeps it.
pub record IsWeighedRunOf (w : ℤ) (d : Plan) (E : ℕ → Edge) (steps : List Step) : Type 0 where
  pub run : IsRunOf d E steps
  pub weighed : WeighedRun w (length d.curves) E steps
