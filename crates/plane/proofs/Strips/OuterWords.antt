-- Places that edges do not enclose: a word of the lemmas on cells.
use Rattle.std.specs.Prelude.{ℤ, ◌*ℤ◌, ◌<ℤ◌}
use Rattle.plane.specs.Forms.Vectors.{Vector, Place}
use Rattle.plane.specs.Faces.Replays.{Replay}
use Rattle.plane.specs.Faces.Cells.{JoinedByEdges}

-- joined to places as far to the left as wanted
abbrev pub IsOuterByEdges : Replay → Vector → Type 0
IsOuterByEdges r p = (b : ℤ) → (q : Vector) × Place q × JoinedByEdges r p q × (q.x <ℤ (b *ℤ q.n))
