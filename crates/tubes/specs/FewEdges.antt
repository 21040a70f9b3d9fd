-- How many edges a drawing has at most.
use Rattle.std.specs.Prelude.{ℕ, ◌^◌, ◌<◌, ◌≤◌, length}
use Rattle.plane.specs.Rule.Plans.{Plan}
use Rattle.tubes.specs.Settled.{HaveTubes, edges_at}

-- The drawing has fewer than 2 ^ 31 edges at each level at which all half arcs have tubes, so that
-- half-edges have numbers of 32 bits.
abbrev pub HasFewEdges : Plan → Type 0
HasFewEdges d =
    (level : ℕ → ℕ) → ((i : ℕ) → level i ≤ 5) → HaveTubes d level → length (edges_at d level) < 2 ^ 31
