-- A segment that crosses one edge and hits no other.
-- It is the working form of a segment that crosses one curve.
use Rattle.std.specs.Prelude.{◌≡◌, ℕ, ◌<◌, pos, ◌<ℤ◌}
use Rattle.plane.specs.Forms.Vectors.{Vector, Place, side, HitsEdge}
use Rattle.plane.specs.Faces.Replays.{Replay, IsOffEdges}

-- p is strictly above the line of e and q strictly below it, both off the edges; the segment hits e
-- and no other edge
pub record IsCrossing (r : Replay) (e : ℕ) (p q : Vector) : Type 0 where
  pub p_place : Place p
  pub q_place : Place q
  pub p_off : IsOffEdges r p
  pub q_off : IsOffEdges r q
  pub above : pos 0 <ℤ side (r.edge e) p
  pub below : side (r.edge e) q <ℤ pos 0
  pub hits : HitsEdge r.weight p q (r.edge e)
  pub clear : (f : ℕ) → f < r.edges → (f ≡ e → ⊥) → HitsEdge r.weight p q (r.edge f) → ⊥
