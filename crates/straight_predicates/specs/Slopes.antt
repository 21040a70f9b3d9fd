-- Directions, and rays in the order of their slopes.
use Rattle.std.specs.Prelude.{◌≡◌, ℕ, ℤ, pos, ◌*ℤ◌, ◌-ℤ◌, Bool, List, map}
use Rattle.std.specs.declared.cmp.Ordering.{Ordering}
use Rattle.std.specs.Ordering.{is_lt, int_cmp, nat_cmp, ordering_then}
use Rattle.plane.specs.declared.kinds.Edge.{Edge}
use Rattle.straight_predicates.specs.EdgeLists.{edge_of}
use Rattle.straight_predicates.specs.declared.directions.Direction.{Direction}
use Rattle.straight_predicates.specs.declared.rays.Ray.{Ray}

-- Above 0 where b is left of a, 0 where both are one way.
abbrev pub turn_between : Direction → Direction → ℤ
turn_between a b = (a.x *ℤ b.y) -ℤ (a.y *ℤ b.x)

-- Rays by slope, and those of one slope by number.
abbrev pub ray_cmp : Ray → Ray → Ordering
ray_cmp a b =
    ordering_then (int_cmp (pos 0) (turn_between a.direction b.direction)) (nat_cmp a.edge b.edge)

abbrev pub ray_lt : Ray → Ray → Bool
ray_lt a b = is_lt (ray_cmp a b)

abbrev pub ray_edges : List Ray → List ℕ
ray_edges rays = map (λ (r : Ray). r.edge) rays

-- The ray has the direction of its edge.
pub record IsRayOf (edges : List Edge) (r : Ray) : Type 0 where
  pub x : r.direction.x ≡ (edge_of edges r.edge).high.x -ℤ (edge_of edges r.edge).low.x
  pub y : r.direction.y ≡ (edge_of edges r.edge).high.y -ℤ (edge_of edges r.edge).low.y
