-- The two sides of half arcs in their tubes, what is known of them, and paths that hit no curve.
use Rattle.std.specs.Prelude.{◌≡◌, ◌⊎◌, ℕ, ◌<◌, ℤ, pos, ◌*ℤ◌, ◌<ℤ◌, ◌≤ℤ◌}
use Rattle.plane.specs.Lists.{Has}
use Rattle.plane.specs.Forms.Vectors.{Vector, Place, Same, mix, On}
use Rattle.plane.specs.Faces.Replays.{Replay}
use Rattle.plane.specs.Faces.Halves.{Half, twin, edge_of, mark}
use Rattle.plane.specs.Faces.Labels.{Labels}
use Rattle.plane.specs.CurveRuns.Extended.{Tubes, InTubeAt, AtArcEnd, IsOnWay, IsFreeOfCurves}

-- strictly inside the circle of a half arc, or strictly outside
pub data Side : Type 0 where
  inner_side : Side
  outer_side : Side

abbrev pub IsOnSide : Tubes → ℕ → Side → Vector → Type 0
IsOnSide T c inner_side z = T.form c z <ℤ pos 0
IsOnSide T c outer_side z = pos 0 <ℤ T.form c z

-- the label outside the edges of that side
abbrev pub side_label : Tubes → ℕ → Side → ℕ
side_label T c inner_side = T.inner c
side_label T c outer_side = T.outer c

-- h faces tube c from within, at an edge of that side
pub record IsSideWall (r : Replay) (lab : Labels) (T : Tubes) (c : ℕ) (s : Side)
    (h : Half) : Type 0 where
  pub has : Has h (T.halves c)
  pub label : mark lab (twin h) ≡ side_label T c s
  pub places : (z : Vector) → Place z → On r.weight (r.edge (edge_of h)) z
      → IsOnSide T c s z ⊎ AtArcEnd T c z

-- a list of places from p to q; all places of its segments have P
pub data PathIn (P : Vector → Type 0) : Vector → Vector → Type 0 where
  stays : (p q : Vector) → p ≡ q → PathIn P p q
  goes : (p q v : Vector) → Place q → ((z : Vector) → IsOnWay p q z → P z) → PathIn P q v
      → PathIn P p v

-- the place is in the tube, on that side
abbrev pub IsInSide : Tubes → ℕ → Side → Vector → Type 0
IsInSide T c s z = InTubeAt T c z × IsOnSide T c s z

-- what is known of the sides; Meets c p q: the segment from p to q hits the half arc of tube c
pub record AreSides (r : Replay) (lab : Labels) (T : Tubes) (Meets : ℕ → Vector → Vector
    → Type 0) : Type 0 where
  -- a segment that hits a half arc has a place in its tube, and is not on one side
  pub covers : (c : ℕ) → c < T.count → (u v : Vector) → Place u → Place v → Meets c u v
      → (z : Vector) × IsOnWay u v z × InTubeAt T c z
  pub misses : (c : ℕ) → c < T.count → (s : Side) (p q : Vector) → Place p → Place q
      → ((z : Vector) → IsOnWay p q z → IsOnSide T c s z) → Meets c p q → ⊥
  -- equal places are on one side, and a place of a side can be left a bit in each direction
  pub same : (c : ℕ) → c < T.count → (s : Side) (z v : Vector) → Place z → Place v → Same z v
      → IsOnSide T c s z → IsOnSide T c s v
  pub near : (c : ℕ) → c < T.count → (s : Side) (x y : Vector) → Place x → Place y
      → IsOnSide T c s x
      → (n : ℤ) × (pos 0 ≤ℤ n) × ((z : Vector) → IsOnWay x (mix n x (pos 1) y) z → IsOnSide T c s z)
  -- each side has an edge, and within the tube it is one piece
  pub wall : (c : ℕ) → c < T.count → (s : Side) → (h : Half) × IsSideWall r lab T c s h
  pub whole : (c : ℕ) → c < T.count → (s : Side) (p q : Vector) → Place p → Place q → InTubeAt T c p
      → InTubeAt T c q → IsOnSide T c s p → IsOnSide T c s q → PathIn (IsInSide T c s) p q

-- a list of places from p to q whose segments hit no curve
pub data CurvePath (r : Replay) (T : Tubes) (Meets : ℕ → Vector → Vector → Type 0) : Vector → Vector
    → Type 0 where
  ends : (p q : Vector) → p ≡ q → CurvePath r T Meets p q
  leads : (p q v : Vector) → Place q → IsFreeOfCurves r T Meets p q → CurvePath r T Meets q v
      → CurvePath r T Meets p v

-- joined, off the curves, to places as far to the left as wanted
abbrev pub IsCurveOuter : Replay → Tubes → (ℕ → Vector → Vector → Type 0) → Vector → Type 0
IsCurveOuter r T Meets p =
    (b : ℤ) → (q : Vector) × Place q × CurvePath r T Meets p q × (q.x <ℤ (b *ℤ q.n))
