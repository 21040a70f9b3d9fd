-- Drawings of straights and half arcs with tubes, and the label of a place off the curves.
use Rattle.std.specs.Prelude.{◌≡◌, ◌⊎◌, ℕ, ◌<◌, List, ◌∷◌, ℤ, pos, ◌+ℤ◌, ◌<ℤ◌, ◌≤ℤ◌}
use Rattle.plane.specs.declared.kinds.Point.{Point}
use Rattle.plane.specs.Lists.{Has}
use Rattle.plane.specs.Forms.Vectors.{Vector, Place, Same, mix, point, On}
use Rattle.plane.specs.Faces.Replays.{Replay, IsOffEdges}
use Rattle.plane.specs.Faces.Cells.{sector}
use Rattle.plane.specs.Faces.Halves.{Half, twin, edge_of, mark}
use Rattle.plane.specs.Faces.Labels.{Labels}
use Rattle.plane.specs.Faces.Cells.{label_of}
use Rattle.plane.specs.Tubes.Windings.{Bay, tiles, InSomeTile}
use Rattle.plane.specs.Tubes.Facing.{IsDrawnTube, IsClean, tip}

-- the tubes by number: the label of each, its first point, its bays, the half-edges that face it
-- from within, the labels outside its inner and its outer edges, and the form that is below 0
-- inside the circle and above 0 outside it
pub record Tubes : Type 0 where
  pub count : ℕ
  pub label : ℕ → ℕ
  pub first : ℕ → Point
  pub bay : ℕ → Bay
  pub bays : ℕ → List Bay
  pub halves : ℕ → List Half
  pub inner : ℕ → ℕ
  pub outer : ℕ → ℕ
  pub form : ℕ → Vector → ℤ

abbrev pub InTubeAt : Tubes → ℕ → Vector → Type 0
InTubeAt T c z = InSomeTile (tiles (T.first c) (T.bay c ∷ T.bays c)) z

-- the place is an end of the half arc
abbrev pub AtArcEnd : Tubes → ℕ → Vector → Type 0
AtArcEnd T c z = Same z (point (T.first c)) ⊎ Same z (point (tip (T.bay c) (T.bays c)))

-- outside the inner edges stands one label and their places are inside the circle, outside the
-- outer ones another one, and their places are outside
abbrev pub IsWall : Replay → Labels → Tubes → ℕ → Half → Type 0
IsWall r lab T c h =
    ((mark lab (twin h) ≡ T.inner c)
    × ((z : Vector) → Place z → On r.weight (r.edge (edge_of h)) z
    → (T.form c z <ℤ pos 0) ⊎ AtArcEnd T c z))
    ⊎ ((mark lab (twin h) ≡ T.outer c)
    × ((z : Vector) → Place z → On r.weight (r.edge (edge_of h)) z
    → (pos 0 <ℤ T.form c z) ⊎ AtArcEnd T c z))

-- what is known of the tubes; Meets c p q: the segment from p to q hits the half arc of tube c
pub record AreTubes (r : Replay) (lab : Labels) (T : Tubes)
    (Meets : ℕ → Vector → Vector → Type 0) : Type 0 where
  pub tube : (c : ℕ) → c < T.count
      → IsDrawnTube r lab (T.label c) (T.first c) (T.bay c) (T.bays c) (T.halves c)
  pub clean : (c : ℕ) → c < T.count → IsClean r (T.first c) (T.bay c) (T.bays c) (T.halves c)
  pub labels : (c d : ℕ) → c < T.count → d < T.count → (c ≡ d → ⊥) → T.label c ≡ T.label d → ⊥
  pub apart : (c d : ℕ) → c < T.count → d < T.count → (c ≡ d → ⊥) → (g h : Half)
      → Has g (T.halves c) → Has h (T.halves d) → edge_of g ≡ edge_of h → ⊥
  pub walls : (c : ℕ) → c < T.count → (h : Half) → Has h (T.halves c) → IsWall r lab T c h
  -- the ends of the half arc and the places of its circle in the tube are on it
  pub ends : (c : ℕ) → c < T.count → (z : Vector) → Place z → AtArcEnd T c z → Meets c z z
  pub circle : (c : ℕ) → c < T.count → (z : Vector) → Place z → InTubeAt T c z → T.form c z ≡ pos 0
      → Meets c z z
  -- a segment in the tube that does not hit the half arc keeps the sign of the form
  pub kept : (c : ℕ) → c < T.count → (p q : Vector) → Place p → Place q
      → ((s t : ℤ) → pos 0 ≤ℤ s → pos 0 ≤ℤ t → pos 0 <ℤ (s +ℤ t) → InTubeAt T c (mix s p t q))
      → (Meets c p q → ⊥) → (Meets c q p → ⊥) → T.form c p <ℤ pos 0 → pos 0 <ℤ T.form c q → ⊥

-- the label of a place off the curves: in a tube that of its side, else its cell's
abbrev pub HasLabel : Replay → Labels → Tubes → Vector → ℕ → Type 0
HasLabel r lab T z l =
    ((c : ℕ) × (c < T.count) × InTubeAt T c z
    × (((T.form c z <ℤ pos 0) × (l ≡ T.inner c)) ⊎ ((pos 0 <ℤ T.form c z) × (l ≡ T.outer c))))
    ⊎ (((c : ℕ) → c < T.count → InTubeAt T c z → ⊥) × IsOffEdges r z
    × (l ≡ label_of lab r (sector r z)))

-- z is a mix of p and q
pub record IsOnWay (p q z : Vector) : Type 0 where
  pub s : ℤ
  pub t : ℤ
  pub s_least : pos 0 ≤ℤ s
  pub t_least : pos 0 ≤ℤ t
  pub some : pos 0 <ℤ (s +ℤ t)
  pub is : z ≡ mix s p t q

-- no place of the segment from p to q is on a straight, and no part of it hits a half arc
pub record IsFreeOfCurves (r : Replay) (T : Tubes) (Meets : ℕ → Vector → Vector → Type 0)
    (p q : Vector) : Type 0 where
  pub straights : (z : Vector) → IsOnWay p q z → (e : ℕ) → e < r.edges → On r.weight (r.edge e) z
      → (c : ℕ) × (c < T.count) × (h : Half) × Has h (T.halves c) × (edge_of h ≡ e)
  pub arcs : (c : ℕ) → c < T.count → (u v : Vector) → IsOnWay p q u → IsOnWay p q v → Meets c u v
      → ⊥
