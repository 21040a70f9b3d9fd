-- The half-edges that face a tube from within, and their labels.
use Rattle.std.specs.Prelude.{◌≡◌, ℕ, ◌<◌, ◌⊎◌, List, [], ◌∷◌, map}
use Rattle.plane.specs.declared.kinds.Point.{Point}
use Rattle.plane.specs.Lists.{Has, Once}
use Rattle.plane.specs.Forms.Vectors.{Edge}
use Rattle.plane.specs.Forms.Meets.{IsEnd}
use Rattle.plane.specs.Faces.Replays.{Replay}
use Rattle.plane.specs.Faces.Halves.{Half, under, over, edge_of, mark}
use Rattle.plane.specs.Faces.Labels.{Labels}
use Rattle.plane.specs.Tubes.Windings.{back, Bay, tiles, bounds, IsTiled}

-- a half-edge as an arrow with its own side on the left
abbrev pub way : (ℕ → Edge) → Half → Edge
way E (under e) = back (E e)
way E (over e) = E e

-- the half-edges that have the label t are those of the list, each on an edge of its own
pub record IsFaced (m : ℕ) (lab : Labels) (t : ℕ) (hs : List Half) : Type 0 where
  pub some_label : t ≡ 0 → ⊥
  pub fits : (h : Half) → Has h hs → edge_of h < m
  pub once : Once (map edge_of hs)
  pub faces : (h : Half) → Has h hs → mark lab h ≡ t
  pub only : (h : Half) → edge_of h < m → mark lab h ≡ t → Has h hs

-- a tube of the drawing: from its first point over its bays, with the half-edges that face it from
-- within, in the order of its bounds
pub record IsDrawnTube (r : Replay) (lab : Labels) (t : ℕ) (a : Point) (k : Bay) (ks : List Bay)
    (hs : List Half) : Type 0 where
  pub tiled : IsTiled r.weight (tiles a (k ∷ ks))
  pub bounds : bounds a (k ∷ ks) ≡ map (way r.edge) hs
  pub faced : IsFaced r.edges lab t hs

-- the last inner point
abbrev pub tip : Bay → List Bay → Point
tip b [] = b.inner
tip b (c ∷ bs) = tip c bs

-- the point is an end of an edge of the tube
abbrev pub IsTubeCorner : Replay → List Half → Point → Type 0
IsTubeCorner r hs p = (h : Half) × Has h hs × IsEnd (r.edge (edge_of h)) p

-- at each event that is a corner of the tube, but for its first point and its tip, all edges are
-- the tube's
pub record IsClean (r : Replay) (a : Point) (b : Bay) (bs : List Bay)
    (hs : List Half) : Type 0 where
  pub clean : (k : ℕ) → k < r.steps → IsTubeCorner r hs (r.step k).at
      → ((r.step k).at ≡ a)
      ⊎ (((r.step k).at ≡ tip b bs)
      ⊎ ((e : ℕ) → e < r.edges → IsEnd (r.edge e) (r.step k).at
      → (h : Half) × Has h hs × (edge_of h ≡ e)))
