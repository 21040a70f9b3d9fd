-- When the edges of a drawing with half arcs settle it: they meet in their ends alone, and nothing
-- enters a tube.
use Rattle.std.specs.Prelude.{◌≡◌, ◌⊎◌, ℕ, ◌<◌, List, [], ◌∷◌, pos, ◌<ℤ◌}
use Rattle.plane.specs.declared.kinds.Point.{Point}
use Rattle.plane.specs.Lists.{Has}
use Rattle.plane.specs.Forms.Vectors.{point}
use Rattle.plane.specs.Rule.HalfArcs.{bow}
use Rattle.plane.specs.Rule.Curves.{arc}
use Rattle.plane.specs.Rule.Plans.{Plan, curve, IsStraight, IsHalfArc}
use Rattle.plane.specs.Forms.Meets.{IsEnd, Disjoint, Touch}
use Rattle.plane.specs.Rule.BadPairs.{IsEndOf, HaveSameEnds}
use Rattle.plane.specs.Faces.Halves.{Half, edge_of, twin}
use Rattle.plane.specs.Tubes.Bays.{Bay}
use Rattle.plane.specs.Tubes.Windings.{Tile, InTile, IsCornerOf}
use Rattle.plane.proofs.Settling.EdgesAndTubes.{EdgeList, tiles_of}

-- That all half arcs have tubes is part of what makes them the edges of the drawing.
pub record IsSettled (d : Plan) (l : EdgeList) : Type 0 where
  -- Every two edges share no place, or one end and nothing else.
  pub meet : (e f : ℕ) → e < l.edges → f < l.edges → (e ≡ f → ⊥)
      → Disjoint (l.edge e) (l.edge f) ⊎ Touch (l.edge e) (l.edge f)
  -- No end of an edge lies in a triangle of a tube except as a corner of it.
  pub enter : (e : ℕ) → e < l.edges → (p : Point) → IsEnd (l.edge e) p → (i : ℕ) → IsHalfArc d i
      → (t : Tile) → Has t (tiles_of (l.tube i)) → InTile t (point p) → IsCornerOf t p
  -- A corner of a tube other than the ends of its half arc is an end of that tube's edges alone.
  pub own : (i : ℕ) → IsHalfArc d i → (h : Half) → Has h (l.tube i).halves → (p : Point)
      → IsEnd (l.edge (edge_of h)) p
      → IsEndOf (curve d i) p ⊎ ((e : ℕ) → e < l.edges → IsEnd (l.edge e) p → l.owner e ≡ i)
  -- Where a straight joins the ends of a half arc, the inner corners of the tube but the half arc's
  -- ends stand strictly over the chord.
  pub chord : (i j : ℕ) → IsStraight d i → IsHalfArc d j → HaveSameEnds (curve d i) (curve d j)
      → (b : Bay) → Has b ((l.tube j).bay ∷ (l.tube j).bays)
      → IsEndOf (curve d j) b.inner ⊎ (pos 0 <ℤ bow (arc (curve d j)) (point b.inner))

-- Of the half-edges that face a tube, in the order of its bounds: those of the inner chain, and
-- those of the outer chain.
abbrev pub inner_halves : List Half → List Half
inner_halves [] = []
inner_halves (g ∷ []) = []
inner_halves (g ∷ (h ∷ rest)) = g ∷ inner_halves rest

abbrev pub outer_halves : List Half → List Half
outer_halves [] = []
outer_halves (g ∷ []) = g ∷ []
outer_halves (g ∷ (h ∷ rest)) = h ∷ outer_halves rest

-- What face numbers say of the tube of half arc i: the half-edges that face it from within have one
-- number, which no others have and
-- which is not that of the outer face; on their other side those of the inner chain have one
-- number, and those of the outer chain too.
pub record AreTubeFaces (l : EdgeList) (face : Half → ℕ) (i : ℕ) : Type 0 where
  pub one : (g f : Half) → Has g (l.tube i).halves → Has f (l.tube i).halves → face g ≡ face f
  pub own : (g f : Half) → Has g (l.tube i).halves → edge_of f < l.edges → face g ≡ face f
      → Has f (l.tube i).halves
  pub bounded : (g : Half) → Has g (l.tube i).halves → face g ≡ 0 → ⊥
  pub inner : (g f : Half) → Has g (inner_halves (l.tube i).halves)
      → Has f (inner_halves (l.tube i).halves) → face (twin g) ≡ face (twin f)
  pub outer : (g f : Half) → Has g (outer_halves (l.tube i).halves)
      → Has f (outer_halves (l.tube i).halves) → face (twin g) ≡ face (twin f)
