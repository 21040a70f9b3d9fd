-- The edge list of a drawing with half arcs at one level, as the laws on settled drawings see it.
use Rattle.std.specs.Prelude.{◌≡◌, ◌⊎◌, ℕ, ◌+◌, ◌<◌, ◌≤◌, List, length, pos, ◌<ℤ◌}
use Rattle.plane.specs.declared.kinds.Point.{Point}
use Rattle.plane.specs.declared.kinds.CurveKind.TheVariants as kind
use Rattle.plane.specs.Lists.{Has}
use Rattle.plane.specs.Forms.Vectors.{point, Edge}
use Rattle.plane.specs.Rule.HalfArcs.{bow}
use Rattle.plane.specs.Rule.Curves.{arc}
use Rattle.plane.specs.Rule.Plans.{Plan, curve}
use Rattle.plane.specs.Forms.Meets.{IsEnd}
use Rattle.plane.specs.Rule.BadPairs.{IsEndOf, HaveSameEnds}
use Rattle.plane.specs.Faces.Halves.{Half, edge_of, twin}
use Rattle.plane.specs.Tubes.Bays.{Bay, IsSome}
use Rattle.plane.specs.Tubes.Windings.{Tile, InTile, tiles, IsCornerOf}
use Rattle.plane.specs.CurveRuns.TubedRuns.{IsTubedRun, owned, IsOfTube, inner, outer, half_within}
use Rattle.plane.specs.CurveRuns.TubedRuns.{tube_label, first_edge, later_bays}
use Rattle.plane.specs.Runs.Steps.{Step}

-- Each tube has at least two bays.
abbrev pub AreWide : Plan → (ℕ → List Bay) → Type 0
AreWide d bays =
    (i : ℕ) → i < length d.curves → (curve d i).kind ≡ kind.HalfArc → IsSome (later_bays (bays i))

-- ---- settled, in the words of the edge list
-- No end of an edge lies in a triangle of a tube except as a corner of it, and where a straight
-- joins the ends of a half arc, the inner corners of its tube stand over the chord. That the edges
-- meet in ends alone, and that corners of tubes are their own, is part of a run with tubes.
pub record IsSettledRun (d : Plan) (bays : ℕ → List Bay) (m : ℕ) (E : ℕ → Edge) : Type 0 where
  -- No end of an edge lies in a triangle of a tube except as a corner of it.
  pub enter : (e : ℕ) → e < m → (p : Point) → IsEnd (E e) p → (i : ℕ) → i < length d.curves
      → (curve d i).kind ≡ kind.HalfArc → (t : Tile) → Has t (tiles (curve d i).from (bays i))
      → InTile t (point p) → IsCornerOf t p
  -- Where a straight joins the ends of a half arc, the inner corners of the tube but the half arc's
  -- ends stand strictly over the chord.
  pub chord : (i j : ℕ) → i < length d.curves → j < length d.curves
      → (curve d i).kind ≡ kind.Straight → (curve d j).kind ≡ kind.HalfArc
      → HaveSameEnds (curve d i) (curve d j) → (b : Bay) → Has b (bays j)
      → IsEndOf (curve d j) b.inner ⊎ (pos 0 <ℤ bow (arc (curve d j)) (point b.inner))

-- A run over the edge list whose tubes have two bays at least, and that is settled.
pub record IsSettledDrawing (d : Plan) (bays : ℕ → List Bay) (m : ℕ) (E : ℕ → Edge)
    (steps : List Step) : Type 0 where
  pub run : IsTubedRun d bays m E steps
  pub wide : AreWide d bays
  pub settled : IsSettledRun d bays m E

-- ---- face numbers as labels
-- What face numbers say of the edges of tubes: those that face one tube from within have one
-- number, which no other half-edge has and which is not that of the outer face; on their other side
-- those of one chain have one number.
pub record AreFacesOfTubes (d : Plan) (bays : ℕ → List Bay) (m : ℕ) (E : ℕ → Edge)
    (face : Half → ℕ) : Type 0 where
  pub one : (e f : ℕ) → e < m → f < m → IsOfTube (owned d bays e).part
      → IsOfTube (owned d bays f).part → (owned d bays e).curve ≡ (owned d bays f).curve
      → face (half_within d bays E e) ≡ face (half_within d bays E f)
  pub own : (e : ℕ) (h : Half) → e < m → edge_of h < m → IsOfTube (owned d bays e).part
      → face (half_within d bays E e) ≡ face h
      → IsOfTube (owned d bays (edge_of h)).part
      × ((owned d bays (edge_of h)).curve ≡ (owned d bays e).curve)
      × (h ≡ half_within d bays E (edge_of h))
  pub bounded : (e : ℕ) → e < m → IsOfTube (owned d bays e).part → face (half_within d bays E e) ≡ 0
      → ⊥
  pub inner_chain : (e f : ℕ) → e < m → f < m → (owned d bays e).part ≡ inner
      → (owned d bays f).part ≡ inner → (owned d bays e).curve ≡ (owned d bays f).curve
      → face (twin (half_within d bays E e)) ≡ face (twin (half_within d bays E f))
  pub outer_chain : (e f : ℕ) → e < m → f < m → (owned d bays e).part ≡ outer
      → (owned d bays f).part ≡ outer → (owned d bays e).curve ≡ (owned d bays f).curve
      → face (twin (half_within d bays E e)) ≡ face (twin (half_within d bays E f))

-- The face numbers are the labels of a certificate: those within a tube are its label, all others
-- at most the number of points.
pub record AreCertificateNumbers (d : Plan) (bays : ℕ → List Bay) (m : ℕ) (E : ℕ → Edge)
    (face : Half → ℕ) : Type 0 where
  pub tubes : (e : ℕ) → e < m → IsOfTube (owned d bays e).part
      → face (half_within d bays E e) ≡ tube_label d (owned d bays e).curve
  pub rest : (h : Half) → edge_of h < m
      → (face h ≤ length d.points)
      ⊎ ((e : ℕ) × (e < m) × IsOfTube (owned d bays e).part
      × (face h ≡ face (half_within d bays E e)))

-- The number beside the inner chain of a tube, and that beside the outer one.
abbrev pub beside_inner : Plan → (ℕ → List Bay) → (ℕ → Edge) → (Half → ℕ) → ℕ → ℕ
beside_inner d bays E face i = face (twin (half_within d bays E (first_edge bays 0 d.curves i)))

abbrev pub beside_outer : Plan → (ℕ → List Bay) → (ℕ → Edge) → (Half → ℕ) → ℕ → ℕ
beside_outer d bays E face i =
    face (twin (half_within d bays E (first_edge bays 0 d.curves i + length (bays i))))
