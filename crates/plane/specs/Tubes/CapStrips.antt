-- A strip of triangles between two chains that rise along x: the inner corners below, the outer
-- corners above.
use Rattle.std.specs.Prelude.{List, [], ◌∷◌, pos, ◌*ℤ◌, ◌≤ℤ◌}
use Rattle.plane.specs.declared.kinds.Point.{Point}
use Rattle.plane.specs.Forms.Vectors.{Vector, Edge, side}
use Rattle.plane.specs.Tubes.Bays.{Bay}

abbrev pub line : Point → Point → Edge
line p q = record { low = p; high = q }

-- z is not left of p and not right of q
pub record InColumn (p q : Point) (z : Vector) : Type 0 where
  pub low : (p.x *ℤ z.n) ≤ℤ z.x
  pub high : z.x ≤ℤ (q.x *ℤ z.n)

-- z is not over the outer chain
abbrev pub IsUnder : Vector → Point → Point → List Bay → Type 0
IsUnder z q p [] = InColumn q p z → side (line q p) z ≤ℤ pos 0
IsUnder z q p (b ∷ rest) =
    (InColumn q b.outer z → side (line q b.outer) z ≤ℤ pos 0) × IsUnder z b.outer b.inner rest

-- a test holds at z for each straight of the inner chain in whose column z is
abbrev pub AtInner : (Edge → Vector → Type 0) → Vector → Point → List Bay → Type 0
AtInner R z p [] = Unit {0}
AtInner R z p (b ∷ rest) = (InColumn p b.inner z → R (line p b.inner) z) × AtInner R z b.inner rest
