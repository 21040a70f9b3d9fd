-- The chains of a strip on the picture of a cap: the words of the lemmas on caps.
use Rattle.std.specs.Prelude.{◌≡◌, ◌⊎◌, List, [], ◌∷◌, ℤ, pos, ◌+ℤ◌, ◌<ℤ◌, ◌≤ℤ◌}
use Rattle.plane.specs.declared.kinds.Point.{Point}
use Rattle.plane.specs.Forms.Vectors.{point, mix, side}
use Rattle.plane.specs.Tubes.Caps.{Cap, shape}
use Rattle.plane.specs.Tubes.Bays.{Bay}
use Rattle.plane.specs.Tubes.CapStrips.{line}

-- no place of the straight from p to q is inside, nor under the chord's line
pub record IsFence (c : Cap) (p q : Point) : Type 0 where
  pub low : pos 0 ≤ℤ p.y
  pub high : pos 0 ≤ℤ q.y
  pub clear : (s t : ℤ) → pos 0 ≤ℤ s → pos 0 ≤ℤ t → pos 0 <ℤ (s +ℤ t)
      → pos 0 ≤ℤ shape c (mix s (point p) t (point q))

-- the outer corner stands strictly over the straight between the two inner ones
pub record IsArch (p : Point) (b : Bay) : Type 0 where
  pub up : p.x <ℤ b.outer.x
  pub on : b.outer.x <ℤ b.inner.x
  pub over : pos 0 <ℤ side (line p b.inner) (point b.outer)

-- the inner corner p stands strictly under the straight between the two outer ones
pub record IsDip (q p o : Point) : Type 0 where
  pub up : q.x <ℤ p.x
  pub under : side (line q o) (point p) <ℤ pos 0

-- from the inner corner p and the outer corner q before it on, the bays make a strip along the cap,
-- up to its end
abbrev pub IsCapStrip : Cap → Point → Point → List Bay → Type 0
IsCapStrip c q p [] = (p.x ≡ c.chord) × (q.x <ℤ p.x) × IsFence c q p × (shape c (point p) ≤ℤ pos 0)
IsCapStrip c q p (b ∷ rest) =
    IsArch p b × ((q ≡ p) ⊎ IsDip q p b.outer) × IsFence c q b.outer × (shape c (point p) ≤ℤ pos 0)
    × IsCapStrip c b.outer b.inner rest
