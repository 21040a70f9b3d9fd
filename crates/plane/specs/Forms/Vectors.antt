-- Working forms: edges, two linear forms on places, and the places of a segment as means of its
-- ends.
-- A vector with n = 0 is a direction.
use Rattle.std.specs.Prelude.{◌≡◌, ℤ, pos, negsuc, ◌+ℤ◌, ◌*ℤ◌, ◌-ℤ◌, ◌<ℤ◌, ◌≤ℤ◌, ◌⊎◌, ℕ, ◌<◌}
use Rattle.plane.specs.declared.kinds.Point.{Point}
pub use Rattle.plane.specs.declared.kinds.Edge.{Edge}
pub use Rattle.plane.specs.Rule.Places.{Vector, Place, point, Same}

-- s p + t q
abbrev pub mix : ℤ → Vector → ℤ → Vector → Vector
mix s p t q =
    record {
      x = (s *ℤ p.x) +ℤ (t *ℤ q.x);
      y = (s *ℤ p.y) +ℤ (t *ℤ q.y);
      n = (s *ℤ p.n) +ℤ (t *ℤ q.n);
    }

-- z is a place of the segment from p to q
pub record Between (z p q : Vector) : Type 0 where
  pub s : ℤ
  pub t : ℤ
  pub s_least : pos 0 ≤ℤ s
  pub t_least : pos 0 ≤ℤ t
  pub some : pos 0 <ℤ (s +ℤ t)
  pub is : Same z (mix s p t q)

-- above 0: v is strictly above the line of e; 0: on it; below 0: strictly below
unfoldable pub side : Edge → Vector → ℤ
side e v =
    ((e.high.x -ℤ e.low.x) *ℤ (v.y -ℤ (e.low.y *ℤ v.n)))
    -ℤ ((e.high.y -ℤ e.low.y) *ℤ (v.x -ℤ (e.low.x *ℤ v.n)))

-- where the sweep line with weight w meets v
unfoldable pub sweep : ℤ → Vector → ℤ
sweep w v = (w *ℤ v.x) +ℤ v.y

-- the direction along the sweep line, upwards
abbrev pub up : ℤ → Vector
up w = record { x = negsuc 0; y = w; n = pos 0 }

-- how far the sweep goes from the low end to the high end
unfoldable pub rise : ℤ → Edge → ℤ
rise w e = ((w *ℤ e.high.x) +ℤ e.high.y) -ℤ ((w *ℤ e.low.x) +ℤ e.low.y)

-- below 0: a is strictly below b on the sweep line through v
unfoldable pub gap : ℤ → Edge → Edge → Vector → ℤ
gap w a b v = (rise w a *ℤ side b v) -ℤ (rise w b *ℤ side a v)

-- how far p lies above q on one sweep line
unfoldable pub lift : Vector → Vector → ℤ
lift p q = (p.n *ℤ q.x) -ℤ (q.n *ℤ p.x)

-- v is a place of e
pub record On (w : ℤ) (e : Edge) (v : Vector) : Type 0 where
  pub line : side e v ≡ pos 0
  pub low : (sweep w (point e.low) *ℤ v.n) ≤ℤ sweep w v
  pub high : sweep w v ≤ℤ (sweep w (point e.high) *ℤ v.n)

-- v's sweep value is in the span of e, both ends allowed
pub record InSpan (w : ℤ) (e : Edge) (v : Vector) : Type 0 where
  pub low : (sweep w (point e.low) *ℤ v.n) ≤ℤ sweep w v
  pub high : sweep w v ≤ℤ (sweep w (point e.high) *ℤ v.n)

-- p comes before q: by x, then by y
abbrev pub Before : Point → Point → Type 0
Before p q = (p.x <ℤ q.x) ⊎ ((p.x ≡ q.x) × (p.y <ℤ q.y))

-- of the edges with numbers below m the low end comes before the high end
abbrev pub AreRising : ℕ → (ℕ → Edge) → Type 0
AreRising m E = (e : ℕ) → e < m → Before (E e).low (E e).high

-- the place of e on the sweep line through z
abbrev pub foot : ℤ → Edge → Vector → Vector
foot w e z = mix (rise w e) z (pos 0 -ℤ side e z) (up w)

-- the place where the form with the values a at p and b at q is 0
abbrev pub crossing : ℤ → Vector → ℤ → Vector → Vector
crossing a p b q = mix b p (pos 0 -ℤ a) q

-- some place of the segment from p to q is on e
pub record HitsEdge (w : ℤ) (p q : Vector) (e : Edge) : Type 0 where
  pub z : Vector
  pub place : Place z
  pub between : Between z p q
  pub on : On w e z

-- a linear form on vectors, by its three coefficients
unfoldable pub linear : ℤ → ℤ → ℤ → Vector → ℤ
linear a b c v = ((a *ℤ v.x) +ℤ (b *ℤ v.y)) +ℤ (c *ℤ v.n)
