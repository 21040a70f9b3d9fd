-- The tube of a half arc: its corners, its triangles, and the conditions that it meets.
use Rattle.std.specs.Prelude.{◌≡◌, ◌⊎◌, List, [], ◌∷◌, ℤ, pos, ◌+ℤ◌, ◌*ℤ◌, ◌-ℤ◌, ◌<ℤ◌, ◌≤ℤ◌}
use Rattle.plane.specs.declared.kinds.Point.{Point}
use Rattle.plane.specs.Forms.Vectors.{Vector, Place, Same, Between, point, mix}
use Rattle.plane.specs.Lists.{Each, First, Last, Neighbours}
pub use Rattle.plane.specs.Rule.Triangles.{mean, InTriangle}
use Rattle.plane.specs.Forms.Arcs.{HalfArc, wide, tall, bend, circle_x, circle_y, facing, power}
use Rattle.plane.specs.Forms.Arcs.{along, bow}

-- one outer point, and the inner point that follows it: oi and vi
pub record Bay : Type 0 where
  pub outer : Point
  pub inner : Point

-- the bays of the inner points after the first one, v1 to vK, and the outer points, o1 to oK
abbrev pub bays : List Point → List Point → List Bay
bays [] outer = []
bays (v ∷ inner) [] = []
bays (v ∷ inner) (o ∷ outer) = record { outer = o; inner = v } ∷ bays inner outer

-- z is in one of the triangles v(i-1) vi oi
abbrev pub InBays : Point → List Bay → Vector → Type 0
InBays v [] z = ⊥
InBays v (b ∷ rest) z =
    InTriangle z (point v) (point b.inner) (point b.outer) ⊎ InBays b.inner rest z

-- z is in one of the triangles vi oi o(i+1)
abbrev pub InGaps : List Bay → Vector → Type 0
InGaps [] z = ⊥
InGaps (b ∷ []) z = ⊥
InGaps (b ∷ (d ∷ rest)) z =
    InTriangle z (point b.inner) (point b.outer) (point d.outer) ⊎ InGaps (d ∷ rest) z

-- z is in the tube
abbrev pub InTube : Point → List Bay → Vector → Type 0
InTube v bs z = InBays v bs z ⊎ InGaps bs z

-- above 0: z is strictly on the side of the line p q where g grows, for p before q along the chord
unfoldable pub outward : HalfArc → Point → Point → Point → ℤ
outward h p q z =
    pos 0 -ℤ (bend h *ℤ (((q.x -ℤ p.x) *ℤ (z.y -ℤ p.y)) -ℤ ((q.y -ℤ p.y) *ℤ (z.x -ℤ p.x))))

-- the square of the distance of two points
unfoldable pub distance : Point → Point → ℤ
distance p q = ((p.x -ℤ q.x) *ℤ (p.x -ℤ q.x)) +ℤ ((p.y -ℤ q.y) *ℤ (p.y -ℤ q.y))

-- 2 (o - from) . (C - from), times D D
unfoldable pub ahead_of_from : HalfArc → Point → ℤ
ahead_of_from h o =
    bend h *ℤ ((circle_x h *ℤ (o.x -ℤ h.from.x)) +ℤ (circle_y h *ℤ (o.y -ℤ h.from.y)))

-- 2 (o - to) . (C - to), times D D
unfoldable pub ahead_of_to : HalfArc → Point → ℤ
ahead_of_to h o =
    bend h
    *ℤ (((circle_x h -ℤ (pos 2 *ℤ (bend h *ℤ wide h))) *ℤ (o.x -ℤ h.to.x))
    +ℤ ((circle_y h -ℤ (pos 2 *ℤ (bend h *ℤ tall h))) *ℤ (o.y -ℤ h.to.y)))

-- one bay: along the chord v(i-1), oi, vi strictly rise, and oi is strictly on the outer side of
-- v(i-1) vi
pub record IsBay (h : HalfArc) (v : Point) (b : Bay) : Type 0 where
  pub up : along h (point v) <ℤ along h (point b.outer)
  pub on : along h (point b.outer) <ℤ along h (point b.inner)
  pub over : pos 0 <ℤ outward h v b.inner b.outer

-- the bays follow each other, from the inner point v on
abbrev pub AreBays : HalfArc → Point → List Bay → Type 0
AreBays h v [] = Unit {0}
AreBays h v (b ∷ rest) = IsBay h v b × AreBays h b.inner rest

-- two neighbours: vi is strictly between oi and o(i+1) along the chord and strictly on their inner
-- side, and the edge oi o(i+1) is outside
pub record AreNext (h : HalfArc) (b d : Bay) : Type 0 where
  pub under : outward h b.outer d.outer b.inner <ℤ pos 0
  pub first_far : ((bend h *ℤ bend h) *ℤ distance b.outer d.outer) <ℤ
      (pos 4 *ℤ power h (point b.outer))
  pub second_far : ((bend h *ℤ bend h) *ℤ distance b.outer d.outer) <ℤ
      (pos 4 *ℤ power h (point d.outer))

-- there is a bay
abbrev pub IsSome : List Bay → Type 0
IsSome [] = ⊥
IsSome (b ∷ rest) = Unit {0}

-- what makes the corners a tube, but for the sizes: the half arc is less than half a turn, the bays
-- and their neighbours are right, the first and the last outer edge are outside but for the ends of
-- the half arc, the last inner point is `to`, and those before it are strictly inside
pub record IsTube (h : HalfArc) (bs : List Bay) : Type 0 where
  pub circle : pos 0 <ℤ (bend h *ℤ bend h)
  pub facing : pos 0 <ℤ facing h
  pub are_bays : AreBays h h.from bs
  pub are_next : Neighbours (AreNext h) bs
  pub ends : Last (λ b. b.inner ≡ h.to) bs
  pub inside : Each (λ b. (power h (point b.inner) <ℤ pos 0) ⊎ (b.inner ≡ h.to)) bs
  pub first_clear : First (λ b. ahead_of_from h b.outer ≤ℤ pos 0) bs
  pub last_clear : Last (λ b. ahead_of_to h b.outer ≤ℤ pos 0) bs
  pub some : IsSome bs

-- the straight from p to q without its ends is strictly inside the circle
abbrev pub RunsInside : HalfArc → Point → Point → Type 0
RunsInside h p q =
    (s t : ℤ) → pos 0 <ℤ s → pos 0 <ℤ t → power h (mix s (point p) t (point q)) <ℤ pos 0

-- the straight from p to q without its ends is strictly outside, and on the arc's side of the chord
abbrev pub RunsOutside : HalfArc → Point → Point → Type 0
RunsOutside h p q =
    (s t : ℤ) → pos 0 <ℤ s → pos 0 <ℤ t
    → (pos 0 <ℤ power h (mix s (point p) t (point q)))
    × (pos 0 <ℤ bow h (mix s (point p) t (point q)))

-- the outer corner is strictly outside, and on the arc's side of the chord
abbrev pub IsOuterCorner : HalfArc → Bay → Type 0
IsOuterCorner h b = (pos 0 <ℤ power h (point b.outer)) × (pos 0 <ℤ bow h (point b.outer))

-- R holds for the straights of the inner chain from p on
abbrev pub InnerChain : (Point → Point → Type 0) → Point → List Bay → Type 0
InnerChain R p [] = Unit {0}
InnerChain R p (b ∷ rest) = R p b.inner × InnerChain R b.inner rest

-- R holds for the straights of the outer chain from q to e
abbrev pub OuterChain : (Point → Point → Type 0) → Point → Point → List Bay → Type 0
OuterChain R q e [] = R q e
OuterChain R q e (b ∷ rest) = R q b.outer × OuterChain R b.outer e rest

-- some place of the segment from p to q is in the tube
pub record MeetsTube (h : HalfArc) (bs : List Bay) (p q : Vector) : Type 0 where
  pub z : Vector
  pub place : Place z
  pub between : Between z p q
  pub there : InTube h.from bs z

-- z is on one of the straights of the inner chain from p on
abbrev pub OnInner : Vector → Point → List Bay → Type 0
OnInner z p [] = ⊥
OnInner z p (b ∷ rest) = Between z (point p) (point b.inner) ⊎ OnInner z b.inner rest

-- z is on one of the straights of the outer chain from q to e
abbrev pub OnOuter : Vector → Point → Point → List Bay → Type 0
OnOuter z q e [] = Between z (point q) (point e)
OnOuter z q e (b ∷ rest) = Between z (point q) (point b.outer) ⊎ OnOuter z b.outer e rest

-- z is an end of the half arc
abbrev pub AtEnds : HalfArc → Vector → Type 0
AtEnds h z = Same z (point h.from) ⊎ Same z (point h.to)
