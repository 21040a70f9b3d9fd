-- Parity: counts of edges over a place, along the vertical and along the sweep line.
-- Chosen edges are known by their numbers.
use Rattle.std.specs.Prelude.{◌≡◌, ℕ, zero, suc, Bool, true, false, cond, List, [], ◌∷◌, ℤ, pos}
use Rattle.std.specs.Prelude.{◌*ℤ◌, ◌-ℤ◌}
use Rattle.plane.specs.declared.kinds.Point.{Point}
use Rattle.plane.specs.Faces.Labels.{Labels}
use Rattle.plane.specs.Faces.Cells.{is_positive}
use Rattle.plane.specs.Forms.Vectors.{Vector, Edge, side}

-- the other truth value
abbrev pub flip : Bool → Bool
flip true = false
flip false = true

-- whether both are true
abbrev pub both : Bool → Bool → Bool
both true b = b
both false b = false

-- whether exactly one is true
abbrev pub differ : Bool → Bool → Bool
differ true b = flip b
differ false b = b

-- whether an odd number of elements pass the test
abbrev pub parity : {X : Type 0} → (X → Bool) → List X → Bool
parity p [] = false
parity p (x ∷ xs) = differ (p x) (parity p xs)

-- p is right of the vertical of z
unfoldable pub is_right : Point → Vector → Bool
is_right p z = is_positive ((p.x *ℤ z.n) -ℤ z.x)

-- z is strictly below the line of e
unfoldable pub is_under : Edge → Vector → Bool
is_under e z = is_positive (pos 0 -ℤ side e z)

-- low.x <= x < high.x, and z strictly below e
abbrev pub crosses_vertical : Vector → Edge → Bool
crosses_vertical z e = both (flip (is_right e.low z)) (both (is_right e.high z) (is_under e z))

-- the ends of the edges, each as often as it is one
abbrev pub ends_of : List Edge → List Point
ends_of [] = []
ends_of (e ∷ es) = e.low ∷ (e.high ∷ ends_of es)

-- whether two whole numbers are equal
abbrev pub same_whole : ℤ → ℤ → Bool
same_whole a b = both (flip (is_positive (a -ℤ b))) (flip (is_positive (b -ℤ a)))

-- whether two points are equal
unfoldable pub same_point : Point → Point → Bool
same_point p q = both (same_whole p.x q.x) (same_whole p.y q.y)

-- each point is the end of an even number of the edges
abbrev pub EvenEnds : List Edge → Type 0
EvenEnds es = (p : Point) → parity (same_point p) (ends_of es) ≡ false

abbrev pub same_number : ℕ → ℕ → Bool
same_number zero zero = true
same_number zero (suc b) = false
same_number (suc a) zero = false
same_number (suc a) (suc b) = same_number a b

abbrev pub either : Bool → Bool → Bool
either true b = true
either false b = b

abbrev pub among : List ℕ → ℕ → Bool
among [] e = false
among (x ∷ xs) e = either (same_number x e) (among xs e)

-- the edges with numbers below m that are chosen
abbrev pub chosen : (ℕ → Bool) → ℕ → (ℕ → Edge) → List Edge
chosen c zero E = []
chosen c (suc m) E = cond (c m) (E m ∷ chosen c m E) (chosen c m E)

-- whether an odd number of the edges after the first i are chosen
abbrev pub parity_over : (ℕ → Bool) → ℕ → List ℕ → Bool
parity_over c zero es = parity c es
parity_over c (suc i) [] = false
parity_over c (suc i) (e ∷ es) = parity_over c i es

-- the two sides of an edge have different labels, one of which is f
abbrev pub one_side : Labels → ℕ → ℕ → Bool
one_side a f e = differ (same_number f (a.below e)) (same_number f (a.above e))
