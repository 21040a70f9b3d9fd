-- The tube of a half arc at a level: corners made by whole numbers alone, and the conditions that
-- they meet.
use Rattle.std.specs.Prelude.{unsigned_abs, ◌≡◌, ℕ, zero, suc, ◌+◌, ◌*◌, ◌/◌, ◌^◌, Bool, cond}
use Rattle.std.specs.Prelude.{nat_lt, Option, None, Some, List, [], ◌∷◌, ℤ, pos, ◌+ℤ◌, ◌*ℤ◌, ◌-ℤ◌}
use Rattle.std.specs.Prelude.{◌<ℤ◌, ◌≤ℤ◌}
use Rattle.std.specs.Int.{int_div_euclid}
use Rattle.plane.specs.declared.kinds.Point.{Point}
use Rattle.plane.specs.Faces.Cells.{is_positive}
use Rattle.plane.specs.Lists.{Each, First, Last, Neighbours}
use Rattle.plane.specs.Forms.Arcs.{facing}
use Rattle.plane.specs.Forms.Vectors.{point}
use Rattle.plane.specs.Rule.HalfArcs.{HalfArc, HasCircle, bend, power}
use Rattle.plane.specs.Rule.Turns.{AreNear}
use Rattle.plane.specs.Tubes.Bays.{AreBays, AreNext, ahead_of_from, ahead_of_to, bays, distance}

-- The whole root of a number: the greatest whole number whose square is not above it.
unfoldable pub root : ℕ → ℕ
root zero = zero
root (suc n) = cond (nat_lt (suc n) (suc (root n) * suc (root n))) (root n) (suc (root n))

-- The distance of two points, rounded down. It is 0 only where they are one.
abbrev pub whole_distance : Point → Point → ℕ
whole_distance p q = root (unsigned_abs (distance p q))

-- The x of the way from p to q, turned by a quarter to the side on which the half arc lies: away
-- from its third point.
abbrev pub turned_x : HalfArc → Point → Point → ℤ
turned_x h p q = cond (is_positive (bend h)) (q.y -ℤ p.y) (p.y -ℤ q.y)

-- The y of that way.
abbrev pub turned_y : HalfArc → Point → Point → ℤ
turned_y h p q = cond (is_positive (bend h)) (p.x -ℤ q.x) (q.x -ℤ p.x)

-- s / 2 + n w / l, rounded down.
abbrev pub moved : ℕ → ℤ → ℤ → ℤ → ℤ
moved l s w n = int_div_euclid ((s *ℤ pos l) +ℤ ((pos 2 *ℤ n) *ℤ w)) (pos (2 * l))

-- The point n units from the middle of p and q to that side.
unfoldable pub beside : HalfArc → Point → Point → ℤ → Point
beside h p q n = record {
  x = moved (whole_distance p q) (p.x +ℤ q.x) (turned_x h p q) n;
  y = moved (whole_distance p q) (p.y +ℤ q.y) (turned_y h p q) n;
}

-- Whether the point two units less than k from the middle is strictly inside the circle.
unfoldable pub is_inside : HalfArc → Point → Point → ℕ → Bool
is_inside h p q k = is_positive (pos 0 -ℤ power h (point (beside h p q (pos k -ℤ pos 2))))

-- The number whose bits from number b - 1 down are each added to k where the test holds of the sum.
unfoldable pub with_bits : (ℕ → Bool) → ℕ → ℕ → ℕ
with_bits test zero k = k
with_bits test (suc b) k = with_bits test b (cond (test (k + 2 ^ b)) (k + 2 ^ b) k)

-- The count of two points that differ, where the point two units below their middle is strictly
-- inside.
unfoldable pub count : HalfArc → Point → Point → Option ℕ
count h p q =
    cond (nat_lt 0 (whole_distance p q))
    (cond (is_inside h p q 0) (Some (with_bits (is_inside h p q) 27 0)) None) None

-- What f makes of a value, if there is one.
abbrev pub and_then : {X Y : Type 0} → Option X → (X → Option Y) → Option Y
and_then None f = None
and_then (Some x) f = f x

-- The points after p with a new one, two units less than the count from the middle, between every
-- two neighbours.
unfoldable pub refine : HalfArc → Point → List Point → Option (List Point)
refine h p [] = Some []
refine h p (q ∷ qs) =
    and_then (count h p q)
    (λ k. and_then (refine h q qs) (λ rest. Some (beside h p q (pos k -ℤ pos 2) ∷ q ∷ rest)))

-- The inner points after `from`, that number of times refined.
unfoldable pub inner_points : HalfArc → ℕ → Option (List Point)
inner_points h zero = Some (h.to ∷ [])
inner_points h (suc n) = and_then (inner_points h n) (refine h h.from)

-- The outer points, one over every two neighbours from p on.
unfoldable pub outer_points : HalfArc → Point → List Point → Option (List Point)
outer_points h p [] = Some []
outer_points h p (q ∷ qs) =
    and_then (count h p q)
    (λ k.
    and_then (outer_points h q qs) (λ rest. Some (beside h p q (pos ((5 * k) / 2 + 4)) ∷ rest)))

-- The inner points after `from` and the outer points are those of the tube of a half arc at a
-- level: the circle is there, the half arc is less than half a turn, the points can be made, lie
-- near, rise along the chord and stand to each other as bays do; the outer edges are outside, the
-- first and the last but for the ends of the half arc.
pub record IsTubeOf (h : HalfArc) (level : ℕ) (inner outer : List Point) : Type 0 where
  pub circle : HasCircle h
  pub less : pos 0 <ℤ facing h
  pub inner_made : inner_points h (level + 1) ≡ Some inner
  pub outer_made : outer_points h h.from inner ≡ Some outer
  pub inner_near : Each (AreNear (2 ^ 28) h.from) inner
  pub outer_near : Each (AreNear (2 ^ 28) h.from) outer
  pub are_bays : AreBays h h.from (bays inner outer)
  pub are_next : Neighbours (AreNext h) (bays inner outer)
  pub first_clear : First (λ b. ahead_of_from h b.outer ≤ℤ pos 0) (bays inner outer)
  pub last_clear : Last (λ b. ahead_of_to h b.outer ≤ℤ pos 0) (bays inner outer)

-- The half arc has no tube at the level.
abbrev pub HasNoTube : HalfArc → ℕ → Type 0
HasNoTube h level = (inner outer : List Point) → IsTubeOf h level inner outer → ⊥
