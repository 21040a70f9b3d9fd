-- A point on a straight, by a turn and by order along each axis.
use Rattle.std.proofs.Common.{◌≡◌, ◌↔◌, Bool, false, IsTrue, [], ◌∷◌, ℤ, pos, ◌+ℤ◌, ◌-ℤ◌, ◌*ℤ◌}
use Rattle.std.proofs.Common.{◌<ℤ◌, ◌≤ℤ◌, refl, ap, sym, ◌∙◌, arith}
use Rattle.std.proofs.lemmas.Int.{ints, by_lt_z}
use Rattle.plane.specs.declared.kinds.Point.{Point}
use Rattle.plane.specs.Rule.Places.{point}
use Rattle.plane.specs.Rule.Straights.{IsOnStraight, dot, turn}
use Rattle.plane.specs.Rule.Turns.{cross}
use Rattle.plane.proofs.Algebra.Laws.{product_positive, square_nonnegative}
use Rattle.plane.proofs.Algebra.Ring.{at, num, plus, minus, times, vars, ring}
use Rattle.straight_predicates.proofs.Choices.{differ}

turn_is : (a b p : Point) → turn (point a) (point b) (point p) ≡ cross a b p
turn_is a b p =
    let AX = at 0 in
    let AY = at 1 in
    let BX = at 2 in let BY = at 3 in let PX = at 4 in let PY = at 5 in let ONE = num (pos 1) in
    ring (minus (times (minus (times BX ONE) (times AX ONE)) (minus (times PY ONE) (times AY ONE)))
    (times (minus (times BY ONE) (times AY ONE)) (minus (times PX ONE) (times AX ONE))))
    (minus (times (minus BX AX) (minus PY AY)) (times (minus BY AY) (minus PX AX)))
    (vars (a.x ∷ a.y ∷ b.x ∷ b.y ∷ p.x ∷ p.y ∷ [])) refl

dot_is : (a b p : Point)
    → dot (point a) (point b) (point p)
    ≡ ((a.x -ℤ p.x) *ℤ (b.x -ℤ p.x)) +ℤ ((a.y -ℤ p.y) *ℤ (b.y -ℤ p.y))
dot_is a b p =
    let AX = at 0 in
    let AY = at 1 in
    let BX = at 2 in let BY = at 3 in let PX = at 4 in let PY = at 5 in let ONE = num (pos 1) in
    ring (plus (times (minus (times AX ONE) (times PX ONE)) (minus (times BX ONE) (times PX ONE)))
    (times (minus (times AY ONE) (times PY ONE)) (minus (times BY ONE) (times PY ONE))))
    (plus (times (minus AX PX) (minus BX PX)) (times (minus AY PY) (minus BY PY)))
    (vars (a.x ∷ a.y ∷ b.x ∷ b.y ∷ p.x ∷ p.y ∷ [])) refl

-- where the cross product is 0, the two products are of one sign
products_square : (a b p : Point) → cross a b p ≡ pos 0
    → (((a.x -ℤ p.x) *ℤ (b.x -ℤ p.x)) *ℤ ((a.y -ℤ p.y) *ℤ (b.y -ℤ p.y)))
    ≡ (((a.x -ℤ p.x) *ℤ (b.y -ℤ p.y)) *ℤ ((a.x -ℤ p.x) *ℤ (b.y -ℤ p.y)))
products_square a b p e =
    let AX = at 0 in
    let AY = at 1 in let BX = at 2 in let BY = at 3 in let PX = at 4 in let PY = at 5 in
    let S = times (minus AX PX) (minus BY PY) in
    let CROSS = minus (times (minus BX AX) (minus PY AY)) (times (minus BY AY) (minus PX AX)) in
    let s = (a.x -ℤ p.x) *ℤ (b.y -ℤ p.y) in
    let r = ring (times (times (minus AX PX) (minus BX PX)) (times (minus AY PY) (minus BY PY)))
    (minus (times S S) (times S CROSS)) (vars (a.x ∷ a.y ∷ b.x ∷ b.y ∷ p.x ∷ p.y ∷ [])) refl in
    let z : (s *ℤ cross a b p) ≡ pos 0 = ap (λ (q : ℤ). s *ℤ q) e ∙ times_zero s in
    omega (arith, ints, r, z)
  where
    times_zero : (s : ℤ) → (s *ℤ pos 0) ≡ pos 0
    times_zero s = omega (arith, ints)

not_both_signs : (p q s : ℤ) → (p *ℤ q) ≡ (s *ℤ s) → (p +ℤ q) ≤ℤ pos 0 → p ≤ℤ pos 0
not_both_signs p q s e h = by_lt_z (pos 0) p (λ (l : pos 0 <ℤ p). contra l) (λ (l : p ≤ℤ pos 0). l)
  where
    contra : pos 0 <ℤ p → p ≤ℤ pos 0
    contra l =
        let n : q <ℤ pos 0 = omega (arith, ints, l, h) in
        let m = product_positive p (pos 0 -ℤ q) l (omega (arith, ints, n)) in
        let P = at 0 in let Q = at 1 in
        let r = ring (times P (minus (num (pos 0)) Q)) (minus (num (pos 0)) (times P Q))
        (vars (p ∷ q ∷ [])) refl in
        let k = square_nonnegative s in
        absurd (omega (arith, ints, m, r, k, e))

swap : (p q : ℤ) → (p *ℤ q) ≡ (q *ℤ p)
swap p q = let P = at 0 in let Q = at 1 in ring (times P Q) (times Q P) (vars (p ∷ q ∷ [])) refl

module _ (a b p : Point) where
  abbrev px : ℤ
  px = (a.x -ℤ p.x) *ℤ (b.x -ℤ p.x)

  abbrev py : ℤ
  py = (a.y -ℤ p.y) *ℤ (b.y -ℤ p.y)

  pub on_straight : (r : Bool) → cross a b p ≡ pos 0
      → (IsTrue r ↔ ((((a.x -ℤ p.x) *ℤ (b.x -ℤ p.x)) ≤ℤ pos 0)
      × (((a.y -ℤ p.y) *ℤ (b.y -ℤ p.y)) ≤ℤ pos 0)))
      → IsTrue r ↔ IsOnStraight (point a) (point b) (point p)
  on_straight r e h = (
    λ t. let (hx, hy) = h.0 t in
        record {
          line = turn_is a b p ∙ e;
          between = let d = dot_is a b p in omega (arith, ints, d, hx, hy);
        },
    λ s.
        let d = dot_is a b p in
        let q = s.between in
        let k : (px +ℤ py) ≤ℤ pos 0 = omega (arith, ints, d, q) in
        let f = products_square a b p e in
        h.1 (
          not_both_signs px py ((a.x -ℤ p.x) *ℤ (b.y -ℤ p.y)) f k,
          not_both_signs py px ((a.x -ℤ p.x) *ℤ (b.y -ℤ p.y)) (swap py px ∙ f)
              (omega (arith, ints, k)),
        ),
  )

  pub off_straight : (cross a b p ≡ pos 0 → ⊥)
      → IsTrue false ↔ IsOnStraight (point a) (point b) (point p)
  off_straight n = (λ t. differ (sym t), λ s. absurd (n (sym (turn_is a b p) ∙ s.line)))
