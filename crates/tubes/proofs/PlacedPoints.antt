-- Points beside a span, up to the rests of two roundings, and how great these rests are along a
-- way.
use Rattle.std.proofs.Common.{◌≡◌, suc, ℤ, pos, negsuc, ◌+ℤ◌, ◌*ℤ◌, ◌-ℤ◌, ◌≤ℤ◌, [], ◌∷◌, refl}
use Rattle.std.proofs.Common.{arith, ap, ◌∙◌}
use Rattle.std.proofs.lemmas.Int.{ints}
use Rattle.plane.proofs.Algebra.Laws.{product_nonnegative, square_nonnegative}
use Rattle.plane.proofs.Algebra.Ring.{Expr, at, minus, num, plus, ring, times, vars}

abbrev pub dot : ℤ → ℤ → ℤ → ℤ → ℤ
dot x y u v = (x *ℤ u) +ℤ (y *ℤ v)

abbrev pub DOT : Expr → Expr → Expr → Expr → Expr
DOT x y u v = plus (times x u) (times y v)

-- (x, y), seen from p, is n parts of w of which l are the whole from the middle of a span u, and
-- less by the rests of two roundings
pub record IsPlaced (l ux uy wx wy n x y : ℤ) : Type 0 where
  pub rx : ℤ
  pub ry : ℤ
  pub rx_least : pos 0 ≤ℤ rx
  pub rx_most : rx ≤ℤ (pos 2 *ℤ l)
  pub ry_least : pos 0 ≤ℤ ry
  pub ry_most : ry ≤ℤ (pos 2 *ℤ l)
  pub right : (pos 2 *ℤ l) *ℤ x ≡ ((l *ℤ ux) +ℤ ((pos 2 *ℤ n) *ℤ wx)) -ℤ rx
  pub above : (pos 2 *ℤ l) *ℤ y ≡ ((l *ℤ uy) +ℤ ((pos 2 *ℤ n) *ℤ wy)) -ℤ ry

-- how far such a place is along z
pub along : (l ux uy wx wy n x y zx zy : ℤ) → (a : IsPlaced l ux uy wx wy n x y)
    → (pos 2 *ℤ l) *ℤ dot x y zx zy ≡ ((l *ℤ dot ux uy zx zy) +ℤ ((pos 2 *ℤ n) *ℤ dot wx wy zx zy))
    -ℤ dot a.rx a.ry zx zy
along l ux uy wx wy n x y zx zy a =
    let e : (pos 2 *ℤ l) *ℤ dot x y zx zy ≡ dot ((pos 2 *ℤ l) *ℤ x) ((pos 2 *ℤ l) *ℤ y) zx zy =
    ring (times (times (num (pos 2)) (at 0)) (DOT (at 1) (at 2) (at 3) (at 4)))
    (DOT (times (times (num (pos 2)) (at 0)) (at 1)) (times (times (num (pos 2)) (at 0)) (at 2))
    (at 3) (at 4)) (vars (l ∷ x ∷ y ∷ zx ∷ zy ∷ [])) refl in
    let N = times (num (pos 2)) (at 5) in
    e
    ∙ ap (λ (v : ℤ). dot v ((pos 2 *ℤ l) *ℤ y) zx zy) a.right
    ∙ ap (λ (v : ℤ). dot (((l *ℤ ux) +ℤ ((pos 2 *ℤ n) *ℤ wx)) -ℤ a.rx) v zx zy) a.above
    ∙ ring (DOT (minus (plus (times (at 0) (at 1)) (times N (at 3))) (at 6))
    (minus (plus (times (at 0) (at 2)) (times N (at 4))) (at 7)) (at 8) (at 9))
    (minus (plus (times (at 0) (DOT (at 1) (at 2) (at 8) (at 9)))
    (times N (DOT (at 3) (at 4) (at 8) (at 9)))) (DOT (at 6) (at 7) (at 8) (at 9)))
    (vars (l ∷ ux ∷ uy ∷ wx ∷ wy ∷ n ∷ a.rx ∷ a.ry ∷ zx ∷ zy ∷ [])) refl

-- ---- the sizes of a way's coordinates
abbrev pub over : ℤ → ℤ
over (pos n) = pos n
over (negsuc n) = pos 0

abbrev pub under : ℤ → ℤ
under (pos n) = pos 0
under (negsuc n) = pos (suc n)

pub over_least : (z : ℤ) → pos 0 ≤ℤ over z
over_least (pos n) = omega (arith, ints)
over_least (negsuc n) = omega (arith, ints)

pub under_least : (z : ℤ) → pos 0 ≤ℤ under z
under_least (pos n) = omega (arith, ints)
under_least (negsuc n) = omega (arith, ints)

size_square : (z : ℤ) → (over z +ℤ under z) *ℤ (over z +ℤ under z) ≡ z *ℤ z
size_square (pos n) =
    let e : pos n +ℤ pos 0 ≡ pos n = omega (arith, ints) in ap (λ (m : ℤ). m *ℤ m) e
size_square (negsuc n) =
    let e : pos 0 +ℤ pos (suc n) ≡ pos (suc n) = omega (arith, ints) in ap (λ (m : ℤ). m *ℤ m) e

part : (m r z : ℤ) → pos 0 ≤ℤ r → r ≤ℤ m
    → ((r *ℤ z) ≤ℤ (m *ℤ over z)) × ((pos 0 -ℤ (r *ℤ z)) ≤ℤ (m *ℤ under z))
part m r (pos n) h k =
    let a = product_nonnegative r (pos n) h (omega (arith, ints)) in
    let b = product_nonnegative (m -ℤ r) (pos n) (omega (arith, ints, k)) (omega (arith, ints)) in
    let c : (m -ℤ r) *ℤ pos n ≡ (m *ℤ pos n)
    -ℤ (r *ℤ pos n) =
    ring (times (minus (at 0) (at 1)) (at 2))
    (minus (times (at 0) (at 2)) (times (at 1) (at 2))) (vars (m ∷ r ∷ pos n ∷ [])) refl in
    let z : m *ℤ pos 0 ≡ pos 0 = omega (arith, ints) in
    (omega (arith, ints, b, c), omega (arith, ints, a, z))
part m r (negsuc n) h k =
    let s = pos (suc n) in
    let a = product_nonnegative r s h (omega (arith, ints)) in
    let b = product_nonnegative (m -ℤ r) s (omega (arith, ints, k)) (omega (arith, ints)) in
    let c : (m -ℤ r) *ℤ s ≡ (m *ℤ s) -ℤ (r *ℤ s) = ring (times (minus (at 0) (at 1)) (at 2))
    (minus (times (at 0) (at 2)) (times (at 1) (at 2))) (vars (m ∷ r ∷ s ∷ [])) refl in
    let d : r *ℤ negsuc n ≡ pos 0 -ℤ (r *ℤ s) = ap (λ (v : ℤ). r *ℤ v) (omega (arith, ints))
    ∙ ring (times (at 0) (minus (num (pos 0)) (at 1)))
    (minus (num (pos 0)) (times (at 0) (at 1))) (vars (r ∷ s ∷ [])) refl in
    let z : m *ℤ pos 0 ≡ pos 0 = omega (arith, ints) in
    (omega (arith, ints, a, d, z), omega (arith, ints, b, c, d))

abbrev pub overs : ℤ → ℤ → ℤ
overs x y = over x +ℤ over y

abbrev pub unders : ℤ → ℤ → ℤ
unders x y = under x +ℤ under y

abbrev pub sizes : ℤ → ℤ → ℤ
sizes x y = overs x y +ℤ unders x y

pub parts : (m rx ry zx zy : ℤ) → pos 0 ≤ℤ rx → rx ≤ℤ m → pos 0 ≤ℤ ry → ry ≤ℤ m
    → (dot rx ry zx zy ≤ℤ (m *ℤ overs zx zy)) × ((pos 0 -ℤ dot rx ry zx zy) ≤ℤ (m *ℤ unders zx zy))
parts m rx ry zx zy a b c d =
    let x = part m rx zx a b in
    let y = part m ry zy c d in
    let e : m *ℤ overs zx zy ≡ (m *ℤ over zx)
    +ℤ (m *ℤ over zy) =
    ring (times (at 0) (plus (at 1) (at 2))) (plus (times (at 0) (at 1)) (times (at 0) (at 2)))
    (vars (m ∷ over zx ∷ over zy ∷ [])) refl in
    let f : m *ℤ unders zx zy ≡ (m *ℤ under zx)
    +ℤ (m *ℤ under zy) =
    ring (times (at 0) (plus (at 1) (at 2))) (plus (times (at 0) (at 1)) (times (at 0) (at 2)))
    (vars (m ∷ under zx ∷ under zy ∷ [])) refl in
    (omega (arith, ints, x.0, y.0, e), omega (arith, ints, x.1, y.1, f))

pub sizes_least : (x y : ℤ) → pos 0 ≤ℤ sizes x y
sizes_least x y =
    let a = over_least x in
    let b = over_least y in
    let c = under_least x in let d = under_least y in omega (arith, ints, a, b, c, d)

-- where x x + y y is e and l is at most its root
pub sizes_most : (l e x y : ℤ) → (l *ℤ l) ≤ℤ e → dot x y x y ≡ e
    → ((pos 2 *ℤ l) *ℤ sizes x y) ≤ℤ (pos 3 *ℤ e)
sizes_most l e x y h k =
    let m = over x +ℤ under x in
    let n = over y +ℤ under y in
    let a = square_nonnegative (l -ℤ (m +ℤ n)) in
    let b = square_nonnegative (m -ℤ n) in
    let p = size_square x in
    let q = size_square y in
    let f : (l -ℤ (m +ℤ n)) *ℤ (l -ℤ (m +ℤ n))
    ≡ ((l *ℤ l) +ℤ ((m *ℤ m) +ℤ ((n *ℤ n) +ℤ (pos 2 *ℤ (m *ℤ n)))))
    -ℤ ((pos 2 *ℤ l) *ℤ (m +ℤ n)) =
    ring (times (minus (at 0) (plus (at 1) (at 2))) (minus (at 0) (plus (at 1) (at 2))))
    (minus (plus (times (at 0) (at 0))
    (plus (times (at 1) (at 1))
    (plus (times (at 2) (at 2)) (times (num (pos 2)) (times (at 1) (at 2))))))
    (times (times (num (pos 2)) (at 0)) (plus (at 1) (at 2)))) (vars (l ∷ m ∷ n ∷ [])) refl in
    let g : (m -ℤ n) *ℤ (m -ℤ n) ≡ ((m *ℤ m) +ℤ (n *ℤ n)) -ℤ (pos 2 *ℤ (m *ℤ n)) =
    ring (times (minus (at 0) (at 1)) (minus (at 0) (at 1)))
    (minus (plus (times (at 0) (at 0)) (times (at 1) (at 1)))
    (times (num (pos 2)) (times (at 0) (at 1)))) (vars (m ∷ n ∷ [])) refl in
    let i : (pos 2 *ℤ l) *ℤ sizes x y ≡ (pos 2 *ℤ l)
    *ℤ (m +ℤ n) = ap (λ (s : ℤ). (pos 2 *ℤ l) *ℤ s) (omega (arith, ints)) in
    omega (arith, ints, a, b, p, q, f, g, i, h, k)
