-- Linear forms on triangles: what holds on one side of a line at the corners holds all over.
use Rattle.std.proofs.Common.{◌≡◌, ◌↔◌, ℤ, pos, ◌+ℤ◌, ◌*ℤ◌, ◌<ℤ◌, ◌≤ℤ◌, [], ◌∷◌, refl, arith, sym}
use Rattle.std.proofs.lemmas.Int.{ints}
use Rattle.plane.specs.Forms.Vectors.{Vector, Place, Edge, side, linear}
use Rattle.plane.specs.Rule.Straights.{IsOnStraight}
use Rattle.plane.specs.Rule.Triangles.{mean, InTriangle}
use Rattle.plane.proofs.Algebra.Laws.{product_nonnegative, weight_at_most}
use Rattle.plane.proofs.Algebra.Ring.{Expr, at, plus, times, vars, ring}
use Rattle.plane.proofs.Linear.Vectors.{SIDE}
use Rattle.plane.proofs.Linear.OnePlace.{side_same}
use Rattle.plane.proofs.Covers.HalfArcPlaces.{same_least}
use Rattle.plane.proofs.Covers.StraightCovers.{on_flat, flat_on}

pub linear-mean : (a b c : ℤ) (i : ℤ) (p : Vector) (j : ℤ) (q : Vector) (k : ℤ) (r : Vector)
    → linear a b c (mean i p j q k r) ≡ ((i *ℤ linear a b c p) +ℤ (j *ℤ linear a b c q))
    +ℤ (k *ℤ linear a b c r)
unfolding linear
linear-mean a b c i p j q k r =
    let F : Expr → Expr → Expr
    → Expr = λ x y n. plus (plus (times (at 0) x) (times (at 1) y)) (times (at 2) n) in
    let m : Expr → Expr → Expr
    → Expr = λ p q r. plus (plus (times (at 3) p) (times (at 4) q)) (times (at 5) r) in
    ring (F (m (at 6) (at 9) (at 12)) (m (at 7) (at 10) (at 13)) (m (at 8) (at 11) (at 14)))
    (m (F (at 6) (at 7) (at 8)) (F (at 9) (at 10) (at 11)) (F (at 12) (at 13) (at 14)))
    (vars (a ∷ b ∷ c ∷ i ∷ j ∷ k ∷ p.x ∷ p.y ∷ p.n ∷ q.x ∷ q.y ∷ q.n ∷ r.x ∷ r.y ∷ r.n ∷ [])) refl

pub side-mean : (e : Edge) (i : ℤ) (p : Vector) (j : ℤ) (q : Vector) (k : ℤ) (r : Vector)
    → side e (mean i p j q k r) ≡ ((i *ℤ side e p) +ℤ (j *ℤ side e q)) +ℤ (k *ℤ side e r)
unfolding side
side-mean e i p j q k r =
    let F : Expr → Expr → Expr → Expr = SIDE (at 12) (at 13) (at 14) (at 15) in
    let m : Expr → Expr → Expr
    → Expr = λ p q r. plus (plus (times (at 0) p) (times (at 1) q)) (times (at 2) r) in
    ring (F (m (at 3) (at 6) (at 9)) (m (at 4) (at 7) (at 10)) (m (at 5) (at 8) (at 11)))
    (m (F (at 3) (at 4) (at 5)) (F (at 6) (at 7) (at 8)) (F (at 9) (at 10) (at 11)))
    (vars (i ∷ j ∷ k ∷ p.x ∷ p.y ∷ p.n ∷ q.x ∷ q.y ∷ q.n ∷ r.x ∷ r.y ∷ r.n ∷ e.low.x ∷ e.low.y
    ∷ e.high.x ∷ e.high.y ∷ [])) refl

pub mean_place : (i : ℤ) (p : Vector) (j : ℤ) (q : Vector) (k : ℤ) (r : Vector) → Place p → Place q
    → Place r → pos 0 ≤ℤ i → pos 0 ≤ℤ j → pos 0 ≤ℤ k → pos 0 <ℤ ((i +ℤ j) +ℤ k)
    → Place (mean i p j q k r)
mean_place i p j q k r P Q R hi hj hk some =
    let a = weight_at_most i p.n hi P in
    let b = weight_at_most j q.n hj Q in
    let c = weight_at_most k r.n hk R in
    omega (arith, ints, a, b, c, some)

pub side_in_triangle : (e : Edge) (z p q r : Vector) → Place z → Place p → Place q → Place r
    → InTriangle z p q r
    → pos 0 ≤ℤ side e p → pos 0 ≤ℤ side e q → pos 0 ≤ℤ side e r → pos 0 ≤ℤ side e z
side_in_triangle e z p q r Z P Q R h a b c =
    let m = mean h.i p h.j q h.k r in
    let M = mean_place h.i p h.j q h.k r P Q R h.i_least h.j_least h.k_least h.some in
    let u = product_nonnegative h.i (side e p) h.i_least a in
    let v = product_nonnegative h.j (side e q) h.j_least b in
    let w = product_nonnegative h.k (side e r) h.k_least c in
    let s = side-mean e h.i p h.j q h.k r in
    same_least z.n m.n (side e m) (side e z) Z M (sym (side_same e z m h.is))
    (omega (arith, ints, u, v, w, s))

pub flat_is : (z a b : Vector) → Place z → Place a → Place b
    → InTriangle z a b b ↔ IsOnStraight a b z
flat_is z a b Z A B = ((λ h. flat_on z a b Z A B h), (λ h. on_flat z a b Z A B h))
