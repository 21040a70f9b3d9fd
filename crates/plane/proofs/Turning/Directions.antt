-- The order of directions round a point is transitive.
-- What a list in order says of its neighbours, its first element and its last one.
use Rattle.std.proofs.Common.{◌≡◌, List, [], ◌∷◌, ℤ, pos, ◌*ℤ◌, ◌-ℤ◌, ◌<ℤ◌, ◌≤ℤ◌, refl, arith, ap}
use Rattle.std.proofs.Common.{sym, ◌∙◌, ◌⊎◌, inl, inr, subst}
use Rattle.std.proofs.lemmas.Int.{ints}
use Rattle.plane.specs.Lists.{Neighbours, Has}
use Rattle.plane.specs.Faces.Classes.{IsFirst, IsLast, Follows}
use Rattle.plane.specs.Faces.Directions.{Direction, IsRight, IsLeft, TurnsLeft, Precedes}
use Rattle.plane.proofs.Algebra.Laws.{product_positive, product_nonnegative, positive_factor}
use Rattle.plane.proofs.Algebra.Ring.{at, num, plus, minus, times, vars, ring}

pub right_least : (a : Direction) → IsRight a → pos 0 ≤ℤ a.x
right_least a (inl h) = omega (arith, ints, h)
right_least a (inr h) = let e = h.0 in omega (arith, ints, e)

pub left_least : (a : Direction) → IsLeft a → pos 0 ≤ℤ (pos 0 -ℤ a.x)
left_least a (inl h) = omega (arith, ints, h)
left_least a (inr h) = let e = h.0 in omega (arith, ints, e)

pub right_left : (a : Direction) → IsRight a → IsLeft a → ⊥
right_left a (inl h) (inl k) = omega (arith, ints, h, k)
right_left a (inl h) (inr k) = let e = k.0 in omega (arith, ints, h, e)
right_left a (inr h) (inl k) = let e = h.0 in omega (arith, ints, k, e)
right_left a (inr h) (inr k) = let e = h.1 in let f = k.1 in omega (arith, ints, e, f)

-- what has a direction of its own half at its left is not upright
pub right_strict : (a b : Direction) → IsRight a → IsRight b → TurnsLeft a b → pos 0 <ℤ a.x
right_strict a b (inl h) k t = h
right_strict a b (inr h) k t =
    let e = ap (λ (v : ℤ). v *ℤ b.y) h.0 in
    let y = h.1 in
    let p = product_nonnegative a.y b.x (omega (arith, ints, y)) (right_least b k) in
    absurd (omega (arith, ints, e, p, t))

pub left_strict : (a b : Direction) → IsLeft a → IsLeft b → TurnsLeft a b → pos 0 <ℤ (pos 0 -ℤ a.x)
left_strict a b (inl h) k t = omega (arith, ints, h)
left_strict a b (inr h) k t =
    let e = ap (λ (v : ℤ). v *ℤ b.y) h.0 in
    let y = h.1 in
    let p = product_nonnegative (pos 0 -ℤ a.y) (pos 0 -ℤ b.x) (omega (arith, ints, y))
    (left_least b k) in
    let f = ring (times (minus (num (pos 0)) (at 0)) (minus (num (pos 0)) (at 1)))
    (times (at 0) (at 1)) (vars (a.y ∷ b.x ∷ [])) refl in
    absurd (omega (arith, ints, e, p, f, t))

turn_sum : (s ux uy vx vy wx wy : ℤ) → pos 0 <ℤ (s *ℤ ux) → pos 0 <ℤ (s *ℤ vx) → pos 0 ≤ℤ (s *ℤ wx)
    → pos 0 <ℤ ((ux *ℤ vy) -ℤ (uy *ℤ vx)) → pos 0 <ℤ ((vx *ℤ wy) -ℤ (vy *ℤ wx))
    → pos 0 <ℤ ((ux *ℤ wy) -ℤ (uy *ℤ wx))
turn_sum s ux uy vx vy wx wy hu hv hw uv vw =
    let a = product_nonnegative (s *ℤ wx) ((ux *ℤ vy) -ℤ (uy *ℤ vx)) hw (omega (arith, ints, uv)) in
    let b = product_positive (s *ℤ ux) _ hu vw in
    let S = at 0 in
    let UX = at 1 in
    let UY = at 2 in let VX = at 3 in let VY = at 4 in let WX = at 5 in let WY = at 6 in
    let e = ring
    (plus (times (times S WX) (minus (times UX VY) (times UY VX)))
    (times (times S UX) (minus (times VX WY) (times VY WX))))
    (times (times S VX) (minus (times UX WY) (times UY WX)))
    (vars (s ∷ ux ∷ uy ∷ vx ∷ vy ∷ wx ∷ wy ∷ [])) refl in
    positive_factor (s *ℤ vx) _ hv (omega (arith, ints, a, b, e))

pub precedes_join : (a b c : Direction) → Precedes a b → Precedes b c → Precedes a c
precedes_join a b c (inl h) (inl k) = absurd (right_left b k.0 h.1)
precedes_join a b c (inl h) (inr (inl k, t)) = absurd (right_left b k.0 h.1)
precedes_join a b c (inl h) (inr (inr k, t)) = inl (h.0, k.1)
precedes_join a b c (inr (inl h, t)) (inl k) = inl (h.0, k.1)
precedes_join a b c (inr (inr h, t)) (inl k) = absurd (right_left b k.0 h.1)
precedes_join a b c (inr (inl h, t)) (inr (inl k, u)) =
    let x = right_strict a b h.0 h.1 t in
    let y = right_strict b c k.0 k.1 u in let z = right_least c k.1 in
    inr (
      inl (h.0, k.1),
      turn_sum (pos 1) a.x a.y b.x b.y c.x c.y (omega (arith, ints, x))
          (omega (arith, ints, y)) (omega (arith, ints, z)) t u,
    )
precedes_join a b c (inr (inl h, t)) (inr (inr k, u)) = absurd (right_left b h.1 k.0)
precedes_join a b c (inr (inr h, t)) (inr (inl k, u)) = absurd (right_left b k.0 h.1)
precedes_join a b c (inr (inr h, t)) (inr (inr k, u)) =
    let x = left_strict a b h.0 h.1 t in
    let y = left_strict b c k.0 k.1 u in let z = left_least c k.1 in
    inr (
      inr (h.0, k.1),
      turn_sum (pos 0 -ℤ pos 1) a.x a.y b.x b.y c.x c.y (omega (arith, ints, x))
          (omega (arith, ints, y)) (omega (arith, ints, z)) t u,
    )

-- ---- lists in order
module _ {X : Type 0} (R : X → X → Type 0) (join : (a b c : X) → R a b → R b c → R a c) where
  -- the first one comes before all others
  pub first_each : (x : X) (xs : List X) → Neighbours R (x ∷ xs) → (y : X) → Has y xs → R x y
  first_each x [] n y h = absurd h
  first_each x (z ∷ zs) n y (inl e) = subst (λ (v : X). R x v) (sym e) n.0
  first_each x (z ∷ zs) n y (inr h) = join x z y n.0 (first_each z zs n.1 y h)

  pub is_first : (t : X) (xs : List X) → IsFirst t xs → Neighbours R xs → (x : X) → Has x xs
      → (x ≡ t) ⊎ R t x
  is_first t [] f n x h = absurd h
  is_first t (z ∷ zs) f n x (inl e) = inl (e ∙ sym f)
  is_first t (z ∷ zs) f n x (inr h) = inr (subst (λ (v : X). R v x) (sym f) (first_each z zs n x h))

  pub last_has : (g : X) (xs : List X) → IsLast g xs → Has g xs
  last_has g [] l = absurd l
  last_has g (x ∷ []) l = inl l
  last_has g (x ∷ (y ∷ ys)) l = inr (last_has g (y ∷ ys) l)

  pub is_last : (g : X) (xs : List X) → IsLast g xs → Neighbours R xs → (x : X) → Has x xs
      → (x ≡ g) ⊎ R x g
  is_last g [] l n x h = absurd h
  is_last g (z ∷ []) l n x (inl e) = inl (e ∙ sym l)
  is_last g (z ∷ []) l n x (inr h) = absurd h
  is_last g (z ∷ (y ∷ ys)) l n x (inl e) =
      inr (subst (λ (v : X). R v g) (sym e) (first_each z (y ∷ ys) n g (last_has g (y ∷ ys) l)))
  is_last g (z ∷ (y ∷ ys)) l n x (inr h) = is_last g (y ∷ ys) l n.1 x h

  pub first_has : (t : X) (xs : List X) → IsFirst t xs → Has t xs
  first_has t [] f = absurd f
  first_has t (x ∷ xs) f = inl f

  pub follows_has : (g t : X) (xs : List X) → Follows xs g t → Has g xs × Has t xs
  follows_has g t [] f = absurd f
  follows_has g t (z ∷ zs) (inl f) = (inl f.0, inr (first_has t zs f.1))
  follows_has g t (z ∷ zs) (inr f) = let k = follows_has g t zs f in (inr k.0, inr k.1)

  pub follows_comes : (g t : X) (xs : List X) → Follows xs g t → Neighbours R xs → R g t
  follows_comes g t [] f n = absurd f
  follows_comes g t (z ∷ zs) (inl f) n =
      subst (λ (v : X). R v t) (sym f.0) (first_each z zs n t (first_has t zs f.1))
  follows_comes g t (z ∷ zs) (inr f) n = follows_comes g t zs f n.1

  -- nothing stands between two neighbours
  pub follows_none : (g t : X) (xs : List X) → Follows xs g t → Neighbours R xs → (x : X) → Has x xs
      → ((x ≡ g) ⊎ R x g) ⊎ ((x ≡ t) ⊎ R t x)
  follows_none g t [] f n x h = absurd h
  follows_none g t (z ∷ zs) (inl f) n x (inl e) = inl (inl (e ∙ sym f.0))
  follows_none g t (z ∷ zs) (inl f) n x (inr h) = inr (is_first t zs f.1 n.1 x h)
  follows_none g t (z ∷ zs) (inr f) n x (inl e) =
      inl (inr (subst (λ (v : X). R v g) (sym e) (first_each z zs n g (follows_has g t zs f).0)))
  follows_none g t (z ∷ zs) (inr f) n x (inr h) = follows_none g t zs f n.1 x h
