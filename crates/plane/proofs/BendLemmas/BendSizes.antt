-- How far a bend lies from its straight, with the roundings.
use Rattle.std.proofs.Common.{◌≡◌, ℤ, pos, ◌+ℤ◌, ◌*ℤ◌, ◌-ℤ◌, ◌<ℤ◌, ◌≤ℤ◌, [], ◌∷◌, refl, arith}
use Rattle.std.proofs.lemmas.Int.{ints, by_lt_z}
use Rattle.plane.proofs.Algebra.Laws.{product_positive, product_nonnegative, square_nonnegative}
use Rattle.plane.proofs.Algebra.Laws.{product_comm}
use Rattle.plane.proofs.Algebra.Scaling.{times_le, times_lt, cancel_le}
use Rattle.plane.proofs.Algebra.Ring.{at, num, plus, minus, times, vars, ring}

-- ---- squares
pub square_most : (x y : ℤ) → pos 0 ≤ℤ y → (x *ℤ x) ≤ℤ (y *ℤ y) → x ≤ℤ y
square_most x y h k = by_lt_z y x
    (λ (l : y <ℤ x).
    let a = times_lt x y x (omega (arith, ints, h, l)) l in
    let b = times_le y y x h (omega (arith, ints, l)) in
    let c = product_comm x y in
    absurd (omega (arith, ints, a, b, c, k)))
    (λ l. l)

pub square_least : (x y : ℤ) → pos 0 ≤ℤ y → (x *ℤ x) ≤ℤ (y *ℤ y) → (pos 0 -ℤ y) ≤ℤ x
square_least x y h k =
    let e : (pos 0 -ℤ x) *ℤ (pos 0 -ℤ x)
    ≡ x *ℤ x = ring (times (minus (num (pos 0)) (at 0)) (minus (num (pos 0)) (at 0)))
    (times (at 0) (at 0)) (vars (x ∷ [])) refl in
    let m = square_most (pos 0 -ℤ x) y h (omega (arith, ints, e, k)) in
    omega (arith, ints, m)

-- ---- a turn and a dot product of a way and of what rounding leaves
abbrev pub length2 : ℤ → ℤ → ℤ
length2 x y = (x *ℤ x) +ℤ (y *ℤ y)

-- the square of either is at most twice that of the way times h
rest_most : (x y a b h : ℤ) → pos 0 ≤ℤ a → a <ℤ h → pos 0 ≤ℤ b → b <ℤ h
    → (length2 x y *ℤ ((a *ℤ a) +ℤ (b *ℤ b))) ≤ℤ (pos 2 *ℤ (length2 x y *ℤ (h *ℤ h)))
rest_most x y a b h ha ka hb kb =
    let sx = square_nonnegative x in
    let sy = square_nonnegative y in
    let a1 = times_le a a h ha (omega (arith, ints, ka)) in
    let a2 = times_le h a h (omega (arith, ints, ha, ka)) (omega (arith, ints, ka)) in
    let a3 = product_comm a h in
    let b1 = times_le b b h hb (omega (arith, ints, kb)) in
    let b2 = times_le h b h (omega (arith, ints, hb, kb)) (omega (arith, ints, kb)) in
    let b3 = product_comm b h in
    let all = times_le (length2 x y) ((a *ℤ a) +ℤ (b *ℤ b)) ((h *ℤ h) +ℤ (h *ℤ h))
    (omega (arith, ints, sx, sy)) (omega (arith, ints, a1, a2, a3, b1, b2, b3)) in
    let e : length2 x y *ℤ ((h *ℤ h) +ℤ (h *ℤ h)) ≡ pos 2 *ℤ (length2 x y *ℤ (h *ℤ h)) =
    let V = plus (times (at 0) (at 0)) (times (at 1) (at 1)) in
    let H = times (at 2) (at 2) in
    ring (times V (plus H H)) (times (num (pos 2)) (times V H)) (vars (x ∷ y ∷ h ∷ [])) refl in
    omega (arith, ints, all, e)

module _ (x y a b h : ℤ) (ha : pos 0 ≤ℤ a) (ka : a <ℤ h) (hb : pos 0 ≤ℤ b) (kb : b <ℤ h) where
  abbrev pub turned : ℤ
  turned = (x *ℤ b) -ℤ (y *ℤ a)

  abbrev pub dotted : ℤ
  dotted = (x *ℤ a) +ℤ (y *ℤ b)

  parts : length2 x y *ℤ ((a *ℤ a) +ℤ (b *ℤ b)) ≡ (turned *ℤ turned) +ℤ (dotted *ℤ dotted)
  parts =
      let X = at 0 in let Y = at 1 in let A = at 2 in let B = at 3 in
      let T = minus (times X B) (times Y A) in
      let D = plus (times X A) (times Y B) in
      ring (times (plus (times X X) (times Y Y)) (plus (times A A) (times B B)))
      (plus (times T T) (times D D)) (vars (x ∷ y ∷ a ∷ b ∷ [])) refl

  pub turned_most : (turned *ℤ turned) ≤ℤ (pos 2 *ℤ (length2 x y *ℤ (h *ℤ h)))
  turned_most =
      let s = square_nonnegative dotted in
      let m = rest_most x y a b h ha ka hb kb in let p = parts in omega (arith, ints, s, m, p)

  pub dotted_most : (dotted *ℤ dotted) ≤ℤ (pos 2 *ℤ (length2 x y *ℤ (h *ℤ h)))
  dotted_most =
      let s = square_nonnegative turned in
      let m = rest_most x y a b h ha ka hb kb in let p = parts in omega (arith, ints, s, m, p)

-- ---- sizes: v is the square of a way's length, h its whole root
module _ (v h : ℤ) (most : (h *ℤ h) ≤ℤ v) (least : v <ℤ ((h +ℤ pos 1) *ℤ (h +ℤ pos 1)))
    (long : pos 16 ≤ℤ h) where
  root2 : v ≤ℤ ((h *ℤ h) +ℤ (pos 2 *ℤ h))
  root2 =
      let one = num (pos 1) in
      let e : (h +ℤ pos 1) *ℤ (h +ℤ pos 1)
      ≡ ((h *ℤ h) +ℤ (pos 2 *ℤ h)) +ℤ pos 1 =
      ring (times (plus (at 0) one) (plus (at 0) one))
      (plus (plus (times (at 0) (at 0)) (times (num (pos 2)) (at 0))) one)
      (vars (h ∷ [])) refl in
      omega (arith, ints, e, least)

  pub square_root_positive : pos 0 <ℤ (h *ℤ h)
  square_root_positive =
      product_positive h h (omega (arith, ints, long)) (omega (arith, ints, long))

  pub v_positive : pos 0 <ℤ v
  v_positive = let p = square_root_positive in omega (arith, ints, p, most)

  -- what rounding leaves is at most one and a half times the square of the root
  module _ (r : ℤ) (small : (r *ℤ r) ≤ℤ (pos 2 *ℤ (v *ℤ (h *ℤ h)))) where
    twice : ((pos 2 *ℤ r) *ℤ (pos 2 *ℤ r)) ≤ℤ ((pos 3 *ℤ (h *ℤ h)) *ℤ (pos 3 *ℤ (h *ℤ h)))
    twice =
        let H = at 0 in
        let HH = times H H in
        let V = at 1 in
        let s = square_root_positive in
        let a = times_le (h *ℤ h) v ((h *ℤ h) +ℤ (pos 2 *ℤ h)) (omega (arith, ints, s)) root2 in
        let b = times_le (h *ℤ (h *ℤ h)) (pos 16) h
        (product_nonnegative h (h *ℤ h) (omega (arith, ints, long)) (omega (arith, ints, s)))
        long in
        let e1 : (pos 2 *ℤ r) *ℤ (pos 2 *ℤ r)
        ≡ pos 4 *ℤ (r *ℤ r) =
        ring (times (times (num (pos 2)) (at 0)) (times (num (pos 2)) (at 0)))
        (times (num (pos 4)) (times (at 0) (at 0))) (vars (r ∷ [])) refl in
        let e2 : (pos 3 *ℤ (h *ℤ h)) *ℤ (pos 3 *ℤ (h *ℤ h))
        ≡ pos 9 *ℤ ((h *ℤ h) *ℤ (h *ℤ h)) =
        ring (times (times (num (pos 3)) HH) (times (num (pos 3)) HH))
        (times (num (pos 9)) (times HH HH)) (vars (h ∷ [])) refl in
        let e3 : (h *ℤ h) *ℤ ((h *ℤ h) +ℤ (pos 2 *ℤ h))
        ≡ ((h *ℤ h) *ℤ (h *ℤ h)) +ℤ (pos 2 *ℤ (h *ℤ (h *ℤ h))) =
        ring (times HH (plus HH (times (num (pos 2)) H)))
        (plus (times HH HH) (times (num (pos 2)) (times H HH))) (vars (h ∷ [])) refl in
        let e4 : (h *ℤ (h *ℤ h)) *ℤ h ≡ (h *ℤ h)
        *ℤ (h *ℤ h) = ring (times (times H HH) H) (times HH HH) (vars (h ∷ [])) refl in
        let e5 : (h *ℤ h) *ℤ v ≡ v *ℤ (h *ℤ h) = product_comm (h *ℤ h) v in
        let e6 : (h *ℤ (h *ℤ h)) *ℤ pos 16
        ≡ pos 16 *ℤ (h *ℤ (h *ℤ h)) = product_comm (h *ℤ (h *ℤ h)) (pos 16) in
        omega (arith, ints, small, a, b, e1, e2, e3, e4, e5, e6)

    pub twice_most : (pos 2 *ℤ r) ≤ℤ (pos 3 *ℤ (h *ℤ h))
    twice_most =
        let s = square_root_positive in
        square_most (pos 2 *ℤ r) (pos 3 *ℤ (h *ℤ h)) (omega (arith, ints, s)) twice

    pub twice_least : (pos 0 -ℤ (pos 2 *ℤ r)) ≤ℤ (pos 3 *ℤ (h *ℤ h))
    twice_least =
        let s = square_root_positive in
        let l = square_least (pos 2 *ℤ r) (pos 3 *ℤ (h *ℤ h)) (omega (arith, ints, s)) twice in
        omega (arith, ints, l)

    -- h c is k v and this rest, with either sign: so c is at most d times the length
    module _ (d c s t : ℤ) (wide : pos 2 ≤ℤ d) (room : (pos 2 *ℤ d) ≤ℤ h)
        (is : h *ℤ c ≡ ((d -ℤ pos 2) *ℤ (s *ℤ v)) +ℤ (t *ℤ r)) (one : s *ℤ s ≡ pos 1)
        (other : t *ℤ t ≡ pos 1)
        (rest : (pos 2 *ℤ ((s *ℤ t) *ℤ r)) ≤ℤ (pos 3 *ℤ (h *ℤ h))) where
      abbrev k : ℤ
      k = d -ℤ pos 2

      abbrev A : ℤ
      A = v *ℤ (h *ℤ h)

      square_is : (h *ℤ c) *ℤ (h *ℤ c) ≡ (((k *ℤ v) *ℤ (k *ℤ v)) *ℤ (s *ℤ s))
          +ℤ (((k *ℤ v) *ℤ (pos 2 *ℤ ((s *ℤ t) *ℤ r))) +ℤ ((r *ℤ r) *ℤ (t *ℤ t)))
      square_is =
          let K = at 0 in let V = at 1 in let S = at 2 in let T = at 3 in let R = at 4 in
          let KV = times K V in
          let sum = plus (times K (times S V)) (times T R) in
          rw is (ring (times sum sum)
          (plus (times (times KV KV) (times S S))
          (plus (times KV (times (num (pos 2)) (times (times S T) R)))
          (times (times R R) (times T T)))) (vars (k ∷ v ∷ s ∷ t ∷ r ∷ [])) refl)

      pub bound : (c *ℤ c) ≤ℤ ((d *ℤ d) *ℤ v)
      bound =
          let hh = square_root_positive in
          let vp = v_positive in
          let kn : pos 0 ≤ℤ k = omega (arith, ints, wide) in
          let kv : pos 0 ≤ℤ (k *ℤ v) = product_nonnegative k v kn (omega (arith, ints, vp)) in
          let kkv : pos 0 ≤ℤ (k *ℤ (k *ℤ v)) = product_nonnegative k (k *ℤ v) kn kv in
          let kvh : pos 0 ≤ℤ ((k *ℤ v) *ℤ h) = product_nonnegative (k *ℤ v) h kv
          (omega (arith, ints, long)) in
          let an : pos 0 ≤ℤ A = product_nonnegative v (h *ℤ h) (omega (arith, ints, vp))
          (omega (arith, ints, hh)) in
          let K = at 0 in
          let V = at 1 in let H = at 2 in let HH = times H H in let two = num (pos 2) in
          let all = vars (k ∷ v ∷ h ∷ []) in
          let f2 = times_le (k *ℤ (k *ℤ v)) v ((h *ℤ h) +ℤ (pos 2 *ℤ h)) kkv root2 in
          let e1 : (k *ℤ (k *ℤ v)) *ℤ v ≡ (k *ℤ v)
          *ℤ (k *ℤ v) =
          ring (times (times K (times K V)) V) (times (times K V) (times K V)) all refl in
          let e2 : (k *ℤ (k *ℤ v)) *ℤ ((h *ℤ h) +ℤ (pos 2 *ℤ h))
          ≡ (k *ℤ (k *ℤ A)) +ℤ (((k *ℤ v) *ℤ h) *ℤ (pos 2 *ℤ k)) =
          ring (times (times K (times K V)) (plus HH (times two H)))
          (plus (times K (times K (times V HH))) (times (times (times K V) H) (times two K)))
          all refl in
          let f3 = times_le ((k *ℤ v) *ℤ h) (pos 2 *ℤ k) h kvh (omega (arith, ints, room)) in
          let e3 : ((k *ℤ v) *ℤ h) *ℤ h ≡ k
          *ℤ A = ring (times (times (times K V) H) H) (times K (times V HH)) all refl in
          let f4 = times_le (k *ℤ v) (pos 2 *ℤ ((s *ℤ t) *ℤ r)) (pos 3 *ℤ (h *ℤ h)) kv rest in
          let e4 : (k *ℤ v) *ℤ (pos 3 *ℤ (h *ℤ h))
          ≡ pos 3 *ℤ (k *ℤ A) =
          ring (times (times K V) (times (num (pos 3)) HH))
          (times (num (pos 3)) (times K (times V HH))) all refl in
          let g1 : ((k *ℤ v) *ℤ (k *ℤ v)) *ℤ (s *ℤ s)
          ≡ (k *ℤ v) *ℤ (k *ℤ v) = rw one (omega (arith, ints)) in
          let g2 : (r *ℤ r) *ℤ (t *ℤ t) ≡ r *ℤ r = rw other (omega (arith, ints)) in
          let D = at 0 in
          let e5 : (d *ℤ d) *ℤ A ≡ (k *ℤ (k *ℤ A)) +ℤ ((pos 4 *ℤ (k *ℤ A)) +ℤ (pos 4 *ℤ A)) =
          let J = minus D two in
          let B = times V HH in
          ring (times (times D D) B)
          (plus (times J (times J B))
          (plus (times (num (pos 4)) (times J B)) (times (num (pos 4)) B)))
          (vars (d ∷ v ∷ h ∷ [])) refl in
          let e6 : (h *ℤ c) *ℤ (h *ℤ c) ≡ (h *ℤ h)
          *ℤ (c *ℤ c) =
          ring (times (times (at 0) (at 1)) (times (at 0) (at 1)))
          (times (times (at 0) (at 0)) (times (at 1) (at 1))) (vars (h ∷ c ∷ [])) refl in
          let e7 : (d *ℤ d) *ℤ A ≡ (h *ℤ h)
          *ℤ ((d *ℤ d) *ℤ v) =
          ring (times (times D D) (times V HH)) (times HH (times (times D D) V))
          (vars (d ∷ v ∷ h ∷ [])) refl in
          let sq = square_is in
          cancel_le (h *ℤ h) (c *ℤ c) ((d *ℤ d) *ℤ v) hh
          (omega (arith, ints, sq, small, an, f2, e1, e2, f3, e3, f4, e4, g1, g2, e5, e6, e7))
