-- The working forms are the words of turns and dot products: Between, On and HitsEdge.
use Rattle.std.proofs.Common.{◌≡◌, ℤ, pos, ◌+ℤ◌, ◌*ℤ◌, ◌-ℤ◌, ◌<ℤ◌, ◌≤ℤ◌, [], ◌∷◌, refl, arith, ap}
use Rattle.std.proofs.Common.{sym, ◌∙◌, ◌↔◌}
use Rattle.std.proofs.lemmas.Int.{ints, by_lt_z}
use Rattle.plane.specs.Forms.Vectors.{Vector, Place, Same, mix, Between, point, Edge, side, rise}
use Rattle.plane.specs.Forms.Vectors.{InSpan, On, HitsEdge}
use Rattle.plane.specs.Rule.Straights.{turn, dot, IsOnStraight}
use Rattle.plane.specs.Forms.Segments.{SharesPlace}
use Rattle.plane.proofs.Algebra.Laws.{product_nonnegative, product_positive, square_nonnegative}
use Rattle.plane.proofs.Algebra.Laws.{square_zero, product-sum}
use Rattle.plane.proofs.Algebra.Scaling.{cancel_zero, cancel_le, product_of_zero, times_le}
use Rattle.plane.proofs.Linear.Vectors.{side-mix, side-low, side-high, rise-is}
use Rattle.plane.proofs.Linear.Signs.{mix_place, mix_in_span, on_between}
use Rattle.plane.proofs.Linear.Clear.{on_same}
use Rattle.plane.proofs.Algebra.Ring.{Expr, at, num, plus, minus, times, vars, ring}

-- a plane vector between two places, times their third entries: p - z
abbrev along_x : Vector → Vector → ℤ
along_x p z = (p.x *ℤ z.n) -ℤ (z.x *ℤ p.n)

abbrev along_y : Vector → Vector → ℤ
along_y p z = (p.y *ℤ z.n) -ℤ (z.y *ℤ p.n)

abbrev cross : Vector → Vector → Vector → ℤ
cross p q z = (along_x p z *ℤ along_y q z) -ℤ (along_y p z *ℤ along_x q z)

abbrev X : Expr → Expr → Expr → Expr → Expr
X a m b n = minus (times a n) (times b m)

-- ---- from the words to the weights
turn_cross : (p q z : Vector) → z.n *ℤ turn p q z ≡ p.n *ℤ cross p q z
turn_cross p q z =
    let PX = at 0 in
    let PY = at 1 in
    let PN = at 2 in
    let QX = at 3 in
    let QY = at 4 in let QN = at 5 in let ZX = at 6 in let ZY = at 7 in let ZN = at 8 in
    ring (times ZN
    (minus (times (X QX QN PX PN) (X ZY ZN PY PN)) (times (X QY QN PY PN) (X ZX ZN PX PN))))
    (times PN (minus (times (X PX PN ZX ZN) (X QY QN ZY ZN))
    (times (X PY PN ZY ZN) (X QX QN ZX ZN))))
    (vars (p.x ∷ p.y ∷ p.n ∷ q.x ∷ q.y ∷ q.n ∷ z.x ∷ z.y ∷ z.n ∷ [])) refl

-- z against the mix of p and q with the weights b.b and -a.b
weighed : (px pm qx qm zx zn s t : ℤ)
    → (zx *ℤ ((s *ℤ pm) +ℤ (t *ℤ qm))) -ℤ (((s *ℤ px) +ℤ (t *ℤ qx)) *ℤ zn)
    ≡ pos 0 -ℤ ((s *ℤ ((px *ℤ zn) -ℤ (zx *ℤ pm))) +ℤ (t *ℤ ((qx *ℤ zn) -ℤ (zx *ℤ qm))))
weighed px pm qx qm zx zn s t =
    let PX = at 0 in
    let PM = at 1 in
    let QX = at 2 in
    let QM = at 3 in let ZX = at 4 in let ZN = at 5 in let S = at 6 in let T = at 7 in
    ring (minus (times ZX (plus (times S PM) (times T QM)))
    (times (plus (times S PX) (times T QX)) ZN))
    (minus (num (pos 0)) (plus (times S (X PX PM ZX ZN)) (times T (X QX QM ZX ZN))))
    (vars (px ∷ pm ∷ qx ∷ qm ∷ zx ∷ zn ∷ s ∷ t ∷ [])) refl

project_x : (ax ay bx by : ℤ)
    → (((bx *ℤ bx) +ℤ (by *ℤ by)) *ℤ ax) +ℤ ((pos 0 -ℤ ((ax *ℤ bx) +ℤ (ay *ℤ by))) *ℤ bx)
    ≡ by *ℤ ((ax *ℤ by) -ℤ (ay *ℤ bx))
project_x ax ay bx by =
    let AX = at 0 in let AY = at 1 in let BX = at 2 in let BY = at 3 in
    ring (plus (times (plus (times BX BX) (times BY BY)) AX)
    (times (minus (num (pos 0)) (plus (times AX BX) (times AY BY))) BX))
    (times BY (minus (times AX BY) (times AY BX))) (vars (ax ∷ ay ∷ bx ∷ by ∷ [])) refl

project_y : (ax ay bx by : ℤ)
    → (((bx *ℤ bx) +ℤ (by *ℤ by)) *ℤ ay) +ℤ ((pos 0 -ℤ ((ax *ℤ bx) +ℤ (ay *ℤ by))) *ℤ by)
    ≡ (pos 0 -ℤ bx) *ℤ ((ax *ℤ by) -ℤ (ay *ℤ bx))
project_y ax ay bx by =
    let AX = at 0 in let AY = at 1 in let BX = at 2 in let BY = at 3 in
    ring (plus (times (plus (times BX BX) (times BY BY)) AY)
    (times (minus (num (pos 0)) (plus (times AX BX) (times AY BY))) BY))
    (times (minus (num (pos 0)) BX) (minus (times AX BY) (times AY BX)))
    (vars (ax ∷ ay ∷ bx ∷ by ∷ [])) refl

sum_zero : (a b : ℤ) → pos 0 ≤ℤ a → pos 0 ≤ℤ b → (a +ℤ b) ≤ℤ pos 0 → (a ≡ pos 0) × (b ≡ pos 0)
sum_zero a b h k l = (omega (arith, ints), omega (arith, ints))

pub straight_between : (p q z : Vector) → Place p → Place q → Place z → IsOnStraight p q z
    → Between z p q
straight_between p q z P Q Z h =
    let ax = along_x p z in let ay = along_y p z in
    let bx = along_x q z in let by = along_y q z in
    let s = (bx *ℤ bx) +ℤ (by *ℤ by) in
    let t = pos 0 -ℤ dot p q z in
    let c : cross p q z ≡ pos 0 = cancel_zero p.n (cross p q z) P (sym (turn_cross p q z)
    ∙ product_of_zero z.n (turn p q z) h.line) in
    let sx = square_nonnegative bx in
    let sy = square_nonnegative by in
    let d = h.between in
    by_lt_z (pos 0) s
    (λ (l : pos 0 <ℤ s).
    let ex = project_x ax ay bx by ∙ product_of_zero by (cross p q z) c in
    let ey = project_y ax ay bx by ∙ product_of_zero (pos 0 -ℤ bx) (cross p q z) c in
    let wx = weighed p.x p.n q.x q.n z.x z.n s t in
    let wy = weighed p.y p.n q.y q.n z.y z.n s t in
    record {
      s = s;
      t = t;
      s_least = omega (arith, ints, l);
      t_least = omega (arith, ints, d);
      some = omega (arith, ints, l, d);
      is = record { x = level _ _ _ wx ex; y = level _ _ _ wy ey };
    })
    (λ (l : s ≤ℤ pos 0).
    let both = sum_zero (bx *ℤ bx) (by *ℤ by) sx sy l in
    let x0 = square_zero bx both.0 in
    let y0 = square_zero by both.1 in
    record {
      s = pos 0;
      t = pos 1;
      s_least = omega (arith, ints);
      t_least = omega (arith, ints);
      some = omega (arith, ints);
      is = record { x = last p.x p.n q.x q.n z.x z.n x0; y = last p.y p.n q.y q.n z.y z.n y0 };
    })
  where
    level : (a b c : ℤ) → a -ℤ b ≡ pos 0 -ℤ c → c ≡ pos 0 → a ≡ b
    level a b c e f = omega (arith, ints)

    last : (px pn qx qn zx zn : ℤ) → (qx *ℤ zn) -ℤ (zx *ℤ qn) ≡ pos 0
        → zx *ℤ ((pos 0 *ℤ pn) +ℤ (pos 1 *ℤ qn)) ≡ ((pos 0 *ℤ px) +ℤ (pos 1 *ℤ qx)) *ℤ zn
    last px pn qx qn zx zn e =
        let a = ring (times (at 4) (plus (times (num (pos 0)) (at 1)) (times (num (pos 1)) (at 3))))
        (times (at 4) (at 3)) (vars (px ∷ pn ∷ qx ∷ qn ∷ zx ∷ zn ∷ [])) refl in
        let b = ring (times (plus (times (num (pos 0)) (at 0)) (times (num (pos 1)) (at 2))) (at 5))
        (times (at 2) (at 5)) (vars (px ∷ pn ∷ qx ∷ qn ∷ zx ∷ zn ∷ [])) refl in
        omega (arith, ints, a, b, e)

-- ---- from the weights to the words
turn_mixed : (p q : Vector) (s t : ℤ) → turn p q (mix s p t q) ≡ pos 0
turn_mixed p q s t =
    let PX = at 0 in
    let PY = at 1 in let PN = at 2 in let QX = at 3 in let QY = at 4 in let QN = at 5 in
    let m : Expr → Expr → Expr = λ a b. plus (times (at 6) a) (times (at 7) b) in
    ring (minus (times (X QX QN PX PN) (X (m PY QY) (m PN QN) PY PN))
    (times (X QY QN PY PN) (X (m PX QX) (m PN QN) PX PN))) (num (pos 0))
    (vars (p.x ∷ p.y ∷ p.n ∷ q.x ∷ q.y ∷ q.n ∷ s ∷ t ∷ [])) refl

turn_scaled : (a b z m : Vector) → (m.n *ℤ turn a b z) -ℤ (z.n *ℤ turn a b m)
    ≡ (((b.x *ℤ a.n) -ℤ (a.x *ℤ b.n)) *ℤ (a.n *ℤ ((z.y *ℤ m.n) -ℤ (m.y *ℤ z.n))))
    -ℤ (((b.y *ℤ a.n) -ℤ (a.y *ℤ b.n)) *ℤ (a.n *ℤ ((z.x *ℤ m.n) -ℤ (m.x *ℤ z.n))))
turn_scaled a b z m =
    let AX = at 0 in
    let AY = at 1 in let AN = at 2 in let BX = at 3 in let BY = at 4 in let BN = at 5 in
    let ZX = at 6 in
    let ZY = at 7 in let ZN = at 8 in let MX = at 9 in let MY = at 10 in let MN = at 11 in
    let u = X BX BN AX AN in
    let v = X BY BN AY AN in
    let f : Expr → Expr → Expr
    → Expr = λ x y n. minus (times u (X y n AY AN)) (times v (X x n AX AN)) in
    ring (minus (times MN (f ZX ZY ZN)) (times ZN (f MX MY MN)))
    (minus (times u (times AN (X ZY ZN MY MN))) (times v (times AN (X ZX ZN MX MN))))
    (vars (a.x ∷ a.y ∷ a.n ∷ b.x ∷ b.y ∷ b.n ∷ z.x ∷ z.y ∷ z.n ∷ m.x ∷ m.y ∷ m.n ∷ [])) refl

turn_same : (a b z m : Vector) → Place m → Same z m → turn a b m ≡ pos 0 → turn a b z ≡ pos 0
turn_same a b z m M h e =
    let hx = h.x in
    let hy = h.y in
    let u = (b.x *ℤ a.n) -ℤ (a.x *ℤ b.n) in
    let v = (b.y *ℤ a.n) -ℤ (a.y *ℤ b.n) in
    let y = product_of_zero u (a.n *ℤ ((z.y *ℤ m.n) -ℤ (m.y *ℤ z.n)))
    (product_of_zero a.n ((z.y *ℤ m.n) -ℤ (m.y *ℤ z.n)) (omega (arith, ints, hy))) in
    let x = product_of_zero v (a.n *ℤ ((z.x *ℤ m.n) -ℤ (m.x *ℤ z.n)))
    (product_of_zero a.n ((z.x *ℤ m.n) -ℤ (m.x *ℤ z.n)) (omega (arith, ints, hx))) in
    let f = product_of_zero z.n (turn a b m) e in
    cancel_zero m.n (turn a b z) M
    (none (m.n *ℤ turn a b z) (z.n *ℤ turn a b m) _ _ (turn_scaled a b z m) x y f)
  where
    none : (a b c d : ℤ) → a -ℤ b ≡ c -ℤ d → d ≡ pos 0 → c ≡ pos 0 → b ≡ pos 0 → a ≡ pos 0
    none a b c d e f g h = omega (arith, ints)

-- the dot product at a mixed vector
dot_mixed : (p q : Vector) (s t : ℤ) → dot p q (mix s p t q)
    ≡ pos 0 -ℤ ((s *ℤ t) *ℤ ((along_x p q *ℤ along_x p q) +ℤ (along_y p q *ℤ along_y p q)))
dot_mixed p q s t =
    let PX = at 0 in
    let PY = at 1 in
    let PN = at 2 in
    let QX = at 3 in let QY = at 4 in let QN = at 5 in let S = at 6 in let T = at 7 in
    let m : Expr → Expr → Expr = λ a b. plus (times S a) (times T b) in
    let n = m PN QN in
    ring (plus (times (X PX PN (m PX QX) n) (X QX QN (m PX QX) n))
    (times (X PY PN (m PY QY) n) (X QY QN (m PY QY) n)))
    (minus (num (pos 0))
    (times (times S T)
    (plus (times (X PX PN QX QN) (X PX PN QX QN)) (times (X PY PN QY QN) (X PY PN QY QN)))))
    (vars (p.x ∷ p.y ∷ p.n ∷ q.x ∷ q.y ∷ q.n ∷ s ∷ t ∷ [])) refl

-- a product of two numbers that are linear in one place
scaled_pair : (m z a b c d : ℤ) → m *ℤ a ≡ z *ℤ c → m *ℤ b ≡ z *ℤ d
    → (m *ℤ m) *ℤ (a *ℤ b) ≡ (z *ℤ z) *ℤ (c *ℤ d)
scaled_pair m z a b c d e f =
    regroup m a b ∙ ap (λ (v : ℤ). v *ℤ (m *ℤ b)) e ∙ ap (λ (v : ℤ). (z *ℤ c) *ℤ v) f
    ∙ sym (regroup z c d)
  where
    regroup : (m a b : ℤ) → (m *ℤ m) *ℤ (a *ℤ b) ≡ (m *ℤ a) *ℤ (m *ℤ b)
    regroup m a b =
        ring (times (times (at 0) (at 0)) (times (at 1) (at 2)))
        (times (times (at 0) (at 1)) (times (at 0) (at 2))) (vars (m ∷ a ∷ b ∷ [])) refl

along_scaled : (px pn zx zn mx mn : ℤ) → zx *ℤ mn ≡ mx *ℤ zn
    → mn *ℤ ((px *ℤ zn) -ℤ (zx *ℤ pn)) ≡ zn *ℤ ((px *ℤ mn) -ℤ (mx *ℤ pn))
along_scaled px pn zx zn mx mn h =
    let a = ring (times (at 5) (minus (times (at 0) (at 3)) (times (at 2) (at 1))))
    (minus (times (times (at 0) (at 3)) (at 5)) (times (at 1) (times (at 2) (at 5))))
    (vars (px ∷ pn ∷ zx ∷ zn ∷ mx ∷ mn ∷ [])) refl in
    let b = ring (times (at 3) (minus (times (at 0) (at 5)) (times (at 4) (at 1))))
    (minus (times (times (at 0) (at 3)) (at 5)) (times (at 1) (times (at 4) (at 3))))
    (vars (px ∷ pn ∷ zx ∷ zn ∷ mx ∷ mn ∷ [])) refl in
    let c = ap (λ (v : ℤ). pn *ℤ v) h in
    omega (arith, ints, a, b, c)

dot_scaled : (p q z m : Vector) → Same z m → (m.n *ℤ m.n) *ℤ dot p q z ≡ (z.n *ℤ z.n) *ℤ dot p q m
dot_scaled p q z m h =
    let x = scaled_pair m.n z.n (along_x p z) (along_x q z) (along_x p m) (along_x q m)
    (along_scaled p.x p.n z.x z.n m.x m.n h.x) (along_scaled q.x q.n z.x z.n m.x m.n h.x) in
    let y = scaled_pair m.n z.n (along_y p z) (along_y q z) (along_y p m) (along_y q m)
    (along_scaled p.y p.n z.y z.n m.y m.n h.y) (along_scaled q.y q.n z.y z.n m.y m.n h.y) in
    let a = product-sum (m.n *ℤ m.n) (along_x p z *ℤ along_x q z) (along_y p z *ℤ along_y q z) in
    let b = product-sum (z.n *ℤ z.n) (along_x p m *ℤ along_x q m) (along_y p m *ℤ along_y q m) in
    added _ _ _ _ _ _ a b x y
  where
    added : (l r a b c d : ℤ) → l ≡ a +ℤ b → r ≡ c +ℤ d → a ≡ c → b ≡ d → l ≡ r
    added l r a b c d e f g h = omega (arith, ints)

pub between_straight : (p q z : Vector) → Place p → Place q → Place z → Between z p q
    → IsOnStraight p q z
between_straight p q z P Q Z h =
    let m = mix h.s p h.t q in
    let M = mix_place h.s p h.t q P Q h.s_least h.t_least h.some in
    let squares = (along_x p q *ℤ along_x p q) +ℤ (along_y p q *ℤ along_y p q) in
    let a = square_nonnegative (along_x p q) in
    let b = square_nonnegative (along_y p q) in
    let c = product_nonnegative (h.s *ℤ h.t) squares
    (product_nonnegative h.s h.t h.s_least h.t_least) (both_least _ _ a b) in
    let d : dot p q m ≤ℤ pos 0 = at_most _ _ (dot_mixed p q h.s h.t) c in
    let e = times_le (z.n *ℤ z.n) (dot p q m) (pos 0) (square_nonnegative z.n) d in
    let f = dot_scaled p q z m h.is in
    let g : (z.n *ℤ z.n) *ℤ pos 0 ≡ pos 0 = product_of_zero (z.n *ℤ z.n) (pos 0) refl in
    let i : (m.n *ℤ m.n) *ℤ pos 0 ≡ pos 0 = product_of_zero (m.n *ℤ m.n) (pos 0) refl in
    record {
      line = turn_same p q z m M h.is (turn_mixed p q h.s h.t);
      between = cancel_le (m.n *ℤ m.n) (dot p q z) (pos 0) (product_positive m.n m.n M M)
          (chain _ _ _ _ f e g i);
    }
  where
    both_least : (a b : ℤ) → pos 0 ≤ℤ a → pos 0 ≤ℤ b → pos 0 ≤ℤ (a +ℤ b)
    both_least a b h k = omega (arith, ints)

    at_most : (a b : ℤ) → a ≡ pos 0 -ℤ b → pos 0 ≤ℤ b → a ≤ℤ pos 0
    at_most a b e h = omega (arith, ints)

    chain : (a b c d : ℤ) → a ≡ b → b ≤ℤ c → c ≡ pos 0 → d ≡ pos 0 → a ≤ℤ d
    chain a b c d e h f g = omega (arith, ints)

-- ---- means of two places are the places on their straight
pub between_is : (p q z : Vector) → Place p → Place q → Place z → Between z p q ↔ IsOnStraight p q z
between_is p q z P Q Z =
    ((λ h. between_straight p q z P Q Z h), (λ h. straight_between p q z P Q Z h))

-- ---- edges
pub between_on : (w : ℤ) (e : Edge) (z : Vector) → pos 0 <ℤ rise w e → Place z
    → Between z (point e.low) (point e.high) → On w e z
between_on w e z u Z h =
    let l = point e.low in
    let t = point e.high in
    let L : Place l = omega (arith, ints) in
    let H : Place t = omega (arith, ints) in
    let r = rise-is w e in
    let low : InSpan w e l = record {
      low = omega (arith, ints);
      high = omega (arith, ints, u, r);
    } in
    let high : InSpan w e t = record {
      low = omega (arith, ints, u, r);
      high = omega (arith, ints);
    } in
    let m = mix h.s l h.t t in
    let M : Place m = mix_place h.s l h.t t L H h.s_least h.t_least h.some in
    let s = mix_in_span w e h.s l h.t t h.s_least h.t_least low high in
    let a = product_of_zero h.s (side e l) (side-low e) in
    let b = product_of_zero h.t (side e t) (side-high e) in
    let on : On w e m = record {
      line = none _ _ _ (side-mix e h.s l h.t t) a b;
      low = s.low;
      high = s.high;
    } in
    let back : Same m z = record { x = sym h.is.x; y = sym h.is.y } in
    on_same w e m z back M Z on
  where
    none : (a b c : ℤ) → a ≡ b +ℤ c → b ≡ pos 0 → c ≡ pos 0 → a ≡ pos 0
    none a b c e f g = omega (arith, ints)

pub on_is : (w : ℤ) (e : Edge) (z : Vector) → pos 0 <ℤ rise w e → Place z
    → On w e z ↔ IsOnStraight (point e.low) (point e.high) z
on_is w e z u Z =
    let L : Place (point e.low) = omega (arith, ints) in
    let H : Place (point e.high) = omega (arith, ints) in (
      (λ h. between_straight (point e.low) (point e.high) z L H Z (on_between w e z u Z h)),
      (λ h. between_on w e z u Z (straight_between (point e.low) (point e.high) z L H Z h)),
    )

pub hits_is : (w : ℤ) (e : Edge) (p q : Vector) → pos 0 <ℤ rise w e → Place p → Place q
    → HitsEdge w p q e ↔ SharesPlace p q e
hits_is w e p q u P Q = (
  (λ h. record {
    z = h.z;
    place = h.place;
    of_segment = between_straight p q h.z P Q h.place h.between;
    of_edge = (on_is w e h.z u h.place).0 h.on;
  }),
  (λ h. record {
    z = h.z;
    place = h.place;
    between = straight_between p q h.z P Q h.place h.of_segment;
    on = (on_is w e h.z u h.place).1 h.of_edge;
  }),
)
