-- The inner chain is strictly inside, the outer chain strictly outside and over the chord's line,
-- but at the ends of the half arc.
use Rattle.std.proofs.Common.{◌≡◌, ℤ, pos, ◌+ℤ◌, ◌*ℤ◌, ◌-ℤ◌, ◌<ℤ◌, ◌≤ℤ◌, List, [], ◌∷◌, refl, arith}
use Rattle.std.proofs.Common.{ap, subst, sym}
use Rattle.std.proofs.lemmas.Int.{ints, by_lt_z}
use Rattle.plane.specs.declared.kinds.Point.{Point}
use Rattle.plane.specs.Forms.Vectors.{Vector, Place, point, mix}
use Rattle.plane.specs.Lists.{Each}
use Rattle.plane.specs.Forms.Arcs.{HalfArc, bend, power, along, bow, seen}
use Rattle.plane.specs.Tubes.Caps.{Cap, IsCap, shape, cap}
use Rattle.plane.proofs.Caps.CapWords.{IsOver}
use Rattle.plane.specs.Tubes.Bays.{Bay, AreNext, IsTube, distance, ahead_of_from, ahead_of_to}
use Rattle.plane.specs.Tubes.Bays.{RunsInside, RunsOutside, IsOuterCorner, InnerChain, OuterChain}
use Rattle.plane.proofs.Algebra.Laws.{product_positive, product_nonnegative, square_nonnegative}
use Rattle.plane.proofs.Algebra.Laws.{positive_factor}
use Rattle.plane.proofs.Algebra.Scaling.{product_of_zero}
use Rattle.plane.proofs.Algebra.Ring.{at, num, plus, minus, times, vars, ring}
use Rattle.plane.proofs.Caps.ChordCircle.{shape-mix, shape_rises, chord_inside}
use Rattle.plane.proofs.Caps.CapOver.{times_most, times_below, cancel_below, over_mix, shape_same}
use Rattle.plane.proofs.Caps.Seen.{seen-mix, shape_below, shape_most, shape_least, power_below}
use Rattle.plane.proofs.Caps.Seen.{power_most}
use Rattle.plane.proofs.Caps.Signed.{over_away}
use Rattle.plane.specs.Tubes.Regions.{seen_point}
use Rattle.plane.proofs.Caps.Powers.{far, far_least, power-mix, power-from, power-to}
use Rattle.plane.proofs.Caps.Powers.{power-ahead_of_from, power-ahead_of_to}
use Rattle.plane.proofs.OneTube.TubeStrips.{Corner, AreOver, IsRest, rest_of, tube_rest, tube_over}
use Rattle.plane.proofs.OneTube.TubeStrips.{tube_cap, inner_most}

-- ---- inside
-- between two places that are not outside and not on one upright line all is strictly inside
strict_mix : (c : Cap) (s : ℤ) (p : Vector) (t : ℤ) (q : Vector) → IsCap c → Place p → Place q
    → pos 0 <ℤ s → pos 0 <ℤ t → ((q.n *ℤ p.x) -ℤ (p.n *ℤ q.x)) <ℤ pos 0
    → shape c p ≤ℤ pos 0 → shape c q ≤ℤ pos 0 → shape c (mix s p t q) <ℤ pos 0
strict_mix c s p t q hc hp hq hs ht apart a b =
    let dx = (q.n *ℤ p.x) -ℤ (p.n *ℤ q.x) in
    let dy = (q.n *ℤ p.y) -ℤ (p.n *ℤ q.y) in
    let hp0 : pos 0 ≤ℤ p.n = omega (arith, ints, hp) in
    let hq0 : pos 0 ≤ℤ q.n = omega (arith, ints, hq) in
    let hs0 : pos 0 ≤ℤ s = omega (arith, ints, hs) in
    let ht0 : pos 0 ≤ℤ t = omega (arith, ints, ht) in
    let nn = product_positive p.n q.n hp hq in
    let sn = product_positive s p.n hs hp in
    let tn = product_positive t q.n ht hq in
    let far1 = product_positive c.size (dx *ℤ dx) hc.size (negative_square dx apart) in
    let far2 = square_nonnegative dy in
    let st = product_positive s t hs ht in
    let d = product_positive (s *ℤ t) ((c.size *ℤ (dx *ℤ dx)) +ℤ (dy *ℤ dy)) st
    (omega (arith, ints, far1, far2)) in
    let f = times_most s (q.n *ℤ shape c p) hs0 (times_most q.n (shape c p) hq0 a) in
    let g = times_most t (p.n *ℤ shape c q) ht0 (times_most p.n (shape c q) hp0 b) in
    let w = times_most ((s *ℤ p.n) +ℤ (t *ℤ q.n))
    ((s *ℤ (q.n *ℤ shape c p)) +ℤ (t *ℤ (p.n *ℤ shape c q))) (omega (arith, ints, sn, tn))
    (omega (arith, ints, f, g)) in
    cancel_below (p.n *ℤ q.n) (shape c (mix s p t q)) nn (sum _ _ _ (shape-mix c s p t q) w d)
  where
    sum : (x w d : ℤ) → x ≡ w -ℤ d → w ≤ℤ pos 0 → pos 0 <ℤ d → x <ℤ pos 0
    sum x w d e h k = omega (arith, ints)

    negative_square : (x : ℤ) → x <ℤ pos 0 → pos 0 <ℤ (x *ℤ x)
    negative_square x h =
        let p = product_positive (pos 0 -ℤ x) (pos 0 -ℤ x) (omega (arith, ints))
        (omega (arith, ints)) in
        let e = ring (times (minus (num (pos 0)) (at 0)) (minus (num (pos 0)) (at 0)))
        (times (at 0) (at 0)) (vars (x ∷ [])) refl in
        omega (arith, ints, p, e)

inner_inside : (h : HalfArc) (p v : Point) → IsCap (cap h) → along h (point p) <ℤ along h (point v)
    → shape (cap h) (point (seen_point h p)) ≤ℤ pos 0
    → shape (cap h) (point (seen_point h v)) ≤ℤ pos 0 → RunsInside h p v
inner_inside h p v hc l a b s t hs ht =
    let one : pos 0 <ℤ pos 1 = omega (arith, ints) in
    let k = strict_mix (cap h) s (point (seen_point h p)) t
    (point (seen_point h v)) hc one one hs ht (omega (arith, ints, l)) a b in
    power_below h (mix s (point p) t (point v)) hc
    (subst (λ (z : Vector). shape (cap h) z <ℤ pos 0)
    (sym (seen-mix h s (point p) t (point v))) k)

inner_chain : (h : HalfArc) (p : Point) (b : Bay) (rest : List Bay) → IsCap (cap h)
    → IsRest h p b rest → shape (cap h) (point (seen_point h p)) ≤ℤ pos 0
    → InnerChain (RunsInside h) p (b ∷ rest)
inner_chain h p b [] hc r low =
    let u = r.are_bays.0.up in let v = r.are_bays.0.on in (
      inner_inside h p b.inner hc (omega (arith, ints, u, v)) low
          (inner_most h b.inner hc r.inside.0),
      tt,
    )
inner_chain h p b (d ∷ rest) hc r low =
    let u = r.are_bays.0.up in let v = r.are_bays.0.on in
    let next = inner_most h b.inner hc r.inside.0 in (
      inner_inside h p b.inner hc (omega (arith, ints, u, v)) low next,
      inner_chain h b.inner d rest hc (rest_of h p b d rest r) next,
    )

-- ---- outside
-- over the lower part and strictly outside is strictly over the chord's line
pub outside_high : (h : HalfArc) (z : Vector) → IsCap (cap h) → IsOver (cap h) (seen h z)
    → pos 0 <ℤ power h z → pos 0 <ℤ bow h z
outside_high h z hc o k =
    let away = over_away h z hc o (omega (arith, ints, k)) in
    by_lt_z (pos 0) (bow h z) (λ l. l)
    (λ (l : bow h z ≤ℤ pos 0).
    let on = chord_inside (cap h) (seen h z) hc o.slab (omega (arith, ints, l, away)) in
    let m = power_most h z hc on in
    absurd (omega (arith, ints, m, k)))

outside : (h : HalfArc) (p q : Point) → IsCap (cap h) → Corner h p → Corner h q
    → ((s t : ℤ) → pos 0 <ℤ s → pos 0 <ℤ t → pos 0 <ℤ power h (mix s (point p) t (point q)))
    → RunsOutside h p q
outside h p q hc op oq f s t hs ht =
    let one : pos 0 <ℤ pos 1 = omega (arith, ints) in
    let k = f s t hs ht in
    let o = over_mix (cap h) s (point (seen_point h p)) t (point (seen_point h q)) hc one one
    (omega (arith, ints, hs)) (omega (arith, ints, ht)) (omega (arith, ints, hs, ht)) op oq in (
      k,
      outside_high h (mix s (point p) t (point q)) hc
          (subst (λ (z : Vector). IsOver (cap h) z) (sym (seen-mix h s (point p) t (point q))) o) k,
    )

middle_strict : (s t a b d : ℤ) → pos 0 <ℤ s → pos 0 <ℤ t → pos 0 ≤ℤ d → d <ℤ (pos 4 *ℤ a)
    → d <ℤ (pos 4 *ℤ b) → pos 0 <ℤ (((s +ℤ t) *ℤ ((s *ℤ a) +ℤ (t *ℤ b))) -ℤ ((s *ℤ t) *ℤ d))
middle_strict s t a b d hs ht hd ha hb =
    let st : pos 0 <ℤ (s +ℤ t) = omega (arith, ints, hs, ht) in
    let u = product_positive (s +ℤ t) (s *ℤ ((pos 4 *ℤ a) -ℤ d)) st
    (product_positive s ((pos 4 *ℤ a) -ℤ d) hs (omega (arith, ints, ha))) in
    let v = product_positive (s +ℤ t) (t *ℤ ((pos 4 *ℤ b) -ℤ d)) st
    (product_positive t ((pos 4 *ℤ b) -ℤ d) ht (omega (arith, ints, hb))) in
    let w = product_nonnegative ((s -ℤ t) *ℤ (s -ℤ t)) d (square_nonnegative (s -ℤ t)) hd in
    let S = at 0 in let T = at 1 in let A = at 2 in let B = at 3 in let D = at 4 in
    let four = num (pos 4) in
    let i = ring
    (times four (minus (times (plus S T) (plus (times S A) (times T B))) (times (times S T) D)))
    (plus (plus (times (plus S T) (times S (minus (times four A) D)))
    (times (plus S T) (times T (minus (times four B) D))))
    (times (times (minus S T) (minus S T)) D))
    (vars (s ∷ t ∷ a ∷ b ∷ d ∷ [])) refl in
    positive_factor (pos 4) _ (omega (arith, ints)) (sum _ _ _ _ i u v w)
  where
    sum : (x u v w : ℤ) → x ≡ (u +ℤ v) +ℤ w → pos 0 <ℤ u → pos 0 <ℤ v → pos 0 ≤ℤ w → pos 0 <ℤ x
    sum x u v w e a b c = omega (arith, ints)

end_strict : (s t b d : ℤ) → pos 0 <ℤ s → pos 0 <ℤ t → pos 0 ≤ℤ d → d ≤ℤ b → pos 0 <ℤ d
    → pos 0 <ℤ (((s +ℤ t) *ℤ (t *ℤ b)) -ℤ ((s *ℤ t) *ℤ d))
end_strict s t b d hs ht hd hb hd1 =
    let st : pos 0 ≤ℤ (s +ℤ t) = omega (arith, ints, hs, ht) in
    let u = product_nonnegative (s +ℤ t) (t *ℤ (b -ℤ d)) st
    (product_nonnegative t (b -ℤ d) (omega (arith, ints, ht)) (omega (arith, ints, hb))) in
    let w = product_positive (t *ℤ t) d (product_positive t t ht ht) hd1 in
    let S = at 0 in let T = at 1 in let B = at 2 in let D = at 3 in
    let i = ring (minus (times (plus S T) (times T B)) (times (times S T) D))
    (plus (times (plus S T) (times T (minus B D))) (times (times T T) D))
    (vars (s ∷ t ∷ b ∷ d ∷ [])) refl in
    omega (arith, ints, i, u, w)

-- places at different lengths along the chord are apart
apart_square : (x y : ℤ) → ((x *ℤ x) +ℤ (y *ℤ y)) ≤ℤ pos 0 → (x ≡ pos 0) × (y ≡ pos 0)
apart_square x y h =
    let a = square_nonnegative x in
    let b = square_nonnegative y in
    (zero x (omega (arith, ints, a, b, h)), zero y (omega (arith, ints, a, b, h)))
  where
    zero : (z : ℤ) → (z *ℤ z) ≤ℤ pos 0 → z ≡ pos 0
    zero z h = by_lt_z z (pos 0)
        (λ (l : z <ℤ pos 0).
        let p = product_positive (pos 0 -ℤ z) (pos 0 -ℤ z) (omega (arith, ints))
        (omega (arith, ints)) in
        let e = ring (times (minus (num (pos 0)) (at 0)) (minus (num (pos 0)) (at 0)))
        (times (at 0) (at 0)) (vars (z ∷ [])) refl in
        absurd (omega (arith, ints, p, e, h)))
        (λ (l : pos 0 ≤ℤ z). by_lt_z (pos 0) z
        (λ (m : pos 0 <ℤ z). let p = product_positive z z m m in absurd (omega (arith, ints, p, h)))
        (λ (m : z ≤ℤ pos 0). omega (arith, ints, l, m)))

along_apart : (h : HalfArc) (p q : Point) → distance p q ≤ℤ pos 0
    → along h (point p) ≡ along h (point q)
unfolding distance
along_apart h p q k =
    let z = apart_square (p.x -ℤ q.x) (p.y -ℤ q.y) k in
    let e : p.x ≡ q.x = (let a = z.0 in omega (arith, ints, a)) in
    let f : p.y ≡ q.y = (let a = z.1 in omega (arith, ints, a)) in
    λ i. along h (point record { x = e i; y = f i })

far_positive : (h : HalfArc) (p q : Point) → IsCap (cap h) → along h (point p) <ℤ along h (point q)
    → pos 0 <ℤ far h p q
far_positive h p q hc l = by_lt_z (pos 0) (distance p q)
    (λ (k : pos 0 <ℤ distance p q). product_positive (bend h *ℤ bend h) (distance p q) hc.size k)
    (λ (k : distance p q ≤ℤ pos 0). let e = along_apart h p q k in
    absurd (omega (arith, ints, e, l)))

first_outside : (h : HalfArc) (o : Point) → IsCap (cap h)
    → along h (point h.from) <ℤ along h (point o) → ahead_of_from h o ≤ℤ pos 0 → (s t : ℤ)
    → pos 0 <ℤ s → pos 0 <ℤ t → pos 0 <ℤ power h (mix s (point h.from) t (point o))
first_outside h o hc l k s t hs ht =
    let d = far_least h h.from o in
    let e = power-ahead_of_from h o in
    let m : far h h.from o ≤ℤ power h (point o) = omega (arith, ints, e, k) in
    let c = end_strict s t (power h (point o)) (far h h.from o) hs ht d m
    (far_positive h h.from o hc l) in
    let z = product_of_zero s (power h (point h.from)) (power-from h) in
    whole (power h (mix s (point h.from) t (point o))) (s +ℤ t) (s *ℤ power h (point h.from))
    (t *ℤ power h (point o)) ((s *ℤ t) *ℤ far h h.from o) (power-mix h s h.from t o) z c
  where
    whole : (x n a b d : ℤ) → x ≡ (n *ℤ (a +ℤ b)) -ℤ d → a ≡ pos 0 → pos 0 <ℤ ((n *ℤ b) -ℤ d)
        → pos 0 <ℤ x
    whole x n a b d e z k =
        let f : a +ℤ b ≡ b = omega (arith, ints, z) in
        let g = ap (λ (v : ℤ). n *ℤ v) f in omega (arith, ints, e, g, k)

last_outside : (h : HalfArc) (o : Point) → IsCap (cap h) → along h (point o) <ℤ along h (point h.to)
    → ahead_of_to h o ≤ℤ pos 0 → (s t : ℤ) → pos 0 <ℤ s → pos 0 <ℤ t
    → pos 0 <ℤ power h (mix s (point o) t (point h.to))
last_outside h o hc l k s t hs ht =
    let d = far_least h o h.to in
    let e = power-ahead_of_to h o in
    let m : far h o h.to ≤ℤ power h (point o) = omega (arith, ints, e, k) in
    let c = end_strict t s (power h (point o)) (far h o h.to) ht hs d m
    (far_positive h o h.to hc l) in
    let z = product_of_zero t (power h (point h.to)) (power-to h) in
    whole s t (power h (point o)) (t *ℤ power h (point h.to)) (far h o h.to) _
    (power-mix h s o t h.to) z c
  where
    whole : (s t a b d x : ℤ) → x ≡ ((s +ℤ t) *ℤ ((s *ℤ a) +ℤ b)) -ℤ ((s *ℤ t) *ℤ d) → b ≡ pos 0
        → pos 0 <ℤ (((t +ℤ s) *ℤ (s *ℤ a)) -ℤ ((t *ℤ s) *ℤ d)) → pos 0 <ℤ x
    whole s t a b d x e z k =
        let f : (s *ℤ a) +ℤ b ≡ s *ℤ a = omega (arith, ints, z) in
        let g = ap (λ (v : ℤ). (s +ℤ t) *ℤ v) f in
        let i = ring
        (minus (times (plus (at 1) (at 0)) (times (at 0) (at 2)))
        (times (times (at 1) (at 0)) (at 3)))
        (minus (times (plus (at 0) (at 1)) (times (at 0) (at 2)))
        (times (times (at 0) (at 1)) (at 3))) (vars (s ∷ t ∷ a ∷ d ∷ [])) refl in
        omega (arith, ints, e, g, i, k)

next_outside : (h : HalfArc) (b d : Bay) → AreNext h b d → (s t : ℤ) → pos 0 <ℤ s → pos 0 <ℤ t
    → pos 0 <ℤ power h (mix s (point b.outer) t (point d.outer))
next_outside h b d n s t hs ht =
    let c = middle_strict s t (power h (point b.outer)) (power h (point d.outer))
    (far h b.outer d.outer) hs ht (far_least h b.outer d.outer) n.first_far n.second_far in
    same _ _ (power-mix h s b.outer t d.outer) c
  where
    same : (x y : ℤ) → x ≡ y → pos 0 <ℤ y → pos 0 <ℤ x
    same x y e k = omega (arith, ints)

outer_rest : (h : HalfArc) (p : Point) (b : Bay) (rest : List Bay) → IsCap (cap h)
    → IsRest h p b rest → AreOver h p (b ∷ rest) → OuterChain (RunsOutside h) b.outer h.to rest
outer_rest h p b [] hc r o =
    let e = r.ends in
    let l = r.are_bays.0.on in
    let k = ap (λ (v : Point). along h (point v)) e in
    let top : Corner h h.to = subst (λ (v : Point). Corner h v) e o.1.1 in
    outside h b.outer h.to hc o.1.0 top
    (last_outside h b.outer hc (omega (arith, ints, l, k)) r.last_clear)
outer_rest h p b (d ∷ rest) hc r o = (
  outside h b.outer d.outer hc o.1.0 o.1.1.1.0 (next_outside h b d r.are_next.0),
  outer_rest h b.inner d rest hc (rest_of h p b d rest r) o.1.1,
)

-- the corners
outer_corner : (h : HalfArc) (p : Point) (b : Bay) (rest : List Bay) → IsCap (cap h)
    → IsRest h p b rest → pos 0 <ℤ power h (point b.outer)
outer_corner h p b [] hc r =
    let e = power-ahead_of_to h b.outer in
    let k = r.last_clear in
    let l = r.are_bays.0.on in
    let g = ap (λ (v : Point). along h (point v)) r.ends in
    let d = far_positive h b.outer h.to hc (omega (arith, ints, l, g)) in
    omega (arith, ints, e, d, k)
outer_corner h p b (d ∷ rest) hc r =
    let k = r.are_next.0.first_far in
    let d = far_least h b.outer d.outer in
    omega (arith, ints, k, d)

outer_corners : (h : HalfArc) (p : Point) (b : Bay) (rest : List Bay) → IsCap (cap h)
    → IsRest h p b rest → AreOver h p (b ∷ rest) → Each (IsOuterCorner h) (b ∷ rest)
outer_corners h p b [] hc r o =
    let k = outer_corner h p b [] hc r in ((k, outside_high h (point b.outer) hc o.1.0 k), tt)
outer_corners h p b (d ∷ rest) hc r o =
    let k = outer_corner h p b (d ∷ rest) hc r in (
      (k, outside_high h (point b.outer) hc o.1.0 k),
      outer_corners h b.inner d rest hc (rest_of h p b d rest r) o.1.1,
    )

-- ---- the chains of a tube
pub tube_inner : (h : HalfArc) (bs : List Bay) → IsTube h bs → InnerChain (RunsInside h) h.from bs
tube_inner h [] t = tt
tube_inner h (b ∷ rest) t =
    let hc = tube_cap h (b ∷ rest) t in
    let e = power-from h in
    inner_chain h h.from b rest hc (tube_rest h b rest t)
    (shape_most h (point h.from) hc (omega (arith, ints, e)))

pub tube_outer : (h : HalfArc) (bs : List Bay) → IsTube h bs
    → OuterChain (RunsOutside h) h.from h.to bs
tube_outer h [] t = absurd t.some
tube_outer h (b ∷ rest) t =
    let hc = tube_cap h (b ∷ rest) t in
    let r = tube_rest h b rest t in
    let o = tube_over h b rest t in (
      outside h h.from b.outer hc o.0 o.1.0
          (first_outside h b.outer hc r.are_bays.0.up t.first_clear),
      outer_rest h h.from b rest hc r o,
    )

pub tube_outer_corners : (h : HalfArc) (bs : List Bay) → IsTube h bs → Each (IsOuterCorner h) bs
tube_outer_corners h [] t = tt
tube_outer_corners h (b ∷ rest) t =
    outer_corners h h.from b rest (tube_cap h (b ∷ rest) t) (tube_rest h b rest t)
    (tube_over h b rest t)

-- what is strictly inside is strictly under what is not, on one upright line
pub inside_under : (h : HalfArc) (u v : Vector) → IsCap (cap h) → Place u → Place v
    → along h u *ℤ v.n ≡ along h v *ℤ u.n → power h u <ℤ pos 0 → pos 0 ≤ℤ power h v
    → pos 0 ≤ℤ bow h v → (bow h u *ℤ v.n) <ℤ (bow h v *ℤ u.n)
inside_under h u v hc hu hv e inside out away = by_lt_z (bow h u *ℤ v.n) (bow h v *ℤ u.n) (λ l. l)
    (λ (l : (bow h v *ℤ u.n) ≤ℤ (bow h u *ℤ v.n)). absurd (against l))
  where
    -- at one height, or higher, u is not less far from the circle's inside
    against : (bow h v *ℤ u.n) ≤ℤ (bow h u *ℤ v.n) → ⊥
    against l = by_lt_z (bow h v *ℤ u.n) (bow h u *ℤ v.n)
        (λ (m : (bow h v *ℤ u.n) <ℤ (bow h u *ℤ v.n)).
        falls (shape_rises (cap h) (seen h v) (seen h u) hc hv hu (sym e) away m))
        (λ (m : (bow h u *ℤ v.n) ≤ℤ (bow h v *ℤ u.n)). level (omega (arith, ints, l, m)))
      where
        in_shape : shape (cap h) (seen h u) <ℤ pos 0
        in_shape = shape_below h u hc inside

        out_shape : pos 0 ≤ℤ shape (cap h) (seen h v)
        out_shape = shape_least h v hc out

        falls : ((u.n *ℤ u.n) *ℤ shape (cap h) (seen h v)) <ℤ
            ((v.n *ℤ v.n) *ℤ shape (cap h) (seen h u))
            → ⊥
        falls k =
            let p = product_nonnegative (u.n *ℤ u.n) (shape (cap h) (seen h v))
            (square_nonnegative u.n) out_shape in
            let q = times_below (v.n *ℤ v.n) (shape (cap h) (seen h u))
            (product_positive v.n v.n hv hv) in_shape in
            omega (arith, ints, p, q, k)

        equal_inside : (v.n *ℤ v.n) *ℤ shape (cap h) (seen h u)
            ≡ (u.n *ℤ u.n) *ℤ shape (cap h) (seen h v)
            → ⊥
        equal_inside k =
            let p = product_nonnegative (u.n *ℤ u.n) (shape (cap h) (seen h v))
            (square_nonnegative u.n) out_shape in
            let q = times_below (v.n *ℤ v.n) (shape (cap h) (seen h u))
            (product_positive v.n v.n hv hv) in_shape in
            omega (arith, ints, p, q, k)

        level : bow h u *ℤ v.n ≡ bow h v *ℤ u.n → ⊥
        level m = equal_inside (shape_same (cap h) (seen h u) (seen h v) record { x = e; y = m })
