-- Rays are in one strict order by slope and number.
use Rattle.std.proofs.Common.{◌≡◌, ℕ, ◌<◌, ◌≤◌, ◌⊎◌, ℤ, pos, ◌*ℤ◌, ◌-ℤ◌, ◌<ℤ◌, ◌≤ℤ◌, inl, inr, true}
use Rattle.std.proofs.Common.{false, List, [], ◌∷◌, refl, arith, ap, sym, ◌∙◌, subst}
use Rattle.std.proofs.lemmas.Int.{ints, by_lt_z}
use Rattle.std.specs.Ordering.{is_lt, nat_cmp, ordering_then}
use Rattle.std.specs.declared.cmp.Ordering.TheVariants.{Less}
use Rattle.std.specs.Cmp.{IsStrictWeakOrder}
use Rattle.plane.specs.declared.kinds.Point.{Point}
use Rattle.plane.specs.declared.kinds.Edge.{Edge}
use Rattle.plane.specs.Rule.Turns.{cross}
use Rattle.plane.specs.Forms.Vectors.{Before}
use Rattle.plane.specs.Lists.{Has, Neighbours, Once}
use Rattle.plane.specs.Runs.Positions.{turn_at}
use Rattle.plane.specs.Runs.Timetables.{BySlope}
use Rattle.plane.proofs.Algebra.Ring.{at, num, minus, times, vars, ring}
use Rattle.straight_predicates.proofs.WeighedTurns.{turns_left, turns_none}
use Rattle.straight_predicates.specs.declared.rays.Ray.{Ray}
use Rattle.straight_predicates.specs.EdgeLists.{edge_of, no_point}
use Rattle.straight_predicates.proofs.Orders.{int_less, int_equal, int_greater, nat_least}
use Rattle.straight_predicates.proofs.Orders.{nat_not_less, by_lt}
use Rattle.straight_predicates.specs.Slopes.{turn_between, ray_cmp, ray_lt, ray_edges, IsRayOf}

abbrev turn : Ray → Ray → ℤ
turn a b = turn_between a.direction b.direction

turn_back : (a b : Ray) → turn b a ≡ pos 0 -ℤ turn a b
turn_back a b =
    ring (minus (times (at 2) (at 1)) (times (at 3) (at 0)))
    (minus (num (pos 0)) (minus (times (at 0) (at 3)) (times (at 1) (at 2))))
    (vars (a.direction.x ∷ a.direction.y ∷ b.direction.x ∷ b.direction.y ∷ [])) refl

-- a comes before b, or they are of one slope and number
abbrev pub NotAfter : Ray → Ray → Type 0
NotAfter a b = (pos 0 <ℤ turn a b) ⊎ ((turn a b ≡ pos 0) × (a.edge ≤ b.edge))

-- the test is false exactly where b does not come before a
pub not_after : (a b : Ray) → ray_lt b a ≡ false → NotAfter a b
not_after a b h = by_sign
  where
    by_sign : NotAfter a b
    by_sign =
        by_lt_z (turn a b) (pos 0)
        (λ (l : turn a b <ℤ pos 0).
        let back = turn_back a b in
        let e : ray_cmp b a ≡ Less = ap (λ o. ordering_then o (nat_cmp b.edge a.edge))
        (int_less (pos 0) (turn b a) (omega (arith, ints, l, back))) in
        absurd (differ (sym (ap is_lt e) ∙ h)))
        (λ (l : pos 0 ≤ℤ turn a b).
        by_lt_z (pos 0) (turn a b)
        (λ (k : pos 0 <ℤ turn a b). inl k)
        (λ (k : turn a b ≤ℤ pos 0).
        let back = turn_back a b in
        let zero : turn b a ≡ pos 0 = omega (arith, ints, l, k, back) in
        let e : ray_cmp b a ≡ nat_cmp b.edge a.edge = ap
        (λ o. ordering_then o (nat_cmp b.edge a.edge))
        (int_equal (pos 0) (turn b a) (sym zero)) in
        inr (omega (arith, ints, l, k), by_number a.edge b.edge (sym (ap is_lt e) ∙ h))))
      where
        differ : true ≡ false → ⊥
        differ q = cc

        by_number : (x y : ℕ) → is_lt (nat_cmp y x) ≡ false → x ≤ y
        by_number x y q = nat_not_less y x q

after_not : (a b : Ray) → NotAfter a b → ray_lt b a ≡ false
after_not a b (inl l) =
    let back = turn_back a b in
    ap (λ o. is_lt (ordering_then o (nat_cmp b.edge a.edge)))
    (int_greater (pos 0) (turn b a) (omega (arith, ints, l, back)))
after_not a b (inr l) =
    let back = turn_back a b in
    let z = l.0 in
    ap (λ o. is_lt (ordering_then o (nat_cmp b.edge a.edge)))
    (int_equal (pos 0) (turn b a) (omega (arith, ints, z, back))) ∙ nat_least b.edge a.edge l.1

-- ---- directions as points, from the origin
abbrev point_of : Ray → Point
point_of r = record { x = r.direction.x; y = r.direction.y }

ahead : (r : Ray) → Before no_point (point_of r)
ahead r =
    by_lt_z (pos 0) r.direction.x
    (λ (l : pos 0 <ℤ r.direction.x). inl l)
    (λ (l : r.direction.x ≤ℤ pos 0).
    let k = r.direction.rightward.least in
    let z : r.direction.x ≡ pos 0 = omega (arith, ints, l, k) in
    inr (sym z, r.direction.rightward.upright z))

cross_turn : (a b : Ray) → cross no_point (point_of a) (point_of b) ≡ turn a b
cross_turn a b =
    ring (minus (times (minus (at 0) (num (pos 0))) (minus (at 3) (num (pos 0))))
    (times (minus (at 1) (num (pos 0))) (minus (at 2) (num (pos 0)))))
    (minus (times (at 0) (at 3)) (times (at 1) (at 2)))
    (vars (a.direction.x ∷ a.direction.y ∷ b.direction.x ∷ b.direction.y ∷ [])) refl

left_through : (a b c : Ray) → pos 0 ≤ℤ turn a b → pos 0 ≤ℤ turn b c
    → ((pos 0 <ℤ turn a b) ⊎ (pos 0 <ℤ turn b c)) → pos 0 <ℤ turn a c
left_through a b c h k s =
    let ab = cross_turn a b in
    let bc = cross_turn b c in
    subst (λ (z : ℤ). pos 0 <ℤ z) (cross_turn a c)
    (turns_left no_point (point_of a) (point_of b) (point_of c) (ahead a) (ahead b) (ahead c)
    (subst (λ (z : ℤ). pos 0 ≤ℤ z) (sym ab) h) (subst (λ (z : ℤ). pos 0 ≤ℤ z) (sym bc) k)
    (elim s [
      | inl l ↦ inl (subst (λ (z : ℤ). pos 0 <ℤ z) (sym ab) l)
      | inr l ↦ inr (subst (λ (z : ℤ). pos 0 <ℤ z) (sym bc) l)
    ]))

none_through : (a b c : Ray) → turn a b ≡ pos 0 → turn b c ≡ pos 0 → turn a c ≡ pos 0
none_through a b c h k =
    sym (cross_turn a c)
    ∙ turns_none no_point (point_of a) (point_of b) (point_of c) (ahead a) (ahead b) (ahead c)
    (cross_turn a b ∙ h) (cross_turn b c ∙ k)

not_after_trans : (a b c : Ray) → NotAfter a b → NotAfter b c → NotAfter a c
not_after_trans a b c (inl x) (inl y) =
    inl (left_through a b c (omega (arith, ints, x)) (omega (arith, ints, y)) (inl x))
not_after_trans a b c (inl x) (inr y) =
    let z = y.0 in
    inl (left_through a b c (omega (arith, ints, x)) (omega (arith, ints, z)) (inl x))
not_after_trans a b c (inr x) (inl y) =
    let z = x.0 in
    inl (left_through a b c (omega (arith, ints, z)) (omega (arith, ints, y)) (inr y))
not_after_trans a b c (inr x) (inr y) =
    let l = x.1 in let r = y.1 in inr (none_through a b c x.0 y.0, omega (arith, l, r))

-- of two rays one is not after the other
either : (a b : Ray) → NotAfter a b ⊎ NotAfter b a
either a b =
    let back = turn_back a b in
    by_lt_z (pos 0) (turn a b)
    (λ (l : pos 0 <ℤ turn a b). inl (inl l))
    (λ (l : turn a b ≤ℤ pos 0).
    by_lt_z (turn a b) (pos 0)
    (λ (k : turn a b <ℤ pos 0). inr (inl (omega (arith, ints, k, back))))
    (λ (k : pos 0 ≤ℤ turn a b).
    by_lt a.edge b.edge
    (λ (m : a.edge < b.edge). inl (inr (omega (arith, ints, l, k), omega (arith, m))))
    (λ (m : b.edge ≤ a.edge). inr (inr (omega (arith, ints, l, k, back), m)))))

pub rays_rank : IsStrictWeakOrder ray_lt
rays_rank = record {
  one_way = λ x y h. elim (either x y) [
    | inl l ↦ after_not x y l
    | inr l ↦ absurd (clash (sym h ∙ after_not y x l))
  ];
  chain = λ x y z h k. after_not z x (not_after_trans z y x (not_after z y k) (not_after y x h));
}
  where
    clash : true ≡ false → ⊥
    clash q = cc

-- ---- edges that start at one point, by the slopes of their rays
same_turn : (a b c d : Point) (rx ry sx sy : ℤ) → rx ≡ b.x -ℤ a.x → ry ≡ b.y -ℤ a.y
    → sx ≡ c.x -ℤ d.x → sy ≡ c.y -ℤ d.y → d ≡ a → (rx *ℤ sy) -ℤ (ry *ℤ sx) ≡ cross a b c
same_turn a b c d rx ry sx sy e f g h q = cc

ray_turn : (edges : List Edge) (p : Point) (r s : Ray) → IsRayOf edges r → IsRayOf edges s
    → (edge_of edges r.edge).low ≡ p → (edge_of edges s.edge).low ≡ p
    → turn r s ≡ turn_at (edge_of edges) r.edge (edge_of edges s.edge).high
ray_turn edges p r s h k e f =
    same_turn (edge_of edges r.edge).low (edge_of edges r.edge).high (edge_of edges s.edge).high
    (edge_of edges s.edge).low _ _ _ _ h.x h.y k.x k.y (f ∙ sym e)

by_slope : (edges : List Edge) (p : Point) (r s : Ray) → IsRayOf edges r → IsRayOf edges s
    → (edge_of edges r.edge).low ≡ p → (edge_of edges s.edge).low ≡ p
    → (r.edge ≡ s.edge → ⊥) → NotAfter r s → BySlope (edge_of edges) r.edge s.edge
by_slope edges p r s h k e f n (inl l) =
    inl (subst (λ (z : ℤ). pos 0 <ℤ z) (ray_turn edges p r s h k e f) l)
by_slope edges p r s h k e f n (inr l) =
    let o = l.1 in inr (sym (ray_turn edges p r s h k e f) ∙ l.0, omega (arith, o, n))

pub rays_by_slope : (edges : List Edge) (p : Point) (rays : List Ray)
    → ((r : Ray) → Has r rays → IsRayOf edges r × ((edge_of edges r.edge).low ≡ p))
    → Neighbours (λ r s. ray_lt s r ≡ false) rays
    → Once (ray_edges rays) → Neighbours (BySlope (edge_of edges)) (ray_edges rays)
rays_by_slope edges p [] f h o = tt
rays_by_slope edges p (r ∷ []) f h o = (tt, tt)
rays_by_slope edges p (r ∷ (s ∷ rays)) f h o =
    let a = f r (inl refl) in
    let b = f s (inr (inl refl)) in (
      by_slope edges p r s a.0 b.0 a.1 b.1 (λ q. o.0 (inl q)) (not_after r s h.0),
      rays_by_slope edges p (s ∷ rays) (λ t i. f t (inr i)) h.1 o.1,
    )
