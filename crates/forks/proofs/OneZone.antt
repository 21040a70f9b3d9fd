-- A straight has at most one zone with a half arc.
use Rattle.std.proofs.Common.{◌≡◌, ◌⊎◌, inl, inr, Bool, true, false, Option, None, Some, IfSome, ℤ}
use Rattle.std.proofs.Common.{pos, ◌+ℤ◌, ◌*ℤ◌, ◌-ℤ◌, ◌<ℤ◌, ◌≤ℤ◌, [], ◌∷◌, refl, arith, ap, sym, ◌∙◌}
use Rattle.std.proofs.Common.{subst}
use Rattle.std.proofs.lemmas.Int.{ints, by_lt_z}
use Rattle.plane.specs.declared.kinds.Curve.{Curve}
use Rattle.plane.specs.declared.kinds.Point.{Point}
use Rattle.plane.specs.Forms.Bends.{IsBend, IsRoundedDown, from_other_end, square}
use Rattle.plane.specs.Rule.Curves.{arc}
use Rattle.plane.specs.Rule.HalfArcs.{HalfArc, HasCircle, bend}
use Rattle.plane.specs.Rule.Turns.{cross}
use Rattle.plane.proofs.Algebra.Ring.{at, minus, plus, num, times, vars, ring}
use Rattle.plane.proofs.Algebra.Scaling.{times_le}
use Rattle.arc_predicates.specs.Circles.{half_arc}
use Rattle.arc_predicates.specs.declared.circles.Circle.{Circle}
use Rattle.forks.specs.declared.zones.Zone.{Zone}
use Rattle.forks.specs.Zones.{IsFork, IsForkOf, IsSeenCircle, IsSeenFrom, IsZone, IsZoneOf}
use Rattle.forks.specs.Zones.{SharesEnd, far_end, is_left, near_end}
use Rattle.forks.proofs.Forking.{one_root}

pub one_end : (c s : Curve) (x y : Bool) → SharesEnd c s x → SharesEnd c s y → x ≡ y
one_end c s true true a b = refl
one_end c s false false a b = refl
one_end c s true false a b = absurd (b.far a.near)
one_end c s false true a b = absurd (b.far a.near)

-- ---- seen from one point
flat : (a b t : Point) → a ≡ b → bend (record { from = a; to = b; third = t }) ≡ pos 0
unfolding bend
flat a b t e =
    let x : b.x -ℤ a.x ≡ pos 0 = (let f = ap (λ (p : Point). p.x) e in omega (arith, ints, f)) in
    let y : b.y -ℤ a.y ≡ pos 0 = (let f = ap (λ (p : Point). p.y) e in omega (arith, ints, f)) in
    none (b.x -ℤ a.x) (b.y -ℤ a.y) (t.y -ℤ a.y) (t.x -ℤ a.x) x y
  where
    none : (w v y x : ℤ) → w ≡ pos 0 → v ≡ pos 0 → (w *ℤ y) -ℤ (v *ℤ x) ≡ pos 0
    none w v y x e f = rw (e, f) (zero y x)
      where
        zero : (y x : ℤ) → (pos 0 *ℤ y) -ℤ (pos 0 *ℤ x) ≡ pos 0
        zero y x = ring (minus (times (num (pos 0)) (at 0)) (times (num (pos 0)) (at 1)))
            (num (pos 0)) (vars (y ∷ x ∷ [])) refl

pub one_seen : (c : Curve) (p : Point) (h g : HalfArc) → IsSeenFrom c p h → IsSeenFrom c p g
    → HasCircle h → h ≡ g
one_seen c p h g a b k = by_same a.same b.same
  where
    by_same : (h ≡ arc c) ⊎ (h ≡ from_other_end (arc c))
        → (g ≡ arc c) ⊎ (g ≡ from_other_end (arc c)) → h ≡ g
    by_same (inl e) (inl f) = e ∙ sym f
    by_same (inr e) (inr f) = e ∙ sym f
    by_same (inl e) (inr f) =
        let q : c.from ≡ c.to = sym (ap (λ (x : HalfArc). x.from) e) ∙ a.begins ∙ sym b.begins
        ∙ ap (λ (x : HalfArc). x.from) f in
        absurd ((subst HasCircle e k).bent (flat c.from c.to c.third q))
    by_same (inr e) (inl f) =
        let q : c.to ≡ c.from = sym (ap (λ (x : HalfArc). x.from) e) ∙ a.begins ∙ sym b.begins
        ∙ ap (λ (x : HalfArc). x.from) f in
        absurd ((subst HasCircle e k).bent (flat c.to c.from c.third q))

-- ---- no zone
module _ (d : ℤ) (c s : Curve) (a : Bool) (shares : SharesEnd c s a) where
  fork_there : (x : Bool) (b : Point) (z : IsZone d c s x b)
      → IsSeenFrom c (near_end a s) z.seen × IsFork d z.seen (far_end a s) b
  fork_there x b z =
      let e = one_end c s x a z.shares shares in (
        subst (λ (y : Bool). IsSeenFrom c (near_end y s) z.seen) e z.is_seen,
        subst (λ (y : Bool). IsFork d z.seen (far_end y s) b) e z.fork,
      )

  pub no_circle : IsSeenCircle c (near_end a s) None → (x : Bool) (b : Point) → IsZone d c s x b → ⊥
  no_circle n x b z = let f = fork_there x b z in n z.seen f.0 f.1.circle

  pub no_fork : (k : Circle) → IsSeenFrom c (near_end a s) (half_arc k)
      → IsForkOf d (half_arc k) (far_end a s) None → (x : Bool) (b : Point) → IsZone d c s x b → ⊥
  no_fork k seen n x b z =
      let f = fork_there x b z in
      let e = one_seen c (near_end a s) z.seen (half_arc k) f.0 seen f.1.circle in
      n b (subst (λ (h : HalfArc). IsFork d h (far_end a s) b) e f.1)

-- ---- one zone
round_most : (r n x y : ℤ) → pos 0 <ℤ r → IsRoundedDown r n x → IsRoundedDown r n y → x ≤ℤ y
round_most r n x y h a b = by_lt_z y x
    (λ (l : y <ℤ x).
    let t = times_le r (y +ℤ pos 1) x (omega (arith, ints, h)) (omega (arith, ints, l)) in
    let e : r *ℤ (y +ℤ pos 1) ≡ (r *ℤ y)
    +ℤ r = ring (times (at 0) (plus (at 1) (num (pos 1)))) (plus (times (at 0) (at 1)) (at 0))
    (vars (r ∷ y ∷ [])) refl in
    let m = a.most in
    let k = b.least in
    absurd (omega (arith, ints, t, e, m, k)))
    (λ l. l)

one_round : (r n x y : ℤ) → pos 0 <ℤ r → IsRoundedDown r n x → IsRoundedDown r n y → x ≡ y
one_round r n x y h a b =
    let l = round_most r n x y h a b in
    let m = round_most r n y x h b a in omega (arith, ints, l, m)

back_to : (a b p : ℤ) → a -ℤ p ≡ b -ℤ p → a ≡ b
back_to a b p e = omega (arith, ints, e)

pub one_bend : (d : ℤ) (left : Bool) (p q b e : Point) → IsBend d left p q b → IsBend d left p q e
    → b ≡ e
one_bend d left p q b e f g =
    let w = f.wide in
    let l = f.long in
    let m = g.long in
    let r : f.root ≡ g.root = one_root (square p q) f.root g.root (omega (arith, ints, w, l))
    (omega (arith, ints, w, m)) f.root_most f.root_least g.root_most g.root_least in
    let above : pos 0 <ℤ g.root = omega (arith, ints, w, m) in
    let x = one_round g.root _ (b.x -ℤ p.x) (e.x -ℤ p.x) above
    (subst (λ (h : ℤ). IsRoundedDown h _ (b.x -ℤ p.x)) r f.x) g.x in
    let y = one_round g.root _ (b.y -ℤ p.y) (e.y -ℤ p.y) above
    (subst (λ (h : ℤ). IsRoundedDown h _ (b.y -ℤ p.y)) r f.y) g.y in
    point_is b e (back_to b.x e.x p.x x) (back_to b.y e.y p.y y)
  where
    point_is : (b e : Point) → b.x ≡ e.x → b.y ≡ e.y → b ≡ e
    point_is b e x y = λ i. record { x = x i; y = y i }

pub one_zone : (d : ℤ) (c s : Curve) (x y : Bool) (b e : Point) → IsZone d c s x b
    → IsZone d c s y e → (x ≡ y) × (b ≡ e)
one_zone d c s x y b e f g =
    let same = one_end c s x y f.shares g.shares in
    let there = fork_there d c s y g.shares x b f in
    let h = one_seen c (near_end y s) f.seen g.seen there.0 g.is_seen there.1.circle in
    let fork : IsFork d g.seen (far_end y s) b = subst
    (λ (k : HalfArc). IsFork d k (far_end y s) b) h there.1 in (
      same,
      one_bend d (is_left g.seen (far_end y s)) g.seen.from
          (far_end y s) b e fork.is_bend g.fork.is_bend,
    )

-- ---- how far the bend lies
abbrev pub Near : Type 0
Near = (d : ℤ) (left : Bool) (p q b : Point) → IsBend d left p q b
    → (cross p q b *ℤ cross p q b) ≤ℤ ((d *ℤ d) *ℤ square p q)

pub zone_near : Near → (d : ℤ) (c s : Curve) (o : Option Zone) → IsZoneOf d c s o
    → IfSome o (λ z. (cross (near_end z.at_from s) (far_end z.at_from s) z.bend
    *ℤ cross (near_end z.at_from s) (far_end z.at_from s) z.bend) ≤ℤ
    ((d *ℤ d) *ℤ square (near_end z.at_from s) (far_end z.at_from s)))
zone_near law d c s None z = tt
zone_near law d c s (Some x) z =
    let q = far_end x.at_from s in
    law d (is_left z.seen q) (near_end x.at_from s) q x.bend
    (subst (λ (p : Point). IsBend d (is_left z.seen q) p q x.bend) z.is_seen.begins
    z.fork.is_bend)
