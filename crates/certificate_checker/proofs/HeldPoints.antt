-- Points of tubes: they are close to the corners, and have a side for the circle.
use Rattle.std.proofs.Common.{◌≡◌, ◌↔◌, ℕ, ◌<◌, ◌^◌, Bool, true, false, IsTrue, List, [], ◌∷◌}
use Rattle.std.proofs.Common.{length, get_or, refl, arith, ap, sym, ◌∙◌, subst, ℤ, pos, ◌-ℤ◌, ◌<ℤ◌}
use Rattle.std.proofs.Common.{◌≤ℤ◌, ◌*ℤ◌}
use Rattle.std.proofs.lemmas.Int.{ints}
use Rattle.plane.specs.Forms.Vectors.{point}
use Rattle.plane.specs.Lists.{Each}
use Rattle.plane.specs.Numbers.{IsNear}
use Rattle.plane.specs.Rule.Curves.{arc}
use Rattle.plane.specs.Rule.HalfArcs.{HalfArc, HasSide, power}
use Rattle.plane.specs.Rule.Plans.{IsHalfArc, Plan, curve, object}
use Rattle.plane.specs.Rule.Turns.{AreNear}
use Rattle.plane.specs.Rule.Windows.{IsDrawn, IsInside, IsNarrow}
use Rattle.plane.specs.Tubes.Bays.{InTube, bays}
use Rattle.plane.specs.declared.kinds.Curve.{Curve}
use Rattle.plane.specs.declared.kinds.Placed.{Placed}
use Rattle.plane.specs.declared.kinds.Point.{Point}
use Rattle.plane.specs.declared.window.Window2.{Window2}
use Rattle.arc_predicates.specs.Circles.{HasSign}
use Rattle.arc_predicates.specs.declared.sides.Side.{Side}
use Rattle.arc_predicates.specs.declared.sides.Side.TheVariants as side
use Rattle.straight_predicates.specs.Meetings.{AreClose}
use Rattle.tubes.specs.HalfArcTubes.{HasNoTube}
use Rattle.tubes.specs.Holding.{InTubeFrom, InTubeOf}
use Rattle.tubes.specs.Making.{IsMade}
use Rattle.tubes.specs.TubedEdges.{HasTube, bays_at}
use Rattle.tubes.specs.declared.kinds.Tube.{Tube}
use Rattle.tubes.proofs.ChainEdges.{bays_are}
use Rattle.certificate.specs.declared.notes.PointPlace.{PointPlace}
use Rattle.certificate.specs.declared.notes.PointPlace.TheVariants as place
use Rattle.certificate_checker.specs.Cases.{IsHeldAt}
use Rattle.certificate_checker.specs.Rules.{IsHeld, IsOnSide}
use Rattle.certificate_checker.proofs.Entries.{entry}
use Rattle.tubes.proofs.TubePoints.{tube_near}
use Rattle.certificate_checker.proofs.PlaneLaws.{place_point, tube_has_sides}

corner_close : (low high from p at : Point) → IsNarrow low high → IsInside low high from
    → IsInside low high at → AreNear (2 ^ 28) from p → AreClose p at
corner_close low high from p at n i j c = record {
  x = close low.x high.x from.x at.x p.x n.x i.left i.right j.left j.right c.x;
  y = close low.y high.y from.y at.y p.y n.y i.bottom i.top j.bottom j.top c.y;
}
  where
    close : (l h v w p : ℤ) → (h -ℤ l) <ℤ pos (2 ^ 40) → l ≤ℤ v → v ≤ℤ h → l ≤ℤ w → w ≤ℤ h
        → IsNear (2 ^ 28) v p → IsNear (2 ^ 41) p w
    close l h v w p n a b c d e =
        record {
          above = omega (arith, ints, n, a, b, c, d, e.above, e.below);
          below = omega (arith, ints, n, a, b, c, d, e.above, e.below);
        }

module _ (w : Window2) (c : Curve) (at : Point) (drawn : IsDrawn w.low w.high c)
    (inside : IsInside w.low w.high at) where
  abbrev h : HalfArc
  h = arc c

  corners_close : (ps : List Point) → Each (AreNear (2 ^ 28) c.from) ps
      → Each (λ p. AreClose p at) ps
  corners_close [] e = tt
  corners_close (p ∷ ps) e =
      (corner_close w.low w.high c.from p at w.narrow drawn.from inside e.0, corners_close ps e.1)

  self : (z : ℤ) → IsNear (2 ^ 28) z z
  self z = record { above = omega (arith, ints); below = omega (arith, ints) }

  module _ (level : ℕ) (t : Tube) (made : IsMade h level t) where
    pub inner_close : Each (λ p. AreClose p at) t.inner.items
    inner_close =
        subst (Each (λ p. AreClose p at)) (sym made.inner)
        (corners_close (c.from ∷ made.after) (
          record {
            x = self c.from.x;
            y = self c.from.y;
          },
          made.tube.inner_near,
        ))

    pub outer_close : Each (λ p. AreClose p at) t.outer.items
    outer_close = corners_close t.outer.items made.tube.outer_near

    pub holds_in : InTubeOf t (point at) → InTube c.from (bays_at h level) (point at)
    holds_in z =
        subst (λ bs. InTube c.from bs (point at))
        (sym (bays_are h level made.after t.outer.items made.tube))
        (subst (λ (ps : List Point). InTubeFrom ps t.outer.items (point at)) made.inner z)

    pub in_holds : InTube c.from (bays_at h level) (point at) → InTubeOf t (point at)
    in_holds z =
        subst (λ (ps : List Point). InTubeFrom ps t.outer.items (point at)) (sym made.inner)
        (subst (λ bs. InTube c.from bs (point at))
        (bays_are h level made.after t.outer.items made.tube) z)

    pub has_side : InTubeOf t (point at) → HasSide h (point at)
    has_side z =
        tube_has_sides h (bays made.after t.outer.items) (point at) made.tube.circle
        (tube_near h level made.after t.outer.items made.tube) (place_point at)
        (subst (λ (ps : List Point). InTubeFrom ps t.outer.items (point at)) made.inner z)

-- a half arc with a tube is not without one
pub no_tube : (h : HalfArc) (level : ℕ) → HasTube h level → HasNoTube h level → ⊥
no_tube h level t n = n t.0 t.1 t.2

-- ---- the side of a point of a tube
pub sided_near : (h : HalfArc) (p : Point) → HasSide h (point p) → AreNear (2 ^ 32) h.from p
sided_near h p s = record {
  x = near h.from.x p.x s.right s.left;
  y = near h.from.y p.y s.above s.below;
}
  where
    near : (a b : ℤ) → (b -ℤ (a *ℤ pos 1)) <ℤ (pos (2 ^ 28) *ℤ pos 1)
        → (pos 0 -ℤ (b -ℤ (a *ℤ pos 1))) <ℤ (pos (2 ^ 28) *ℤ pos 1) → IsNear (2 ^ 32) a b
    near a b r l = record { above = omega (arith, ints, r, l); below = omega (arith, ints, r, l) }

pub inside_is : (s : Side) (z : ℤ) → HasSign s z → (s ≡ side.Inside) ↔ IsOnSide true z
inside_is side.Inside z h = ((λ q. h), (λ x. refl))
inside_is side.On z h = (
  (λ q. absurd (let e : side.On ≡ side.Inside = q in cc)),
  (λ x. absurd (omega (arith, ints, h, x))),
)
inside_is side.Outside z h = (
  (λ q. absurd (let e : side.Outside ≡ side.Inside = q in cc)),
  (λ x. absurd (omega (arith, ints, h, x))),
)

pub outside_is : (s : Side) (z : ℤ) → HasSign s z → (s ≡ side.Outside) ↔ IsOnSide false z
outside_is side.Inside z h = (
  (λ q. absurd (let e : side.Inside ≡ side.Outside = q in cc)),
  (λ x. absurd (omega (arith, ints, h, x))),
)
outside_is side.On z h = (
  (λ q. absurd (let e : side.On ≡ side.Outside = q in cc)),
  (λ x. absurd (omega (arith, ints, h, x))),
)
outside_is side.Outside z h = ((λ q. h), (λ x. refl))

-- ---- where a point is placed
pub held_is : (d : Plan) (level i : ℕ) (inside : Bool) (at : Point) (c : Curve) (b : Bool)
    → IsHalfArc d i → c ≡ curve d i
    → IsTrue b ↔ (InTube c.from (bays_at (arc c) level) (point at)
    × IsOnSide inside (power (arc c) (point at))) → IsTrue b ↔ IsHeld d level i inside at
held_is d level i inside at c b h e f = (
  (λ t. let x = subst (λ (c : Curve). InTube c.from (bays_at (arc c) level) (point at)
      × IsOnSide inside (power (arc c) (point at))) e (f.0 t) in
      record { half_arc = h; holds = x.0; side = x.1 }),
  (λ x. f.1 (subst (λ (c : Curve). InTube c.from (bays_at (arc c) level) (point at)
      × IsOnSide inside (power (arc c) (point at))) (sym e) (x.holds, x.side))),
)

pub held_entry : (d : Plan) (level j : ℕ) (places : List PointPlace) (y : PointPlace) (p : Placed)
    (b : Bool)
    → j < length places → length places ≡ length d.points → p ≡ get_or d.points j p
    → IsTrue b ↔ IsHeldAt d level (get_or places j y) p.at
    → IsTrue b ↔ IsHeldAt d level (get_or places j (place.Cell 0)) (object d j)
held_entry d level j places y p b l n e f =
    subst (λ (x : PointPlace). IsTrue b ↔ IsHeldAt d level x (object d j))
    (entry places j y (place.Cell 0) l)
    (subst (λ (q : Point). IsTrue b ↔ IsHeldAt d level (get_or places j y) q)
    (ap (λ (p : Placed). p.at) (e ∙ entry d.points j p _ (omega (arith, l, n)))) f)
