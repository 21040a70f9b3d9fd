-- Boxes of curves: which boxes hold them, and that those of two bad curves share a place.
use Rattle.std.proofs.Common.{◌≡◌, ◌^◌, ◌+◌, ◌*◌, ◌/◌, ℕ, ◌<◌, ◌≤◌, ℤ, pos, ◌*ℤ◌, ◌-ℤ◌, ◌≤ℤ◌, inl}
use Rattle.std.proofs.Common.{inr, refl, arith, sym, subst}
use Rattle.std.proofs.lemmas.Int.{ints}
use Rattle.std.proofs.Math.Nat.{lt-mul-div-succ}
use Rattle.plane.specs.declared.kinds.Point.{Point}
use Rattle.plane.specs.declared.kinds.Curve.{Curve}
use Rattle.plane.specs.declared.kinds.CurveKind.{CurveKind}
use Rattle.plane.specs.declared.kinds.CurveKind.TheVariants as kind
use Rattle.plane.specs.Forms.Vectors.{Vector, Place, point}
use Rattle.plane.specs.Rule.Straights.{IsOnStraight}
use Rattle.plane.specs.Rule.HalfArcs.{bend, HasCircle, HasSide}
use Rattle.plane.specs.Forms.Arcs.{facing}
use Rattle.plane.specs.Rule.Curves.{arc, IsOnKind, IsOn}
use Rattle.plane.specs.Rule.BadPairs.{IsEndOf, EndsOn, sixteenth, IsCrossedOnTrial, AreBad}
use Rattle.plane.specs.Rule.BadPairs.{straights_meet, end_meets, crossed, one_arc}
use Rattle.plane.specs.Forms.Boxes.{Box, InBox, GoesBeyond, size, sides, HoldsCurve}
use Rattle.plane.proofs.Linear.EdgePlaces.{place_point}
use Rattle.plane.proofs.Covers.SamePlace.{first_on, last_on}
use Rattle.plane.proofs.Covers.NotApart.{on_sixteenths}
use Rattle.plane.proofs.Covers.CurvePlaces.{no_kind}
use Rattle.plane.proofs.HalfArcs.Boxes.{point_in, straight_in_box}
use Rattle.plane.proofs.HalfArcs.ArcReach.{size_least, ends_in_cap, flat_cap_in_box, circle_in_box}
use Rattle.plane.proofs.HalfArcs.ArcReach.{side_in_box}

-- ---- boxes that hold a curve
pub straight_held : (c : Curve) (b : Box) → c.kind ≡ kind.Straight → InBox b (point c.from)
    → InBox b (point c.to) → HoldsCurve b c
straight_held c b s from to = record {
  from = from;
  to = to;
  cap = λ k. absurd (no_kind c.kind s k);
}

beyond_has : (p : Point) (x y : ℤ) (b : Box) → pos 0 ≤ℤ x → pos 0 ≤ℤ y → GoesBeyond p x y b
    → InBox b (point p)
beyond_has p x y b hx hy g =
    let l = g.left in
    let r = g.right in
    let u = g.under in
    let o = g.over in
    point_in b p (record {
      left = omega (arith, ints, hx, l);
      right = omega (arith, ints, hx, r);
      under = omega (arith, ints, hy, u);
      over = omega (arith, ints, hy, o);
    })

pub flat_held : (c : Curve) (x y : ℤ) (b : Box) → pos 0 ≤ℤ facing (arc c)
    → size (c.to.y -ℤ c.from.y) ≤ℤ (pos 2 *ℤ x) → size (c.to.x -ℤ c.from.x) ≤ℤ (pos 2 *ℤ y)
    → GoesBeyond c.from x y b → GoesBeyond c.to x y b → HoldsCurve b c
flat_held c x y b half hx hy first second =
    let lx = size_least (c.to.y -ℤ c.from.y) in
    let ly = size_least (c.to.x -ℤ c.from.x) in
    let px : pos 0 ≤ℤ x = omega (arith, ints, lx, hx) in
    let py : pos 0 ≤ℤ y = omega (arith, ints, ly, hy) in
    record {
      from = beyond_has c.from x y b px py first;
      to = beyond_has c.to x y b px py second;
      cap = λ k z hz side in_cap. flat_cap_in_box
          (arc c) x y b z hz side.circle.bent half hx hy first second in_cap;
    }

pub round_held : (c : Curve) (r : ℤ) (b : Box) → (bend (arc c) ≡ pos 0 → ⊥)
    → sides (arc c) ≤ℤ (size (bend (arc c)) *ℤ r) → GoesBeyond c.from r r b → HoldsCurve b c
round_held c r b bent far beyond =
    let ends = ends_in_cap (arc c) in
    record {
      from = circle_in_box (arc c) r b (point c.from)
          (place_point c.from) bent far beyond ends.0.within;
      to = circle_in_box (arc c) r b (point c.to) (place_point c.to) bent far beyond ends.1.within;
      cap = λ k z hz side in_cap. circle_in_box (arc c) r b z hz bent far beyond in_cap.within;
    }

pub far_held : (c : Curve) (b : Box) → HasCircle (arc c)
    → GoesBeyond c.from (pos (2 ^ 28)) (pos (2 ^ 28)) b → HoldsCurve b c
far_held c b circle beyond =
    let zero_side : HasSide (arc c) (point c.from) = record {
      circle = circle;
      right = omega (arith, ints);
      left = omega (arith, ints);
      above = omega (arith, ints);
      below = omega (arith, ints);
    } in
    let a = circle.ends.x.above in
    let e = circle.ends.x.below in
    let f = circle.ends.y.above in
    let g = circle.ends.y.below in
    let end_side : HasSide (arc c) (point c.to) = record {
      circle = circle;
      right = omega (arith, ints, e);
      left = omega (arith, ints, a);
      above = omega (arith, ints, g);
      below = omega (arith, ints, f);
    } in
    record {
      from = side_in_box (arc c) b (point c.from) (place_point c.from) beyond zero_side;
      to = side_in_box (arc c) b (point c.to) (place_point c.to) beyond end_side;
      cap = λ k z hz side in_cap. side_in_box (arc c) b z hz beyond side;
    }

pub wild_held : (c : Curve) (b : Box) → (HasCircle (arc c) → ⊥) → InBox b (point c.from)
    → InBox b (point c.to) → HoldsCurve b c
wild_held c b none from to = record {
  from = from;
  to = to;
  cap = λ k z hz side. absurd (none side.circle);
}

-- ---- the rounding of a program
pub half_up : (a : ℕ) → a ≤ 2 * ((a + 1) / 2)
half_up a = let k = lt-mul-div-succ (a + 1) {b = 2} (omega arith) in omega (arith, k)

pub quotient_up : (a b : ℕ) → 0 < b → a ≤ b * (a / b + 1)
quotient_up a b h = let k = lt-mul-div-succ a {b = b} h in omega (arith, k)

-- ---- places on a curve
pub place_held : (c : Curve) (b : Box) (z : Vector) → HoldsCurve b c → Place z
    → (c.kind ≡ kind.HalfArc → HasSide (arc c) z) → IsOn c z → InBox b z
place_held c b z held hz side on = by_kind c.kind refl on
  where
    by_kind : (k : CurveKind) → c.kind ≡ k → IsOnKind k c z → InBox b z
    by_kind kind.Straight e o = straight_in_box b z c.from c.to hz held.from held.to o
    by_kind kind.HalfArc e o =
        held.cap e z hz (side e) (record {
          within = (let k = o.circle in omega (arith, ints, k));
          away = o.away;
        })

pub end_held : (c : Curve) (b : Box) (p : Point) → HoldsCurve b c → IsEndOf c p → InBox b (point p)
end_held c b p held (inl e) = subst (λ (q : Point). InBox b (point q)) e held.from
end_held c b p held (inr e) = subst (λ (q : Point). InBox b (point q)) e held.to

-- ---- bad pairs
abbrev pub ShareAPlace : Box → Box → Type 0
ShareAPlace a b = (z : Vector) × Place z × InBox a z × InBox b z

share_back : (a b : Box) → ShareAPlace a b → ShareAPlace b a
share_back a b s = (s.0, s.1, s.3, s.2)

ends_share : (c d : Curve) (a b : Box) → HoldsCurve a c → HoldsCurve b d → EndsOn c d
    → ShareAPlace a b
ends_share c d a b hc hd m = (
  point m.at,
  place_point m.at,
  end_held c a m.at hc m.of_first,
  place_held d b (point m.at) hd (place_point m.at) m.has_side m.on_second,
)

trial_shares : (c d : Curve) (a b : Box) → HoldsCurve a c → HoldsCurve b d → IsCrossedOnTrial c d
    → ShareAPlace a b
trial_shares c d a b hc hd t =
    let p = sixteenth c t.k in
    let q = sixteenth c (t.k + 1) in
    let P : Place p = omega (arith, ints) in
    let Q : Place q = omega (arith, ints) in
    let on = λ (z : Vector) (Z : Place z) (o : IsOnStraight p q z).
    straight_in_box a z c.from c.to Z hc.from hc.to (on_sixteenths c t.k t.within z Z o) in
    elim t.crossing.changes [
      | inl s ↦ (
        p,
        P,
        on p P (first_on p q P Q),
        hd.cap t.half_arc p P t.crossing.first_side
            (record {
              within = (let k = s.0 in omega (arith, ints, k));
              away = t.crossing.first_away;
            }),
      )
      | inr s ↦ (
        q,
        Q,
        on q Q (last_on p q P Q),
        hd.cap t.half_arc q Q t.crossing.second_side
            (record {
              within = (let k = s.1 in omega (arith, ints, k));
              away = t.crossing.second_away;
            }),
      )
    ]

pub bad_share : (c d : Curve) (a b : Box) → AreBad c d → HoldsCurve a c → HoldsCurve b d
    → ShareAPlace a b
bad_share c d a b (straights_meet m) hc hd = (
  m.z,
  m.place,
  place_held c a m.z hc m.place
      (λ k. absurd (no_kind c.kind m.first k)) m.on_first,
  place_held d b m.z hd m.place (λ k. absurd (no_kind d.kind m.second k)) m.on_second,
)
bad_share c d a b (end_meets m) hc hd =
    elim m.ends [
      | inl e ↦ ends_share c d a b hc hd e
      | inr e ↦ share_back b a (ends_share d c b a hd hc e)
    ]
bad_share c d a b (crossed (inl t)) hc hd = trial_shares c d a b hc hd t
bad_share c d a b (crossed (inr t)) hc hd = share_back b a (trial_shares d c b a hd hc t)
bad_share c d a b (one_arc m) hc hd = (
  point c.from,
  place_point c.from,
  hc.from,
  elim m.same_ends [
    | inl e ↦ end_held d b c.from hd (inl (sym e.0))
    | inr e ↦ end_held d b c.from hd (inr (sym e.0))
  ],
)
