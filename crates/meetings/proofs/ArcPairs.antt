-- Two curves, one of them a half arc, that are bad.
use Rattle.std.proofs.Common.{◌≡◌, ◌↔◌, ◌⊎◌, inl, inr, Bool, true, false, not, IsTrue, Option, None}
use Rattle.std.proofs.Common.{Some, ℤ, pos, ◌*ℤ◌, ◌<ℤ◌, ◌≤ℤ◌, refl, sym, ◌∙◌, ap, subst, arith}
use Rattle.std.specs.Option.{is_some}
use Rattle.std.proofs.lemmas.Int.{ints, by_lt_z}
use Rattle.plane.specs.declared.kinds.Point.{Point}
use Rattle.plane.specs.declared.kinds.Curve.{Curve}
use Rattle.plane.specs.declared.kinds.CurveKind.TheVariants as kind
use Rattle.plane.specs.Rule.BadPairs.{AreBad, straights_meet, end_meets, crossed, one_arc}
use Rattle.plane.specs.Rule.BadPairs.{AreOneArc, EndsOn, HaveNoCommonEnd, IsCrossedOnTrial, IsEndOf}
use Rattle.plane.specs.Rule.Curves.{arc, IsControl}
use Rattle.plane.specs.Rule.HalfArcs.{HalfArc, bow}
use Rattle.plane.specs.Rule.Places.{Vector, Same, point}
use Rattle.straight_predicates.proofs.WindowEdges.{inside_close}
use Rattle.arc_predicates.specs.Trials.{CurvesAreClose, IsFirstTrial}
use Rattle.arc_predicates.specs.declared.trials.Trial.{Trial}
use Rattle.meetings.specs.CurvePairs.{AreArcBad, HaveHalfArc, IsBesideEnds, IsJudgedOn, IsOnCircle}
use Rattle.meetings.specs.PlacedCurves.{ArePlaced}
use Rattle.meetings.proofs.Choices.{clash}

-- ---- ends
times_one : (a b : ℤ) → (a *ℤ pos 1) ≡ (b *ℤ pos 1) → b ≡ a
times_one a b e = omega (arith, ints, e)

abbrev point_at : ℤ → ℤ → Point
point_at x y = record { x = x; y = y }

same_points : (p q : Point) → q.x ≡ p.x → q.y ≡ p.y → q ≡ p
same_points p q e f = ap (λ (x : ℤ). point_at x q.y) e ∙ ap (λ (y : ℤ). point_at p.x y) f

same_place : (p q : Point) → Same (point p) (point q) → q ≡ p
same_place p q s = same_points p q (times_one p.x q.x s.x) (times_one p.y q.y s.y)

same_itself : (p q : Point) → q ≡ p → Same (point p) (point q)
same_itself p q e =
    subst (λ (r : Point). Same (point p) (point r)) (sym e) (record { x = refl; y = refl })

control_is_end : (c : Curve) (p : Point) → IsControl c (point p) → IsEndOf c p
control_is_end c p (inl s) = inl (same_place p c.from s)
control_is_end c p (inr s) = inr (same_place p c.to s)

end_is_control : (c : Curve) (p : Point) → IsEndOf c p → IsControl c (point p)
end_is_control c p (inl e) = inl (same_itself p c.from e)
end_is_control c p (inr e) = inr (same_itself p c.to e)

pub beside_ends : (c : Curve) (p : Point) (q r : Bool) → (IsTrue q ↔ IsEndOf c p) → q ≡ false
    → (IsTrue r ↔ IsJudgedOn c p) → IsTrue r ↔ IsBesideEnds c p
beside_ends c p q r h f k = (
  λ t. record { judged = k.0 t; no_control = λ s. clash (sym f ∙ h.1 (control_is_end c p s)) },
  λ s. k.1 s.judged,
)

pub at_end : (c : Curve) (p : Point) (q : Bool) → (IsTrue q ↔ IsEndOf c p) → q ≡ true
    → IsTrue (not q) ↔ IsBesideEnds c p
at_end c p q h t =
    (λ n. clash (sym (ap not t) ∙ n), λ s. absurd (s.no_control (end_is_control c p (h.0 t))))

-- ---- a straight and a half arc
no_common : (c d : Curve) (q : Bool) → (IsTrue q ↔ (IsEndOf c d.from ⊎ IsEndOf c d.to)) → q ≡ false
    → HaveNoCommonEnd c d
no_common c d q h f p e (inl g) = clash (sym f ∙ h.1 (inl (subst (IsEndOf c) (sym g) e)))
no_common c d q h f p e (inr g) = clash (sym f ∙ h.1 (inr (subst (IsEndOf c) (sym g) e)))

module _ (c d : Curve) (straight : c.kind ≡ kind.Straight) (half_arc : d.kind ≡ kind.HalfArc)
    (q : Bool) (h : IsTrue q ↔ (IsEndOf c d.from ⊎ IsEndOf c d.to)) where
  pub crossed_is : (t : Option Trial) (r : Bool) → r ≡ is_some t → q ≡ false
      → IsFirstTrial t c (arc d) → IsTrue r ↔ IsCrossedOnTrial c d
  crossed_is None r e f k = (λ t. clash (sym e ∙ t), λ s. absurd (k s.k s.within s.crossing))
  crossed_is (Some t) r e f k = (
    λ y. record {
      straight = straight;
      half_arc = half_arc;
      no_common = no_common c d q h f;
      k = t.sixteenth;
      within = k.0;
      crossing = k.1;
    },
    λ s. e,
  )

  pub common_is : q ≡ true → IsTrue (not q) ↔ IsCrossedOnTrial c d
  common_is t = (λ n. clash (sym (ap not t) ∙ n), λ s. absurd (by s (h.0 t)))
    where
      by : IsCrossedOnTrial c d → IsEndOf c d.from ⊎ IsEndOf c d.to → ⊥
      by s (inl e) = s.no_common d.from e (inl refl)
      by s (inr e) = s.no_common d.to e (inr refl)

pub placed_close : (c d : Curve) → ArePlaced c d → CurvesAreClose c d
placed_close c d a = record {
  ends = inside_close a.low a.high d.from d.to a.narrow a.second.from a.second.to;
  first = inside_close a.low a.high d.from d.third a.narrow a.second.from a.second.third;
  second = inside_close a.low a.high d.to d.third a.narrow a.second.to a.second.third;
  from = inside_close a.low a.high d.from c.from a.narrow a.second.from a.first.from;
  to = inside_close a.low a.high d.from c.to a.narrow a.second.from a.first.to;
}

-- ---- two half arcs
pub on_other_side : (c h : HalfArc) (z : Vector) (w : Bool) → h ≡ c
    → (IsTrue w ↔ (pos 0 ≤ℤ bow h z)) → IsOnCircle h z
    → IsTrue (not w) ↔ (IsOnCircle c z × (bow c z <ℤ pos 0))
on_other_side c h z w e k o =
    subst (λ (g : HalfArc). IsTrue (not w) ↔ (IsOnCircle g z × (bow g z <ℤ pos 0))) e (by w k)
  where
    by : (t : Bool) → (IsTrue t ↔ (pos 0 ≤ℤ bow h z))
        → IsTrue (not t) ↔ (IsOnCircle h z × (bow h z <ℤ pos 0))
    by true j = (
      λ n. clash n,
      λ s. let l = s.1 in let g = j.0 refl in
          absurd (omega (arith, ints, l, g)),
    )
    by false j = (λ n. (o, below j), λ s. refl)
      where
        below : (IsTrue false ↔ (pos 0 ≤ℤ bow h z)) → bow h z <ℤ pos 0
        below j = by_sign (λ (g : pos 0 ≤ℤ bow h z). clash (j.1 g))
          where
            by_sign : ((pos 0 ≤ℤ bow h z) → bow h z <ℤ pos 0) → bow h z <ℤ pos 0
            by_sign f = by_lt_z (bow h z) (pos 0) (λ (l : bow h z <ℤ pos 0). l)
                (λ (g : pos 0 ≤ℤ bow h z). f g)

-- ---- the four ways
not_straights : (c d : Curve) → c.kind ≡ kind.Straight → d.kind ≡ kind.Straight → HaveHalfArc c d
    → ⊥
not_straights c d s t (inl h) = cc
not_straights c d s t (inr h) = cc

module _ (c d : Curve) (half : HaveHalfArc c d) where
  pub bad_by_end : EndsOn c d ⊎ EndsOn d c → IsTrue true ↔ AreBad c d
  bad_by_end e = (λ t. end_meets (record { half_arc = half; ends = e }), λ b. refl)

  pub bad_by_crossing : IsCrossedOnTrial c d ⊎ IsCrossedOnTrial d c → IsTrue true ↔ AreBad c d
  bad_by_crossing e = (λ t. crossed e, λ b. refl)

  pub bad_by_one_arc : (p q r : Bool) → (IsTrue p ↔ (EndsOn c d ⊎ EndsOn d c)) → p ≡ false
      → (IsTrue q ↔ (IsCrossedOnTrial c d ⊎ IsCrossedOnTrial d c)) → q ≡ false
      → (IsTrue r ↔ AreOneArc c d) → IsTrue r ↔ AreBad c d
  bad_by_one_arc p q r h f k g l = (λ t. one_arc (l.0 t), by)
    where
      by : AreBad c d → IsTrue r
      by (straights_meet s) = absurd (not_straights c d s.first s.second half)
      by (end_meets s) = clash (sym f ∙ h.1 s.ends)
      by (crossed s) = clash (sym g ∙ k.1 s)
      by (one_arc s) = l.1 s

  pub arc_bad : (r : Bool) → (IsTrue r ↔ AreBad c d) → IsTrue r ↔ AreArcBad c d
  arc_bad r h = (λ t. record { half_arc = half; bad = h.0 t }, λ s. h.1 s.bad)
