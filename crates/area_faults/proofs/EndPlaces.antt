-- Places of two curves that meet badly.
use Rattle.std.proofs.Common.{◌≡◌, inl, inr, pos, refl, arith, sym, subst}
use Rattle.std.proofs.lemmas.Int.{ints}
use Rattle.plane.specs.declared.kinds.Curve.{Curve}
use Rattle.plane.specs.declared.kinds.CurveKind.{CurveKind}
use Rattle.plane.specs.declared.kinds.CurveKind.TheVariants as kind
use Rattle.plane.specs.declared.kinds.Point.{Point}
use Rattle.plane.specs.Rule.BadPairs.{AreBad, IsEndOf, StraightsMeet}
use Rattle.plane.specs.Rule.Curves.{IsControl, IsOn, IsOnKind}
use Rattle.plane.specs.Rule.MeetingPlaces.{turning}
use Rattle.plane.specs.Rule.Places.{Vector, Place, Same, point}
use Rattle.plane.specs.Rule.Straights.{IsOnStraight}
use Rattle.plane.proofs.Covers.CurvePlaces.{control_on}
use Rattle.plane.proofs.Covers.SamePlace.{same_refl}
use Rattle.meetings.specs.CurvePairs.{AreBothStraight, HaveHalfArc, IsJudgedOn}
use Rattle.meetings.specs.PlacedCurves.{ArePlaced}
use Rattle.meetings.proofs.BadCurves.{not_half_arc}
use Rattle.fault_lists.specs.FaultLists.{IsMeetingPlace, exact, rounded, of_arc}
use Rattle.area_faults.specs.Crossings.{IsOnBoth, IsUnitOf, SharePlace}
use Rattle.area_faults.specs.Places.{IsEndOnOther}
use Rattle.area_faults.proofs.Parallels.{an_end_meets}
use Rattle.area_faults.proofs.Unmarked.{straights_only}

a_place : (p : Point) → Place (point p)
a_place p = omega (arith, ints)

end_on_itself : (c : Curve) (p : Point) → IsEndOf c p → IsOn c (point p)
end_on_itself c p h = control_on c (point p) (a_place p) (control h)
  where
    control : IsEndOf c p → IsControl c (point p)
    control (inl e) =
        inl (subst (λ (q : Point). Same (point q) (point c.from)) e (same_refl (point c.from)))
    control (inr e) =
        inr (subst (λ (q : Point). Same (point q) (point c.to)) e (same_refl (point c.to)))

pub end_is_place : (c e : Curve) (p : Point) → IsEndOnOther c e p → IsMeetingPlace c e p
end_is_place c e p (inl h) = exact (end_on_itself c p h.end) h.on.on
end_is_place c e p (inr h) = exact h.on.on (end_on_itself e p h.end)

pub arc_place : (c e : Curve) → HaveHalfArc c e → IsMeetingPlace c e c.from
arc_place c e h = of_arc h refl

-- ---- two straights
on_straight : (c : Curve) (z : Vector) → c.kind ≡ kind.Straight → IsOn c z
    → IsOnStraight (point c.from) (point c.to) z
on_straight c z s h = subst (λ (k : CurveKind). IsOnKind k c z) s h

straight_on : (c : Curve) (z : Vector) → c.kind ≡ kind.Straight
    → IsOnStraight (point c.from) (point c.to) z → IsOn c z
straight_on c z s h = subst (λ (k : CurveKind). IsOnKind k c z) (sym s) h

module _ (c e : Curve) (straights : AreBothStraight c e) (bad : AreBad c e) where
  m : StraightsMeet c e
  m = straights_only c e straights bad

  both : IsOnBoth c.from c.to e.from e.to m.z
  both = record {
    place = m.place;
    first = on_straight c m.z m.first m.on_first;
    second = on_straight e m.z m.second m.on_second;
  }

  pub share_place : SharePlace c.from c.to e.from e.to
  share_place = (m.z, both)

  pub crossing_place : (p : Point) → IsUnitOf c.from c.to e.from e.to p → IsMeetingPlace c e p
  crossing_place p h = rounded m.z m.place m.on_first m.on_second (h m.z both)

  judged : (d : Curve) (p : Point) → d.kind ≡ kind.Straight
      → IsOnStraight (point d.from) (point d.to) (point p) → IsJudgedOn d p
  judged d p s h = record {
    on = straight_on d (point p) s h;
    side = λ k. absurd (not_half_arc d s k);
  }

  pub not_parallel : ArePlaced c e → ((p : Point) → IsEndOnOther c e p → ⊥)
      → turning c.from c.to e.from e.to ≡ pos 0 → ⊥
  not_parallel a none parallel =
      elim (an_end_meets c.from c.to e.from e.to m.z a.first.distinct a.second.distinct m.place
      both.first both.second parallel) [
        | inl h ↦ none e.from (inr (record { end = inl refl; on = judged c e.from straights.0 h }))
        | inr (inl h) ↦ none e.to
            (inr (record { end = inr refl; on = judged c e.to straights.0 h }))
        | inr (inr h) ↦ none c.from
            (inl (record { end = inl refl; on = judged e c.from straights.1 h }))
      ]
