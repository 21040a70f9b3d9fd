-- Marks of few curves together with those of straights.
use Rattle.std.proofs.Common.{◌≡◌, inl, inr, ℕ, ◌<◌, Bool, List, length, refl, ◌∙◌, arith}
use Rattle.plane.specs.declared.kinds.CurveKind.{CurveKind}
use Rattle.plane.specs.declared.kinds.CurveKind.TheVariants as kind
use Rattle.plane.specs.Rule.BadPairs.{IsBadPair}
use Rattle.plane.specs.Rule.Plans.{Plan, curve}
use Rattle.near_pairs.specs.Boxes.{IsOneMarked}
use Rattle.area_faults.specs.MeetingMarks.{AreArcPairMarks, AreBothTo, AreMeetingMarks}

module _ (d : Plan) (marks few : List Bool) (n : ℕ) (both : List Bool) (e : n ≡ length d.curves)
    (h : AreBothTo d marks few n both) where
  module _ (i j : ℕ) (bad : IsBadPair d i j) where
    first : i < n
    first = let o = bad.order in let t = bad.there in omega (arith, o, t, e)

    second : j < n
    second = let t = bad.there in omega (arith, t, e)

    of_few : IsOneMarked few i j → IsOneMarked both i j
    of_few (inl m) = inl (h.of_few i first m)
    of_few (inr m) = inr (h.of_few j second m)

    of_straights : (curve d i).kind ≡ kind.Straight → (curve d j).kind ≡ kind.Straight
        → IsOneMarked marks i j → IsOneMarked both i j
    of_straights p q (inl m) = inl (h.of_straight i first m p)
    of_straights p q (inr m) = inr (h.of_straight j second m q)

  -- Of a pair with a half arc one of the few is marked, and of two straights one that was marked.
  pub all_both : AreMeetingMarks d marks → AreArcPairMarks d few → AreMeetingMarks d both
  all_both a f = record {
    size = h.size ∙ e;
    pairs = λ i j bad. by i j bad (curve d i).kind (curve d j).kind refl refl;
  }
    where
      by : (i j : ℕ) → IsBadPair d i j → (s t : CurveKind) → (curve d i).kind ≡ s
          → (curve d j).kind ≡ t → IsOneMarked both i j
      by i j bad kind.HalfArc t p q =
          of_few i j bad (f.pairs i j (record { pair = bad; half_arc = inl p }))
      by i j bad kind.Straight kind.HalfArc p q =
          of_few i j bad (f.pairs i j (record { pair = bad; half_arc = inr q }))
      by i j bad kind.Straight kind.Straight p q = of_straights i j bad p q (a.pairs i j bad)
