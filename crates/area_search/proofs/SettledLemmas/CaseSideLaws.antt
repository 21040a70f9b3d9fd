-- On which side of a curve its first face is.
use Rattle.std.proofs.Common.{◌≡◌, zero, suc, Bool, true, false, ℤ, pos, negsuc, refl, sym, ap}
use Rattle.std.proofs.Common.{subst, ◌∙◌, arith}
use Rattle.std.proofs.lemmas.Int.{ints}
use Rattle.plane.specs.CurveRuns.TubedRuns.{third_is_left}
use Rattle.plane.specs.Faces.Cells.{is_positive}
use Rattle.plane.specs.Rule.Curves.{arc}
use Rattle.plane.specs.Rule.HalfArcs.{bend}
use Rattle.plane.specs.Rule.Turns.{cross}
use Rattle.plane.specs.declared.kinds.Curve.{Curve}
use Rattle.plane.specs.declared.kinds.CurveKind.{CurveKind}
use Rattle.plane.specs.declared.kinds.CurveKind.TheVariants as kind
use Rattle.straight_predicates.specs.Signs.{HasSign}
use Rattle.straight_predicates.specs.declared.turns.Turn.{Turn}
use Rattle.straight_predicates.specs.declared.turns.Turn.TheVariants as turn
use Rattle.area_search.specs.Faults.{is_inward}
use Rattle.area_search.specs.Settled.CaseSides.{is_first, is_first_kind}

bend_is : (c : Curve) → cross c.from c.to c.third ≡ bend (arc c)
unfolding bend
bend_is c = refl

by_sign : (z : ℤ) (t : Turn) (b : Bool) → HasSign t z → (b ≡ true → t ≡ turn.Left)
    → (b ≡ false → t ≡ turn.Left → ⊥) → b ≡ is_positive z
by_sign (pos zero) turn.Left b h y n = absurd (omega (arith, ints, h))
by_sign (pos (suc k)) turn.Left true h y n = refl
by_sign (pos (suc k)) turn.Left false h y n = absurd (n refl refl)
by_sign (negsuc k) turn.Left b h y n = absurd (omega (arith, ints, h))
by_sign (pos zero) turn.Straight true h y n =
    absurd (let q : turn.Straight ≡ turn.Left = y refl in cc)
by_sign (pos zero) turn.Straight false h y n = refl
by_sign (pos (suc k)) turn.Straight b h y n = absurd (omega (arith, ints, h))
by_sign (negsuc k) turn.Straight b h y n = absurd (omega (arith, ints, h))
by_sign (pos k) turn.Right b h y n = absurd (omega (arith, ints, h))
by_sign (negsuc k) turn.Right true h y n = absurd (let q : turn.Right ≡ turn.Left = y refl in cc)
by_sign (negsuc k) turn.Right false h y n = refl

inward_left : (b : Bool) → is_inward b true ≡ b
inward_left true = refl
inward_left false = refl

pub left_first : (c : Curve) (t : Turn) (b : Bool) → c.kind ≡ kind.HalfArc
    → HasSign t (cross c.from c.to c.third) → (b ≡ true → t ≡ turn.Left)
    → (b ≡ false → t ≡ turn.Left → ⊥) → b ≡ is_first c true
left_first c t b e h y n =
    by_sign (bend (arc c)) t b (subst (HasSign t) (bend_is c) h) y n
    ∙ sym (inward_left (third_is_left c))
    ∙ sym (ap (λ (k : CurveKind). is_first_kind k c true) e)
