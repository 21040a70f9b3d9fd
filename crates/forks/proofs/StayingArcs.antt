-- Half arcs stay as they are where forks are bent.
use Rattle.std.proofs.Common.{◌≡◌, ◌<◌, ℕ, ℤ, List, [], ◌∷◌, length, get_or, inl, inr}
use Rattle.std.proofs.Common.{refl, arith, ap, sym, ◌∙◌, subst}
use Rattle.plane.specs.declared.kinds.Curve.{Curve}
use Rattle.plane.specs.declared.kinds.CurveKind.{CurveKind}
use Rattle.plane.specs.declared.kinds.CurveKind.TheVariants as kind
use Rattle.plane.specs.Lists.{Has}
use Rattle.plane.specs.Rule.Plans.{Plan, curve}
use Rattle.forks.specs.Bent.{IsBentOf, StandForKind, all_of}
use Rattle.forks.proofs.BentCurves.{here, keep, number_is}
use Rattle.forks.proofs.PlaneLaws.{no_curve}

one_of : (s c : Curve) → Has c (s ∷ []) → c ≡ s
one_of s c (inl e) = e
one_of s c (inr x) = absurd x

stands : (k : CurveKind) (t : ℤ) (d : Plan) (i : ℕ) (cs : List Curve) (c : Curve)
    → k ≡ kind.HalfArc → StandForKind k t d i cs → Has c cs → c ≡ curve d i
stands kind.Straight t d i cs c e h x = absurd (cc e)
stands kind.HalfArc t d i cs c e h x =
    one_of (curve d i) c (subst (λ (ds : List Curve). Has c ds) h x)

pub stays : (t : ℤ) (d g : Plan) (origin : List ℕ) → IsBentOf t d g origin
    → (k : ℕ) → k < length g.curves → (curve g k).kind ≡ kind.HalfArc
    → curve g k ≡ curve d (get_or origin k 0)
stays t d g origin b k l e =
    let x = here t d g origin b k l in
    let i = x.index in
    let m : i < length d.curves = (let a = x.fits in let c = b.count in omega (arith, a, c)) in
    let n = number_is t d g origin b k l in
    let own : (curve d i).kind ≡ kind.HalfArc =
    ap (λ (j : ℕ). (curve d j).kind) (sym n) ∙ sym (keep t d g origin b k l).same_kind ∙ e in
    let same : get_or (all_of b.pieces) k no_curve ≡ curve g k =
    ap (λ (cs : List Curve). get_or cs k no_curve) (sym b.curves) in
    stands (curve d i).kind t d i (get_or b.pieces i []) (curve g k) own (b.each i m)
    (subst (λ (c : Curve). Has c (get_or b.pieces i [])) same x.has)
    ∙ ap (curve d) (sym n)
