-- How many edges a bent drawing has at most: those of what stands for a curve are at most 129.
use Rattle.std.proofs.Common.{◌≡◌, ℕ, ℤ, ◌≤◌, List, [], ◌∷◌, length, arith, refl}
use Rattle.std.proofs.lemmas.List.Sums.{sum_by-cons}
use Rattle.std.specs.List.{sum_by}
use Rattle.plane.specs.Rule.Plans.{Plan}
use Rattle.plane.specs.declared.kinds.Curve.{Curve}
use Rattle.plane.specs.declared.kinds.CurveKind.{CurveKind}
use Rattle.plane.specs.declared.kinds.CurveKind.TheVariants as kind
use Rattle.forks.specs.Bent.{IsBentOf, weight_of_kind}
use Rattle.forks.specs.Bent as bent
use Rattle.forks.proofs.BentWeights.{bent_weight}
use Rattle.tubes.specs.FewEdges.{HasFewEdges}
use Rattle.tubes.proofs.EdgeWeights.{most, weight, weighted}

-- a straight has one edge, a half arc at most 129
kind_weight : (k : CurveKind) → most k ≡ weight_of_kind 129 k
kind_weight kind.Straight = refl
kind_weight kind.HalfArc = refl

list_weight : (cs : List Curve) → weight cs ≡ sum_by (bent.weight 129) cs
list_weight [] = refl
list_weight (c ∷ cs) =
    let k = kind_weight c.kind in
    let r = list_weight cs in
    let s = sum_by-cons (bent.weight 129) c cs in
    omega (arith, k, r, s)

pub bent_few : (t : ℤ) (d g : Plan) (origin : List ℕ) → IsBentOf t d g origin
    → length d.curves ≤ 16000000 → HasFewEdges g
bent_few t d g origin b few level low tubes =
    let w = weighted g level low tubes in
    let e = list_weight g.curves in
    let m = bent_weight 129 (omega arith) t d g origin b in
    omega (arith, w, e, m, few)
