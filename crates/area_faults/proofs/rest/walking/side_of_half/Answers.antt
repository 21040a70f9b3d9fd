use Rattle.std.proofs.Common.{◌≡◌, ℕ, ◌/◌, ◌<◌, arith, get_or, length, slice_index, subst, sym}
use Rattle.area_search.proofs.SettledLemmas.CaseEdges.{nth_curve_is}
use Rattle.area_search.specs.Settled.Sides.{half_over}
use Rattle.plane.specs.Forms.Vectors.{Before}
use Rattle.plane.specs.Rule.Plans.{plan}
use Rattle.plane.specs.declared.kinds.Curve.{Curve}
use Rattle.std.specs.Prelude.{not}
use Rattle.area_faults.specs.NextSides.{IsHalfOn}
use Rattle.area_faults.proofs.SidesOfRest.{on_side}
use Rattle.area_faults.proofs.rest.walking.side_of_half.Goals as goal

pub returns : goal.returns
returns c =
    let w = c.args.drawing.now in
    let d = plan w in
    let kept = c.args.kept.now in
    let h = c.args.half in
    let left = c.is_on_left.result in
    let below = c.requires.there in
    let there : h / 2 < length kept = omega (arith, below) in
    let v = c.index.result.now in
    let same = nth_curve_is d (slice_index kept (h / 2)) v (c.requires.kept (h / 2) there)
    (subst (λ (x : ℕ). v ≡ get_or d.curves (slice_index kept (x / 2)) v) c.half.view_is
    c.index.ensures) in
    subst (λ (x : ℕ). IsHalfOn d kept (record { curve = slice_index kept (x / 2); left = left }) h)
    (sym c.half.view_is)
    (on_side d kept c.requires.kept (λ i k. (w.curves_drawn i _ k).distinct) left (h / 2) h there
    (subst (λ (v : Curve). Before v.from v.to → h ≡ half_over left (h / 2)) same
    c.is_on_left.ensures.forth)
    (subst (λ (v : Curve). (Before v.from v.to → ⊥) → h ≡ half_over (not left) (h / 2)) same
    c.is_on_left.ensures.back))
