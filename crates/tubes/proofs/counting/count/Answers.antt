use Rattle.std.proofs.Common.{◌∙◌, ap, sym, cond, Some, None}
use Rattle.arc_predicates.specs.Circles.{half_arc}
use Rattle.tubes.specs.HalfArcTubes.{is_inside, with_bits}
use Rattle.tubes.proofs.CountNumbers.{count_is}
use Rattle.tubes.proofs.counting.count.Goals as goal

pub returns-then-is_inside : goal.returns-then-is_inside
returns-then-is_inside c =
    let h = half_arc c.args.circle.now in
    let s = c.args.span.now in
    sym (count_is h s.p s.q s.some
    ∙ ap (λ t. cond t (Some (with_bits (is_inside h s.p s.q) 27 0)) None)
    (sym c.is_inside.ensures ∙ c.if-is_inside.true)
    ∙ ap (λ n. Some n) (sym c.with_bits.ensures))

pub returns-else-is_inside : goal.returns-else-is_inside
returns-else-is_inside c =
    let h = half_arc c.args.circle.now in
    let s = c.args.span.now in
    sym (count_is h s.p s.q s.some
    ∙ ap (λ t. cond t (Some (with_bits (is_inside h s.p s.q) 27 0)) None)
    (sym c.is_inside.ensures ∙ c.if-is_inside.false))
