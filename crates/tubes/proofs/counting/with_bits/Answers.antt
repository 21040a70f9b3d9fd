use Rattle.std.proofs.Common.{◌≡◌, ◌^◌, ◌*◌, ◌%◌, ◌+◌, ◌-◌, ◌≤◌, arith, ap, refl, subst, sym, ◌∙◌}
use Rattle.std.proofs.Common.{cond}
use Rattle.arc_predicates.specs.Circles.{half_arc}
use Rattle.tubes.specs.HalfArcTubes.{is_inside, with_bits}
use Rattle.tubes.proofs.CountNumbers.{bits_end, bits_skip, preserved, small_test, top_small}
use Rattle.tubes.proofs.counting.with_bits.Goals.{then-is_inside_by, else-is_inside_by}
use Rattle.tubes.proofs.counting.with_bits.Goals as goal

pub loop-done-init : goal.loop-done-init
loop-done-init c =
    let t = is_inside (half_arc c.args.circle.now) c.args.span.now.p c.args.span.now.q in
    let top = c.width-width.result in
    let m = c.width-width.ensures.most in
    let s = bits_skip t top (27 - top) (omega (arith, m))
    (λ i h k. c.requires.window.outside i (c.width-width.ensures.end i h k) k) in
    let z : top - 0 ≡ top = omega arith in
    let e : top + (27 - top) ≡ 27 = omega (arith, m) in
    record {
      bits = ap (λ n. with_bits t n 0) z ∙ sym s ∙ ap (λ n. with_bits t n 0) e;
      small = subst (λ n. 0 + 2 ^ n ≤ 2 ^ 27) (sym z) (top_small top m);
    }

pub is_inside_by-requires-clause-k : goal.is_inside_by-requires-clause-k
is_inside_by-requires-clause-k c =
    small_test c.width-width.result c.loop-done.done c.loop-done.k c.width-width.ensures.most
    c.loop-done-test.true c.loop-done.invariant.small

pub loop-done-preserved : goal.loop-done-preserved
loop-done-preserved c =
    let top = c.width-width.result in
    let more = c.loop-done.k + 1 * 2 ^ (top - 1 - c.loop-done.done) % 2 ^ 32 in
    let e : c.if-is_inside_by.k ≡ cond c.is_inside_by.result more
    c.loop-done.k = elim c.if-is_inside_by.branch [
      | then-is_inside_by w ↦ w.k-is
          ∙ ap (λ t. cond t more c.loop-done.k) (sym w.if-is_inside_by.true)
      | else-is_inside_by w ↦ w.k-is
          ∙ ap (λ t. cond t more c.loop-done.k) (sym w.if-is_inside_by.false)
    ] in
    let t = is_inside (half_arc c.args.circle.now) c.args.span.now.p c.args.span.now.q in
    let p = preserved t top c.loop-done.done c.loop-done.k more c.if-is_inside_by.k _
    c.is_inside_by.result c.width-width.ensures.most c.loop-done-test.true refl
    c.is_inside_by.ensures e c.loop-done.invariant.bits c.loop-done.invariant.small in
    record { bits = p.0; small = p.1 }

pub returns : goal.returns
returns c =
    let t = is_inside (half_arc c.args.circle.now) c.args.span.now.p c.args.span.now.q in
    let f = c.loop-done-test.false in
    sym (bits_end t (c.width-width.result - c.loop-done.done) c.loop-done.k (omega (arith, f)))
    ∙ c.loop-done.invariant.bits
