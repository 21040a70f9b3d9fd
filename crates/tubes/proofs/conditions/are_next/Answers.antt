use Rattle.std.proofs.Common.{◌≡◌, ◌-◌, ◌+◌, arith, drop, refl, subst, sym, ℕ}
use Rattle.plane.specs.Lists.{Neighbours}
use Rattle.plane.specs.Tubes.Bays.{AreNext, bays}
use Rattle.arc_predicates.specs.Circles.{half_arc}
use Rattle.arc_predicates.proofs.TestParts.{refuted}
use Rattle.tubes.proofs.ClearNumbers.{never}
use Rattle.tubes.proofs.CornerTests.{next_at, next_ends}
use Rattle.tubes.proofs.conditions.are_next.Goals as goal

pub returns-then-not-is_next : goal.returns-then-not-is_next
returns-then-not-is_next c =
    let h = half_arc c.args.circle.now in
    let l = c.loop-i in
    let n = next_at h c.args.inner.now c.args.outer.now l.i l.invariant.first c.loop-i-test.true
    c.requires.same in (
      (λ x. absurd (never x)),
      (λ x. absurd
          (refuted _ c.is_next.result c.is_next.ensures c.if-not-is_next.true
          (n.0 (l.invariant.rest x)).0)),
    )

pub loop-i-preserved : goal.loop-i-preserved
loop-i-preserved c =
    let h = half_arc c.args.circle.now in
    let l = c.loop-i in
    let n = next_at h c.args.inner.now c.args.outer.now l.i l.invariant.first c.loop-i-test.true
    c.requires.same in
    let e : l.i + 1 - 1 ≡ l.i = omega arith in
    record {
      rest = λ x. subst
          (λ (j : ℕ). Neighbours (AreNext h)
          (bays (drop j c.args.inner.now) (drop j c.args.outer.now))) (sym e)
          (n.0 (l.invariant.rest x)).1;
      all = λ x. l.invariant.all
          (n.1 (
            c.is_next.ensures.0 c.if-not-is_next.false,
            subst (λ (j : ℕ). Neighbours (AreNext h)
                (bays (drop j c.args.inner.now) (drop j c.args.outer.now))) e x,
          ));
      first = omega arith;
    }

pub returns : goal.returns
returns c =
    let h = half_arc c.args.circle.now in
    let l = c.loop-i in
    let f = l.invariant.first in
    let t = c.loop-i-test.false in
    let n = next_ends h c.args.inner.now c.args.outer.now (l.i - 1) (omega (arith, f, t)) in
    ((λ x. l.invariant.all n), (λ x. refl))
