use Rattle.std.proofs.Common.{ℕ}
use Rattle.level_breaks.specs.Stretches.{SomeOf}
use Rattle.level_breaks.proofs.Choices.{refuted}
use Rattle.level_breaks.proofs.StretchParts.{none_here, none_more_from, some_here}
use Rattle.level_breaks.proofs.halves.each_with_each.Goals as goal

pub returns-then-is_sought : goal.returns-then-is_sought
returns-then-is_sought g c =
    let s = c.args.first.now in
    let t = c.args.second.now in
    some_here (λ (k : ℕ). SomeOf (g.T.PartTest.sought c.args.test.now k) t.from t.to) s.from s.to
    c.loop-number.number c.loop-number.auto.number c.loop-number-test.true
    (c.is_sought.ensures.0 c.if-is_sought.true)

pub loop-number-preserved : goal.loop-number-preserved
loop-number-preserved g c =
    let s = c.args.first.now in
    let t = c.args.second.now in
    none_more_from (λ (k : ℕ). SomeOf (g.T.PartTest.sought c.args.test.now k) t.from t.to) s.from
    c.loop-number.number c.loop-number.invariant
    (refuted _ c.is_sought.result c.is_sought.ensures c.if-is_sought.false)

pub returns : goal.returns
returns g c =
    let s = c.args.first.now in
    let t = c.args.second.now in
    none_here (λ (k : ℕ). SomeOf (g.T.PartTest.sought c.args.test.now k) t.from t.to) s.from s.to
    c.loop-number.number c.loop-number-test.false c.loop-number.invariant
