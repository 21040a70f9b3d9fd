use Rattle.std.proofs.Common.{◌≡◌, ℕ, ◌<◌, ◌≤◌, arith, inl, inr, subst}
use Rattle.std.proofs.lemmas.Bool.{cases_eq, cases_lt}
use Rattle.line_sweep.specs.Kinds.{AreBad, IsRefused}
use Rattle.surface_rings.proofs.Answering.{meeting}
use Rattle.surface_rings.proofs.ringing.rings.Goals as goal

pub returns-in-Err-Bad-clause-answer : goal.returns-in-Err-Bad-clause-answer
returns-in-Err-Bad-clause-answer c =
    let bad : AreBad c.args.edges.now c.in-Err-Bad.first c.in-Err-Bad.second = subst
    (IsRefused c.args.edges.now) c.in-Err-Bad.field-0-is c.in-Err-Bad.ensures.refused in
    let a = c.in-Err-Bad.first in
    let b = c.in-Err-Bad.second in
    let low = c.min.ensures in
    let high = c.max.ensures in
    let differ = bad.differ in
    λ u. meeting c.args.edges.now a b c.min.result c.max.result bad.first bad.second bad.differ
    bad.bad
    (elim (cases_lt a b) [
      | inl l ↦ inl (omega (arith, low, l), omega (arith, high, l), l)
      | inr l ↦ inr (omega (arith, low, l), omega (arith, high, l), less a b l differ)
    ])
  where
    less : (x y : ℕ) → y ≤ x → (x ≡ y → ⊥) → y < x
    less x y l n = elim (cases_eq x y) [ inl e ↦ absurd (n e) | inr ne ↦ omega (arith, l, ne) ]
