use Rattle.std.proofs.Common.{ℕ, ◌<◌}
use Rattle.certificate.specs.Spelling.{views}
use Rattle.table_layout.specs.Values.{layout_view}
use Rattle.delivery.specs.Verifying.{IsNamedAt}
use Rattle.delivery.proofs.verifying.first_misnamed.Given as goal

abbrev pub invariant-loop-number : goal.invariant-loop-number
invariant-loop-number l = (j : ℕ) → j < l.number
    → IsNamedAt (layout_view l.layout) (views l.certificates) j
