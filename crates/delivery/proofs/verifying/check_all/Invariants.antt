use Rattle.std.proofs.Common.{◌≡◌, ℕ, ◌<◌, map, take}
use Rattle.certificate.specs.Spelling.{views}
use Rattle.table_layout.specs.Values.{layout_view}
use Rattle.reports.specs.AreaKinds.{plans}
use Rattle.delivery.specs.Verifying.{IsProvedAt}
use Rattle.delivery.proofs.verifying.check_all.Given as goal

abbrev pub invariant-loop-number : goal.invariant-loop-number
invariant-loop-number l = record {
  levels : l.levels.items ≡ map (λ c. c.level) (take l.number l.certificates);
  proved : (j : ℕ) → j < l.number
      → IsProvedAt (layout_view l.layout) (plans l.drawings) (views l.certificates) j;
}
