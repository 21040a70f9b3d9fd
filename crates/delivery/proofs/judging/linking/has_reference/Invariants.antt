-- A reference among all columns is one among those that are left.
use Rattle.std.proofs.Common.{◌≡◌, drop}
use Rattle.std.specs.List.{list_any}
use Rattle.table_layout.specs.Values.{columns_view}
use Rattle.delivery.specs.LinkRows.{is_reference}
use Rattle.delivery.proofs.judging.linking.has_reference.Given as goal

abbrev pub invariant-loop-column : goal.invariant-loop-column
invariant-loop-column l =
    list_any (λ c. is_reference c.form) (columns_view l.columns)
    ≡ list_any (λ c. is_reference c.form) (columns_view (drop l.column-index l.columns))
